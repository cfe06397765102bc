-- What a chunk reads as after an item was added to its list.
use Rattle.std.{proofs.Common.{rules, inl, inr, ◌⊎◌, ◌≡◌, ℕ, ◌+◌, ◌/◌, ◌%◌, ◌<◌, ◌≤◌, ◌^◌, ◌==◌, ◌&&◌, Bool, true, false, List, [], ◌∷◌, ◌++◌, length, drop, replicate, refl, sym, ap, subst, ◌∙◌, append_assoc, append-nil, arith, Option, Some, None, nat_le, nat_lt, leb-true, le-leb, ltb-true, lt-ltb, length-append, length-drop}, specs.Int.{Width, w16, w32, byte_len, from_be_bytes}, specs.List.{flat_map}, proofs.lemmas.List.{length-replicate, drop-append-le, take-append-le}, proofs.lemmas.List.Folds.{list_all-append}}
use Rattle.dcsctp_tlv.{specs.Frame.{padding_size, header, typed_header, Item, item_bytes, PaddingRule, zero_padding, are_zeros, AreFormed}, specs.Image.{gap, zeroed}, specs.Level.{Row, Level, plain, map_ok, as_row, listed, ItemsMean, MeansTrees}, specs.Number.{number}, specs.Parameter.{ParameterTree, row as parameter_row}, specs.Kinds.{Member, row_as, rows}, specs.Typed.{typed_level}, proofs.Accounts.{length-item}, proofs.KindLaws.{of_map_ok}, proofs.Local.{local_means}, proofs.ParameterKinds.{type_back}, proofs.ReadsBack.{zeros_accepted, none_accepted}, proofs.Satisfies.{down}, proofs.Tables.{EachNamed, of_table}}
use Rattle.dcsctp_chunk.specs.Unknown.{Tree as UnknownTree, read as unknown_at}
use Rattle.dcsctp_cause.specs.Cause.{CauseTree, row as cause_row}
use Rattle.dcsctp_wire.specs.{Chunk.{ChunkTree, Init, InitAck, HeartbeatRequest, HeartbeatAck, Abort, Error, ReConfig, Unknown, members, table, chunk_row, tlv as chunk_tlv}, InitFields.{Tree as InitTree, tree_of as init_of}, Abort.{tree_of as abort_of}}
use Rattle.dcsctp_buffer.{specs.Buffer.{ReadsAs}, specs.Item.{with_last, extended, with_parameter, with_cause, ExtendsParameters, ExtendsCauses, MakesError}, proofs.Items.{zeroed-solid}}

-- ---- a list whose last item gets all its padding

more_padding : (strict : Bool) (size : ℕ) (there : List ℕ) (n : ℕ)
    → zero_padding strict size there ≡ true
    → zero_padding strict size (there ++ replicate n 0) ≡ true
more_padding true size there n h =
    list_all-append (λ byte. byte == 0) there (replicate n 0)
    ∙ ap (λ (b : Bool). b && are_zeros (replicate n 0)) h ∙ zeros_accepted true n
more_padding false size there n h = refl

abbrev padded : List Item → List Item
padded [] = []
padded (i ∷ []) =
    record i { padding = i.padding ++ replicate (gap (length (item_bytes i))) 0 } ∷ []
padded (i ∷ j ∷ is) = i ∷ padded (j ∷ is)

padded_split : (rule : PaddingRule) (is : List Item) → AreFormed rule is
    → flat_map item_bytes (padded is)
    ≡ flat_map item_bytes is ++ replicate (gap (length (flat_map item_bytes is))) 0
padded_split rule [] p = refl
padded_split rule (i ∷ []) p =
    let zeros : List ℕ = replicate (gap (length (item_bytes i))) 0 in
    append-nil (item_bytes (record i { padding = i.padding ++ zeros }))
    ∙ ap (λ (xs : List ℕ). header i.first i.second (length i.value) ++ xs)
    (sym (append_assoc i.value i.padding zeros))
    ∙ ap (λ (xs : List ℕ). xs ++ replicate (gap (length xs)) 0) (sym (append-nil (item_bytes i)))
padded_split rule (i ∷ j ∷ is) p =
    let rest : List ℕ = flat_map item_bytes (j ∷ is) in
    let all = length-append (item_bytes i) rest in
    let len = length-item i in
    let same : gap (length rest) ≡ gap (length (item_bytes i ++ rest)) =
    omega (arith, all, len, p.0.padded) in
    ap (λ (xs : List ℕ). item_bytes i ++ xs) (padded_split rule (j ∷ is) p.1)
    ∙ sym (append_assoc (item_bytes i) rest (replicate (gap (length rest)) 0))
    ∙ ap (λ (n : ℕ). (item_bytes i ++ rest) ++ replicate n 0) same

padded_formed : (strict : Bool) (is : List Item) → AreFormed (zero_padding strict) is
    → AreFormed (zero_padding strict) (padded is)
padded_formed strict [] p = tt
padded_formed strict (i ∷ []) p =
    let n = gap (length (item_bytes i)) in
    let len = length-item i in
    let all = length-append i.padding (replicate n 0) in
    let zeros = length-replicate {A = ℕ} n 0 in
    record {
      fits = p.fits;
      padded = omega (arith, p.padded, len, all, zeros);
      accepted = more_padding strict (padding_size (length i.value)) i.padding n p.accepted;
    }
padded_formed strict (i ∷ j ∷ []) p = (p.0, padded_formed strict (j ∷ []) p.1)
padded_formed strict (i ∷ j ∷ k ∷ is) p = (p.0, padded_formed strict (j ∷ k ∷ is) p.1)

module _ {U : Type 0} (row : ℕ → Row U) (strict : Bool) where
  abbrev level : Level U
  level = typed_level row strict

  padded_mean : (is : List Item) (us : List U) → ItemsMean level is us
      → ItemsMean level (padded is) us
  padded_mean [] us m = m
  padded_mean (i ∷ []) [] m = absurd m
  padded_mean (i ∷ []) (u ∷ us) m = m
  padded_mean (i ∷ j ∷ is) [] m = absurd m
  padded_mean (i ∷ j ∷ is) (u ∷ us) m = (m.0, padded_mean (j ∷ is) us m.1)

  means_padded : (bytes : List ℕ) (us : List U) → MeansTrees level bytes us
      → MeansTrees level (bytes ++ replicate (gap (length bytes)) 0) us
  means_padded bytes us m = record {
    items = padded m.items;
    are = record {
      split = ap (λ (xs : List ℕ). xs ++ replicate (gap (length xs)) 0) m.are.split
          ∙ sym (padded_split (zero_padding strict) m.items m.are.formed);
      formed = padded_formed strict m.items m.are.formed;
    };
    mean = padded_mean m.items us m.mean;
  }

  -- ---- one item more

  module _ (typ : ℕ) (item : List ℕ) (u : U) (small : 4 + length item < 2 ^ 16)
      (means : (row typ).means item u) where
    abbrev last : Item
    last = record { first = typ / 256; second = typ % 256; value = item; padding = [] }

    one_means : MeansTrees level (typed_header typ (length item) ++ item) (u ∷ [])
    one_means = record {
      items = last ∷ [];
      are = record {
        split = ap (λ (xs : List ℕ). typed_header typ (length item) ++ xs) (sym (append-nil item))
            ∙ sym (append-nil (item_bytes last));
        formed = record {
          fits = small;
          padded = omega arith;
          accepted = none_accepted strict (padding_size (length item));
        };
      };
      mean = (subst (λ (n : ℕ). (row n).means item u) (sym (type_back typ)) means, tt);
    }

    -- the list after the first bytes of a value
    longer_means : (place : ℕ) (value : List ℕ) (us : List U) → place % 4 ≡ 0
        → place ≤ length value → MeansTrees level (drop place value) us
        → MeansTrees level (drop place (with_last value typ item)) (us ++ u ∷ [])
    longer_means place value us words long m =
        let list : List ℕ = drop place value in
        let header : List ℕ = typed_header typ (length item) in
        let len = length-drop place value in
        let same : gap (length value) ≡ gap (length list) = omega (arith, len, words, long) in
        let all = length-append list (replicate (gap (length list)) 0) in
        let zeros = length-replicate {A = ℕ} (gap (length list)) 0 in
        let is : drop place (with_last value typ item)
        ≡ (list ++ replicate (gap (length list)) 0) ++ (header ++ item) =
        drop-append-le place value (replicate (gap (length value)) 0 ++ (header ++ item)) long
        ∙ ap (λ (n : ℕ). list ++ (replicate n 0 ++ (header ++ item))) same
        ∙ sym (append_assoc list (replicate (gap (length list)) 0) (header ++ item)) in
        subst (λ (xs : List ℕ). MeansTrees level xs (us ++ u ∷ [])) (sym is)
        (local_means level (list ++ replicate (gap (length list)) 0) (header ++ item) us (u ∷ [])
        (omega (arith, all, zeros)) (means_padded list us m) one_means)

    -- so is what a kind makes of it
    pub listed_longer : {X : Type 0} (rule : List ℕ → Bool) (place : ℕ)
        (tree_of : List ℕ → List U → X) (value : List ℕ) (x : X)
        → place % 4 ≡ 0 → (rule value ≡ true → place ≤ length value)
        → rule (with_last value typ item) ≡ true
        → ((us : List U) → rule value ≡ true
        → tree_of (with_last value typ item) us ≡ tree_of value us)
        → (m : (listed rule place level tree_of).means value x)
        → (listed rule place level tree_of).means (with_last value typ item)
        (tree_of value (m.1.0 ++ u ∷ []))
    listed_longer rule place tree_of value x words long again same m = (
      again,
      (
        m.1.0 ++ u ∷ [],
        longer_means place value m.1.0 words (long m.0) m.1.1,
        sym (same (m.1.0 ++ u ∷ []) m.0),
      ),
    )

-- ---- the numbers before a list

number_kept : (width : Width) (place : ℕ) (value more : List ℕ)
    → place + byte_len width ≤ length value
    → number width (drop place (value ++ more)) ≡ number width (drop place value)
number_kept width place value more long =
    let len = length-drop place value in
    ap (λ (xs : List ℕ). number width xs) (drop-append-le place value more (omega arith))
    ∙ ap (from_be_bytes width) (take-append-le (byte_len width) (drop place value) more
    (omega (arith, len)))

init_kept : (value more : List ℕ) (ps : List ParameterTree) → 16 ≤ length value
    → init_of (value ++ more) ps ≡ init_of value ps
init_kept value more ps long = λ k. record {
  tag = number_kept w32 0 value more (omega arith) k;
  window = number_kept w32 4 value more (omega arith) k;
  outbound = number_kept w16 8 value more (omega arith) k;
  inbound = number_kept w16 10 value more (omega arith) k;
  tsn = number_kept w32 12 value more (omega arith) k;
  parameters = ps;
}

long_enough : (n : ℕ) (value more : List ℕ) → nat_le n (length value) ≡ true
    → nat_le n (length (value ++ more)) ≡ true
long_enough n value more h =
    let len = length-append value more in
    let le = leb-true n (length value) h in
    le-leb n (length (value ++ more)) (omega (arith, len, le))

more_than_none : (value more : List ℕ) → nat_lt 0 (length value) ≡ true
    → nat_lt 0 (length (value ++ more)) ≡ true
more_than_none value more h =
    let len = length-append value more in
    let lt = ltb-true 0 (length value) h in
    lt-ltb 0 (length (value ++ more)) (omega (arith, len, lt))

-- ---- the table of chunks

-- A row keeps what it means, where an item is added that makes of each tree another one.
module _ (typ : ℕ) (item : List ℕ) (with : ChunkTree → Option ChunkTree) where
  abbrev Extends : Row ChunkTree → Type 0
  Extends row = (value : List ℕ) (t u : ChunkTree) → row.means value t → with t ≡ Some u
      → row.means (with_last value typ item) u

  -- a kind has no such list, or its row extends
  abbrev MayExtend : Bool → ℕ → Member ChunkTree → Type 0
  MayExtend strict flags m = ((x : m.kind.Tree) → with (m.tree x) ≡ None)
      ⊎ Extends (row_as strict flags m.tree m.kind.reader)

  extends : (strict : Bool) (flags : ℕ) (m : Member ChunkTree) → MayExtend strict flags m
      → Extends (row_as strict flags m.tree m.kind.reader)
  extends strict flags m (inl none) value t u means e =
      let d = down m.tree strict flags m.kind.reader value t means in
      let is = ap with d.1.1 in
      let no = none d.0 in
      absurd (let f : None ≡ Some u = sym no ∙ sym is ∙ e in cc)
  extends strict flags m (inr own) value t u means e = own value t u means e

  abbrev AllMayExtend : Bool → ℕ → List (Member ChunkTree) → Type 0
  AllMayExtend strict flags [] = Unit {0}
  AllMayExtend strict flags (m ∷ ms) = MayExtend strict flags m × AllMayExtend strict flags ms

  all_extend : (strict : Bool) (flags : ℕ) (ms : List (Member ChunkTree))
      → AllMayExtend strict flags ms → EachNamed (λ n row. Extends row) (rows strict flags ms)
  all_extend strict flags [] may = tt
  all_extend strict flags (m ∷ ms) may =
      (extends strict flags m may.0, all_extend strict flags ms may.1)

  -- so does the row of each type
  chunk_extends : (strict : Bool) (t u : ChunkTree)
      → ((flags : ℕ) → AllMayExtend strict flags members)
      → ((x : UnknownTree) → with (Unknown x) ≡ None) → ReadsAs strict t u
      → (v : ChunkTree) → with u ≡ Some v → ReadsAs strict (extended t typ item) v
  chunk_extends strict t u each none m v e =
      let x = chunk_tlv t in
      subst (λ (bytes : List ℕ). (chunk_row strict x.first x.second).means bytes v)
      (sym (zeroed-solid (with_last (zeroed x.value) typ item)))
      (of_table (λ n row. Extends row) (table strict x.second) x.first
      (plain (λ value. map_ok Unknown (unknown_at x.first x.second value)))
      (all_extend strict x.second members (each x.second))
      (λ unnamed value t2 u2 means is.
      (let d = of_map_ok Unknown (unknown_at x.first x.second value) t2 means in
      let no = none d.0 in let same = ap with d.1.1 in
      absurd (let f : None ≡ Some u2 = sym no ∙ sym same ∙ is in cc)))
      (zeroed x.value) u v m e)

-- ---- the kinds with a list

module _ {U : Type 0} (row : ℕ → Row U) (strict : Bool) (typ : ℕ) (item : List ℕ) (u : U)
    (small : 4 + length item < 2 ^ 16) (means : (row typ).means item u) where
  list_extends : {X : Type 0} (rule : List ℕ → Bool) (place : ℕ) (tree_of : List ℕ → List U → X)
      (tree : X → ChunkTree) (grow : X → X) (with : ChunkTree → Option ChunkTree)
      → ((x : X) → with (tree x) ≡ Some (tree (grow x)))
      → ((value : List ℕ) (us : List U) → grow (tree_of value us) ≡ tree_of value (us ++ u ∷ []))
      → place % 4 ≡ 0 → ((value : List ℕ) → rule value ≡ true → place ≤ length value)
      → ((value more : List ℕ) → rule value ≡ true → rule (value ++ more) ≡ true)
      → ((value more : List ℕ) (us : List U) → rule value ≡ true
      → tree_of (value ++ more) us ≡ tree_of value us)
      → Extends typ item with (as_row tree (listed rule place (typed_level row strict) tree_of))
  list_extends rule place tree_of tree grow with grown pushed words long again same value t v m e =
      let more : List ℕ =
      replicate (gap (length value)) 0 ++ (typed_header typ (length item) ++ item) in
      let us = m.1.1.0 ++ u ∷ [] in
      let is : Some (tree (grow m.0)) ≡ Some v = sym (grown m.0) ∙ sym (ap with m.2) ∙ e in
      let v_is : v ≡ tree (grow m.0) = cc in (
        tree_of value us,
        listed_longer row strict typ item u small means rule place tree_of value m.0 words
            (long value) (again value more m.1.0) (λ us rule_is. same value more us rule_is) m.1,
        v_is ∙ ap (λ x. tree (grow x)) m.1.1.2 ∙ ap tree (pushed value m.1.1.0),
      )

module _ (typ : ℕ) (item : List ℕ) (small : 4 + length item < 2 ^ 16) where
  parameters_extend : (p : ParameterTree) → (parameter_row typ).means item p
      → (strict : Bool) (flags : ℕ)
      → AllMayExtend typ item (λ t. with_parameter t p) strict flags members
  parameters_extend p means strict flags =
      let with = λ (t : ChunkTree). with_parameter t p in
      let init = λ (tree : InitTree → ChunkTree)
      (grown : (i : InitTree) → with (tree i)
      ≡ Some (tree (record i { parameters = i.parameters ++ p ∷ [] }))).
      list_extends parameter_row strict typ item p small means
      (λ value. nat_le 16 (length value)) 16 init_of tree
      (λ i. record i { parameters = i.parameters ++ p ∷ [] }) with grown (λ value us. refl) refl
      (λ value h. leb-true 16 (length value) h) (λ value more h. long_enough 16 value more h)
      (λ value more us h. init_kept value more us (leb-true 16 (length value) h)) in
      let list = λ (tree : List ParameterTree → ChunkTree)
      (grown : (ps : List ParameterTree) → with (tree ps) ≡ Some (tree (ps ++ p ∷ []))).
      list_extends parameter_row strict typ item p small means (λ value. true) 0
      (λ value ps. ps) tree (λ ps. ps ++ p ∷ []) with grown (λ value us. refl) refl
      (λ value h. omega arith) (λ value more h. refl) (λ value more us h. refl) in
      search (
        rules,
        inl,
        inr,
        init Init (λ i. refl),
        init InitAck (λ i. refl),
        list HeartbeatRequest (λ ps. refl),
        list HeartbeatAck (λ ps. refl),
        list ReConfig (λ ps. refl),
      )

  pub extends_parameters : ExtendsParameters typ item
  extends_parameters strict t u longer p means reads is =
      chunk_extends typ item (λ x. with_parameter x p) strict t u (parameters_extend p means strict)
      (λ x. refl) reads longer is

  causes_extend : (c : CauseTree) → (cause_row typ).means item c → (strict : Bool) (flags : ℕ)
      → AllMayExtend typ item (λ t. with_cause t c) strict flags members
  causes_extend c means strict flags =
      let with = λ (t : ChunkTree). with_cause t c in
      let abort =
      list_extends cause_row strict typ item c small means (λ value. true) 0
      (λ value cs. abort_of flags cs) Abort (λ a. record a { causes = a.causes ++ c ∷ [] }) with
      (λ a. refl) (λ value us. refl) refl (λ value h. omega arith) (λ value more h. refl)
      (λ value more us h. refl) in
      let error =
      list_extends cause_row strict typ item c small means (λ value. nat_lt 0 (length value)) 0
      (λ value cs. cs) Error (λ cs. cs ++ c ∷ []) with (λ cs. refl) (λ value us. refl) refl
      (λ value h. omega arith) more_than_none (λ value more us h. refl) in
      search (rules, inl, inr, abort, error)

  pub extends_causes : ExtendsCauses typ item
  extends_causes strict t u longer c means reads is =
      chunk_extends typ item (λ x. with_cause x c) strict t u (causes_extend c means strict)
      (λ x. refl) reads longer is

  -- an ERROR with its first cause
  pub makes_error : MakesError typ item
  makes_error strict c means =
      let value : List ℕ = with_last [] typ item in
      let none : MeansTrees (typed_level cause_row strict) [] [] =
      record { items = []; are = record { split = refl; formed = tt }; mean = tt } in
      subst (λ (bytes : List ℕ). (chunk_row strict 9 0).means bytes (Error (c ∷ [])))
      (sym (zeroed-solid value)) (
        c ∷ [],
        (
          lt-ltb 0 (length value) (omega arith),
          (
            c ∷ [],
            longer_means cause_row strict typ item c small means 0 [] [] refl
                (omega arith) none,
            refl,
          ),
        ),
        refl,
      )
