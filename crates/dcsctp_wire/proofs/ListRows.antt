-- The kinds of chunk with a list. Their rows are `listed`, over parameters or over error causes, so
-- what each has to satisfy follows from what is known of its items.
use Rattle.std.{proofs.Common.{rules, ◌≡◌, ◌≢◌, ℕ, ◌+◌, ◌*◌, ◌%◌, ◌<◌, ◌≤◌, ◌^◌, Bool, true, false, List, [], ◌∷◌, length, drop, refl, sym, subst, arith, nat_lt, nat_le, leb-true, le-leb, lt-ltb, length-drop}, specs.List.{AllByRecursion}, proofs.lemmas.Nat.{from_be_bytes-to_be_bytes_2, from_be_bytes-to_be_bytes_4}}
use Rattle.dcsctp_tlv.{specs.Decided.{IgnoresPadding}, specs.Format.{Format, tlv_by}, specs.Frame.{Item, AreItems, lenient, any_padding}, specs.Image.{Tlv, zeroed, image_of, list_image, list_size, size_of, IsEncodable}, specs.Level.{Row, Level, listed, MeansTrees}, specs.Table.{Content, Parameters, Causes}, specs.Parameter.{IsWellFormed as IsParameterWellFormed, all_kept as kept_parameters}, proofs.Accounts.{SameSpace, all_account, list_account}, proofs.Counts.{one_each, list_count, total-one}, proofs.FormatLaws.{good_list}, proofs.Forms.{FormsTrees, list_formed, nil_means}, proofs.KindLaws.{IsGood}, proofs.Laws.{Lawful, listed_lawful}, proofs.Lenient.{Loosens, listed_looser}, proofs.Kept.{listed_tlv-kept}, proofs.Unpadded.{listed_unpadded}, proofs.ParameterLaws.{kept_parameter_tlv, kept_parameters_width, parameters_lawful, parameters_looser, parameters_unpadded, parameters_form, parameters_account, parameters_read_back}, proofs.ReadsBack.{ReadsBack, AcceptsZeros, AcceptsNone, nested_reads_back, zeros_accepted, none_accepted}, specs.Kinds.{Kind, Nested}, proofs.Satisfies.{Satisfies}}
use Rattle.dcsctp_tlv.specs.Parameter as parameter
use Rattle.dcsctp_cause.specs.Cause as cause
use Rattle.dcsctp_cause.proofs.CauseLaws.{causes_lawful, causes_looser, causes_unpadded, causes_form, causes_account, causes_read_back}
use Rattle.dcsctp_chunk.proofs.FlagLaws.{one_again}
use Rattle.dcsctp_wire.specs.{InitFields.{Tree as InitTree, tree_of as init_of, row as init_row, IsInWidth as IsInitInWidth, format as init_format, leading as init_leading, kind_of as init_kind}, ParameterList.{format as parameter_list_format, kind_of as parameter_list_kind}}
use Rattle.dcsctp_wire.specs.Abort as abort
use Rattle.dcsctp_wire.specs.Error as error

-- ---- items

-- What is known of the items of a list: how a level reads them, and that they are written as they
-- are read, in the same space where their bytes are kept.
pub record ItemLaws {U : Type 0} (level : Bool → Level U) (format : U → Format)
    (AreKept : List ℕ → Type 0) : Type 0 where
  pub lawful : (strict : Bool) → Lawful (level strict)
  pub looser : (strict : Bool) → Loosens (level strict) (level lenient)
  pub unpadded : IgnoresPadding (level lenient)
  pub forms : FormsTrees (level lenient) (λ u. (format u).IsWellFormed)
  pub account : (bytes : List ℕ) (us : List U) → AreKept bytes
      → MeansTrees (level lenient) bytes us
      → SameSpace (list_size (tlv_by format) us) (length bytes)
  pub back : (strict : Bool) → ReadsBack (level strict) (tlv_by format) (λ u. IsGood (format u))
  pub zeros : (strict : Bool) → AcceptsZeros (level strict).padding
  pub none : (strict : Bool) → AcceptsNone (level strict).padding

pub parameter_items : ItemLaws parameter.parameters parameter.format (λ bytes. Unit {0})
parameter_items = record {
  lawful = parameters_lawful;
  looser = parameters_looser;
  unpadded = parameters_unpadded;
  forms = parameters_form;
  account = λ bytes ps kept m.
      all_account (parameter.parameters lenient) parameter.tlv parameters_account bytes ps m;
  back = parameters_read_back;
  zeros = zeros_accepted;
  none = none_accepted;
}

-- each cause in the bytes keeps its text
abbrev pub KeepTexts : List ℕ → Type 0
KeepTexts bytes =
    (items : List Item) → AreItems any_padding bytes items → AllByRecursion cause.IsTextKept items

pub cause_items : ItemLaws cause.causes cause.format KeepTexts
cause_items = record {
  lawful = causes_lawful;
  looser = causes_looser;
  unpadded = causes_unpadded;
  forms = causes_form;
  account = λ bytes cs kept m.
      list_account (cause.causes lenient) cause.tlv cause.IsTextKept causes_account bytes cs m
      (kept m.items m.are);
  back = causes_read_back;
  zeros = zeros_accepted;
  none = none_accepted;
}

-- ---- a list in a value

module _ {U : Type 0} {level : Bool → Level U} {format : U → Format} {AreKept : List ℕ → Type 0}
    (items : ItemLaws level format AreKept) (place : ℕ)
  where
    -- after whole words, it is written in the space that it was read from
    pub list_space : place % 4 ≡ 0 → (value : List ℕ) (us : List U) → place ≤ length value
        → AreKept (drop place value) → MeansTrees (level lenient) (drop place value) us
        → SameSpace (4 + (place + list_size (tlv_by format) us)) (4 + length value)
    list_space words value us long kept m =
        let list = items.account (drop place value) us kept m in
        let rest = length-drop place value in
        record {
          at_most = omega (arith, list.at_most, rest);
          up = omega (arith, list.up, rest);
        }

    -- an item is a word at least
    pub list_parts : (value : List ℕ) (us : List U)
        → MeansTrees (level lenient) (drop place value) us → 4 * (1 + length us) ≤ 4 + length value
    list_parts value us m =
        let few =
        list_count (level lenient) (λ u. 1) (one_each (level lenient)) (drop place value) us m in
        omega (arith, few, total-one us, length-drop place value)

    -- a value with the list as it is written means the tree that is made of them
    pub listed_back : {X : Type 0} (rule : List ℕ → Bool) (tree_of : List ℕ → List U → X)
        (strict : Bool) (value : List ℕ) (us : List U) (x : X)
        → rule value ≡ true → drop place value ≡ zeroed (list_image (tlv_by format) us)
        → tree_of value us ≡ x → AllByRecursion (λ u. (format u).IsInWidth) us
        → AllByRecursion (λ u. (format u).IsWellFormed) us
        → list_size (tlv_by format) us < 2 ^ 16
        → (listed rule place (level strict) tree_of).means value x
    listed_back rule tree_of strict value us x ok there made width formed fits =
        let good = good_list format us width formed fits in
        let back = nested_reads_back (level strict) (tlv_by format) (λ u. IsGood (format u))
        (items.back strict) us good (items.zeros strict) (items.none strict) in
        (ok, (us, rw there back, sym made))

-- ---- what a kind with a list satisfies

-- the causes keep their texts, where there are any
abbrev pub KeepsAt : Content → List ℕ → Type 0
KeepsAt (Causes place) value = KeepTexts value
KeepsAt c value = Unit {0}

-- a kind by its rule and where its list begins, and how a tree is made of both
abbrev pub listed_kind : {U X : Type 0} → ℕ → Content → (List ℕ → Bool) → ℕ → (Bool → Level U)
    → (ℕ → List ℕ → List U → X) → (X → Format) → (X → X) → (X → ℕ) → Kind
listed_kind {U} {X} typ content rule place level tree_of format kept parts = record {
  typ = typ;
  content = content;
  Tree = X;
  reader = Nested (λ strict flags. listed rule place (level strict) (tree_of flags));
  format = format;
  kept = kept;
  parts = parts;
}

-- What is shown of each: where its list begins; that it is written, well-formed and counted as its
-- items are.
pub record ListFacts {U X : Type 0} (content : Content) (rule : List ℕ → Bool) (place : ℕ)
    (level : Bool → Level U) (item_format : U → Format) (AreKept : List ℕ → Type 0)
    (tree_of : ℕ → List ℕ → List U → X) (format : X → Format) (count : X → ℕ) : Type 0 where
  pub words : place % 4 ≡ 0
  pub long : (value : List ℕ) → rule value ≡ true → place ≤ length value
  pub keeps : (value : List ℕ) → KeepsAt content value → AreKept (drop place value)
  pub formed : (flags : ℕ) (value : List ℕ) (us : List U) → rule value ≡ true
      → MeansTrees (level lenient) (drop place value) us
      → AllByRecursion (λ u. (item_format u).IsWellFormed) us
      → (format (tree_of flags value us)).IsWellFormed
  pub size : (flags : ℕ) (value : List ℕ) (us : List U)
      → size_of (format (tree_of flags value us)).tlv
      ≡ 4 + (place + list_size (tlv_by item_format) us)
  pub parts : (flags : ℕ) (value : List ℕ) (us : List U)
      → count (tree_of flags value us) ≡ 1 + length us

module _ {U X : Type 0} {level : Bool → Level U} {item_format : U → Format}
    {AreKept : List ℕ → Type 0} {tree_of : ℕ → List ℕ → List U → X} {format : X → Format}
    {parts : X → ℕ} {rule : List ℕ → Bool} (typ : ℕ) (content : Content) (place : ℕ)
    (items : ItemLaws level item_format AreKept)
    (shown : ListFacts content rule place level item_format AreKept tree_of format parts)
  where
    abbrev row : Bool → ℕ → Row X
    row strict flags = listed rule place (level strict) (tree_of flags)

    -- what it means is made of a list
    of_list : (flags : ℕ) (P : X → Type 0) (value : List ℕ) (x : X)
        → ((us : List U) → rule value ≡ true → MeansTrees (level lenient) (drop place value) us
        → P (tree_of flags value us))
        → (row lenient flags).means value x → P x
    of_list flags P value x law m = subst P (sym m.1.2) (law m.1.0 m.0 m.1.1)

    pub listed_satisfies : {kept : X → X}
        → ((strict : Bool) (x : X) → IsGood (format x)
        → (row strict (format x).tlv.second).means (zeroed (format x).tlv.value) x)
        → ((x : X) → (format (kept x)).tlv ≡ (format x).tlv)
        → ((x : X) → (format x).IsInWidth → (format (kept x)).IsInWidth)
        → Satisfies KeepsAt (listed_kind typ content rule place level tree_of format kept parts)
    listed_satisfies back kept_tlv kept_width = record {
      lawful = λ strict flags. listed_lawful rule place (level strict) (tree_of flags)
          (items.lawful strict);
      looser = λ strict flags. listed_looser rule place (level strict) (level lenient)
          (tree_of flags) (items.looser strict);
      unpadded = λ flags. listed_unpadded rule place (level lenient) (tree_of flags)
          items.unpadded;
      forms = λ flags value x. of_list flags (λ y. (format y).IsWellFormed) value x
          (λ us ok m. shown.formed flags value us ok m
          (list_formed (level lenient) (λ u. (item_format u).IsWellFormed) items.forms _ us m));
      account = λ flags value x keeps. of_list flags
          (λ y. SameSpace (size_of (format y).tlv) (4 + length value)) value x
          (λ us ok m. rw (shown.size flags value us) (list_space items place shown.words value us
          (shown.long value ok) (shown.keeps value keeps) m));
      counted = λ flags value x. of_list flags (λ y. 4 * parts y ≤ 4 + length value) value x
          (λ us ok m. rw (shown.parts flags value us) (list_parts items place value us m));
      back = back;
      kept_tlv = kept_tlv;
      kept_width = kept_width;
    }

-- ---- INIT and INIT ACK

abbrev init_tlv : ℕ → InitTree → Tlv
init_tlv typ i = (init_format typ [] i).tlv

init_back : (typ : ℕ) (strict : Bool) (i : InitTree) → IsInitInWidth i
    → AllByRecursion IsParameterWellFormed i.parameters → IsEncodable (init_tlv typ i)
    → (init_row strict).means (zeroed (init_tlv typ i).value) i
init_back typ strict i width formed fits =
    let value = zeroed (init_tlv typ i).value in
    listed_back parameter_items 16 (λ v. nat_le 16 (length v)) init_of strict value
    i.parameters i (le-leb 16 (length value) (omega arith)) refl
    (rw (
      from_be_bytes-to_be_bytes_4 i.tag width.tag,
      from_be_bytes-to_be_bytes_4 i.window width.window,
      from_be_bytes-to_be_bytes_2 i.outbound width.outbound,
      from_be_bytes-to_be_bytes_2 i.inbound width.inbound,
      from_be_bytes-to_be_bytes_4 i.tsn width.tsn,
    ) refl)
    width.each formed (omega (arith, fits))

init_kept_width : (i : InitTree) → IsInitInWidth i
    → IsInitInWidth (record i { parameters = kept_parameters i.parameters })
init_kept_width i h = search (rules, kept_parameters_width)

pub init_satisfies : (typ : ℕ) (name : List ℕ) → Satisfies KeepsAt (init_kind typ (init_format typ name))
init_satisfies typ name =
    listed_satisfies typ (Parameters 16) 16 parameter_items (search (rules, leb-true))
    (λ strict i good. init_back typ strict i good.width good.formed good.encodable)
    (λ i. listed_tlv-kept parameter.tlv parameter.kept kept_parameter_tlv typ 0 (init_leading i) i.parameters)
    init_kept_width

-- ---- lists of parameters

pub parameter_list_satisfies : (typ : ℕ) (name : List ℕ)
    → Satisfies KeepsAt (parameter_list_kind typ (parameter_list_format typ name))
parameter_list_satisfies typ name =
    listed_satisfies typ (Parameters 0) 0 parameter_items (search rules)
    (λ strict ps good. listed_back parameter_items 0 (λ v. true) (λ v ps. ps) strict _ ps ps
    refl refl refl good.width good.formed (omega (arith, good.encodable)))
    (λ ps. listed_tlv-kept parameter.tlv parameter.kept kept_parameter_tlv typ 0 [] ps)
    kept_parameters_width

-- ---- lists of causes

pub abort_satisfies : Satisfies KeepsAt abort.kind
abort_satisfies =
    listed_satisfies 6 (Causes 0) 0 cause_items (search rules)
    (λ strict a good. listed_back cause_items 0 (λ v. true)
    (λ v cs. abort.tree_of (abort.flags_of a) cs) strict _ a.causes a refl refl
    (rw (one_again a.tag_reflected) refl) good.width good.formed (omega (arith, good.encodable)))
    (λ a. refl) (λ a width. width)

-- no bytes mean no causes, and ERROR wants some
some_causes : (value : List ℕ) (cs : List cause.CauseTree) → nat_lt 0 (length value) ≡ true
    → MeansTrees (cause.causes lenient) value cs → cs ≢ []
some_causes value cs some m none =
    let nil : value ≡ [] = nil_means (cause.causes lenient) value
    (subst (MeansTrees (cause.causes lenient) value) none m) in
    let refused : false ≡ true = rw nil at some in
    cc

-- a list of causes that is written isn't empty
some_bytes : (cs : List cause.CauseTree) → cs ≢ []
    → nat_lt 0 (length (zeroed (list_image cause.tlv cs))) ≡ true
unfolding image_of
some_bytes [] some = absurd (some refl)
some_bytes (c ∷ []) some =
    lt-ltb 0 (length (zeroed (list_image cause.tlv (c ∷ [])))) (omega arith)
some_bytes (c ∷ d ∷ cs) some =
    lt-ltb 0 (length (zeroed (list_image cause.tlv (c ∷ d ∷ cs)))) (omega arith)

pub error_satisfies : Satisfies KeepsAt error.kind
error_satisfies =
    listed_satisfies 9 (Causes 0) 0 cause_items (search (rules, some_causes))
    (λ strict cs good. listed_back cause_items 0 (λ v. nat_lt 0 (length v)) (λ v cs. cs) strict _ cs
    cs (some_bytes cs good.formed.0) refl refl good.width good.formed.1
    (omega (arith, good.encodable)))
    (λ cs. refl) (λ cs width. width)
