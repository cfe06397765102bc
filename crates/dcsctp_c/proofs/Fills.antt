-- A list that a loop writes to an array, item after item.
use Rattle.std.{proofs.Common.{◌≡◌, ◌∙◌, ◌+◌, ◌-◌, ◌≤◌, ◌<◌, ℕ, Bool, true, false, nat_le, if◌then◌else◌, List, [], ◌∷◌, ◌++◌, Option, Some, None, length, take, drop, set, get_or, refl, sym, ap, subst, inl, inr, arith, length-append, length-drop, take_all, get_or-drop}, specs.List.{slice_get}, specs.Option.{unwrap_or}, proofs.lemmas.Bool.{cases_lt}, proofs.lemmas.List.{drop_all, take-append-drop, take_more, get_or_past}, proofs.lemmas.Option.{get_or_from_slice_get, slice_get_within}}
use Rattle.dcsctp_tlv.specs.{Frame.{BeginsWithFrame}, Level.{Row, Level, MeansTrees}, Number.{AreBytes}}
use Rattle.dcsctp_borrowed.proofs.Fronts.{front, none_left}
use Rattle.dcsctp_c.{specs.Part.{Holds, bytes_to, value_at, value_from, ValueMeans, MeansFirst}, specs.Parameter.{IsListedAt, IsListedIn, parameter_value}, specs.Walk.{AreFrom, end_of, MeanEach}, specs.Fill.{Fills, AreListed, AreListedIn, AreParameters, WritesItems}, proofs.Places.{value_bytes, from_to, in_chunk}, proofs.Walks.{Adds, has_room, no_room, added, others_stay, end_last, last_at, more_trees, last_means}}
use Rattle.dcsctp_c.specs.declared.structs.{DcsctpChunk.{DcsctpChunk}, DcsctpParameter.{DcsctpParameter}}

module _ {T S : Type 0} (Keeps : T → S → Type 0) (old : List S) where
  pub fills_none : Fills Keeps [] old old 0
  fills_none = record { number = refl; each = tt; after = refl }

  -- one item more, whether it has room or not
  pub fills_more : (ts : List T) (now : List S) (count : ℕ) (t : T) (s : S)
      → Fills Keeps ts old now count → Keeps t s
      → Fills Keeps (ts ++ t ∷ []) old (set now count s) (count + 1)
  fills_more ts now count t s f here = record {
    number = (let size = length-append ts (t ∷ []) in
        let before = f.number in
        omega (arith, size, before));
    each = last (added now count s);
    after = others_stay now old count s f.after;
  } where
    last : Adds (take count now) (take (count + 1) (set now count s)) count s
        → MeanEach (λ (r : S) (u : T). Keeps u r) (take (count + 1) (set now count s))
        (ts ++ t ∷ [])
    last (has_room size is) =
        subst (λ (ss : List S). MeanEach (λ (r : S) (u : T). Keeps u r) ss (ts ++ t ∷ [])) (sym is)
        (last_means (λ (r : S) (u : T). Keeps u r) (take count now) ts s t f.each
        (sym f.number ∙ sym size) here)
    last (no_room few is) =
        subst (λ (ss : List S). MeanEach (λ (r : S) (u : T). Keeps u r) ss (ts ++ t ∷ [])) (sym is)
        (more_trees (λ (r : S) (u : T). Keeps u r) (take count now) ts (t ∷ []) f.each)

  -- the item at an index of a list, after those before it
  pub fills_next : (ts : List T) (now : List S) (index : ℕ) (t : T) (s : S)
      → Fills Keeps (take index ts) old now index → slice_get ts index ≡ Some t → Keeps t s
      → Fills Keeps (take (index + 1) ts) old (set now index s) (index + 1)
  fills_next ts now index t s f at here =
      subst (λ (us : List T). Fills Keeps us old (set now index s) (index + 1))
      (sym (take_more ts index t (slice_get_within ts index t at)
      ∙ ap (λ (u : T). take index ts ++ u ∷ []) (get_or_from_slice_get ts index t t at)))
      (fills_more (take index ts) now index t s f here)

  -- all of them, once as many as have room were written
  pub fills_all : (ts : List T) (now : List S) (count index : ℕ) → count ≡ length ts
      → length now ≡ length old → index ≤ count → index ≤ length now
      → (index < count → length now ≤ index) → Fills Keeps (take index ts) old now index
      → Fills Keeps ts old now count
  fills_all ts now count index same size few room full f = elim (cases_lt index count) [
    | inl lt ↦ (let end = full lt in
        let at : length now ≤ count = omega (arith, end, lt) in
        record {
          number = same;
          each = subst (λ (us : List T). MeanEach (λ (r : S) (u : T). Keeps u r) (take count now)
              us)
              (take-append-drop index ts)
              (more_trees (λ (r : S) (u : T). Keeps u r) (take count now) (take index ts)
              (drop index ts)
              (subst (λ (ss : List S). MeanEach (λ (r : S) (u : T). Keeps u r) ss (take index ts))
              (take_all index now end ∙ sym (take_all count now at)) f.each));
          after = drop_all count now at ∙ sym (drop_all count old (omega (arith, at, size)));
        })
    | inr le ↦ (let is : index ≡ count = omega (arith, few, le) in
        subst (λ (us : List T). Fills Keeps us old now count)
        (take_all count ts (omega (arith, same)))
        (subst (λ (n : ℕ). Fills Keeps (take n ts) old now n) is f))
  ]

-- structs that are what was read, of trees that it means
each_means : {S T : Type 0} (Means : S → T → Type 0) (ss all : List S) (ts : List T)
    → MeanEach (λ (r a : S). Holds a r) ss all → MeanEach Means all ts → MeanEach Means ss ts
each_means {S} Means [] all ts m n = tt
each_means {S} Means (s ∷ ss) [] ts m n = absurd m
each_means {S} Means (s ∷ ss) (a ∷ all) [] m n = absurd n
each_means {S} Means (s ∷ ss) (a ∷ all) (t ∷ ts) m n =
    (subst (λ (r : S). Means r t) (sym m.0) n.0, each_means Means ss all ts m.1 n.1)

pub fills_means : {S T : Type 0} (Means : S → T → Type 0) (all : List S) (ts : List T)
    (old new : List S) (count : ℕ) → Fills Holds all old new count
    → (length all ≡ length ts) × MeanEach Means all ts
    → Fills (λ t s. Means s t) ts old new count
fills_means Means all ts old new count f m = record {
  number = f.number ∙ m.0;
  each = each_means Means (take count new) all ts f.each m.1;
  after = f.after;
}

-- ---- parameters and error causes

-- the bytes of a value are bytes
pub from_bytes : (bytes : List ℕ) (c : DcsctpChunk) (offset : ℕ) → AreBytes bytes
    → AreBytes (value_from bytes c offset)
from_bytes bytes c offset fits =
    in_value (nat_le c.value_offset offset) (offset - c.value_offset) (value_at bytes c)
    (λ value there. value_bytes bytes c value fits there)
  where
    past : (k : ℕ) (xs : List ℕ) → length xs ≤ k → (i : ℕ) → get_or (drop k xs) i 0 < 256
    past k xs le i =
        subst (λ (n : ℕ). n < 256)
        (sym (get_or_past {X = ℕ} (drop k xs) i 0 (omega (arith, length-drop k xs, le))))
        (omega arith)

    in_value : (test : Bool) (k : ℕ) (o : Option (List ℕ))
        → ((value : List ℕ) → o ≡ Some value → AreBytes value)
        → AreBytes (if test then drop k (unwrap_or o []) else [])
    in_value true k (Some value) h i = rw get_or-drop (h value refl (k + i))
    in_value true k None h i = past k [] (omega arith) i
    in_value false k o h i = past 0 [] (omega arith) i

-- bytes that begin no frame mean no tree
none_meant : {T : Type 0} (level : Level T) (bytes : List ℕ) → AreBytes bytes
    → (BeginsWithFrame bytes → ⊥) → (ts : List T) → MeansTrees level bytes ts → ts ≡ []
none_meant level [] fits begins ts m = none_left level [] refl ts m
none_meant level (b ∷ bs) fits begins ts m =
    absurd (begins (front level (b ∷ bs) ((ts, m), fits) (λ e. cc)).frame)

-- The trees of a list's bytes from an offset on are those of the items.
pub all_mean : {T : Type 0} (level : Level T) (row : DcsctpParameter → Row T) (bytes : List ℕ)
    (from : ℕ → List ℕ) (end : ℕ) → ((offset : ℕ) → AreBytes (from offset))
    → ((offset : ℕ) (p : DcsctpParameter) → IsListedAt bytes from end offset p
    → MeansFirst level (row p) (from offset) (parameter_value bytes p) (from p.next))
    → (start : ℕ) (all : List DcsctpParameter) → AreListed bytes from end start all
    → (ts : List T) → MeansTrees level (from start) ts
    → (length all ≡ length ts)
    × MeanEach (λ (q : DcsctpParameter). ValueMeans (row q) (parameter_value bytes q)) all ts
all_mean {T} level row bytes from end fits first start [] a ts m =
    let none = none_meant level (from start) (fits start) a.ends ts m in
    (sym (ap length none), tt)
all_mean {T} level row bytes from end fits first start (p ∷ ps) a ts m =
    let f = first start p a.are.0 ts m in
    let others = all_mean level row bytes from end fits first p.next ps
    (record { are = a.are.1; ends = a.ends }) f.1 f.4 in
    subst (λ (us : List T). (length (p ∷ ps) ≡ length us)
    × MeanEach (λ (q : DcsctpParameter). ValueMeans (row q) (parameter_value bytes q)) (p ∷ ps) us)
    (sym f.2) (omega (arith, others.0), (f.3, others.1))

-- the loop over them: those that were passed, and the next one's offset
pub record Written (bytes : List ℕ) (start : ℕ) (old now : List DcsctpParameter)
    (count offset : ℕ) : Type 0 where
  pub done : List DcsctpParameter
  pub are : AreFrom (IsListedIn bytes) (λ (q : DcsctpParameter). q.next) start done
  pub ends : end_of (λ (q : DcsctpParameter). q.next) start done ≡ offset
  pub fills : Fills Holds done old now count

pub one_more : (bytes : List ℕ) (start : ℕ) (old now : List DcsctpParameter)
    (count offset : ℕ) (p : DcsctpParameter) → Written bytes start old now count offset
    → IsListedIn bytes offset p
    → Written bytes start old (set now count p) (count + 1) p.next
one_more bytes start old now count offset p before here = record {
  done = before.done ++ p ∷ [];
  are = last_at (IsListedIn bytes) (λ (q : DcsctpParameter). q.next) start before.done p
      before.are
      (subst (λ (n : ℕ). IsListedIn bytes n p) (sym before.ends) here);
  ends = end_last (λ (q : DcsctpParameter). q.next) start before.done p;
  fills = fills_more Holds old before.done now count p p before.fills refl;
}

-- ---- those of a chunk's value

-- in the bytes up to its end
module _ (bytes to : List ℕ) (c : DcsctpChunk)
    (is : Some to ≡ bytes_to bytes c.value_offset c.value_size) where
  all_in_chunk : (start : ℕ) (all : List DcsctpParameter) → c.value_offset ≤ start
      → AreListedIn to start all → AreParameters bytes c start all
  all_in_chunk start [] le a = record {
    are = tt;
    ends = subst (λ (l : List ℕ). BeginsWithFrame l → ⊥) (sym (from_to bytes to c is start le))
        a.ends;
  }
  all_in_chunk start (p ∷ ps) le a =
      let after = a.are.0.item.after in
      let others = all_in_chunk p.next ps (omega (arith, after, le))
      (record { are = a.are.1; ends = a.ends }) in
      record { are = (in_chunk bytes to c is start p le a.are.0, others.are); ends = others.ends }

  pub written_in : (start : ℕ) (old new : List DcsctpParameter) (count : ℕ)
      → c.value_offset ≤ start → WritesItems to start old new count
      → (all : List DcsctpParameter) × AreParameters bytes c start all
      × Fills Holds all old new count
  written_in start old new count le w = (w.all, all_in_chunk start w.all le w.are, w.fills)
