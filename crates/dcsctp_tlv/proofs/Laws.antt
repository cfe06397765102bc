-- Each list of bytes has one answer, at every level whose rows have one.
use Rattle.std.{proofs.Common.{◌≡◌, ℕ, suc, zero, ◌+◌, ◌-◌, ◌<◌, ◌≤◌, Bool, true, false, List, [], ◌∷◌, ◌++◌, length, get_or, drop, refl, sym, ap, subst, ◌∙◌, append_assoc, arith, ◌⊎◌, inl, inr, Result, Ok, Err, append-nil, get_or-drop, get_or-take, length-take, length-drop}, specs.List.{flat_map}, proofs.lemmas.Bool.{cases_lt}, proofs.lemmas.List.{get_or_past}}
use Rattle.dcsctp_tlv.{specs.Fault.{Fault}, specs.Number.{AreBytes}, specs.Frame.{round_up_to_4, padding_size, any_padding, Item, item_bytes, PaddingRule, frame_length, BeginsWithFrame, frame_value, frame_padding, frame_rest}, specs.Level.{Row, Level, ItemsMean, MeansTrees, HasFault, BeginsWithFault, no_frame, value, padding, front_row, shifted_by, plain, as_row, listed}, specs.Decided.{LawfulRow}, proofs.Items.{IsNext, AreBefore, front_item, front_split, front_next, next_one, item_frame, items_before, whole_before}, proofs.Lists.{Progress, begin, step, finish, not_nil, fault}}

abbrev pub Lawful : {T : Type 0} → Level T → Type 0
Lawful level = (a b : ℕ) → LawfulRow (level.row a b)

pub plain_lawful : {T : Type 0} (read : List ℕ → Result T Fault) → LawfulRow (plain read)
plain_lawful {T} read = record {
  one = λ v s t p q. cc;
  apart = λ v t e fits p q. cc;
  same = λ v d e fits p q. (
      let is : d.0 ≡ e.0 = cc in let there : d.1 ≡ e.1 = cc in λ k. (is k, there k));
  some = λ v fits. go v (read v) refl;
} where
  go : (v : List ℕ) (r : Result T Fault) → read v ≡ r → ((t : T) × (read v ≡ Ok t))
      ⊎ ((f : Fault × ℕ) × ((read v ≡ Err f.0) × (f.1 ≡ 0)))
  go v (Ok t) h = inl (t, h)
  go v (Err e) h = inr ((e, 0), (h, refl))

pub as_lawful : {A B : Type 0} (f : A → B) (row : Row A) → LawfulRow row → LawfulRow (as_row f row)
as_lawful {A} {B} f row law = record {
  one = λ v s t p q. p.2 ∙ ap f (law.one v p.0 q.0 p.1 q.1) ∙ sym q.2;
  apart = λ v t e fits p q. law.apart v p.0 e fits p.1 q;
  same = law.same;
  some = λ v fits. elim (law.some v fits) [
    | inl m ↦ inl (f m.0, (m.0, m.1, refl))
    | inr x ↦ inr x
  ];
}

-- ---- lists

-- the front of an item's bytes is the item, and what follows it the rest
pub front_is : (rule : PaddingRule) (i : Item) (r bytes : List ℕ) → AreBytes bytes
    → bytes ≡ item_bytes i ++ r → IsNext rule i r
    → BeginsWithFrame bytes × (i ≡ front_item bytes) × (r ≡ frame_rest bytes)
front_is rule i r bytes fits e p =
    let frame : BeginsWithFrame bytes = subst BeginsWithFrame (sym e) (item_frame rule i r p) in
    let loosened : IsNext any_padding i r =
    record { fits = p.fits; at_most = p.at_most; whole = p.whole; accepted = refl } in
    let same = next_one any_padding i (front_item bytes) r (frame_rest bytes)
    (sym e ∙ front_split bytes fits frame) loosened
    (front_next any_padding bytes fits frame refl) in
    (frame, same.0, same.1)

value_fits : (bytes : List ℕ) → AreBytes bytes → AreBytes (frame_value bytes)
value_fits bytes fits i = elim (cases_lt i (frame_length bytes - 4)) [
  | inl lt ↦ rw (
    get_or-take (frame_length bytes - 4) (drop 4 bytes) i 0 lt,
    get_or-drop 4 bytes i
        0,
  ) (fits (4 + i))
  | inr le ↦ rw (get_or_past (frame_value bytes) i 0
      (omega (arith, length-take (frame_length bytes - 4) (drop 4 bytes)))) (omega arith)
]

-- an item that means a tree isn't at fault
front_apart : {T : Type 0} (level : Level T) → Lawful level
    → (i : Item) (t : T) (r bytes : List ℕ) (e : Fault × ℕ) → AreBytes bytes → bytes ≡ item_bytes i ++ r
    → IsNext level.padding i r
    → (level.row i.first i.second).means i.value t → BeginsWithFault level bytes e → ⊥
front_apart level law i t r bytes e fits is p means (no_frame _ h _) =
    h (front_is level.padding i r bytes fits is p).0
front_apart level law i t r bytes e fits is p means (value _ h) =
    let same = (front_is level.padding i r bytes fits is p).1 in
    (law i.first i.second).apart i.value t e (rw same (value_fits bytes fits)) means (rw same h)
front_apart level law i t r bytes e fits is p means (padding _ _ _ h _) =
    let same = (front_is level.padding i r bytes fits is p).1 in
    let refused : level.padding (padding_size (length i.value)) i.padding ≡ false = rw same h in
    let both : true ≡ false = sym p.accepted ∙ refused in absurd cc

rest_fits : (xs ys bytes : List ℕ) → AreBytes bytes → bytes ≡ xs ++ ys → AreBytes ys
rest_fits [] ys bytes fits e = subst AreBytes e fits
rest_fits (x ∷ xs) ys [] fits e = absurd cc
rest_fits (x ∷ xs) ys (b ∷ bytes) fits e = rest_fits xs ys bytes (λ i. fits (suc i)) cc

-- the rest after a first item
pub after : (rule : PaddingRule) (i j : Item) (is js : List Item) (r s : List ℕ)
    → flat_map item_bytes (i ∷ is) ++ r ≡ flat_map item_bytes (j ∷ js) ++ s
    → AreBefore rule (i ∷ is) r → AreBefore rule (j ∷ js) s
    → (i ≡ j) × (flat_map item_bytes is ++ r ≡ flat_map item_bytes js ++ s)
after rule i j is js r s e p q =
    next_one rule i j (flat_map item_bytes is ++ r) (flat_map item_bytes js ++ s)
    (sym (append_assoc (item_bytes i) (flat_map item_bytes is) r) ∙ e ∙ append_assoc (item_bytes j)
    (flat_map item_bytes js) s) p.0 q.0

at_item : (i : Item) (is : List Item) (r : List ℕ) → flat_map item_bytes (i ∷ is) ++ r
    ≡ item_bytes i ++ (flat_map item_bytes is ++ r)
at_item i is r = append_assoc (item_bytes i) (flat_map item_bytes is) r

-- no item at the front means a tree
abbrev EndsAt : {T : Type 0} → Level T → List ℕ → Type 0
EndsAt {T} level rest = (i : Item) (t : T) (r : List ℕ) → rest ≡ item_bytes i ++ r
    → IsNext level.padding i r → (level.row i.first i.second).means i.value t → ⊥

nil_ends : {T : Type 0} (level : Level T) → EndsAt level []
nil_ends level i t r e p m = cc

fault_ends : {T : Type 0} (level : Level T) → Lawful level → (rest : List ℕ) (e : Fault × ℕ)
    → AreBytes rest → BeginsWithFault level rest e → EndsAt level rest
fault_ends level law rest e fits f i t r is p m = front_apart level law i t r rest e fits is p m f

-- the items up to such an end, and what they mean, are the only ones
all_one : {T : Type 0} (level : Level T) → Lawful level → (is js : List Item) (ts us : List T)
    (rest more : List ℕ) → EndsAt level rest → EndsAt level more
    → flat_map item_bytes is ++ rest ≡ flat_map item_bytes js ++ more
    → AreBefore level.padding is rest → AreBefore level.padding js more → ItemsMean level is ts
    → ItemsMean level js us → (is ≡ js) × (ts ≡ us) × (rest ≡ more)
all_one level law [] [] [] [] rest more f g e p q m n = (refl, refl, e)
all_one level law [] [] [] (u ∷ us) rest more f g e p q m n = absurd n
all_one level law [] js (t ∷ ts) us rest more f g e p q m n = absurd m
all_one level law [] (j ∷ js) [] [] rest more f g e p q m n = absurd n
all_one level law [] (j ∷ js) [] (u ∷ us) rest more f g e p q m n =
    absurd (f j u (flat_map item_bytes js ++ more) (e ∙ at_item j js more) q.0 n.0)
all_one level law (i ∷ is) js [] us rest more f g e p q m n = absurd m
all_one level law (i ∷ is) [] (t ∷ ts) us rest more f g e p q m n =
    absurd (g i t (flat_map item_bytes is ++ rest) (sym e ∙ at_item i is rest) p.0 m.0)
all_one level law (i ∷ is) (j ∷ js) (t ∷ ts) [] rest more f g e p q m n = absurd n
all_one level law (i ∷ is) (j ∷ js) (t ∷ ts) (u ∷ us) rest more f g e p q m n =
    let b = after level.padding i j is js rest more e p q in
    let head : t ≡ u = (law i.first i.second).one i.value t u m.0
    (subst (λ (k : Item). (level.row k.first k.second).means k.value u) (sym b.0) n.0) in
    let tail = all_one level law is js ts us rest more f g b.1 p.1 q.1 m.1 n.1 in
    let item : i ≡ j = b.0 in
    let items : is ≡ js = tail.0 in
    let trees : ts ≡ us = tail.1 in ((cc), (cc), tail.2)

one_way : {T : Type 0} (level : Level T) → Lawful level → (bytes : List ℕ) {ts us : List T}
    {rest more : List ℕ} (p : Progress level bytes ts rest) (q : Progress level bytes us more)
    → EndsAt level rest → EndsAt level more → (p.items ≡ q.items) × (ts ≡ us) × (rest ≡ more)
one_way level law bytes {ts} {us} {rest} {more} p q f g = all_one level law p.items q.items ts us
    rest more f g (sym p.split ∙ q.split) p.before q.before p.mean q.mean

of_trees : {T : Type 0} (level : Level T) (bytes : List ℕ) (ts : List T)
    → MeansTrees level bytes ts → Progress level bytes ts []
of_trees level bytes ts m = record {
  items = m.items;
  split = m.are.split ∙ sym (append-nil (flat_map item_bytes m.items));
  before = items_before level.padding m.items m.are.formed;
  mean = m.mean;
  fits = λ i. omega arith;
}

abbrev of_fault : {T : Type 0} (level : Level T) (bytes : List ℕ) (e : Fault × ℕ) → AreBytes bytes
    → (f : HasFault level bytes e) → Progress level bytes f.trees f.rest
of_fault level bytes e fits f = record {
  items = f.items;
  split = f.split;
  before = whole_before level.padding f.items f.rest f.whole;
  mean = f.mean;
  fits = rest_fits (flat_map item_bytes f.items) f.rest bytes fits f.split;
}

pub list_one : {T : Type 0} (level : Level T) → Lawful level → (bytes : List ℕ) (ts us : List T)
    → MeansTrees level bytes ts → MeansTrees level bytes us → ts ≡ us
list_one level law bytes ts us m n = (one_way level law bytes (of_trees level bytes ts m)
    (of_trees level bytes us n) (nil_ends level) (nil_ends level)).1

pub list_apart : {T : Type 0} (level : Level T) → Lawful level
    → (bytes : List ℕ) (ts : List T) (e : Fault × ℕ) → AreBytes bytes → MeansTrees level bytes ts
    → HasFault level bytes e → ⊥
list_apart level law bytes ts e fits m f =
    let p = of_fault level bytes e fits f in
    not_nil level f.rest f.first f.fault
    (sym (one_way level law bytes (of_trees level bytes ts m) p (nil_ends level)
    (fault_ends level law f.rest f.first p.fits f.fault)).2)

-- ---- one fault, at one place

meant : {T : Type 0} (level : Level T) → Lawful level → (rest : List ℕ) (t : T) (e : Fault × ℕ)
    → AreBytes rest → (front_row level rest).means (frame_value rest) t
    → (front_row level rest).faults (frame_value rest) e → ⊥
meant level law rest t e fits m p = (law (get_or rest 0 0) (get_or rest 1 0)).apart
    (frame_value rest) t e (value_fits rest fits) m p

front_same : {T : Type 0} (level : Level T) → Lawful level → (rest : List ℕ) (d e : Fault × ℕ)
    → AreBytes rest → BeginsWithFault level rest d → BeginsWithFault level rest e → d ≡ e
front_same level law rest d e fits (no_frame _ _ p) (no_frame _ _ q) = p ∙ sym q
front_same level law rest d e fits (no_frame _ h _) (value k _) = absurd (h k)
front_same level law rest d e fits (no_frame _ h _) (padding _ k _ _ _) = absurd (h k)
front_same level law rest d e fits (value k _) (no_frame _ h _) = absurd (h k)
front_same level law rest d e fits (value _ p) (value _ q) =
    (law (get_or rest 0 0) (get_or rest 1 0)).same (frame_value rest) d e (value_fits rest fits) p q
front_same level law rest d e fits (value _ p) (padding t _ m _ _) =
    absurd (meant level law rest t d fits m p)
front_same level law rest d e fits (padding _ k _ _ _) (no_frame _ h _) = absurd (h k)
front_same level law rest d e fits (padding t _ m _ _) (value _ p) =
    absurd (meant level law rest t e fits m p)
front_same level law rest d e fits (padding _ _ _ _ p) (padding _ _ _ _ q) = p ∙ sym q

pub list_same : {T : Type 0} (level : Level T) → Lawful level → (bytes : List ℕ) (d e : Fault × ℕ)
    → AreBytes bytes → HasFault level bytes d → HasFault level bytes e → d ≡ e
list_same level law bytes d e fits f g =
    let p = of_fault level bytes d fits f in
    let q = of_fault level bytes e fits g in
    let way = one_way level law bytes p q (fault_ends level law f.rest f.first p.fits f.fault)
    (fault_ends level law g.rest g.first q.fits g.fault) in
    let same = front_same level law f.rest f.first g.first p.fits f.fault
    (subst (λ (r : List ℕ). BeginsWithFault level r g.first) (sym way.2) g.fault) in
    f.place ∙ rw (way.0, same) (sym g.place)

-- ---- each list of bytes has an answer

abbrev pub ListAnswer : {T : Type 0} → Level T → List ℕ → Type 0
ListAnswer {T} level bytes =
    ((ts : List T) × MeansTrees level bytes ts) ⊎ ((e : Fault × ℕ) × HasFault level bytes e)

frame_tells : (bytes : List ℕ) → BeginsWithFrame bytes ⊎ (¬ BeginsWithFrame bytes)
frame_tells bytes = elim (cases_lt (length bytes) 4) [
  | inl short ↦ inr (λ f. (let h : 4 ≤ length bytes = f.header in omega arith))
  | inr header ↦ elim (cases_lt (frame_length bytes) 4) [
    | inl small ↦ inr (λ f. (let h : 4 ≤ frame_length bytes = f.low in omega arith))
    | inr low ↦ elim (cases_lt (length bytes) (frame_length bytes)) [
      | inl big ↦ inr (λ f. (let h : frame_length bytes ≤ length bytes = f.high in omega arith))
      | inr high ↦ inl (record { header = header; low = low; high = high })
    ]
  ]
]

-- the answer for what is shorter than n
abbrev Answered : {T : Type 0} → Level T → List ℕ → ℕ → Type 0
Answered {T} level bytes n = (trees : List T) (rest : List ℕ) → length rest < n
    → Progress level bytes trees rest → ListAnswer level bytes

padded : {T : Type 0} (level : Level T) (n : ℕ) (bytes : List ℕ) (trees : List T) (rest : List ℕ)
    (t : T) → length rest < suc n → Progress level bytes trees rest → BeginsWithFrame rest
    → (front_row level rest).means (frame_value rest) t → (b : Bool)
    → level.padding (padding_size (length (frame_value rest))) (frame_padding rest) ≡ b
    → Answered level bytes n → ListAnswer level bytes
padded level n bytes trees rest t lt p frame m true e go = go (trees ++ t ∷ []) (frame_rest rest)
    (let h = frame.low in let k = frame.header in
    omega (arith, length-drop (round_up_to_4 (frame_length rest)) rest))
    (step level bytes trees rest t p frame m e)
padded level n bytes trees rest t lt p frame m false e go =
    inr (_, fault level bytes trees rest _ _ p refl (padding t frame m e refl))

goes : {T : Type 0} (level : Level T) → Lawful level → (n : ℕ) (bytes : List ℕ)
    → Answered level bytes n
goes level law zero bytes trees rest lt p = absurd (omega arith)
goes level law (suc n) bytes trees [] lt p = inl (trees, finish level bytes trees [] p refl)
goes level law (suc n) bytes trees (b ∷ rest) lt p = elim (frame_tells (b ∷ rest)) [
  | inr none ↦ inr (_, fault level bytes trees (b ∷ rest) _ _ p refl (no_frame (λ c. cc) none refl))
  | inl frame ↦ elim ((law b (get_or rest 0 0)).some (frame_value (b ∷ rest))
      (value_fits (b ∷ rest) p.fits)) [
        | inr f ↦ inr (_, fault level bytes trees (b ∷ rest) f.0 _ p refl (value frame f.1))
        | inl m ↦ padded level n bytes trees (b ∷ rest) m.0 lt p frame m.1
            (level.padding (padding_size (length (frame_value (b ∷ rest))))
            (frame_padding (b ∷ rest)))
            refl (goes level law n bytes)
      ]
]

pub list_some : {T : Type 0} (level : Level T) → Lawful level → (bytes : List ℕ) → AreBytes bytes
    → ListAnswer level bytes
list_some level law bytes fits =
    goes level law (suc (length bytes)) bytes [] bytes (omega arith) (begin level bytes fits)

-- ---- a row whose value ends in a list

drop_fits : (n : ℕ) (v : List ℕ) → AreBytes v → AreBytes (drop n v)
drop_fits n v fits i = rw get_or-drop (fits (n + i))

pub listed_lawful : {T U : Type 0} (rule : List ℕ → Bool) (at : ℕ) (level : Level U)
    (tree_of : List ℕ → List U → T) → Lawful level → LawfulRow (listed rule at level tree_of)
listed_lawful {T} {U} rule at level tree_of law = record {
  one = λ v s t p q. p.1.2 ∙ ap (tree_of v) (list_one level law (drop at v) p.1.0 q.1.0 p.1.1 q.1.1)
      ∙ sym q.1.2;
  apart = λ v t e fits p f. elim f [
    | inl g ↦ (let h : true ≡ false = sym p.0 ∙ g.0 in cc)
    | inr g ↦ list_apart level law (drop at v) p.1.0 g.1.0 (drop_fits at v fits) p.1.1 g.1.1
  ];
  same = same;
  some = λ v fits. answered v fits (rule v) refl;
} where
  same : (v : List ℕ) (d e : Fault × ℕ) → AreBytes v → (listed rule at level tree_of).faults v d
      → (listed rule at level tree_of).faults v e → d ≡ e
  same v d e fits (inl f) (inl g) = f.1 ∙ sym g.1
  same v d e fits (inl f) (inr g) = absurd (let h : false ≡ true = sym f.0 ∙ g.0 in cc)
  same v d e fits (inr f) (inl g) = absurd (let h : true ≡ false = sym f.0 ∙ g.0 in cc)
  same v d e fits (inr f) (inr g) = f.1.2 ∙ ap (λ (x : Fault × ℕ). shifted_by 4 (shifted_by at x))
      (list_same level law (drop at v) f.1.0 g.1.0 (drop_fits at v fits) f.1.1 g.1.1) ∙ sym g.1.2

  answered : (v : List ℕ) → AreBytes v → (b : Bool) → rule v ≡ b
      → ((t : T) × (listed rule at level tree_of).means v t)
      ⊎ ((e : Fault × ℕ) × (listed rule at level tree_of).faults v e)
  answered v fits false h = inr (_, inl (h, refl))
  answered v fits true h = elim (list_some level law (drop at v) (drop_fits at v fits)) [
    | inl m ↦ inl (tree_of v m.0, (h, (m.0, m.1, refl)))
    | inr f ↦ inr (_, inr (h, (f.0, f.1, refl)))
  ]
