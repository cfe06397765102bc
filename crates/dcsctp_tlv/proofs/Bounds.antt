-- The bound on what the trees of a list are written in: at most six times the bytes that mean them,
-- where it holds of each item; some more where the last item lacks its padding.
use Rattle.std.{proofs.Common.{◌≡◌, ℕ, ◌+◌, ◌*◌, ◌≤◌, List, [], ◌∷◌, ◌++◌, length, sym, ap, subst, ◌∙◌, arith, append-nil, length-append}, specs.List.{flat_map}}
use Rattle.dcsctp_tlv.{specs.Count.{total}, specs.Frame.{Item, item_bytes, AreFormed, round_up_to_4}, specs.Image.{Tlv, size_of, list_size}, specs.Level.{Level, ItemsMean, MeansTrees}, proofs.Accounts.{length-item}}

-- an item as it is written, with its padding
abbrev pub padded_by : {T : Type 0} → (T → Tlv) → T → ℕ
padded_by tlv t = round_up_to_4 (size_of (tlv t))

-- a list takes no more than its items with their padding
pub list_fits : {T : Type 0} (tlv : T → Tlv) (ts : List T)
    → list_size tlv ts ≤ total (padded_by tlv) ts
list_fits tlv [] = omega arith
list_fits tlv (t ∷ []) = omega arith
list_fits tlv (t ∷ u ∷ ts) = let rest = list_fits tlv (u ∷ ts) in omega (arith, rest)

-- ---- what the bytes of each item are written in

pub record Bounds {T : Type 0} (level : Level T) (tlv : T → Tlv) (more : ℕ) : Type 0 where
  pub padded : (i : Item) (t : T) → (level.row i.first i.second).means i.value t
      → padded_by tlv t ≤ 6 * round_up_to_4 (4 + length i.value)
  pub alone : (i : Item) (t : T) → (level.row i.first i.second).means i.value t
      → padded_by tlv t ≤ 6 * (4 + length i.value) + more

items_bound : {T : Type 0} (level : Level T) (tlv : T → Tlv) (more : ℕ) → Bounds level tlv more
    → (is : List Item) (ts : List T) → AreFormed level.padding is → ItemsMean level is ts
    → total (padded_by tlv) ts ≤ 6 * length (flat_map item_bytes is) + more
items_bound level tlv more law [] [] p m = omega arith
items_bound level tlv more law (i ∷ []) (t ∷ []) p m =
    let e : length (item_bytes i ++ []) ≡ 4 + (length i.value + length i.padding) =
    ap length (append-nil (item_bytes i)) ∙ length-item i in
    omega (arith, law.alone i t m.0, e)
items_bound level tlv more law (i ∷ []) (t ∷ u ∷ ts) p m = absurd m.1
items_bound level tlv more law (i ∷ j ∷ is) (t ∷ []) p m = absurd m.1
items_bound level tlv more law (i ∷ j ∷ is) (t ∷ u ∷ ts) p m =
    let rest = flat_map item_bytes (j ∷ is) in
    let e = length-append (item_bytes i) rest ∙ ap (λ (n : ℕ). n + length rest) (length-item i) in
    let others = items_bound level tlv more law (j ∷ is) (u ∷ ts) p.1 m.1 in
    omega (arith, law.padded i t m.0, p.0.padded, others, e)
items_bound level tlv more law is ts p m = absurd m

pub list_bound : {T : Type 0} (level : Level T) (tlv : T → Tlv) (more : ℕ) → Bounds level tlv more
    → (bytes : List ℕ) (ts : List T) → MeansTrees level bytes ts
    → total (padded_by tlv) ts ≤ 6 * length bytes + more
list_bound level tlv more law bytes ts m =
    subst (λ (n : ℕ). total (padded_by tlv) ts ≤ 6 * n + more) (ap length (sym m.are.split))
    (items_bound level tlv more law m.items ts m.are.formed m.mean)
