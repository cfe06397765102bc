-- The bound on how many trees bytes can mean: each takes four bytes at least.
use Rattle.std.{proofs.Common.{◌≡◌, ℕ, ◌+◌, ◌*◌, ◌≤◌, List, [], ◌∷◌, length, refl, sym, ap, subst, arith, length-append}, specs.List.{flat_map}}
use Rattle.dcsctp_tlv.{specs.Frame.{Item, item_bytes}, specs.Level.{Level, ItemsMean, MeansTrees}, specs.Count.{total}, proofs.Accounts.{length-item}}

-- each item has four bytes, without its padding, for each tree in what it means
pub record Counts {T : Type 0} (level : Level T) (count : T → ℕ) : Type 0 where
  pub bound : (i : Item) (t : T) → (level.row i.first i.second).means i.value t
      → 4 * count t ≤ 4 + length i.value

-- one tree for each item
pub one_each : {T : Type 0} (level : Level T) → Counts level (λ t. 1)
one_each level = record { bound = λ i t m. omega arith }

items_count : {T : Type 0} (level : Level T) (count : T → ℕ) → Counts level count
    → (is : List Item) (ts : List T) → ItemsMean level is ts
    → 4 * total count ts ≤ length (flat_map item_bytes is)
items_count level count law [] [] m = omega arith
items_count level count law (i ∷ is) (t ∷ ts) m =
    let whole = length-append (item_bytes i) (flat_map item_bytes is) in
    let item = length-item i in
    let here = law.bound i t m.0 in
    let rest = items_count level count law is ts m.1 in
    omega (arith, here, rest, whole, item)
items_count level count law is ts m = absurd m

pub list_count : {T : Type 0} (level : Level T) (count : T → ℕ) → Counts level count
    → (bytes : List ℕ) (ts : List T) → MeansTrees level bytes ts → 4 * total count ts ≤ length bytes
list_count level count law bytes ts m = subst (λ (n : ℕ). 4 * total count ts ≤ n)
    (ap length (sym m.are.split)) (items_count level count law m.items ts m.mean)

-- as many as the list is long, where each counts as one
pub total-one : {T : Type 0} (ts : List T) → total (λ (t : T). 1) ts ≡ length ts
total-one [] = refl
total-one (t ∷ ts) = let rest = total-one ts in omega (arith, rest)
