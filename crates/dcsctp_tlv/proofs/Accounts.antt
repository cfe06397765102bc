-- The size account: what was read is written in no more bytes than it was read from, and these fill
-- the same words.
use Rattle.std.{proofs.Common.{◌≡◌, ℕ, ◌+◌, ◌≤◌, List, [], ◌∷◌, ◌++◌, length, refl, sym, ap, subst, ◌∙◌, arith, Result, Ok, append-nil, length-append}, specs.List.{flat_map, AllByRecursion}}
use Rattle.dcsctp_tlv.{specs.Fault.{Fault}, specs.Frame.{round_up_to_4, padding_size, Item, item_bytes, AreFormed}, specs.Level.{Level, map_ok, ItemsMean, MeansTrees}, specs.Image.{Tlv, size_of, list_size}, proofs.KindLaws.{of_map_ok}}

-- what is written takes no more than what was read, and as much where both are rounded up
pub record SameSpace (written read : ℕ) : Type 0 where
  pub at_most : written ≤ read
  pub up : round_up_to_4 written ≡ round_up_to_4 read

-- each tree that a kept item means takes the space of the item, without its padding
pub record Accounts {T : Type 0} (level : Level T) (tlv : T → Tlv) (IsKept : Item
    → Type 0) : Type 0 where
  pub sized : (i : Item) (t : T) → IsKept i → (level.row i.first i.second).means i.value t
      → SameSpace (size_of (tlv t)) (4 + length i.value)

-- two sizes that are one
pub same_size : (m n : ℕ) → m ≡ n → SameSpace m n
same_size m n e = record { at_most = omega (arith, e); up = ap round_up_to_4 e }

-- ---- rows

-- a value that is read at fixed places, and whose tree keeps the size
pub plain_account : {X T : Type 0} (read : List ℕ → Result X Fault) (tree : X → T) (tlv : T → Tlv)
    (value : List ℕ) (t : T)
    → ((x : X) → read value ≡ Ok x → size_of (tlv (tree x)) ≡ 4 + length value)
    → map_ok tree (read value) ≡ Ok t → SameSpace (size_of (tlv t)) (4 + length value)
plain_account read tree tlv value t law e =
    let x = of_map_ok tree (read value) t e in
    same_size _ _ (ap (λ (u : _). size_of (tlv u)) x.1.1 ∙ law x.0 x.1.0)

-- ---- lists

pub length-item : (i : Item) → length (item_bytes i) ≡ 4 + (length i.value + length i.padding)
length-item i = let l = length-append i.value i.padding in omega (arith, l)

-- an item before others
before_others : (w n p v r : ℕ) → SameSpace w (4 + n) → p ≡ padding_size n → SameSpace v r
    → SameSpace (round_up_to_4 w + v) (4 + (n + p) + r)
before_others w n p v r here e rest =
    record { at_most = omega (arith, here.up, rest.at_most); up = omega (arith, here.up, rest.up) }

-- the last item
last_item : (w n p : ℕ) → SameSpace w (4 + n) → p ≤ padding_size n → SameSpace w (4 + (n + p))
last_item w n p here le =
    record { at_most = omega (arith, here.at_most); up = omega (arith, here.up) }

items_account : {T : Type 0} (level : Level T) (tlv : T → Tlv) (IsKept : Item → Type 0)
    → Accounts level tlv IsKept → (is : List Item) (ts : List T)
    → AreFormed level.padding is → ItemsMean level is ts → AllByRecursion IsKept is
    → SameSpace (list_size tlv ts) (length (flat_map item_bytes is))
items_account level tlv IsKept law [] [] p m k = same_size 0 0 refl
items_account level tlv IsKept law (i ∷ []) (t ∷ []) p m k =
    let e : length (item_bytes i ++ []) ≡ 4 + (length i.value + length i.padding) =
    ap length (append-nil (item_bytes i)) ∙ length-item i in
    subst (SameSpace (size_of (tlv t))) (sym e) (last_item (size_of (tlv t)) (length i.value)
    (length i.padding) (law.sized i t k.0 m.0) p.padded)
items_account level tlv IsKept law (i ∷ []) (t ∷ u ∷ ts) p m k = absurd m.1
items_account level tlv IsKept law (i ∷ j ∷ is) (t ∷ []) p m k = absurd m.1
items_account level tlv IsKept law (i ∷ j ∷ is) (t ∷ u ∷ ts) p m k =
    let rest = flat_map item_bytes (j ∷ is) in
    let e : length (item_bytes i ++ rest) ≡ 4 + (length i.value + length i.padding) + length rest =
    length-append (item_bytes i) rest ∙ ap (λ (n : ℕ). n + length rest) (length-item i) in
    subst (SameSpace (list_size tlv (t ∷ u ∷ ts))) (sym e)
    (before_others (size_of (tlv t)) (length i.value) (length i.padding) (list_size tlv (u ∷ ts))
    (length rest) (law.sized i t k.0 m.0) p.0.padded (items_account level tlv IsKept law
    (j ∷ is) (u ∷ ts) p.1 m.1 k.1))
items_account level tlv IsKept law is ts p m k = absurd m

pub list_account : {T : Type 0} (level : Level T) (tlv : T → Tlv) (IsKept : Item → Type 0)
    → Accounts level tlv IsKept → (bytes : List ℕ) (ts : List T) (m : MeansTrees level bytes ts)
    → AllByRecursion IsKept m.items → SameSpace (list_size tlv ts) (length bytes)
list_account level tlv IsKept law bytes ts m k =
    subst (SameSpace (list_size tlv ts)) (ap length (sym m.are.split))
    (items_account level tlv IsKept law m.items ts m.are.formed m.mean k)

-- items are kept whose trees say so
pub items_kept : {T : Type 0} (level : Level T) (IsOwn : T → Type 0) (IsKept : Item → Type 0)
    → ((i : Item) (t : T) → (level.row i.first i.second).means i.value t → IsOwn t → IsKept i)
    → (is : List Item) (ts : List T) → ItemsMean level is ts → AllByRecursion IsOwn ts
    → AllByRecursion IsKept is
items_kept level IsOwn IsKept law [] [] m own = tt
items_kept level IsOwn IsKept law (i ∷ is) (t ∷ ts) m own =
    (law i t m.0 own.0, items_kept level IsOwn IsKept law is ts m.1 own.1)
items_kept level IsOwn IsKept law is ts m own = absurd m

-- the same where every item is kept
pub all_account : {T : Type 0} (level : Level T) (tlv : T → Tlv)
    → Accounts level tlv (λ i. Unit {0}) → (bytes : List ℕ) (ts : List T)
    → MeansTrees level bytes ts → SameSpace (list_size tlv ts) (length bytes)
all_account level tlv law bytes ts m =
    list_account level tlv (λ i. Unit {0}) law bytes ts m (all m.items) where
      all : (is : List Item) → AllByRecursion (λ i. Unit {0}) is
      all [] = tt
      all (i ∷ is) = (tt, all is)
