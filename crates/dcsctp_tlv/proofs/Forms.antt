-- What is read is well-formed, at every level whose rows read nothing else.
use Rattle.std.{proofs.Common.{◌≡◌, ℕ, Bool, true, false, List, [], ◌∷◌, refl, ◌∙◌}, specs.List.{flat_map, AllByRecursion}}
use Rattle.dcsctp_tlv.specs.{Frame.{Item, item_bytes}, Level.{Row, Level, if_row, ItemsMean, MeansTrees}}

-- each tree that a row means is well-formed
pub record FormsTrees {T : Type 0} (level : Level T) (IsFormed : T → Type 0) : Type 0 where
  pub formed : (first second : ℕ) (value : List ℕ) (t : T) → (level.row first second).means value t
      → IsFormed t

-- ---- rows

-- what holds of the row that is picked: of each, where the test says so
pub picked : {T : Type 0} (Holds : Row T → Type 0) (b : Bool) (row others : Row T)
    → (b ≡ true → Holds row) → (b ≡ false → Holds others) → Holds (if_row b row others)
picked Holds true row others p q = p refl
picked Holds false row others p q = q refl

abbrev pub FormsRow : {T : Type 0} → (T → Type 0) → Row T → Type 0
FormsRow {T} IsFormed row = (value : List ℕ) (t : T) → row.means value t → IsFormed t

-- ---- lists

items_form : {T : Type 0} (level : Level T) (IsFormed : T → Type 0) → FormsTrees level IsFormed
    → (is : List Item) (ts : List T) → ItemsMean level is ts → AllByRecursion IsFormed ts
items_form level IsFormed forms [] [] m = tt
items_form level IsFormed forms (i ∷ is) (t ∷ ts) m =
    (forms.formed i.first i.second i.value t m.0, items_form level IsFormed forms is ts m.1)
items_form level IsFormed forms is ts m = absurd m

pub list_formed : {T : Type 0} (level : Level T) (IsFormed : T → Type 0) → FormsTrees level IsFormed
    → (bytes : List ℕ) (ts : List T) → MeansTrees level bytes ts → AllByRecursion IsFormed ts
list_formed level IsFormed forms bytes ts m = items_form level IsFormed forms m.items ts m.mean

-- ---- no items

no_items : {T : Type 0} (level : Level T) (is : List Item) → ItemsMean level is []
    → flat_map item_bytes is ≡ []
no_items level [] m = refl
no_items level (i ∷ is) m = absurd m

-- no trees are meant by an empty list of bytes, and by no other
pub nil_means : {T : Type 0} (level : Level T) (bytes : List ℕ) → MeansTrees level bytes []
    → bytes ≡ []
nil_means level bytes m = m.are.split ∙ no_items level m.items m.mean

no_trees : {T : Type 0} (level : Level T) (is : List Item) (ts : List T)
    → [] ≡ flat_map item_bytes is → ItemsMean level is ts → ts ≡ []
no_trees level [] [] e m = refl
no_trees level [] (t ∷ ts) e m = absurd m
no_trees level (i ∷ is) ts e m = absurd cc

-- an empty list of bytes means no trees, and nothing else
pub means_nil : {T : Type 0} (level : Level T) (ts : List T) → MeansTrees level [] ts → ts ≡ []
means_nil level ts m = no_trees level m.items ts m.are.split m.mean
