-- Levels: what the items of a list mean. Chunks are one level, parameters another, causes a third
-- (RFC 9260 sections 3.2, 3.2.1 and 3.3.10).
--
-- A level is a table with a row for each kind of item, and a rule for the padding. From these
-- follow, for every level alike: which trees a list of bytes means, and which fault it has, and
-- where.
use Rattle.std.specs.{Prelude.{◌≡◌, ◌≢◌, ℕ, ◌+◌, Bool, true, false, List, [], ◌∷◌, ◌++◌, Result, Ok, Err, ◌⊎◌, slice_index, length, drop}, List.{flat_map, AllByRecursion}}
use Rattle.dcsctp_tlv.specs.{Fault.{Fault, Length, Padding}, Frame.{Item, item_bytes, PaddingRule, IsWhole, AreItems, BeginsWithFrame, frame_length, frame_value, frame_padding, padding_size, first_nonzero}}

-- ---- rows

-- A row of a table: which tree a value means; which fault it has, and the fault's offset from the
-- item's first byte.
pub record Row (T : Type 0) : Type 1 where
  pub means : List ℕ → T → Type 0
  pub faults : List ℕ → Fault × ℕ → Type 0

-- a kind whose value is read at fixed places; its fault is the item's as a whole
abbrev pub plain : {T : Type 0} → (List ℕ → Result T Fault) → Row T
plain read = record {
  means = λ value tree. read value ≡ Ok tree;
  faults = λ value f. (read value ≡ Err f.0) × (f.1 ≡ 0);
}

-- the tree of a kind, as a tree of its level
abbrev pub map_ok : {A B E : Type 0} → (A → B) → Result A E → Result B E
map_ok f (Ok x) = Ok (f x)
map_ok f (Err e) = Err e

-- the first row where the test holds, else the others
abbrev pub if_row : {T : Type 0} → Bool → Row T → Row T → Row T
if_row true row others = row
if_row false row others = others

-- a kind's row, where its trees are trees of the level
abbrev pub as_row : {A B : Type 0} → (A → B) → Row A → Row B
as_row f row = record {
  means = λ value tree. (x : _) × row.means value x × (tree ≡ f x);
  faults = row.faults;
}

-- the value means some tree
abbrev pub HasMeaning : {T : Type 0} → Row T → List ℕ → Type 0
HasMeaning row value = (tree : _) × row.means value tree

-- one item more, which the value means, and which has no memory to spare
pub record Appends {X T : Type 0} (view : X → T) (IsTight : X → Type 0) (row : Row T)
    (value : List ℕ) (old new : List X) : Type 0 where
  pub last : X
  pub items : new ≡ old ++ last ∷ []
  pub means : row.means value (view last)
  pub tight : IsTight last

-- ---- levels

pub record Level (T : Type 0) : Type 1 where
  -- the row for an item's first two bytes
  pub row : ℕ → ℕ → Row T
  pub padding : PaddingRule

-- the items mean the trees, one for one
abbrev pub ItemsMean : {T : Type 0} → Level T → List Item → List T → Type 0
ItemsMean level [] [] = Unit {0}
ItemsMean level (i ∷ is) (t ∷ ts) =
    (level.row i.first i.second).means i.value t × ItemsMean level is ts
ItemsMean level [] (t ∷ ts) = ⊥
ItemsMean level (i ∷ is) [] = ⊥

-- all the bytes are items, and these mean the trees
pub record MeansTrees {T : Type 0} (level : Level T) (bytes : List ℕ)
    (trees : List T) : Type 0 where
  pub items : List Item
  pub are : AreItems level.padding bytes items
  pub mean : ItemsMean level items trees

-- all the bytes mean some trees
abbrev pub MeansSome : {T : Type 0} → Level T → List ℕ → Type 0
MeansSome level bytes = (trees : List _) × MeansTrees level bytes trees

-- all the bytes mean `n` trees
abbrev pub MeansMany : {T : Type 0} → Level T → List ℕ → ℕ → Type 0
MeansMany level bytes n = (trees : List _) × MeansTrees level bytes trees × (n ≡ length trees)

-- the row for the item at the front
abbrev pub front_row : {T : Type 0} → Level T → List ℕ → Row T
front_row level bytes = level.row (slice_index bytes 0) (slice_index bytes 1)

-- What is wrong at the front: there is no frame; or its value is at fault; or its value means a
-- tree and its padding isn't accepted, which lies at the first byte that isn't zero, or else at the
-- first that is missing.
pub data BeginsWithFault {T : Type 0} (level : Level T) (rest : List ℕ)
    (f : Fault × ℕ) : Type 0 where
  no_frame : rest ≢ [] → ¬ BeginsWithFrame rest → f ≡ (Length, 0) → BeginsWithFault level rest f
  value : BeginsWithFrame rest → (front_row level rest).faults (frame_value rest) f
      → BeginsWithFault level rest f
  padding : (tree : T) → BeginsWithFrame rest → (front_row level rest).means (frame_value rest) tree
      → level.padding (padding_size (length (frame_value rest))) (frame_padding rest) ≡ false
      → f ≡ (Padding, frame_length rest + first_nonzero (frame_padding rest))
      → BeginsWithFault level rest f

-- the same fault, n bytes further on
abbrev pub shifted_by : ℕ → Fault × ℕ → Fault × ℕ
shifted_by n f = (f.0, n + f.1)

-- whole items that each mean a tree, and after them the first fault
pub record HasFault {T : Type 0} (level : Level T) (bytes : List ℕ) (f : Fault × ℕ) : Type 0 where
  pub items : List Item
  pub trees : List T
  pub rest : List ℕ
  pub split : bytes ≡ flat_map item_bytes items ++ rest
  pub whole : AllByRecursion (IsWhole level.padding) items
  pub mean : ItemsMean level items trees
  pub first : Fault × ℕ
  pub fault : BeginsWithFault level rest first
  pub place : f ≡ shifted_by (length (flat_map item_bytes items)) first

-- ---- a kind with a list of another level in its value

-- A fault of the list, after the item's header and the bytes before the list.
abbrev pub HasListFault : {T : Type 0} → Level T → ℕ → List ℕ → Fault × ℕ → Type 0
HasListFault level place bytes f = (first : Fault × ℕ) × HasFault level (drop place bytes) first
    × (f ≡ shifted_by 4 (shifted_by place first))

-- A value that follows a rule, and after its first bytes is a list. The rule comes first.
abbrev pub listed : {T U : Type 0} → (List ℕ → Bool) → ℕ → Level U → (List ℕ → List U → T) → Row T
listed rule place level tree_of = record {
  means = λ value tree. (rule value ≡ true)
      × ((trees : List _) × MeansTrees level (drop place value) trees
      × (tree ≡ tree_of value trees));
  faults = λ value f. ((rule value ≡ false) × (f ≡ (Length, 0)))
      ⊎ ((rule value ≡ true) × HasListFault level place value f);
}
