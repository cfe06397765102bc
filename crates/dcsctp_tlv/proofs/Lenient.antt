-- What is accepted by a strict reader is accepted by a lenient one, with the same trees.
use Rattle.std.proofs.Common.{◌≡◌, ℕ, Bool, true, List, [], ◌∷◌}
use Rattle.dcsctp_tlv.specs.{Frame.{Item, IsWhole, IsLastForm, AreFormed}, Level.{Row, listed, Level, ItemsMean, MeansTrees}}

-- what one row means, the other means too
abbrev pub LoosensRow : {T : Type 0} → Row T → Row T → Type 0
LoosensRow {T} row loose = (value : List ℕ) (t : T) → row.means value t → loose.means value t

-- the other level's rows mean no less, and it accepts any padding
pub record Loosens {T : Type 0} (level loose : Level T) : Type 0 where
  pub row : (first second : ℕ) → LoosensRow (level.row first second) (loose.row first second)
  pub any : (size : ℕ) (there : List ℕ) → loose.padding size there ≡ true

-- ---- lists

module _ {T : Type 0} (level loose : Level T) (law : Loosens level loose) where
  whole : (i : Item) → IsWhole level.padding i → IsWhole loose.padding i
  whole i p = record { fits = p.fits; padded = p.padded; accepted = law.any _ _ }

  last : (i : Item) → IsLastForm level.padding i → IsLastForm loose.padding i
  last i p = record { fits = p.fits; padded = p.padded; accepted = law.any _ _ }

  formed : (is : List Item) → AreFormed level.padding is → AreFormed loose.padding is
  formed [] p = tt
  formed (i ∷ []) p = last i p
  formed (i ∷ j ∷ is) p = (whole i p.0, formed (j ∷ is) p.1)

  mean : (is : List Item) (ts : List T) → ItemsMean level is ts → ItemsMean loose is ts
  mean [] [] m = tt
  mean (i ∷ is) (t ∷ ts) m = (law.row i.first i.second i.value t m.0, mean is ts m.1)
  mean is ts m = absurd m

  pub list_looser : (bytes : List ℕ) (ts : List T) → MeansTrees level bytes ts
      → MeansTrees loose bytes ts
  list_looser bytes ts m = record {
    items = m.items;
    are = record {
      split = m.are.split;
      formed = formed m.items m.are.formed;
    };
    mean = mean m.items ts m.mean;
  }

pub listed_looser : {T U : Type 0} (rule : List ℕ → Bool) (place : ℕ) (level loose : Level U)
    (tree_of : List ℕ → List U → T) → Loosens level loose
    → LoosensRow (listed rule place level tree_of) (listed rule place loose tree_of)
listed_looser rule place level loose tree_of law value t m =
    (m.0, (m.1.0, list_looser level loose law _ m.1.0 m.1.1, m.1.2))
