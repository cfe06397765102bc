-- The item at the front of bytes that mean trees, at every level.
use Rattle.std.{proofs.Common.{◌≡◌, ◌≢◌, ◌≤◌, ◌+◌, ℕ, List, [], ◌∷◌, length, refl, sym, subst, ◌∙◌, arith}, specs.List.{slice_index}, specs.Int.{w16, from_be_bytes}}
use Rattle.dcsctp_tlv.{specs.Number.{AreBytes, number16}, specs.Frame.{Item, BeginsWithFrame, frame_value, frame_rest}, specs.Level.{Row, Level, ItemsMean, MeansTrees, MeansSome, front_row}, proofs.Items.{front_length}, proofs.Checks.{first_item, first_tree, frame_shrinks, rest_bytes, no_trees}}
use Rattle.dcsctp_borrowed.specs.Front.{MeansFirst, IsFront, IsAtEnd}

-- ---- what the front means

-- the first of the trees; and the others, what follows it
pub front_means : {T : Type 0} (level : Level T) (bytes : List ℕ) (t : T) (ts : List T)
    → AreBytes bytes → bytes ≢ [] → MeansTrees level bytes (t ∷ ts)
    → (front_row level bytes).means (frame_value bytes) t × MeansTrees level (frame_rest bytes) ts
front_means level bytes t ts fits some m =
    let f = first_item level.padding bytes m.items fits some m.are in
    let mean = subst (λ (is : List Item). ItemsMean level is (t ∷ ts)) f.split m.mean in
    (mean.0, record { items = f.others; are = f.are; mean = mean.1 })

-- bytes that are there mean a tree at least
pub means_none : {T : Type 0} (level : Level T) (bytes : List ℕ) → AreBytes bytes → bytes ≢ []
    → MeansTrees level bytes [] → ⊥
means_none level bytes fits some m = let f = first_tree level bytes [] fits some m in let none =
    f.count in omega (arith, none)

-- and none mean none
pub none_left : {T : Type 0} (level : Level T) (bytes : List ℕ) → bytes ≡ [] → (all : List T)
    → MeansTrees level bytes all → all ≡ []
none_left level bytes none all m = is_empty all (no_trees level bytes all none m) where
  is_empty : {T : Type 0} (all : List T) → length all ≡ 0 → all ≡ []
  is_empty [] e = refl
  is_empty (t ∷ ts) e = absurd (omega (arith, e))

-- ---- what is known there

pub record Front {T : Type 0} (level : Level T) (bytes : List ℕ) : Type 0 where
  pub frame : BeginsWithFrame bytes
  pub size : 4 ≤ length bytes
  pub left : MeansSome level (frame_rest bytes) × AreBytes (frame_rest bytes)
  pub smaller : 4 + length (frame_value bytes) + length (frame_rest bytes) ≤ length bytes

pub front : {T : Type 0} (level : Level T) (bytes : List ℕ) → MeansSome level bytes × AreBytes bytes
    → bytes ≢ [] → Front level bytes
front level bytes known some =
    let fits = known.1 in
    let f = first_tree level bytes known.0.0 fits some known.0.1 in
    let shrinks = frame_shrinks bytes f.frame in
    let len = front_length bytes f.frame in
    record {
      frame = f.frame;
      size = f.frame.header;
      left = ((f.others, f.mean), rest_bytes bytes fits);
      smaller = omega (arith, shrinks, len);
    }

-- ---- the next item

-- a row that means what the front's does
pub is_front : {T : Type 0} (level : Level T) (row : Row T) (bytes value left : List ℕ)
    → ((t : T) → (front_row level bytes).means (frame_value bytes) t
    → row.means (frame_value bytes) t)
    → value ≡ frame_value bytes → left ≡ frame_rest bytes → MeansSome level bytes × AreBytes bytes
    → bytes ≢ [] → IsFront level bytes row value left
is_front {T} level row bytes value left same value_e left_e known some =
    let f = front level bytes known some in
    record {
      frame = f.frame;
      value_is = value_e;
      rest = left_e;
      size = rw (value_e, left_e) f.smaller;
      means = first;
    } where
      first : (all : List T) → MeansTrees level bytes all → MeansFirst level row value left all
      first [] m = absurd (means_none level bytes known.1 some m)
      first (t ∷ ts) m =
          let here = front_means level bytes t ts known.1 some m in
          record {
            first = t;
            others = ts;
            split = refl;
            means = subst (λ (v : List ℕ). row.means v t) (sym value_e) (same t here.0);
            mean = subst (λ (l : List ℕ). MeansTrees level l ts) (sym left_e) here.1;
          }

pub at_end : {T : Type 0} (level : Level T) (bytes : List ℕ) → bytes ≡ []
    → IsAtEnd level bytes bytes
at_end level bytes none = record { none = none; stays = none; means = none_left level bytes none }

-- ---- the next parameter or cause

-- the type at the front is the number of the first two bytes
typ_is : (bytes : List ℕ) → 4 ≤ length bytes
    → number16 bytes ≡ from_be_bytes w16 (slice_index bytes 0 ∷ slice_index bytes 1 ∷ [])
typ_is [] size = absurd (omega (arith, size))
typ_is (a ∷ []) size = absurd (omega (arith, size))
typ_is (a ∷ b ∷ more) size = refl

-- a level whose row is that of the number
abbrev pub IsTyped : {T : Type 0} → Level T → (ℕ → Row T) → Type 0
IsTyped {T} level row = (a b : ℕ) (value : List ℕ) (t : T) → (level.row a b).means value t
    → (row (from_be_bytes w16 (a ∷ b ∷ []))).means value t

pub typed_front : {T : Type 0} (level : Level T) (row : ℕ → Row T) → IsTyped level row
    → (bytes : List ℕ) (typ : ℕ) (value left : List ℕ) → typ ≡ number16 bytes
    → value ≡ frame_value bytes → left ≡ frame_rest bytes
    → MeansSome level bytes × AreBytes bytes → bytes ≢ [] → IsFront level bytes (row typ) value left
typed_front level row typed bytes typ value left typ_e value_e left_e known some =
    let same : from_be_bytes w16 (slice_index bytes 0 ∷ slice_index bytes 1 ∷ []) ≡ typ =
    sym (typ_e ∙ typ_is bytes (front level bytes known some).size) in
    is_front level (row typ) bytes value left
    (λ t m. subst (λ (n : ℕ). (row n).means (frame_value bytes) t) same (typed (slice_index bytes 0)
    (slice_index bytes 1) (frame_value bytes) t m))
    value_e left_e known some
