-- What is written reads back, at every level whose kinds do; and what was read has the size of its
-- bytes.
use Rattle.std.{proofs.Common.{◌≡◌, ℕ, suc, zero, ◌^◌, ◌<◌, Bool, true, false, List, [], ◌∷◌, ◌++◌, length, refl, sym, ap, ◌∙◌, append_assoc, arith, Option, replicate, unwrap_or, eq-eqb, append-nil}, specs.List.{flat_map, AllByRecursion}, proofs.lemmas.List.{length-replicate, length-map}}
use Rattle.dcsctp_tlv.{specs.Frame.{padding_size, Item, item_bytes, PaddingRule, are_zeros, zero_padding, full_padding, IsWhole, AreFormed}, specs.Level.{Level, ItemsMean, MeansTrees}, specs.Image.{solid, holes, zeroed, gap, Tlv, size_of, IsEncodable, image_of, list_image, list_size}, proofs.Items.{before_end, whole_before}, proofs.Images.{zeroed-append, zeroed-holes}}

-- Which trees of a level read back: what each is written as means it.
pub record ReadsBack {T : Type 0} (level : Level T) (tlv : T → Tlv) (IsGood : T
    → Type 0) : Type 0 where
  pub sized : (t : T) → length (tlv t).value ≡ (tlv t).value_size
  pub fits : (t : T) → IsGood t → size_of (tlv t) < 2 ^ 16
  pub means : (t : T) → IsGood t → (level.row (tlv t).first (tlv t).second).means
      (zeroed (tlv t).value) t

-- padding of zeros is accepted; none may be wanted of the last item
abbrev pub AcceptsZeros : PaddingRule → Type 0
AcceptsZeros rule = (n : ℕ) → rule n (replicate n 0) ≡ true

abbrev pub AcceptsNone : PaddingRule → Type 0
AcceptsNone rule = (n : ℕ) → rule n [] ≡ true

zeros_are : (n : ℕ) → are_zeros (replicate n 0) ≡ true
zeros_are zero = refl
zeros_are (suc n) = zeros_are n

-- what is written is accepted by strict readers and lenient ones
pub zeros_accepted : (strict : Bool) → AcceptsZeros (zero_padding strict)
zeros_accepted true n = zeros_are n
zeros_accepted false n = refl

pub none_accepted : (strict : Bool) → AcceptsNone (zero_padding strict)
none_accepted true n = refl
none_accepted false n = refl

pub full_zeros_accepted : (strict : Bool) → AcceptsZeros (full_padding strict)
full_zeros_accepted true n = rw (length-replicate {A = ℕ} n 0, eq-eqb n n refl, zeros_are n) refl
full_zeros_accepted false n = refl

pub zeroed-solid : (bytes : List ℕ) → zeroed (solid bytes) ≡ bytes
zeroed-solid [] = refl
zeroed-solid (b ∷ bytes) = ap (λ (xs : List ℕ). b ∷ xs) (zeroed-solid bytes)

length-zeroed : (image : List (Option ℕ)) → length (zeroed image) ≡ length image
length-zeroed image = length-map image (λ cell. unwrap_or cell 0)

-- each item of a list that two bytes can hold the size of can be written
pub each_encodable : {T : Type 0} (tlv : T → Tlv) (ts : List T) → list_size tlv ts < 2 ^ 16
    → AllByRecursion (λ t. IsEncodable (tlv t)) ts
each_encodable tlv [] fits = tt
each_encodable tlv (t ∷ []) fits = (fits, tt)
each_encodable tlv (t ∷ u ∷ ts) fits =
    (omega (arith, fits), each_encodable tlv (u ∷ ts) (omega (arith, fits)))

-- ---- one item

-- the item that a tree is written as, with `n` bytes of padding
abbrev pub item_of : Tlv → ℕ → Item
item_of t n =
    record { first = t.first; second = t.second; value = zeroed t.value; padding = replicate n 0 }

-- an image over zeros, and some zeros, are that item
item_bytes_of : (t : Tlv) (n : ℕ) → length t.value ≡ t.value_size
    → zeroed (image_of t) ++ replicate n 0 ≡ item_bytes (item_of t n)
unfolding image_of
item_bytes_of t n sized =
    rw (length-zeroed t.value, sized) refl

whole_item : (rule : PaddingRule) (t : Tlv) → length t.value ≡ t.value_size → size_of t < 2 ^ 16
    → AcceptsZeros rule → IsWhole rule (item_of t (gap (size_of t)))
whole_item rule t sized fits accepts =
    let same = length-zeroed t.value in
    record {
      fits = omega (arith, same, sized, fits);
      padded = length-replicate (gap (size_of t)) 0 ∙ omega (arith, same, sized);
      accepted = (let same_padding : padding_size (length (zeroed t.value))
          ≡ gap (size_of t) =
          omega (arith, same, sized) in rw same_padding (accepts (gap (size_of t))));
    }

-- ---- a nested list: its last item has no padding

module _ {T : Type 0} (level : Level T) (tlv : T → Tlv) (IsGood : T
    → Type 0) (back : ReadsBack level tlv IsGood) where
  abbrev nested_padding : List T → ℕ → ℕ
  nested_padding [] n = 0
  nested_padding (u ∷ ts) n = n

  abbrev nested_items : List T → List Item
  nested_items [] = []
  nested_items (t ∷ ts) =
      item_of (tlv t) (nested_padding ts (gap (size_of (tlv t)))) ∷ nested_items ts

  nested_split : (ts : List T) → zeroed (list_image tlv ts) ≡ flat_map item_bytes (nested_items ts)
  nested_split [] = refl
  nested_split (t ∷ []) = sym (append-nil (zeroed (image_of (tlv t)))) ∙ item_bytes_of (tlv t) 0
      (back.sized t) ∙ sym (append-nil (item_bytes (item_of (tlv t) 0)))
  nested_split (t ∷ u ∷ ts) =
      let g = gap (size_of (tlv t)) in
      let l = list_image tlv (u ∷ ts) in
      rw (
        zeroed-append (image_of (tlv t)) (holes g ++ l),
        zeroed-append (holes g) l,
        zeroed-holes g,
        ← append_assoc (zeroed (image_of (tlv t))) (replicate g 0) (zeroed l),
        item_bytes_of (tlv t) g (back.sized t),
        nested_split (u ∷ ts),
      ) refl

  nested_formed : (ts : List T) → AllByRecursion IsGood ts → AcceptsZeros level.padding
      → AcceptsNone level.padding → AreFormed level.padding (nested_items ts)
  nested_formed [] good zeros none = tt
  nested_formed (t ∷ []) good zeros none = record {
    fits = omega (arith, back.fits t good.0, back.sized t, length-zeroed (tlv t).value);
    padded = omega arith;
    accepted = none (padding_size (length (zeroed (tlv t).value)));
  }
  nested_formed (t ∷ u ∷ ts) good zeros none = (
    whole_item level.padding (tlv t) (back.sized t)
        (back.fits t good.0) zeros,
    nested_formed (u ∷ ts) good.1 zeros none,
  )

  nested_mean : (ts : List T) → AllByRecursion IsGood ts → ItemsMean level (nested_items ts) ts
  nested_mean [] good = tt
  nested_mean (t ∷ ts) good = (back.means t good.0, nested_mean ts good.1)

  -- the image of a list, over zeros, means the list
  pub nested_reads_back : (ts : List T) → AllByRecursion IsGood ts → AcceptsZeros level.padding
      → AcceptsNone level.padding → MeansTrees level (zeroed (list_image tlv ts)) ts
  nested_reads_back ts good zeros none = record {
    items = nested_items ts;
    are = record { split = nested_split ts; formed = nested_formed ts good zeros none };
    mean = nested_mean ts good;
  }

  -- ---- a body: every item has its padding

  abbrev pub padded_image : T → List ℕ
  padded_image t = zeroed (image_of (tlv t)) ++ replicate (gap (size_of (tlv t))) 0

  abbrev body_items : List T → List Item
  body_items [] = []
  body_items (t ∷ ts) = item_of (tlv t) (gap (size_of (tlv t))) ∷ body_items ts

  body_split : (ts : List T) → flat_map padded_image ts ≡ flat_map item_bytes (body_items ts)
  body_split [] = refl
  body_split (t ∷ ts) =
      rw (item_bytes_of (tlv t) (gap (size_of (tlv t))) (back.sized t), body_split ts) refl

  body_whole : (ts : List T) → AllByRecursion IsGood ts → AcceptsZeros level.padding
      → AllByRecursion (IsWhole level.padding) (body_items ts)
  body_whole [] good zeros = tt
  body_whole (t ∷ ts) good zeros = (
    whole_item level.padding (tlv t) (back.sized t)
        (back.fits t good.0) zeros,
    body_whole ts good.1 zeros,
  )

  body_mean : (ts : List T) → AllByRecursion IsGood ts → ItemsMean level (body_items ts) ts
  body_mean [] good = tt
  body_mean (t ∷ ts) good = (back.means t good.0, body_mean ts good.1)

  -- the padded images mean the trees
  pub body_reads_back : (ts : List T) → AllByRecursion IsGood ts → AcceptsZeros level.padding
      → MeansTrees level (flat_map padded_image ts) ts
  body_reads_back ts good zeros = record {
    items = body_items ts;
    are = record {
      split = body_split ts;
      formed = before_end level.padding (body_items ts)
          (whole_before level.padding (body_items ts) [] (body_whole ts good zeros));
    };
    mean = body_mean ts good;
  }
