-- Items are written again the same if and only if what they are made of is the same.
use Rattle.std.{proofs.Common.{◌≡◌, ◌≢◌, ◌↔◌, ℕ, zero, suc, ◌+◌, ◌-◌, ◌*◌, ◌^◌, ◌<◌, ◌≤◌, Bool, true, false, not, ◌==◌, ◌||◌, Option, List, min, [], ◌∷◌, ◌++◌, length, get_or, take, drop, map, refl, sym, ap, ap₂, ◌∙◌, arith, inl, inr, append_assoc, append-nil, length-append, length-take, length-drop, drop-drop, if◌then◌else◌}, specs.List.{AllByRecursion, flat_map}, specs.Int.{w16, from_be_bytes}, specs.Str.{is_utf8}, specs.Prelude.{IsTrue, eqb}, proofs.Math.Seq.{take-append_seam, drop-append_seam}, proofs.lemmas.Bool.{cases_lt}, proofs.lemmas.List.{append_cancel_left, drop_all}, proofs.lemmas.Nat.{from_be_bytes-to_be_bytes_2}}
use lib.Pointwise.{pointwise, bytes_decides}
use Rattle.dcsctp_tlv.{specs.Frame.{Item, header, frame_length, frame_rest, BeginsWithFrame}, specs.Image.{Tlv, solid, holes, gap, zeroed, solid_tlv, size_of, image_of, list_image, list_size}, specs.Length.{length-solid}, specs.Number.{AreBytes}, proofs.FieldLaws.{fields-first}, proofs.Items.{front_item}, proofs.Checks.{frame_shrinks}, proofs.Images.{list_image-map, list_size-map}, proofs.ReadsBack.{zeroed-solid}}
use Rattle.dcsctp_chunk.specs.SkippedStreams.{stream_count}
use Rattle.dcsctp_cause.specs.Text.{text_or}
use Rattle.dcsctp_cause.specs.UserInitiatedAbort as abort
use Rattle.dcsctp_cause.specs.ProtocolViolation as violation
use Rattle.dcsctp_borrowed.{specs.Grammar.{whole}, specs.Part.{begins_with_item}, specs.Rewritten.{Again, IsSized, item_again, first_items, items_of, all_again, again_size, listed_again, without_reserved, parameter_again, cause_again, chunk_again, flags_again, value_again, stream_again, streams_again, parameter_sized, cause_sized, either}, proofs.FrameItems.{bytes_after}, proofs.ItemsRewritten.{begins_back, next_in, end_in}, proofs.PutsRewritten.{rest_is, front_is, back_is, streams_size}, proofs.Widths.{half_at}}

-- ---- values

-- two parts, the first ones as long as each other
pub parts_one : {A : Type 0} (xs ys zs ws : List A) → length xs ≡ length ys → xs ++ zs ≡ ys ++ ws
    → (xs ≡ ys) × (zs ≡ ws)
parts_one {A} xs ys zs ws same e = (
  sym (take-append_seam xs zs) ∙ ap (take (length xs)) e
      ∙ ap (λ (n : ℕ). take n (ys ++ ws)) same ∙ take-append_seam ys ws,
  sym (drop-append_seam xs zs) ∙ ap (drop (length xs)) e
      ∙ ap (λ (n : ℕ). drop n (ys ++ ws)) same ∙ drop-append_seam ys ws,
)

pub unsolid : (value other : List ℕ) → solid value ≡ solid other → value ≡ other
unsolid value other e = sym (zeroed-solid value) ∙ ap zeroed e ∙ zeroed-solid other

-- what a test tells that two lists differ
pub differ_tells : (xs ys : List ℕ) (test : Bool) → test ≡ not (pointwise eqb xs ys)
    → (test ≡ true → xs ≢ ys) × (test ≡ false → xs ≡ ys)
differ_tells xs ys test e = (
  λ is same. absurd (let p = (bytes_decides xs ys).1 same in cc),
  λ is. (bytes_decides xs ys).0 (told (pointwise eqb xs ys) (sym e ∙ is)),
) where
  told : (b : Bool) → not b ≡ false → b ≡ true
  told true h = refl
  told false h = absurd cc

-- what tests of parts at the front and at the back of values tell
module _ (n k j : ℕ) (value other : List ℕ) (test : Bool) (at : k ≡ min (length value) n)
    (at_too : j ≡ min (length other) n) where
  pub fronts_tell : test ≡ pointwise eqb (take k value) (take j other)
      → IsTrue test ↔ (take n value ≡ take n other)
  fronts_tell e =
      rw (e, front_is n k value at, front_is n j other at_too)
      (bytes_decides (take n value) (take n other))

  pub backs_tell : test ≡ pointwise eqb (take (length value - k) (drop k value))
      (take (length other - j) (drop j other)) → IsTrue test ↔ (drop n value ≡ drop n other)
  backs_tell e =
      rw (
        e,
        rest_is k value,
        rest_is j other,
        back_is n k value at,
        back_is n j other at_too,
      ) (bytes_decides (drop n value) (drop n other))

pub solid_same : (first second : ℕ) (value other : List ℕ) (test : Bool)
    → (IsTrue test ↔ (value ≡ other))
    → IsTrue test ↔ (solid_tlv first second value ≡ solid_tlv first second other)
solid_same first second value other test tells = (
  λ is. ap (solid_tlv first second) (tells.0 is),
  λ e. tells.1 (unsolid value other (ap (λ (t : Tlv). t.value) e)),
)

pub unreserved_one : (value other : List ℕ) → without_reserved value ≡ without_reserved other
    → (take 6 value ≡ take 6 other) × (drop 8 value ≡ drop 8 other)
unreserved_one value other e =
    let front : length (take 6 value) ≡ length (take 6 other) =
    omega (
      arith,
      ap length e,
      length-append (take 6 value) (0 ∷ 0 ∷ drop 8 value),
      length-append (take 6 other) (0 ∷ 0 ∷ drop 8 other),
      length-take 6 value,
      length-take 6 other,
      length-drop 8 value,
      length-drop 8 other,
    ) in
    let parts = parts_one (take 6 value) (take 6 other) (0 ∷ 0 ∷ drop 8 value)
    (0 ∷ 0 ∷ drop 8 other) front e in
    (parts.0, ap (drop 2) parts.1)

-- the first skipped stream, and those after it
pub streams_one : (n : ℕ) (bytes other : List ℕ)
    → (streams_again (suc n) bytes ≡ streams_again (suc n) other)
    ↔ ((stream_again bytes ≡ stream_again other)
    × (streams_again n (drop 8 bytes) ≡ streams_again n (drop 8 other)))
streams_one n bytes other =
    let first = ap (flat_map (λ s. s)) (fields-first stream_again 8 n bytes) in
    let second = ap (flat_map (λ s. s)) (fields-first stream_again 8 n other) in (
      λ e. parts_one (stream_again bytes) (stream_again other) _ _ refl (sym first ∙ e ∙ second),
      λ h. first ∙ ap₂ (λ (s ss : List ℕ). s ++ ss) h.0 h.1 ∙ sym second,
    )

-- the parts of a value of I-FORWARD-TSN
pub streams_parts : (value other : List ℕ) → value_again 194 value ≡ value_again 194 other
    → (stream_count 8 value ≡ stream_count 8 other) × (take 4 value ≡ take 4 other)
    × (streams_again (stream_count 8 value) (drop 4 value)
    ≡ streams_again (stream_count 8 other) (drop 4 other))
streams_parts value other e =
    let sizes = ap length e in
    let size = streams_size value (min (length value) 4) (stream_count 8 value) refl refl in
    let size_too = streams_size other (min (length other) 4) (stream_count 8 other) refl refl in
    let front : length (take 4 value) ≡ length (take 4 other) =
    omega (arith, sizes, size, size_too, length-take 4 value, length-take 4 other) in
    let parts = parts_one (take 4 value) (take 4 other) _ _ front e in (
      omega (arith, sizes, size, size_too, front, length-take 4 value, length-take 4 other),
      parts.0,
      parts.1,
    )

pub streams_same : (value other : List ℕ) (count : ℕ) (test : Bool)
    → count ≡ stream_count 8 value → count ≡ stream_count 8 other
    → take 4 value ≡ take 4 other
    → (IsTrue test ↔ (streams_again count (drop 4 value) ≡ streams_again count (drop 4 other)))
    → IsTrue test ↔ (value_again 194 value ≡ value_again 194 other)
streams_same value other count test is is_too front tells =
    let streams : List ℕ → ℕ → List ℕ = λ bytes n. streams_again n (drop 4 bytes) in (
      λ t. ap₂ (λ (a b : List ℕ). a ++ b) front
          (ap (streams value) (sym is) ∙ tells.0 t ∙ ap (streams other) is_too),
      λ e. tells.1 (ap (streams value) is ∙ (streams_parts value other e).2
          ∙ ap (streams other) (sym is_too)),
    )

-- those from a place on
pub streams_next : (count i : ℕ) (bytes other : List ℕ) → i < count
    → (streams_again (count - i) (drop (8 * i) bytes)
    ≡ streams_again (count - i) (drop (8 * i) other))
    ↔ ((stream_again (drop (8 * i) bytes) ≡ stream_again (drop (8 * i) other))
    × (streams_again (count - (i + 1)) (drop (8 * (i + 1)) bytes)
    ≡ streams_again (count - (i + 1)) (drop (8 * (i + 1)) other)))
streams_next count i bytes other lt =
    let n : count - i ≡ suc (count - (i + 1)) = omega (arith, lt) in
    let at : (bs : List ℕ) → drop 8 (drop (8 * i) bs) ≡ drop (8 * (i + 1)) bs =
    λ bs. drop-drop 8 (8 * i) bs ∙ ap (λ (k : ℕ). drop k bs) (omega arith) in
    rw (n, ← at bytes, ← at other)
    (streams_one (count - (i + 1)) (drop (8 * i) bytes) (drop (8 * i) other))

-- ---- the items that lie in bytes

next_same : (n m : ℕ) (bytes : List ℕ) (b : Bool) → begins_with_item (whole bytes) ≡ b
    → (BeginsWithFrame bytes → first_items n (frame_rest bytes) ≡ first_items m (frame_rest bytes))
    → first_items (suc n) bytes ≡ first_items (suc m) bytes
next_same n m bytes false e same = rw e refl
next_same n m bytes true e same =
    rw e (ap (λ (is : List Item). front_item bytes ∷ is) (same (begins_back bytes e)))

-- any number of them that is enough
as_many : (n m : ℕ) (bytes : List ℕ) → length bytes ≤ n → length bytes ≤ m
    → first_items n bytes ≡ first_items m bytes
as_many zero m bytes le more = sym (end_in m bytes (λ f. omega (arith, f.header, le)))
as_many (suc n) zero bytes le more = end_in (suc n) bytes (λ f. omega (arith, f.header, more))
as_many (suc n) (suc m) bytes le more =
    next_same n m bytes (begins_with_item (whole bytes)) refl (λ f.
    (let shrinks = frame_shrinks bytes f in
    as_many n m (frame_rest bytes) (omega (arith, shrinks, f.low, le))
    (omega (arith, shrinks, f.low, more))))

pub all_first : (again : Again) (bytes : List ℕ) → BeginsWithFrame bytes
    → all_again again bytes
    ≡ item_again again (front_item bytes) ∷ all_again again (frame_rest bytes)
all_first again bytes frame =
    let n = next_in (length bytes) bytes frame (omega arith) in
    ap (map (item_again again)) (n.1 ∙ ap (λ (is : List Item). front_item bytes ∷ is)
    (as_many n.0 (length (frame_rest bytes)) (frame_rest bytes) n.2 (omega arith)))

pub all_none : (again : Again) (bytes : List ℕ) → ¬ BeginsWithFrame bytes
    → all_again again bytes ≡ []
all_none again bytes none = ap (map (item_again again)) (end_in (length bytes) bytes none)

-- the first items, and those after them
pub firsts_one : (again : Again) (bytes other : List ℕ) → BeginsWithFrame bytes
    → BeginsWithFrame other
    → (all_again again bytes ≡ all_again again other)
    ↔ ((item_again again (front_item bytes) ≡ item_again again (front_item other))
    × (all_again again (frame_rest bytes) ≡ all_again again (frame_rest other)))
firsts_one again bytes other frame frame_too =
    let first = all_first again bytes frame in
    let second = all_first again other frame_too in (
      λ e. (let split = sym first ∙ e ∙ second in
          let head : item_again again (front_item bytes) ≡ item_again again (front_item other) =
          cc split in
          let tail : all_again again (frame_rest bytes) ≡ all_again again (frame_rest other) =
          cc split in
          (head, tail)),
      λ h. first ∙ ap₂ (λ (t : Tlv) (ts : List Tlv). t ∷ ts) h.0 h.1 ∙ sym second,
    )

-- one begins with an item, and the other doesn't
pub apart : (again : Again) (bytes other : List ℕ) → BeginsWithFrame bytes
    → ¬ BeginsWithFrame other → all_again again bytes ≢ all_again again other
apart again bytes other frame none e =
    let split = sym (all_first again bytes frame) ∙ e ∙ all_none again other none in absurd cc

-- ---- the image of a list

-- it has the size that is counted for it, and two bytes can hold this
pub record IsWritten (t : Tlv) : Type 0 where
  pub sized : IsSized t
  pub small : size_of t < 2 ^ 16

abbrev tlv_with : ℕ → ℕ → List (Option ℕ) → ℕ → Tlv
tlv_with first second value size =
    record { first = first; second = second; value = value; value_size = size }

item_one : (t u : Tlv) → IsWritten t → IsWritten u → (xs ys : List (Option ℕ))
    → image_of t ++ xs ≡ image_of u ++ ys → (t ≡ u) × (xs ≡ ys)
unfolding image_of
item_one t u good good_too xs ys e =
    let front = solid (header t.first t.second t.value_size) in
    let front_too = solid (header u.first u.second u.value_size) in
    let parts = parts_one front front_too (t.value ++ xs) (u.value ++ ys) refl
    (sym (append_assoc front t.value xs) ∙ e ∙ append_assoc front_too u.value ys) in
    let same = unsolid (header t.first t.second t.value_size)
    (header u.first u.second u.value_size) parts.0 in
    let size : 4 + t.value_size ≡ 4 + u.value_size =
    sym (from_be_bytes-to_be_bytes_2 (4 + t.value_size) good.small)
    ∙ ap (λ (bytes : List ℕ). from_be_bytes w16 (drop 2 bytes)) same
    ∙ from_be_bytes-to_be_bytes_2 (4 + u.value_size) good_too.small in
    let whole = parts_one t.value u.value xs ys
    (omega (arith, good.sized, good_too.sized, size)) parts.1 in (
      ap₂ (λ (a b : ℕ). tlv_with a b t.value t.value_size)
          (ap (λ (bytes : List ℕ). get_or bytes 0 0) same)
          (ap (λ (bytes : List ℕ). get_or bytes 1 0) same)
          ∙ ap₂ (tlv_with u.first u.second) whole.0 (omega (arith, size)),
      whole.1,
    )

some_image : (n : ℕ) (t : Tlv) (ts : List Tlv) → [] ≢ holes n ++ list_image (λ t. t) (t ∷ ts)
unfolding image_of
some_image n t [] e =
    let all = length-append (holes n) (image_of t) in omega (arith, all, ap length e)
some_image n t (u ∷ ts) e =
    let all = length-append (holes n) (list_image (λ t. t) (t ∷ u ∷ ts)) in
    omega (arith, all, ap length e)

-- it is the image of one list
list_one : (ts us : List Tlv) → AllByRecursion IsWritten ts → AllByRecursion IsWritten us
    → list_image (λ t. t) ts ≡ list_image (λ t. t) us → ts ≡ us
list_one [] [] good good_too e = refl
list_one [] (u ∷ us) good good_too e = absurd (some_image 0 u us e)
list_one (t ∷ ts) [] good good_too e = absurd (some_image 0 t ts (sym e))
list_one (t ∷ []) (u ∷ []) good good_too e =
    ap (λ (x : Tlv). x ∷ []) (item_one t u good.0 good_too.0 [] []
    (append-nil (image_of t) ∙ e ∙ sym (append-nil (image_of u)))).0
list_one (t ∷ []) (u ∷ v ∷ us) good good_too e =
    absurd (some_image (gap (size_of u)) v us
    (item_one t u good.0 good_too.0 [] _ (append-nil (image_of t) ∙ e)).1)
list_one (t ∷ v ∷ ts) (u ∷ []) good good_too e =
    absurd (some_image (gap (size_of t)) v ts
    (sym (item_one t u good.0 good_too.0 _ [] (e ∙ sym (append-nil (image_of u)))).1))
list_one (t ∷ v ∷ ts) (u ∷ w ∷ us) good good_too e =
    let first = item_one t u good.0 good_too.0 _ _ e in
    let rest = first.1 ∙ ap (λ (x : Tlv). holes (gap (size_of x)) ++ list_image (λ t. t) (w ∷ us))
    (sym first.0) in
    ap₂ (λ (x : Tlv) (xs : List Tlv). x ∷ xs) first.0
    (list_one (v ∷ ts) (w ∷ us) good.1 good_too.1
    (append_cancel_left (holes (gap (size_of t))) _ _ rest))

-- ---- an item with a list

-- its value has no more bytes than that of a frame
abbrev pub IsShortItem : Item → Type 0
IsShortItem i = length i.value < 65532

-- two bytes can hold the length of each item as it is written, if it is as short
abbrev pub IsShort : Again → Type 0
IsShort again = (first second : ℕ) (value : List ℕ) → length value < 65532
    → IsWritten (again first second value)

shorts : (bytes : List ℕ) (b : Bool) (is : List Item) → AreBytes bytes
    → AllByRecursion IsShortItem is
    → AllByRecursion IsShortItem (if b then front_item bytes ∷ is else [])
shorts bytes false is fits rest = tt
shorts bytes true is fits rest =
    let size = length-take (frame_length bytes - 4) (drop 4 bytes) in
    (omega (arith, size, half_at 2 bytes fits), rest)

-- the items that lie in bytes are short
pub each_short : (n : ℕ) (bytes : List ℕ) → AreBytes bytes
    → AllByRecursion IsShortItem (first_items n bytes)
each_short zero bytes fits = tt
each_short (suc n) bytes fits =
    shorts bytes (begins_with_item (whole bytes)) _ fits
    (each_short n (frame_rest bytes) (bytes_after _ bytes fits))

each_written : (again : Again) → IsShort again → (is : List Item) → AllByRecursion IsShortItem is
    → AllByRecursion IsWritten (map (item_again again) is)
each_written again short [] few = tt
each_written again short (i ∷ is) few =
    (short i.first i.second i.value few.0, each_written again short is few.1)

pub all_written : (again : Again) → IsShort again → (bytes : List ℕ) → AreBytes bytes
    → AllByRecursion IsWritten (all_again again bytes)
all_written again short bytes fits =
    each_written again short (items_of bytes) (each_short (length bytes) bytes fits)

pub listed_one : (again : Again) → IsShort again → (typ a b : ℕ)
    (leading front list other : List ℕ) → AreBytes list → AreBytes other
    → length leading ≡ length front
    → listed_again again typ a leading list ≡ listed_again again typ b front other
    → (leading ≡ front) × (all_again again list ≡ all_again again other)
listed_one again short typ a b leading front list other fits fits_too size e =
    let parts = parts_one (solid leading) (solid front) _ _
    (length-solid leading ∙ size ∙ sym (length-solid front)) (ap (λ (t : Tlv). t.value) e) in (
      unsolid leading front parts.0,
      list_one _ _ (all_written again short list fits) (all_written again short other fits_too)
          (sym (list_image-map (λ t. t) (item_again again) (items_of list)) ∙ parts.1
          ∙ list_image-map (λ t. t) (item_again again) (items_of other)),
    )

listed_all : (again : Again) (typ flags : ℕ) (leading list other : List ℕ)
    → all_again again list ≡ all_again again other
    → listed_again again typ flags leading list ≡ listed_again again typ flags leading other
listed_all again typ flags leading list other e =
    let tlv = item_again again in
    ap₂ (λ (image : List (Option ℕ)) (size : ℕ).
    tlv_with typ flags (solid leading ++ image) (length leading + size))
    (list_image-map (λ t. t) tlv (items_of list) ∙ ap (list_image (λ t. t)) e
    ∙ sym (list_image-map (λ t. t) tlv (items_of other)))
    (list_size-map (λ t. t) tlv (items_of list) ∙ ap (list_size (λ t. t)) e
    ∙ sym (list_size-map (λ t. t) tlv (items_of other)))

pub listed_same : (again : Again) → IsShort again → (typ flags : ℕ) (list other : List ℕ)
    (test : Bool) → AreBytes list → AreBytes other
    → (IsTrue test ↔ (all_again again list ≡ all_again again other))
    → IsTrue test
    ↔ (listed_again again typ flags [] list ≡ listed_again again typ flags [] other)
listed_same again short typ flags list other test fits fits_too tells = (
  λ is. listed_all again typ flags [] list other (tells.0 is),
  λ e. tells.1 (listed_one again short typ flags flags [] [] list other fits fits_too refl e).1,
)

pub parameters_short : IsShort parameter_again
parameters_short first second value few =
    let typ = from_be_bytes w16 (first ∷ second ∷ []) in
    record {
      sized = parameter_sized first second value;
      small = tested (typ == 17 || typ == 18);
    } where
      tested : (b : Bool) → size_of (solid_tlv first second
          (if b then without_reserved value else value)) < 2 ^ 16
      tested true =
          let all = length-append (take 6 value) (0 ∷ 0 ∷ drop 8 value) in
          omega (arith, all, length-take 6 value, length-drop 8 value, few)
      tested false = omega (arith, few)

text_short : (fixed value : List ℕ) → length fixed < 65532 → length value < 65532
    → length (text_or fixed value) < 65532
text_short fixed value small few = tested (is_utf8 value) where
  tested : (b : Bool) → length (if b then value else fixed) < 65532
  tested true = few
  tested false = small

pub causes_short : IsShort cause_again
causes_short first second value few =
    let code = from_be_bytes w16 (first ∷ second ∷ []) in
    record {
      sized = cause_sized first second value;
      small = (let size = tested (code == 12) (code == 13) in omega (arith, size));
    } where
      tested : (b d : Bool) → length (if b then text_or abort.unreadable value else
          if d then text_or violation.unreadable value else value) < 65532
      tested true d = text_short abort.unreadable value (omega arith) few
      tested false true = text_short violation.unreadable value (omega arith) few
      tested false false = few

-- a value of INIT: numbers, and parameters after them
init_size : (value : List ℕ) → length value ≤ 16 → again_size parameter_again (drop 16 value) ≡ 0
init_size value le =
    ap (again_size parameter_again) (drop_all 16 value le)

init_front : (value other : List ℕ)
    → length (take 16 value) + again_size parameter_again (drop 16 value)
    ≡ length (take 16 other) + again_size parameter_again (drop 16 other)
    → length (take 16 value) ≡ length (take 16 other)
init_front value other e = elim (cases_lt 16 (length value)) [
  | inl lt ↦ elim (cases_lt 16 (length other)) [
    | inl lt_too ↦ omega (arith, length-take 16 value, length-take 16 other, lt, lt_too)
    | inr le_too ↦ omega (
      arith,
      e,
      length-take 16 value,
      length-take 16 other,
      lt,
      le_too,
      init_size other le_too,
    )
  ]
  | inr le ↦ elim (cases_lt 16 (length other)) [
    | inl lt_too ↦ omega (
      arith,
      e,
      length-take 16 value,
      length-take 16 other,
      le,
      lt_too,
      init_size value le,
    )
    | inr le_too ↦ omega (arith, e, init_size value le, init_size other le_too)
  ]
]

pub init_same : (typ flags : ℕ) (value other : List ℕ) (test : Bool) → AreBytes value
    → AreBytes other
    → (IsTrue test ↔ ((take 16 value ≡ take 16 other)
    × (all_again parameter_again (drop 16 value) ≡ all_again parameter_again (drop 16 other))))
    → IsTrue test
    ↔ (listed_again parameter_again typ flags (take 16 value) (drop 16 value)
    ≡ listed_again parameter_again typ flags (take 16 other) (drop 16 other))
init_same typ flags value other test fits fits_too tells = (
  λ is. (let parts = tells.0 is in
      ap (λ (b : List ℕ). listed_again parameter_again typ flags b (drop 16 value)) parts.0
      ∙ listed_all parameter_again typ flags (take 16 other) (drop 16 value) (drop 16 other)
      parts.1),
  λ e. tells.1 (listed_one parameter_again parameters_short typ flags flags (take 16 value)
      (take 16 other) (drop 16 value) (drop 16 other) (bytes_after 16 value fits)
      (bytes_after 16 other fits_too)
      (init_front value other (ap (λ (t : Tlv). t.value_size) e)) e),
)

-- ---- the front of a chunk

-- it keeps its type, and the flags that the type has
pub chunk_front : (typ flags : ℕ) (value : List ℕ)
    → ((chunk_again typ flags value).first ≡ typ)
    × ((chunk_again typ flags value).second ≡ flags_again typ flags)
chunk_front typ flags value =
    let P : Tlv → Type 0 = λ t. (t.first ≡ typ) × (t.second ≡ flags_again typ flags) in
    either P (typ == 1 || typ == 2) _ _ (refl, refl)
    (either P (typ == 4 || typ == 5 || typ == 130) _ _ (refl, refl)
    (either P (typ == 6 || typ == 9) _ _ (refl, refl) (refl, refl)))
