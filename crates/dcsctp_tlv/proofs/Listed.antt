-- A list in a value: of the code's items, seen by what they mean.
use Rattle.std.proofs.{Common.{◌≡◌, ℕ, ◌^◌, ◌<◌, ◌≤◌, List, [], ◌∷◌, ◌++◌, length, get_or, drop, refl, sym, ap, ◌∙◌, arith, Option, Some, map, length-append}, lemmas.List.{length-map}}
use Rattle.dcsctp_tlv.{specs.Image.{solid, written, Tlv, size_of, image_of, list_image, list_size, listed_tlv, IsEncodable, IsListEncodable}, specs.Frame.{header, frame_length}, proofs.FieldLaws.{number16_law}, proofs.Images.{list_size-map, list_image-map, length-list_image}}

module _ {A B : Type 0} (tlv : A → Tlv) (view : A → B) (tree_tlv : B → Tlv) (same : (x : A)
    → tlv x ≡ tree_tlv (view x)) where
  all_same : tlv ≡ (λ x. tree_tlv (view x))
  all_same = λ k x. same x k

  pub list_size-view : (xs : List A) → list_size tlv xs ≡ list_size tree_tlv (map view xs)
  list_size-view xs = ap (λ (f : A → Tlv). list_size f xs) all_same ∙ list_size-map tree_tlv view xs

  pub list_image-view : (xs : List A) → list_image tlv xs ≡ list_image tree_tlv (map view xs)
  list_image-view xs =
      ap (λ (f : A → Tlv). list_image f xs) all_same ∙ list_image-map tree_tlv view xs

-- a list whose size two bytes can hold can be written
pub list_encodable : {A : Type 0} (tlv : A → Tlv) (placed : A → Type 0) → ((x : A) → placed x)
    → (xs : List A) → list_size tlv xs < 2 ^ 16 → IsListEncodable tlv placed xs
list_encodable tlv placed all xs h = record { each = λ i d lt. all (get_or xs i d); total = h }

-- bytes at the front of a value, and after them an image
pub written_front : (front : List ℕ) (image : List (Option ℕ)) (old : List ℕ)
    → length front ≤ length old → front ++ written image (drop (length front) old)
    ≡ written (solid front ++ image) old
written_front [] image old le = refl
written_front (b ∷ front) image [] le = absurd (omega arith)
written_front (b ∷ front) image (x ∷ old) le =
    ap (λ (xs : List ℕ). b ∷ xs) (written_front front image old (omega arith))

-- a header, and after it the value
pub written_headed : (t : Tlv) (old headed value : List ℕ)
    → headed ≡ header t.first t.second t.value_size → value ≡ written t.value (drop 4 old)
    → 4 ≤ length old
    → headed ++ value ≡ written (image_of t) old
unfolding image_of
written_headed t old headed value e is room =
    rw (e, is) (written_front (header t.first t.second t.value_size) t.value old room)

-- what was written says how long it is
pub written_length : (t : Tlv) (old out : List ℕ) → IsEncodable t → size_of t ≤ length old
    → out ≡ written (image_of t) old → frame_length out ≡ size_of t
unfolding image_of
written_length t old out fits room e =
    let front = header t.first t.second t.value_size in
    ap frame_length (e ∙ sym (written_front front t.value old (omega (arith, room))))
    ∙ number16_law.back (size_of t) (written t.value (drop 4 old)) fits

-- ---- its length

module _ {T : Type 0} (tlv : T → Tlv) (law : (t : T) → length (image_of (tlv t)) ≡ size_of (tlv t))
  where
    -- a value with a list has the size that is counted
    pub listed_sized : (first second : ℕ) (leading : List ℕ) (ts : List T)
        → length (listed_tlv first second leading tlv ts).value
        ≡ (listed_tlv first second leading tlv ts).value_size
    listed_sized first second leading ts =
        let whole = length-append (solid leading) (list_image tlv ts) in
        let front = length-map leading Some in
        let back = length-list_image tlv law ts in
        omega (arith, whole, front, back)
