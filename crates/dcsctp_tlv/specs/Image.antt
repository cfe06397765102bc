-- What is written for a tree: an item of RFC 9260 section 3.2, and lists of items, with places
-- between these that stay as they stood.
use Rattle.std.specs.Prelude.{◌≡◌, ℕ, ◌+◌, ◌-◌, ◌/◌, ◌%◌, ◌<◌, ◌^◌, All, List, [], ◌∷◌, ◌++◌, Option, Some, None, length, map, unwrap_or, replicate, take, drop}
use Rattle.dcsctp_tlv.specs.Frame.{round_up_to_4, header}

-- ---- images

-- bytes with no place left out
abbrev pub solid : List ℕ → List (Option ℕ)
solid bytes = map Some bytes

abbrev pub holes : ℕ → List (Option ℕ)
holes n = replicate n None

-- an output after an image was written at its front
abbrev pub written : List (Option ℕ) → List ℕ → List ℕ
written [] old = old
written (cell ∷ image) [] = []
written (cell ∷ image) (byte ∷ old) = unwrap_or cell byte ∷ written image old

-- an image written over zeros
abbrev pub zeroed : List (Option ℕ) → List ℕ
zeroed image = map (λ cell. unwrap_or cell 0) image

-- ---- items

-- A tree as it is written: the two bytes before the length, and the value. The size of the value
-- is counted over the tree.
pub record Tlv : Type 0 where
  pub first : ℕ
  pub second : ℕ
  pub value : List (Option ℕ)
  pub value_size : ℕ

-- a value without holes
abbrev pub solid_tlv : ℕ → ℕ → List ℕ → Tlv
solid_tlv first second bytes =
    record { first = first; second = second; value = solid bytes; value_size = length bytes }

-- the same of a parameter or a cause, whose type is in the first two bytes
abbrev pub typed_tlv : ℕ → List ℕ → Tlv
typed_tlv typ bytes = solid_tlv (typ / 256) (typ % 256) bytes

abbrev pub size_of : Tlv → ℕ
size_of t = 4 + t.value_size

-- two bytes can hold its length
abbrev pub IsEncodable : Tlv → Type 0
IsEncodable t = size_of t < 2 ^ 16

unfoldable pub image_of : Tlv → List (Option ℕ)
image_of t = solid (header t.first t.second t.value_size) ++ t.value

-- ---- lists of items

-- the places up to the next multiple of 4
abbrev pub gap : ℕ → ℕ
gap n = round_up_to_4 n - n

-- one after the other, each but the last up to a multiple of 4
abbrev pub list_image : {T : Type 0} → (T → Tlv) → List T → List (Option ℕ)
list_image tlv [] = []
list_image tlv (t ∷ []) = image_of (tlv t)
list_image tlv (t ∷ u ∷ ts) =
    image_of (tlv t) ++ (holes (gap (size_of (tlv t))) ++ list_image tlv (u ∷ ts))

abbrev pub list_size : {T : Type 0} → (T → Tlv) → List T → ℕ
list_size tlv [] = 0
list_size tlv (t ∷ []) = size_of (tlv t)
list_size tlv (t ∷ u ∷ ts) = round_up_to_4 (size_of (tlv t)) + list_size tlv (u ∷ ts)

-- an item whose value begins with some bytes, and after them is a list
abbrev pub listed_tlv : {T : Type 0} → ℕ → ℕ → List ℕ → (T → Tlv) → List T → Tlv
listed_tlv first second leading tlv ts =
    record {
      first = first;
      second = second;
      value = solid leading ++ list_image tlv ts;
      value_size = length leading + list_size tlv ts;
    }

-- what each item holds has a place in it, and two bytes can hold the size of the list
pub record IsListEncodable {T : Type 0} (tlv : T → Tlv) (placed : T → Type 0)
    (ts : List T) : Type 0 where
  pub each : All placed ts
  pub total : list_size tlv ts < 2 ^ 16

-- what can be written has a size, and nothing else has
abbrev pub Sizes : Option ℕ → Type 0 → ℕ → Type 0
Sizes (Some n) encodable size = encodable × (n ≡ size)
Sizes None encodable size = ¬ encodable

-- ---- outputs

-- an output with these bytes at a place
abbrev pub put : List ℕ → ℕ → List ℕ → List ℕ
put output place bytes = take place output ++ (bytes ++ drop (place + length bytes) output)
