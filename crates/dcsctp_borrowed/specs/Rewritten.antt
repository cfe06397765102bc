-- What an item of a packet is written as again, of its own bytes (RFC 9260 sections 3.2, 3.2.1 and
-- 3.3.10): as what it means is written in the canonical packet. Zeros replace the reserved bytes of
-- I-DATA and I-FORWARD-TSN (RFC 8260 sections 2.1 and 2.3.1) and of the requests for more streams
-- (RFC 6525 sections 4.5 and 4.6). Only private functions cite it, so nothing here has to be
-- believed.
use Rattle.std.specs.{Prelude.{◌≡◌, Bool, true, false, ◌<◌, ◌==◌, ◌||◌, ◌%◌, ℕ, zero, suc, List, [], ◌∷◌, ◌++◌, if◌then◌else◌, length, map, take, drop, slice_index}, List.{flat_map}, Int.{w16, from_be_bytes}}
use Rattle.dcsctp_tlv.{specs.Fields.{fields}, specs.Frame.{Item, frame_rest}, specs.Image.{Tlv, solid_tlv, listed_tlv, list_size}, specs.Number.{AreBytes}, specs.Length.{length-solid}, proofs.Items.{front_item}, proofs.Lengths.{length-image_of}, proofs.Listed.{listed_sized}}
use Rattle.dcsctp_chunk.specs.SkippedStreams.{stream_count}
use Rattle.dcsctp_cause.specs.Text.{text_or}
use Rattle.dcsctp_cause.specs.UserInitiatedAbort as abort
use Rattle.dcsctp_cause.specs.ProtocolViolation as violation
use Rattle.dcsctp_borrowed.specs.{Part.{begins_with_item}, Grammar.{whole}}

-- ---- the items that lie in bytes one after the other

-- the first n of them
abbrev pub first_items : ℕ → List ℕ → List Item
first_items zero bytes = []
first_items (suc n) bytes =
    if begins_with_item (whole bytes) then front_item bytes ∷ first_items n (frame_rest bytes)
    else []

abbrev pub items_of : List ℕ → List Item
items_of bytes = first_items (length bytes) bytes

-- an item whose numbers are bytes
pub record IsByteItem (i : Item) : Type 0 where
  pub first : i.first < 256
  pub second : i.second < 256
  pub value : AreBytes i.value

-- ---- what one is written as, by its first two bytes and its value

abbrev pub Again : Type 0
Again = ℕ → ℕ → List ℕ → Tlv

abbrev pub item_again : Again → Item → Tlv
item_again again i = again i.first i.second i.value

-- the items that lie in bytes, as they are written again
abbrev pub all_again : Again → List ℕ → List Tlv
all_again again bytes = map (item_again again) (items_of bytes)

-- the size of a list that is written again, without padding after its last item
abbrev pub again_size : Again → List ℕ → ℕ
again_size again bytes = list_size (item_again again) (items_of bytes)

-- bytes 6 and 7, which are reserved, as zeros
abbrev pub without_reserved : List ℕ → List ℕ
without_reserved value = take 6 value ++ (0 ∷ 0 ∷ drop 8 value)

-- ---- error causes and parameters

-- a cause's value stays, but for a text that isn't UTF-8
abbrev pub cause_value : ℕ → List ℕ → List ℕ
cause_value code value =
    if code == 12 then text_or abort.unreadable value else
    if code == 13 then text_or violation.unreadable value else
    value

-- a parameter's value stays, but for the reserved bytes of the requests for more streams
abbrev pub parameter_value : ℕ → List ℕ → List ℕ
parameter_value typ value = if typ == 17 || typ == 18 then without_reserved value else value

abbrev pub cause_again : Again
cause_again first second value =
    solid_tlv first second (cause_value (from_be_bytes w16 (first ∷ second ∷ [])) value)

abbrev pub parameter_again : Again
parameter_again first second value =
    solid_tlv first second (parameter_value (from_be_bytes w16 (first ∷ second ∷ [])) value)

-- ---- chunks

-- the flags that the type has
abbrev pub flags_again : ℕ → ℕ → ℕ
flags_again typ flags =
    if typ == 0 || typ == 64 then flags % 16 else
    if typ == 6 || typ == 14 then flags % 2 else
    if typ == 1 || typ == 2 || typ == 3 || typ == 4 || typ == 5 || typ == 7 || typ == 8 || typ == 9
    || typ == 10 || typ == 11 || typ == 130 || typ == 192 || typ == 194 then 0 else
    flags

-- a skipped stream of I-FORWARD-TSN, of whose flags only the lowest bit stays
abbrev pub stream_again : List ℕ → List ℕ
stream_again bytes =
    slice_index bytes 0 ∷ slice_index bytes 1 ∷ 0 ∷ slice_index bytes 3 % 2 ∷ slice_index bytes 4
    ∷ slice_index bytes 5 ∷ slice_index bytes 6 ∷ slice_index bytes 7 ∷ []

-- the first n such streams
abbrev pub streams_again : ℕ → List ℕ → List ℕ
streams_again n bytes = flat_map (λ s. s) (fields stream_again 8 n bytes)

-- the value of a chunk without a list of parameters or causes, but for what its kind ignores
abbrev pub value_again : ℕ → List ℕ → List ℕ
value_again typ value =
    if typ == 64 then without_reserved value else
    if typ == 194 then take 4 value ++ streams_again (stream_count 8 value) (drop 4 value) else
    value

-- a chunk whose value has bytes, and after them a list
abbrev pub listed_again : Again → ℕ → ℕ → List ℕ → List ℕ → Tlv
listed_again again typ flags leading list =
    listed_tlv typ flags leading (item_again again) (items_of list)

-- a chunk with these flags
abbrev pub chunk_with : Again
chunk_with typ flags value =
    if typ == 1 || typ == 2 then
    listed_again parameter_again typ flags (take 16 value) (drop 16 value) else
    if typ == 4 || typ == 5 || typ == 130 then listed_again parameter_again typ flags [] value else
    if typ == 6 || typ == 9 then listed_again cause_again typ flags [] value else
    solid_tlv typ flags (value_again typ value)

abbrev pub chunk_again : Again
chunk_again typ flags value = chunk_with typ (flags_again typ flags) value

-- ---- a value has the size that is counted

abbrev pub IsSized : Tlv → Type 0
IsSized t = length t.value ≡ t.value_size

pub parameter_sized : (first second : ℕ) (value : List ℕ)
    → IsSized (parameter_again first second value)
parameter_sized first second value =
    length-solid (parameter_value (from_be_bytes w16 (first ∷ second ∷ [])) value)

pub cause_sized : (first second : ℕ) (value : List ℕ) → IsSized (cause_again first second value)
cause_sized first second value =
    length-solid (cause_value (from_be_bytes w16 (first ∷ second ∷ [])) value)

-- what holds of both holds of the one that is chosen
pub either : (P : Tlv → Type 0) (b : Bool) (x y : Tlv) → P x → P y → P (if b then x else y)
either P true x y p q = p
either P false x y p q = q

list_sized : (again : Again)
    → ((first second : ℕ) (value : List ℕ) → IsSized (again first second value))
    → (typ flags : ℕ) (leading list : List ℕ) → IsSized (listed_again again typ flags leading list)
list_sized again sized typ flags leading list =
    listed_sized (item_again again)
    (λ i. length-image_of (item_again again i) (sized i.first i.second i.value)) typ flags leading
    (items_of list)

pub chunk_sized : (typ flags : ℕ) (value : List ℕ) → IsSized (chunk_again typ flags value)
chunk_sized typ flags value =
    let kept = flags_again typ flags in
    either IsSized (typ == 1 || typ == 2) _ _
    (list_sized parameter_again parameter_sized typ kept (take 16 value) (drop 16 value))
    (either IsSized (typ == 4 || typ == 5 || typ == 130) _ _
    (list_sized parameter_again parameter_sized typ kept [] value)
    (either IsSized (typ == 6 || typ == 9) _ _
    (list_sized cause_again cause_sized typ kept [] value)
    (length-solid (value_again typ value))))
