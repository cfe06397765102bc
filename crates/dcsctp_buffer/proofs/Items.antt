-- What an output is after a chunk was written at its front, whose bytes have no place left out.
use Rattle.std.proofs.{Common.{◌≡◌, ℕ, Bool, true, false, if◌then◌else◌, ◌+◌, ◌-◌, ◌≤◌, List, [], ◌∷◌, ◌++◌, length, take, drop, replicate, refl, sym, ap, ◌∙◌, arith, Some, append-nil}, lemmas.List.{map-append}}
use Rattle.dcsctp_tlv.{specs.Frame.{header, typed_header}, specs.Image.{Tlv, solid, zeroed, size_of, image_of, written, solid_tlv, typed_tlv, listed_tlv}, specs.Parameter.{tlv as parameter_tlv}, proofs.Images.{written-solid, written-zeros, written_item}}
use Rattle.dcsctp_wire.specs.{Chunk.{tlv as chunk_tlv}, InitFields.{leading}}
use Rattle.dcsctp_buffer.specs.{Buffer.{with_item}, Init.{init, fields}, declared.init.BorrowedInit.{BorrowedInit}}

pub zeroed-solid : (bytes : List ℕ) → zeroed (solid bytes) ≡ bytes
zeroed-solid [] = refl
zeroed-solid (b ∷ bytes) = ap (λ (xs : List ℕ). b ∷ xs) (zeroed-solid bytes)

-- an item whose value is these bytes, of the size that is counted
pub solid_item : (t : Tlv) (bytes old : List ℕ) → t.value ≡ solid bytes
    → length bytes ≡ t.value_size
    → size_of t ≤ length old → written (image_of t) old ≡ with_item t old
unfolding image_of
solid_item t bytes old is size room =
    let all : List ℕ = header t.first t.second t.value_size ++ bytes in
    let image : image_of t ≡ solid all =
    ap (λ (value : List _). solid (header t.first t.second t.value_size) ++ value) is
    ∙ sym (map-append Some (header t.first t.second t.value_size) bytes) in
    let len : length all ≡ size_of t = omega (arith, size) in
    ap (λ (i : List _). written i old) image
    ∙ written-solid all old (omega (arith, len, room))
    ∙ ap (λ (n : ℕ). all ++ drop n old) len
    ∙ ap (λ (xs : List ℕ). xs ++ drop (size_of t) old) (sym (ap zeroed image ∙ zeroed-solid all))

-- the bytes of an item that begins with its type
item_bytes : ℕ → List ℕ → List ℕ
item_bytes typ value = typed_header typ (length value) ++ value

item_image : (typ : ℕ) (value : List ℕ) → image_of (typed_tlv typ value) ≡ solid
    (item_bytes typ value)
unfolding image_of item_bytes
item_image typ value = sym (map-append Some (typed_header typ (length value)) value)

length-item_bytes : (typ : ℕ) (value : List ℕ) → length (item_bytes typ value) ≡ 4 + length value
unfolding item_bytes
length-item_bytes typ value = omega arith

-- a header, and after it one item
pub one_item_written : (first second typ : ℕ) (value old headed front rest out : List ℕ)
    → 8 + length value ≤ length old
    → headed ≡ header first second (4 + length value) ++ drop 4 old
    → front ≡ take 4 headed → rest ≡ drop 4 headed
    → out ≡ written (image_of (typed_tlv typ value)) rest
    → front ++ out ≡ with_item (listed_tlv first second [] (typed_tlv typ) (value ∷ [])) old
one_item_written first second typ value old headed front rest out room h before after e =
    let item = image_of (typed_tlv typ value) in
    let t = listed_tlv first second [] (typed_tlv typ) (value ∷ []) in
    let size : 4 + length value ≡ t.value_size = omega arith in
    ap (λ (xs : List ℕ). xs ++ out) before
    ∙ ap (λ (xs : List ℕ). take 4 headed ++ xs) (e ∙ ap (written item) after)
    ∙ written_item t old headed
    (h ∙ ap (λ (n : ℕ). header first second n ++ drop 4 old) size) (omega (arith, room))
    ∙ solid_item t (item_bytes typ value) old (item_image typ value)
    (length-item_bytes typ value ∙ size) (omega (arith, room))

-- an item written over zeros
pub zeroed_item : (t : Tlv) (size : ℕ) (old front filled out rest : List ℕ) → size ≡ size_of t
    → length (image_of t) ≡ size_of t
    → length front ≡ size → filled ≡ replicate (length front) 0 → out ≡ written (image_of t) filled
    → rest ≡ drop size old
    → out ++ rest ≡ with_item t old
zeroed_item t size old front filled out rest is len room zeros e after =
    let none : length front - length (image_of t) ≡ 0 = omega (arith, is, len, room) in
    let out_is : out ≡ zeroed (image_of t) =
    e ∙ ap (written (image_of t)) zeros ∙ written-zeros (image_of t) (length front)
    (omega (arith, is, len, room))
    ∙ ap (λ (n : ℕ). zeroed (image_of t) ++ replicate n 0) none
    ∙ append-nil (zeroed (image_of t)) in
    ap (λ (xs : List ℕ). xs ++ rest) out_is ∙ ap (λ (xs : List ℕ). zeroed (image_of t) ++ xs)
    (after ∙ ap (λ (n : ℕ). drop n old) is)

-- a chunk with an empty list after these bytes
no_items : (first : ℕ) (leading old : List ℕ) → 4 + length leading ≤ length old
    → written (image_of (solid_tlv first 0 leading)) old
    ≡ with_item (listed_tlv first 0 leading parameter_tlv []) old
unfolding image_of
no_items first leading old room =
    let t = listed_tlv first 0 leading parameter_tlv [] in
    let is : t.value ≡ solid leading = append-nil (solid leading) in
    let size : length leading ≡ t.value_size = omega arith in
    ap (λ (value : List _). written (solid (header first 0 (length leading)) ++ value) old) (sym is)
    ∙ ap (λ (n : ℕ). written (solid (header first 0 n) ++ t.value) old) size
    ∙ solid_item t leading old is size (omega (arith, room))

-- INIT or INIT ACK with these numbers
pub init_item : (is_ack : Bool) (b : BorrowedInit) (old out : List ℕ)
    → size_of (chunk_tlv (init is_ack (fields b))) ≤ length old
    → out ≡ written (image_of (solid_tlv (if is_ack then 2 else 1) 0 (leading (fields b)))) old
    → out ≡ with_item (chunk_tlv (init is_ack (fields b))) old
init_item true b old out room e = e ∙ no_items 2 (leading (fields b)) old (omega (arith, room))
init_item false b old out room e = e ∙ no_items 1 (leading (fields b)) old (omega (arith, room))
