-- Items that are added to a chunk one after the other: after each, the chunk still ends the packet,
-- and what is left has room.
use Rattle.std.proofs.{Common.{◌≡◌, ℕ, ◌+◌, ◌-◌, ◌<◌, ◌≤◌, ◌^◌, List, [], ◌∷◌, ◌++◌, length, take, drop, refl, sym, ap, subst, ◌∙◌, arith, append_assoc, drop_at, drop-drop, length-append, length-take, take-take}, lemmas.List.{take-append-le}, Math.Seq.{take-append-add}, lemmas.Nat.{from_be_bytes-to_be_bytes_2}}
use Rattle.std.specs.Int.{w16, to_be_bytes}
use Rattle.dcsctp_tlv.specs.{Frame.{round_up_to_4, frame_length}, Image.{put, image_of}, Number.{number16}}
use Rattle.dcsctp_wire.specs.{Canonical.{padded_chunk}, Chunk.{ChunkTree}, Packet.{Meaning}}
use Rattle.dcsctp_buffer.specs.{Buffer.{IsAdded, HoldsPacket, with_chunk}, Item.{HasItemRoom, IsItemAdded, extended, extended_length, padded_item}}
use Rattle.dcsctp_receive.specs.Unrecognized.{added_size, HasRoomForAll, AreAdded, extended_by, empty_error, HasSomeRoom, IsErrorAdded, with_error}

pub first_has_room : (buffer : List ℕ) (size start : ℕ) (value : List ℕ) (values : List (List ℕ))
    → HasRoomForAll buffer size start (value ∷ values) → HasItemRoom buffer size start value
first_has_room buffer size start value values room =
    let ends = room.place.ends in
    let low = room.place.after_header in
    let whole : size + (round_up_to_4 (4 + length value) + added_size values) ≤ 65532 =
    room.whole in
    let within : size + (round_up_to_4 (4 + length value) + added_size values) ≤ length buffer =
    room.within in
    record {
      place = room.place;
      extensible = omega (arith, ends, low, whole);
      within = omega (arith, within);
      whole = omega (arith, whole);
    }

-- the length field after an item was added
field_kept : (old bytes : List ℕ) (start k n : ℕ) → n < 2 ^ 16 → start + 4 + k ≤ length old
    → frame_length (drop start (put (put old (start + 2) (to_be_bytes w16 n)) (start + (4 + k))
    bytes)) ≡ n
field_kept old bytes start k n small room =
    let front : List ℕ = take (start + 2) old in
    let field : List ℕ = to_be_bytes w16 n in
    let rest : List ℕ = drop (start + 2 + 2) old in
    let middle : List ℕ = put old (start + 2) field in
    let front_len : length front ≡ start + 2 =
    omega (arith, length-take (start + 2) old, room) in
    let tail : List ℕ = bytes ++ drop (start + (4 + k) + length bytes) middle in
    let place : start + (4 + k) ≡ length front + (2 + k) = omega (arith, front_len) in
    let kept : take (start + (4 + k)) middle ≡ front ++ (field ++ take k rest) =
    ap (λ (m : ℕ). take m middle) place
    ∙ take-append-add front (field ++ rest) (2 + k)
    ∙ ap (λ (xs : List ℕ). front ++ xs) (take-append-add field rest k) in
    let whole : put middle (start + (4 + k)) bytes ≡ front ++ (field ++ (take k rest ++ tail)) =
    ap (λ (xs : List ℕ). xs ++ tail) kept
    ∙ append_assoc front (field ++ take k rest) tail
    ∙ ap (λ (xs : List ℕ). front ++ xs) (append_assoc field (take k rest) tail) in
    let from : drop 2 (drop start (put middle (start + (4 + k)) bytes))
    ≡ field ++ (take k rest ++ tail) =
    drop-drop 2 start (put middle (start + (4 + k)) bytes)
    ∙ ap (drop (start + 2)) whole
    ∙ drop_at front (field ++ (take k rest ++ tail)) (start + 2) front_len in
    ap (λ (xs : List ℕ). number16 xs) from ∙ from_be_bytes-to_be_bytes_2 n small

pub others_have_room : (old new : List ℕ) (size end start typ : ℕ) (value : List ℕ)
    (values : List (List ℕ)) → HasRoomForAll old size start (value ∷ values)
    → length new ≡ length old → IsItemAdded typ value old size start new end
    → HasRoomForAll new end start values
others_have_room old new size end start typ value values room len added =
    let before = room.place in
    let ends = before.ends in
    let whole : size + (round_up_to_4 (4 + length value) + added_size values) ≤ 65532 =
    room.whole in
    let within : size + (round_up_to_4 (4 + length value) + added_size values) ≤ length old =
    room.within in
    let k = frame_length (drop start old) - 4 in
    let back : frame_length (drop start old) ≡ 4 + k = omega (arith, before.low) in
    let n = extended_length old start value in
    let small : n < 2 ^ 16 = (first_has_room old size start value values room).extensible in
    let field : frame_length (drop start new) ≡ n =
    ap (λ (xs : List ℕ). frame_length (drop start xs)) (added.bytes
    ∙ ap (λ (m : ℕ). put (put old (start + 2) (to_be_bytes w16 n)) (start + m)
    (padded_item (frame_length (drop start old)) typ value)) back)
    ∙ field_kept old (padded_item (frame_length (drop start old)) typ value) start k n small
    (omega (arith, ends, back, within)) in
    record {
      place = record {
        begun = record {
          header = omega (arith, before.begun.header, added.size);
          words = omega (arith, before.begun.words, added.size);
          within = omega (arith, within, added.size, len);
          whole = omega (arith, whole, added.size);
        };
        after_header = before.after_header;
        words = before.words;
        header = omega (arith, before.header, added.size);
        low = omega (arith, field);
        ends = omega (arith, field, ends, added.size);
      };
      within = omega (arith, within, added.size, len);
      whole = omega (arith, whole, added.size);
    }

-- ---- what is held

take-put : (old bytes : List ℕ) (place n : ℕ) → n ≤ place → n ≤ length old
    → take n (put old place bytes) ≡ take n old
take-put old bytes place n le room =
    take-append-le n (take place old) (bytes ++ drop (place + length bytes) old)
    (omega (arith, length-take place old, le, room))
    ∙ take-take n place old le

long-put : (old bytes : List ℕ) (place n : ℕ) → n ≤ place → n ≤ length old
    → n ≤ length (put old place bytes)
long-put old bytes place n le room =
    omega (
      arith,
      length-append (take place old) (bytes ++ drop (place + length bytes) old),
      length-take place old,
      le,
      room,
    )

-- what is held before a place stays, whatever is written there
pub before_kept : (old new bytes : List ℕ) (place size : ℕ) (m : Meaning) → size ≤ place
    → new ≡ put old place bytes → HoldsPacket old size m → HoldsPacket new size m
before_kept old new bytes place size m le e h = record {
  within = subst (λ (xs : List ℕ). size ≤ length xs) (sym e)
      (long-put old bytes place size le h.within);
  bytes = ap (take size) e ∙ take-put old bytes place size le h.within ∙ h.bytes;
  fits = h.fits;
  width = h.width;
}

pub holds_each : (typ start : ℕ) (values : List (List ℕ)) (old new : List ℕ) (size end : ℕ)
    (m : Meaning) (t : ChunkTree) → AreAdded typ start values old size new end
    → HoldsPacket old start m → HoldsPacket old size (with_chunk m t)
    → HoldsPacket new end (with_chunk m (extended_by t typ values))
holds_each typ start [] old new size end m t are before now =
    subst (λ (xs : List ℕ). HoldsPacket xs end (with_chunk m t)) (sym are.0)
    (subst (λ (n : ℕ). HoldsPacket old n (with_chunk m t)) (sym are.1) now)
holds_each typ start (value ∷ values) old new size end m t are before now =
    let added = are.1.1.0 in
    let len = frame_length (drop start old) in
    let first : List ℕ = put old (start + 2)
    (to_be_bytes w16 (extended_length old start value)) in
    let still = before_kept first are.0 (padded_item len typ value) (start + len) start m
    (omega arith) added.bytes
    (before_kept old first (to_be_bytes w16 (extended_length old start value)) (start + 2) start m
    (omega arith) refl before) in
    holds_each typ start values are.0 new are.1.0 end m (extended t typ value) are.1.1.1 still
    (added.held m t before now)

pub holds_error : (code : ℕ) (values : List (List ℕ)) (old new : List ℕ) (size end : ℕ)
    (m : Meaning) → IsErrorAdded code values old size new end → HoldsPacket old size m
    → HoldsPacket new end (with_error m code values)
holds_error code [] old new size end m is h =
    subst (λ (xs : List ℕ). HoldsPacket xs end m) (sym is.0)
    (subst (λ (n : ℕ). HoldsPacket old n m) (sym is.1) h)
holds_error code (value ∷ values) old new size end m is h =
    let added = is.1.1.0 in
    holds_each code size (value ∷ values) is.0 new is.1.0 end m empty_error is.1.1.1
    (before_kept old is.0 (padded_chunk empty_error) size size m (omega arith) added.bytes h)
    (added.held m h)

-- ---- an ERROR without a cause

bare : padded_chunk empty_error ≡ 9 ∷ 0 ∷ 0 ∷ 4 ∷ []
unfolding image_of
bare = refl

pub causes_have_room : (old new : List ℕ) (size end : ℕ) (values : List (List ℕ))
    → HasSomeRoom (length old) size values → length new ≡ length old
    → IsAdded empty_error old size new end → HasRoomForAll new end size values
causes_have_room old new size end values r len added =
    let front : List ℕ = take size old in
    let front_len : length front ≡ size = omega (arith, length-take size old, r.within) in
    let ends : end ≡ size + 4 = added.size in
    let from : drop size new ≡ 9 ∷ 0 ∷ 0 ∷ 4 ∷ drop (size + 4) old =
    ap (drop size) (added.bytes ∙ ap (λ (xs : List ℕ). put old size xs) bare)
    ∙ drop_at front (9 ∷ 0 ∷ 0 ∷ 4 ∷ drop (size + 4) old) size front_len in
    let field : frame_length (drop size new) ≡ 4 =
    ap frame_length from in
    record {
      place = record {
        begun = record {
          header = omega (arith, r.begun.header, ends);
          words = omega (arith, r.begun.words, ends);
          within = omega (arith, r.within, ends, len);
          whole = omega (arith, r.whole, ends);
        };
        after_header = r.begun.header;
        words = r.begun.words;
        header = omega (arith, ends);
        low = omega (arith, field);
        ends = omega (arith, field, ends);
      };
      within = omega (arith, r.within, ends, len);
      whole = omega (arith, r.whole, ends);
    }
