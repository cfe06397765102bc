-- What a buffer holds after an item was added to its last chunk.
use Rattle.std.{proofs.Common.{◌≡◌, ℕ, suc, zero, ◌+◌, ◌*◌, ◌<◌, ◌≤◌, ◌^◌, List, [], ◌∷◌, ◌++◌, length, take, drop, replicate, unwrap_or, refl, sym, ap, subst, ◌∙◌, append_assoc, arith, length-append, length-take, take_at, drop_at, drop-drop, take-append-drop, get_or}, specs.Int.{w16, to_be_bytes}, specs.List.{AllByRecursion}, proofs.lemmas.List.{length-map, length-replicate}, proofs.lemmas.Nat.{from_be_bytes-to_be_bytes_2}}
use Rattle.dcsctp_tlv.{specs.Frame.{round_up_to_4, header, typed_header, frame_length}, specs.Image.{Tlv, put, gap, zeroed, size_of, image_of}, specs.Number.{AreBytes, numbers}, proofs.Puts.{put-put, length-numbers}}
use Rattle.dcsctp_wire.{specs.Chunk.{ChunkTree, format, tlv as chunk_tlv, IsChunkEncodable, IsInWidth as IsChunkInWidth}, specs.Canonical.{canonical, padded_chunk, padded_size}, specs.Packet.{Meaning}, proofs.Canonicals.{length-canonical, length-padded_chunk, canonical-push, padded_size-push}}
use Rattle.dcsctp_buffer.{specs.Buffer.{HoldsPacket, with_chunk}, specs.Item.{item_value, with_last, extended, extended_length, HasItemRoom, padded_item}, proofs.Items.{zeroed-solid}, proofs.Buffers.{each-push}}

-- ---- bytes at a place

put_at : (front rest bytes : List ℕ) (place : ℕ) → length front ≡ place
    → put (front ++ rest) place bytes ≡ front ++ (bytes ++ drop (length bytes) rest)
put_at front rest bytes place len =
    ap (λ (xs : List ℕ). xs ++ (bytes ++ drop (place + length bytes) (front ++ rest)))
    (take_at front rest place len)
    ∙ ap (λ (xs : List ℕ). front ++ (bytes ++ xs)) (sym (drop-drop (length bytes) place
    (front ++ rest)) ∙ ap (drop (length bytes)) (drop_at front rest place len))

-- a new length of an item, and bytes after its value
put_both : (front value rest bytes : List ℕ) (first second old new start place : ℕ)
    → length front ≡ start → place ≡ start + (4 + length value)
    → put (put (front ++ (first ∷ second ∷ (to_be_bytes w16 old ++ (value ++ rest)))) (start + 2)
    (to_be_bytes w16 new)) place bytes
    ≡ front ++ (first ∷ second ∷ (to_be_bytes w16 new ++ (value ++ (bytes
    ++ drop (length bytes) rest))))
put_both front value rest bytes first second old new start place len is =
    let head : List ℕ = front ++ (first ∷ second ∷ []) in
    let whole : List ℕ = front ++ (first ∷ second ∷ (to_be_bytes w16 new ++ value)) in
    let head_len : length head ≡ start + 2 =
    (let l = length-append front (first ∷ second ∷ []) in omega (arith, l, len)) in
    let whole_len : length whole ≡ place =
    (let l = length-append front (first ∷ second ∷ (to_be_bytes w16 new ++ value)) in
    omega (arith, l, len, is)) in
    ap (λ (xs : List ℕ). put (put xs (start + 2) (to_be_bytes w16 new)) place bytes)
    (sym (append_assoc front (first ∷ second ∷ []) (to_be_bytes w16 old ++ (value ++ rest))))
    ∙ ap (λ (xs : List ℕ). put xs place bytes)
    (put_at head (to_be_bytes w16 old ++ (value ++ rest)) (to_be_bytes w16 new) (start + 2) head_len
    ∙ append_assoc front (first ∷ second ∷ []) (to_be_bytes w16 new ++ (value ++ rest))
    ∙ sym (append_assoc front (first ∷ second ∷ (to_be_bytes w16 new ++ value)) rest))
    ∙ put_at whole rest bytes place whole_len
    ∙ append_assoc front (first ∷ second ∷ (to_be_bytes w16 new ++ value))
    (bytes ++ drop (length bytes) rest)

-- ---- bytes in width

pub bytes_after : (front rest : List ℕ) → AreBytes (front ++ rest) → AreBytes rest
bytes_after [] rest h = h
bytes_after (b ∷ front) rest h = bytes_after front rest (λ i. h (suc i))

pub bytes_before : (front rest : List ℕ) → AreBytes (front ++ rest) → (i : ℕ)
    → get_or front i 0 < 256
bytes_before [] rest h i = omega arith
bytes_before (b ∷ front) rest h zero = h 0
bytes_before (b ∷ front) rest h (suc i) = bytes_before front rest (λ j. h (suc j)) i

-- ---- a chunk as it is written

-- its header, its value and its padding
chunk_bytes : ℕ → ℕ → List ℕ → List ℕ
chunk_bytes first second value = first ∷ second ∷ (to_be_bytes w16 (4 + length value)
    ++ (value ++ replicate (gap (4 + length value)) 0))

length-value : (t : ChunkTree) → length (zeroed (chunk_tlv t).value) ≡ (chunk_tlv t).value_size
length-value t = length-map (chunk_tlv t).value (λ cell. unwrap_or cell 0) ∙ (format t).sized

padded_is : (x : Tlv) → length (zeroed x.value) ≡ x.value_size
    → zeroed (image_of x) ++ replicate (gap (size_of x)) 0
    ≡ chunk_bytes x.first x.second (zeroed x.value)
unfolding image_of chunk_bytes
padded_is x len =
    let padding : List ℕ = replicate (gap (size_of x)) 0 in
    rw len (append_assoc (header x.first x.second x.value_size) (zeroed x.value) padding)

-- the length that it begins with
length_is : (first second : ℕ) (value rest : List ℕ) → 4 + length value < 2 ^ 16
    → frame_length (chunk_bytes first second value ++ rest) ≡ 4 + length value
unfolding chunk_bytes
length_is first second value rest small = from_be_bytes-to_be_bytes_2 (4 + length value) small

-- ---- the chunk with one item more

regroup : (v z h i y r : List ℕ) → v ++ ((z ++ (h ++ (i ++ y))) ++ r)
    ≡ ((v ++ (z ++ (h ++ i))) ++ y) ++ r
regroup v z h i y r = simp append_assoc

-- a value with one item more fills the words before it
length-with_last : (list item : List ℕ) (typ : ℕ) → 4 + length (with_last list typ item)
    ≡ round_up_to_4 (4 + length list) + (4 + length item)
length-with_last list item typ =
    let z : List ℕ = replicate (gap (length list)) 0 in
    let all = length-append list (z ++ (typed_header typ (length item) ++ item)) in
    let last = length-append z (typed_header typ (length item) ++ item) in
    let zeros = length-replicate {A = ℕ} (gap (length list)) 0 in
    omega (arith, all, last, zeros)

length-padded_item : (size typ : ℕ) (item : List ℕ) → length (padded_item size typ item)
    ≡ gap size + round_up_to_4 (4 + length item)
length-padded_item size typ item =
    let z : List ℕ = replicate (gap size) 0 in
    let y : List ℕ = replicate (gap (4 + length item)) 0 in
    let all = length-append z (typed_header typ (length item) ++ (item ++ y)) in
    let last = length-append item y in
    let before = length-replicate {A = ℕ} (gap size) 0 in
    let after = length-replicate {A = ℕ} (gap (4 + length item)) 0 in
    omega (arith, all, last, before, after)

-- what was written is the longer chunk
written_is : (front value rest item : List ℕ) (first second typ start : ℕ)
    → length front ≡ start
    → put (put (front ++ (chunk_bytes first second value ++ rest)) (start + 2)
    (to_be_bytes w16 (round_up_to_4 (4 + length value) + (4 + length item))))
    (start + (4 + length value)) (padded_item (4 + length value) typ item)
    ≡ front ++ (chunk_bytes first second (with_last value typ item)
    ++ drop (round_up_to_4 (4 + length item)) rest)
unfolding chunk_bytes
written_is front value rest item first second typ start len =
    let l = 4 + length value in
    let n = round_up_to_4 l + (4 + length item) in
    let r = round_up_to_4 (4 + length item) in
    let z : List ℕ = replicate (gap l) 0 in
    let h : List ℕ = typed_header typ (length item) in
    let y : List ℕ = replicate (gap (4 + length item)) 0 in
    let block : List ℕ = padded_item l typ item in
    let longer = length-with_last value item typ in
    let same_before : gap l ≡ gap (length value) = omega arith in
    let same_after : gap (4 + length item) ≡ gap (4 + length (with_last value typ item)) =
    omega (arith, longer) in
    let after : drop (length block) (z ++ rest) ≡ drop r rest =
    ap (λ (k : ℕ). drop k (z ++ rest)) (length-padded_item l typ item)
    ∙ sym (drop-drop r (gap l) (z ++ rest))
    ∙ ap (drop r) (drop_at z rest (gap l) (length-replicate {A = ℕ} (gap l) 0)) in
    ap (λ (xs : List ℕ). put (put (front ++ (first ∷ second ∷ (to_be_bytes w16 l ++ xs)))
    (start + 2) (to_be_bytes w16 n)) (start + l) block) (append_assoc value z rest)
    ∙ put_both front value (z ++ rest) block first second l n start (start + l) len refl
    ∙ ap (λ (xs : List ℕ). front ++ (first ∷ second ∷ (to_be_bytes w16 n ++ xs)))
    (ap (λ (xs : List ℕ). value ++ (block ++ xs)) after ∙ regroup value z h item y (drop r rest)
    ∙ ap (λ (k : ℕ). ((value ++ (replicate k 0 ++ (h ++ item))) ++ y) ++ drop r rest) same_before
    ∙ ap (λ (k : ℕ). (with_last value typ item ++ replicate k 0) ++ drop r rest) same_after)
    ∙ ap (λ (k : ℕ). front ++ (first ∷ second ∷ (to_be_bytes w16 k ++ ((with_last value typ item
    ++ replicate (gap (4 + length (with_last value typ item))) 0) ++ drop r rest)))) (sym longer)

chunk_width : (first second : ℕ) (value rest : List ℕ)
    → AreBytes (chunk_bytes first second value ++ rest)
    → (first < 2 ^ 8) × (second < 2 ^ 8) × AreBytes value
unfolding chunk_bytes
chunk_width first second value rest h =
    let padding : List ℕ = replicate (gap (4 + length value)) 0 in (
      h 0,
      h 1,
      bytes_before value padding (bytes_before (value ++ padding) rest
          (λ i. h (suc (suc (suc (suc i)))))),
    )

last_of : (P : ChunkTree → Type 0) (ts : List ChunkTree) (t : ChunkTree)
    → AllByRecursion P (ts ++ t ∷ []) → P t
last_of P [] t h = h.0
last_of P (u ∷ ts) t h = last_of P ts t h.1

pub extends : (old new : List ℕ) (size start end typ : ℕ) (value : List ℕ) (m : Meaning)
    (t : ChunkTree) → HasItemRoom old size start value → AreBytes new
    → new ≡ put (put old (start + 2) (to_be_bytes w16 (extended_length old start value)))
    (start + frame_length (drop start old)) (padded_item (frame_length (drop start old)) typ value)
    → end ≡ size + round_up_to_4 (4 + length value)
    → HoldsPacket old start m → HoldsPacket old size (with_chunk m t)
    → HoldsPacket new end (with_chunk m (extended t typ value))
extends old new size start end typ value m t room width e at before now =
    let x = chunk_tlv t in
    let v : List ℕ = zeroed x.value in
    let longer : List ℕ = with_last v typ value in
    let last = extended t typ value in
    let front : List ℕ = canonical m in
    let rest : List ℕ = drop size old in
    let rest_after : List ℕ = drop (round_up_to_4 (4 + length value)) rest in
    let v_len = length-value t in
    let encodable = last_of IsChunkEncodable m.chunks t now.fits.each in
    let old_is : old ≡ front ++ (chunk_bytes x.first x.second v ++ rest) =
    sym (take-append-drop size old)
    ∙ ap (λ (xs : List ℕ). xs ++ rest) (now.bytes ∙ sym (canonical-push m t)
    ∙ ap (λ (xs : List ℕ). front ++ xs) (padded_is x v_len))
    ∙ append_assoc front (chunk_bytes x.first x.second v) rest in
    let front_len : length front ≡ start =
    sym (ap length before.bytes)
    ∙ (let l = length-take start old in omega (arith, l, before.within)) in
    let l_is : frame_length (drop start old) ≡ 4 + length v =
    ap (λ (xs : List ℕ). frame_length (drop start xs)) old_is
    ∙ ap frame_length (drop_at front (chunk_bytes x.first x.second v ++ rest) start front_len)
    ∙ length_is x.first x.second v rest (omega (arith, encodable.1, v_len)) in
    let last_is : padded_chunk last ≡ chunk_bytes x.first x.second longer =
    padded_is (chunk_tlv last) (length-value last)
    ∙ ap (chunk_bytes x.first x.second) (zeroed-solid longer) in
    let new_is : new ≡ front ++ (chunk_bytes x.first x.second longer ++ rest_after) =
    e ∙ ap (λ (l : ℕ). put (put old (start + 2) (to_be_bytes w16 (round_up_to_4 l
    + (4 + length value)))) (start + l) (padded_item l typ value)) l_is
    ∙ ap (λ (xs : List ℕ). put (put xs (start + 2) (to_be_bytes w16
    (round_up_to_4 (4 + length v) + (4 + length value)))) (start + (4 + length v))
    (padded_item (4 + length v) typ value)) old_is
    ∙ written_is front v rest value x.first x.second typ start front_len in
    let all : List ℕ = front ++ padded_chunk last in
    let all_is : new ≡ all ++ rest_after =
    new_is ∙ ap (λ (xs : List ℕ). front ++ (xs ++ rest_after)) (sym last_is)
    ∙ sym (append_assoc front (padded_chunk last) rest_after) in
    let longer_len = length-with_last v value typ in
    let held : start ≡ 12 + padded_size m.chunks = sym front_len ∙ length-canonical m in
    let ends = room.place.ends in
    let end_is : end ≡ start + round_up_to_4 (size_of (chunk_tlv last)) =
    omega (arith, at, ends, l_is, longer_len) in
    let all_len : length all ≡ end =
    (let l = length-append front (padded_chunk last) in let k = length-padded_chunk last in
    omega (arith, l, k, front_len, end_is)) in
    let new_len = ap length all_is ∙ length-append all rest_after in
    let more = padded_size-push m.chunks last in
    let small : size_of (chunk_tlv last) < 2 ^ 16 =
    omega (arith, room.extensible, l_is, longer_len) in
    record {
      within = omega (arith, new_len, all_len);
      bytes = ap (take end) all_is ∙ take_at all rest_after end all_len ∙ canonical-push m last;
      fits = record {
        each = each-push IsChunkEncodable m.chunks last before.fits.each (tt, small);
        whole = omega (arith, held, more, end_is, at, room.whole);
      };
      width = record {
        source = before.width.source;
        destination = before.width.destination;
        tag = before.width.tag;
        each = each-push IsChunkInWidth m.chunks last before.width.each
            (chunk_width x.first x.second longer rest_after
            (bytes_after front (chunk_bytes x.first x.second longer ++ rest_after)
            (subst AreBytes new_is width)));
      };
    }

-- ---- bytes one after the other

-- bytes at a place, and more where they end
pub then_put : (old out next : List ℕ) (place end : ℕ) (a b : List ℕ) → place ≤ length old
    → out ≡ put old place a → next ≡ put out end b → end ≡ place + length a
    → next ≡ put old place (a ++ b)
then_put old out next place end a b le is e at =
    e ∙ ap (λ (xs : List ℕ). put xs end b) is ∙ put-put old place end a b le at

-- padding, a header, a value, and padding
pub four_put : (old zeroed headed valued out : List ℕ) (place second third fourth : ℕ)
    (a b c d : List ℕ) → place ≤ length old → zeroed ≡ put old place a
    → headed ≡ put zeroed second b → valued ≡ put headed third c → out ≡ put valued fourth d
    → second ≡ place + length a → third ≡ second + length b → fourth ≡ third + length c
    → out ≡ put old place (a ++ (b ++ (c ++ d)))
four_put old zeroed headed valued out place second third fourth a b c d le is is2 is3 is4 at2 at3
    at4 =
    let ab : List ℕ = a ++ b in
    let two = length-append a b in
    let three = length-append ab c in
    then_put old valued out place fourth (ab ++ c) d le
    (then_put old headed valued place third ab c le
    (then_put old zeroed headed place second a b le is is2 at2) is3 (omega (arith, two))) is4
    (omega (arith, two, three))
    ∙ ap (put old place) (simp append_assoc)

pub length-item_value : (leading words : List ℕ) → length (item_value leading words)
    ≡ length leading + 2 * length words
length-item_value leading words =
    length-append leading (numbers w16 words)
    ∙ ap (λ (n : ℕ). length leading + n) (length-numbers w16 2 words (λ n. refl))
