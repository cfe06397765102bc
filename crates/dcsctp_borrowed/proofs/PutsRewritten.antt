-- Values that are written in parts; and the parts at the front and at the back of short ones.
use Rattle.std.{proofs.Common.{◌≡◌, ℕ, zero, suc, ◌+◌, ◌-◌, ◌*◌, ◌≤◌, List, [], ◌∷◌, ◌++◌, length, min, take, drop, refl, ap, ◌∙◌, sym, append_assoc, arith, inl, inr, length-append, length-drop, length-take, take_all, append-nil}, specs.List.{flat_map}, proofs.lemmas.Bool.{cases_lt}, proofs.lemmas.List.{drop_all}, proofs.lemmas.List.Concat.{flat_map-append}}
use Rattle.dcsctp_tlv.{specs.Frame.{header}, specs.Image.{put, solid_tlv, image_of, written}, specs.Fields.{fields}, proofs.FieldLaws.{fields-first}, proofs.Puts.{put-put, fields-push, written_value}}
use Rattle.dcsctp_borrowed.specs.Rewritten.{stream_again, streams_again, value_again}
use Rattle.dcsctp_chunk.specs.SkippedStreams.{stream_count}

-- ---- parts of a value

-- a part to the end, as the code takes it
pub rest_is : (k : ℕ) (xs : List ℕ) → take (length xs - k) (drop k xs) ≡ drop k xs
rest_is k xs = take_all (length xs - k) (drop k xs) (omega (arith, length-drop k xs))

pub front_is : (n k : ℕ) (xs : List ℕ) → k ≡ min (length xs) n → take k xs ≡ take n xs
front_is n k xs e = elim (cases_lt n (length xs)) [
  | inl lt ↦ (let same : k ≡ n = omega (arith, e, lt) in ap (λ (j : ℕ). take j xs) same)
  | inr le ↦ take_all k xs (omega (arith, e, le)) ∙ sym (take_all n xs le)
]

pub back_is : (n k : ℕ) (xs : List ℕ) → k ≡ min (length xs) n → drop k xs ≡ drop n xs
back_is n k xs e = elim (cases_lt n (length xs)) [
  | inl lt ↦ (let same : k ≡ n = omega (arith, e, lt) in ap (λ (j : ℕ). drop j xs) same)
  | inr le ↦ drop_all k xs (omega (arith, e, le)) ∙ sym (drop_all n xs le)
]

-- ---- written after a header

module _ (first second : ℕ) (old headed : List ℕ) (n : ℕ)
    (is : headed ≡ header first second n ++ drop 4 old) where
  four : 4 ≤ length headed
  four =
      let all = length-append (header first second n) (drop 4 old) in
      omega (arith, ap length is, all)

  pub two_parts : (a b : List ℕ) (place : ℕ) → place ≡ 4 + length a → n ≡ length (a ++ b)
      → 4 + length (a ++ b) ≤ length old
      → put (put headed 4 a) place b ≡ written (image_of (solid_tlv first second (a ++ b))) old
  two_parts a b place at e room =
      put-put headed 4 place a b four at
      ∙ written_value first second n (a ++ b) old headed e room is

  pub three_parts : (a b c : List ℕ) (place next : ℕ) → place ≡ 4 + length a
      → next ≡ place + length b → n ≡ length (a ++ (b ++ c))
      → 4 + length (a ++ (b ++ c)) ≤ length old
      → put (put (put headed 4 a) place b) next c
      ≡ written (image_of (solid_tlv first second (a ++ (b ++ c)))) old
  three_parts a b c place next at after e room =
      let same = append_assoc a b c in
      ap (λ (out : List ℕ). put out next c) (put-put headed 4 place a b four at)
      ∙ two_parts (a ++ b) c next (omega (arith, at, after, length-append a b))
      (e ∙ ap length (sym same)) (omega (arith, room, ap length same))
      ∙ ap (λ (bytes : List ℕ). written (image_of (solid_tlv first second bytes)) old) same

-- ---- skipped streams

pub length-streams : (n : ℕ) (bytes : List ℕ) → length (streams_again n bytes) ≡ 8 * n
length-streams zero bytes = refl
length-streams (suc n) bytes =
    let first = ap (λ (all : List (List ℕ)). length (flat_map (λ s. s) all))
    (fields-first stream_again 8 n bytes) in
    let rest = length-streams n (drop 8 bytes) in
    omega (arith, first, rest)

-- how many bytes both parts have
pub streams_size : (value : List ℕ) (k n : ℕ) → k ≡ min (length value) 4 → n ≡ stream_count 8 value
    → k + 8 * n ≡ length (value_again 194 value)
streams_size value k n front count =
    let all = length-append (take 4 value) (streams_again (stream_count 8 value) (drop 4 value)) in
    let streams = length-streams (stream_count 8 value) (drop 4 value) in
    omega (arith, all, streams, count, front, length-take 4 value)

pub one_stream_more : (old : List ℕ) (place i : ℕ) (bytes out kept : List ℕ) → place ≤ length old
    → out ≡ put old place (streams_again i bytes) → kept ≡ stream_again (drop (8 * i) bytes)
    → put out (place + 8 * i) kept ≡ put old place (streams_again (i + 1) bytes)
one_stream_more old place i bytes out kept le so_far is =
    let all = fields stream_again 8 i bytes in
    let last = stream_again (drop (8 * i) bytes) in
    let more : streams_again (i + 1) bytes ≡ streams_again i bytes ++ last =
    ap (flat_map (λ s. s)) (fields-push stream_again 8 i bytes)
    ∙ flat_map-append (λ s. s) all (last ∷ [])
    ∙ ap (λ (b : List ℕ). streams_again i bytes ++ b) (append-nil last) in
    rw (so_far, is, more) (put-put old place (place + 8 * i) (streams_again i bytes) last le
    (omega (arith, length-streams i bytes)))
