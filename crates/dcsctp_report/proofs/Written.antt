-- What is written of a text, byte by byte.
use Rattle.std.proofs.Common.{◌≡◌, ℕ, ◌+◌, ◌-◌, ◌≤◌, ◌<◌, true, false, List, [], ◌∷◌, ◌++◌, length, take, drop, get_or, sym, ap, ◌∙◌, append_assoc, arith}
use Rattle.std.specs.List.{flat_map, slice_range}
use Rattle.std.proofs.lemmas.List.{take_more, append-nil, length-drop, get_or-drop}
use Rattle.std.proofs.lemmas.Grind.{common_steps, flat_map-append}
use Rattle.std.proofs.Math.Seq.{take-length}
use Rattle.dcsctp_report.specs.JsonString.{written, is_escaped, escape}

-- a part that grows by one
slice_more : (bytes : List ℕ) (start i : ℕ) → start ≤ i → i < length bytes
    → slice_range bytes start (i + 1) ≡ slice_range bytes start i ++ get_or bytes i 0 ∷ []
slice_more bytes start i le lt =
    let one_more : i + 1 - start ≡ i - start + 1 = omega arith in
    let inside : i - start < length (drop start bytes) = omega (arith, length-drop start bytes) in
    let same : start + (i - start) ≡ i = omega arith in
    ap (λ n. take n (drop start bytes)) one_more
    ∙ take_more (drop start bytes) (i - start) 0 inside
    ∙ ap (λ b. take (i - start) (drop start bytes) ++ b ∷ [])
    (get_or-drop start bytes (i - start) 0 ∙ ap (λ k. get_or bytes k 0) same)

slice_none : (bytes : List ℕ) (i : ℕ) → slice_range bytes i i ≡ []
slice_none bytes i = grind (arith, common_steps)

-- one byte more
written_more : (bytes : List ℕ) (i : ℕ) → i < length bytes
    → flat_map written (take (i + 1) bytes)
    ≡ flat_map written (take i bytes) ++ written (get_or bytes i 0)
written_more bytes i lt =
    ap (flat_map written) (take_more bytes i 0 lt)
    ∙ flat_map-append written (take i bytes) (get_or bytes i 0 ∷ [])
    ∙ ap (λ l. flat_map written (take i bytes) ++ l) (append-nil (written (get_or bytes i 0)))

pub written_plain : (bytes done : List ℕ) (start i : ℕ) → start ≤ i → i < length bytes
    → is_escaped (get_or bytes i 0) ≡ false
    → done ++ slice_range bytes start i ≡ flat_map written (take i bytes)
    → done ++ slice_range bytes start (i + 1) ≡ flat_map written (take (i + 1) bytes)
written_plain bytes done start i le lt plain so_far =
    ap (λ l. done ++ l) (slice_more bytes start i le lt)
    ∙ sym (append_assoc done (slice_range bytes start i) (get_or bytes i 0 ∷ []))
    ∙ ap (λ l. l ++ get_or bytes i 0 ∷ []) so_far
    ∙ sym (written_more bytes i lt ∙ ap (λ l. flat_map written (take i bytes) ++ l) (rw plain))

pub written_escaped : (bytes done : List ℕ) (start i : ℕ) → i < length bytes
    → is_escaped (get_or bytes i 0) ≡ true
    → done ++ slice_range bytes start i ≡ flat_map written (take i bytes)
    → ((done ++ slice_range bytes start i) ++ escape (get_or bytes i 0)) ++ slice_range bytes
    (i + 1) (i + 1)
    ≡ flat_map written (take (i + 1) bytes)
written_escaped bytes done start i lt is so_far =
    ap (λ l. ((done ++ slice_range bytes start i) ++ escape (get_or bytes i 0)) ++ l)
    (slice_none bytes (i + 1))
    ∙ append-nil ((done ++ slice_range bytes start i) ++ escape (get_or bytes i 0))
    ∙ ap (λ l. l ++ escape (get_or bytes i 0)) so_far
    ∙ sym (written_more bytes i lt ∙ ap (λ l. flat_map written (take i bytes) ++ l) (rw is))

pub written_all : (bytes done : List ℕ) (start : ℕ)
    → done ++ slice_range bytes start (length bytes) ≡ flat_map written (take (length bytes) bytes)
    → done ++ slice_range bytes start (length bytes) ≡ flat_map written bytes
written_all bytes done start so_far = so_far ∙ ap (flat_map written) (take-length bytes)
