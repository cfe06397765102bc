-- A chunk without a list of parameters or causes is written again of its own bytes, but for bits
-- and bytes that its kind ignores, which are zeros.
use Rattle.std.{proofs.Common.{◌≡◌, ℕ, zero, suc, ◌<◌, ◌+◌, ◌*◌, ◌/◌, ◌%◌, ◌^◌, ◌≤◌, Bool, true, false, List, [], ◌∷◌, ◌++◌, length, take, drop, refl, sym, ap, ap₂, subst, ◌∙◌, arith, inl, inr, Ok, ◌==◌, if◌then◌else◌, eqb-true, take-append-drop, take_all, length-drop, append_assoc, drop-drop, nat_lt}, specs.Int.{w16, w32, to_be_bytes}, specs.List.{flat_map}, proofs.Math.Seq.{take-add}, proofs.lemmas.Bool.{cases_lt}}
use Rattle.std.proofs.lemmas.Bool.{ltb-false}
use Rattle.dcsctp_tlv.{specs.Fault.{Length}, specs.Fields.{fields}, specs.Format.{flagged_tlv}, specs.Image.{solid_tlv}, specs.Number.{AreBytes, number16, number32, numbers}, proofs.FieldLaws.{length-fields}, proofs.KindLaws.{of_ok, passed, not_refused}}
use Rattle.dcsctp_chunk.specs.Flags.{is_set, flag_byte}
use Rattle.dcsctp_chunk.specs.Sack as sack
use Rattle.dcsctp_chunk.specs.Shutdown as shutdown
use Rattle.dcsctp_chunk.specs.ShutdownAck as shutdown_ack
use Rattle.dcsctp_chunk.specs.CookieEcho as cookie_echo
use Rattle.dcsctp_chunk.specs.CookieAck as cookie_ack
use Rattle.dcsctp_chunk.specs.ShutdownComplete as shutdown_complete
use Rattle.dcsctp_chunk.specs.Data as data_kind
use Rattle.dcsctp_chunk.specs.DataChunk as data_chunk
use Rattle.dcsctp_chunk.specs.IDataChunk as idata_chunk
use Rattle.dcsctp_chunk.specs.SkippedStreams as streams
use Rattle.dcsctp_chunk.specs.ForwardTsn as forward
use Rattle.dcsctp_chunk.specs.IForwardTsn as iforward
use Rattle.dcsctp_borrowed.{specs.Rewritten.{value_again, stream_again, streams_again}, proofs.FrameItems.{bytes_after}, proofs.Rewritten.{word_again, half_again, fields_again, fields_rewritten, same_tlv, none}}

-- ---- flags

bit_again : (n : ℕ) → (if n % 2 == 1 then 1 else 0) ≡ n % 2
bit_again n = elim (cases_lt (n % 2) 1) [
  | inl lt ↦ (let is : n % 2 ≡ 0 = omega (arith, lt) in rw is refl)
  | inr le ↦ (let is : n % 2 ≡ 1 = omega (arith, le) in rw is refl)
]

-- the lowest bit
pub one_flag : (flags : ℕ) → flag_byte (is_set flags 0 ∷ []) ≡ flags % 2
one_flag flags = let b = bit_again (flags / 2 ^ 0) in omega (arith, b)

-- the four lowest bits
pub four_flags : (flags : ℕ)
    → flag_byte (is_set flags 0 ∷ is_set flags 1 ∷ is_set flags 2 ∷ is_set flags 3 ∷ [])
    ≡ flags % 16
four_flags flags =
    let a = bit_again (flags / 2 ^ 0) in
    let b = bit_again (flags / 2 ^ 1) in
    let c = bit_again (flags / 2 ^ 2) in
    let d = bit_again (flags / 2 ^ 3) in
    omega (arith, a, b, c, d)

-- ---- numbers and bytes

abbrev pub app : List ℕ → List ℕ → List ℕ
app a b = a ++ b

-- a number at a place
pub word_at : (n : ℕ) (value : List ℕ) → n + 4 ≤ length value → AreBytes value
    → to_be_bytes w32 (number32 (drop n value)) ≡ take 4 (drop n value)
word_at n value size fits =
    word_again (drop n value) (omega (arith, length-drop n value, size)) (bytes_after n value fits)

pub half_at : (n : ℕ) (value : List ℕ) → n + 2 ≤ length value → AreBytes value
    → to_be_bytes w16 (number16 (drop n value)) ≡ take 2 (drop n value)
half_at n value size fits =
    half_again (drop n value) (omega (arith, length-drop n value, size)) (bytes_after n value fits)

pub shutdown_again : (value : List ℕ) (tsn : ℕ) → shutdown.read value ≡ Ok tsn → AreBytes value
    → (shutdown.format tsn).tlv ≡ solid_tlv 7 0 value
shutdown_again value tsn e fits =
    let whole = passed (length value == 4) _ Length tsn e in
    let size : length value ≡ 4 = eqb-true (length value) 4 whole.0 in
    let is : number32 value ≡ tsn = of_ok _ tsn whole.1 in
    same_tlv 7 0 4 (to_be_bytes w32 tsn) value (shutdown.format tsn).sized
    (ap (to_be_bytes w32) (sym is) ∙ word_again value (omega (arith, size)) fits
    ∙ take_all 4 value (omega (arith, size)))

pub cookie_echo_again : (value cookie : List ℕ) → cookie_echo.read value ≡ Ok cookie
    → (cookie_echo.format cookie).tlv ≡ solid_tlv 10 0 value
cookie_echo_again value cookie e =
    let whole = not_refused (length value == 0) _ Length cookie e in
    same_tlv 10 0 (length cookie) cookie value (cookie_echo.format cookie).sized
    (sym (of_ok _ cookie whole.1))

pub cookie_ack_again : (value : List ℕ) (t : Unit {0}) → cookie_ack.read value ≡ Ok t
    → (cookie_ack.format t).tlv ≡ solid_tlv 11 0 value
cookie_ack_again value t e =
    let whole = passed (length value == 0) _ Length t e in
    same_tlv 11 0 0 [] value refl (none value (eqb-true (length value) 0 whole.0))

pub shutdown_ack_again : (value : List ℕ) (t : Unit {0}) → shutdown_ack.read value ≡ Ok t
    → (shutdown_ack.format t).tlv ≡ solid_tlv 8 0 value
shutdown_ack_again value t e =
    let whole = passed (length value == 0) _ Length t e in
    same_tlv 8 0 0 [] value refl (none value (eqb-true (length value) 0 whole.0))

pub shutdown_complete_again : (flags : ℕ) (value : List ℕ) (reflected : Bool)
    → shutdown_complete.read flags value ≡ Ok reflected
    → (shutdown_complete.format reflected).tlv ≡ solid_tlv 14 (flags % 2) value
shutdown_complete_again flags value reflected e =
    let whole = passed (length value == 0) _ Length reflected e in
    let is : is_set flags 0 ≡ reflected = of_ok _ reflected whole.1 in
    let flag : flag_byte (reflected ∷ []) ≡ flags % 2 =
    ap (λ (b : Bool). flag_byte (b ∷ [])) (sym is) ∙ one_flag flags in
    ap (λ (n : ℕ). solid_tlv 14 n []) flag
    ∙ ap (λ (b : List ℕ). solid_tlv 14 (flags % 2) b)
    (none value (eqb-true (length value) 0 whole.0))

-- ---- SACK

pub block_again : (bytes : List ℕ) → 4 ≤ length bytes → AreBytes bytes
    → sack.block_bytes (sack.block_at bytes) ≡ take 4 bytes
block_again bytes size fits =
    ap₂ app (half_again bytes (omega (arith, size)) fits)
    (half_at 2 bytes (omega (arith, size)) fits)
    ∙ sym (take-add 2 2 bytes)

pub sack_again : (value : List ℕ) (s : sack.Tree) → sack.read value ≡ Ok s → AreBytes value
    → (sack.format s).tlv ≡ solid_tlv 3 0 value
sack_again value s e fits =
    let n = sack.numbers_at value in
    let blocks = n.gap_ack_block_count in
    let duplicates = n.duplicate_tsn_count in
    let whole = passed (length value == sack.size_of_value n) _ Length s e in
    let size : length value ≡ 12 + 4 * blocks + 4 * duplicates =
    eqb-true (length value) (sack.size_of_value n) whole.0 in
    let place : ℕ = 12 + 4 * blocks in
    let at : sack.Tree = record {
      tsn = n.cumulative_tsn_ack.0;
      a_rwnd = n.a_rwnd;
      blocks = fields sack.block_at 4 blocks (drop 12 value);
      duplicates = fields number32 4 duplicates (drop place value);
    } in
    let is : at ≡ s = of_ok _ s whole.1 in
    let count : length at.blocks ≡ blocks = length-fields sack.block_at 4 blocks (drop 12 value) in
    let more : length at.duplicates ≡ duplicates =
    length-fields number32 4 duplicates (drop place value) in
    let after : length (drop 12 value) ≡ 4 * blocks + 4 * duplicates =
    omega (arith, length-drop 12 value, size) in
    let end : length (drop place value) ≡ 4 * duplicates =
    omega (arith, length-drop place value, size) in
    let first = word_at 0 value (omega (arith, size)) fits in
    let second = word_at 4 value (omega (arith, size)) fits in
    let third = half_at 8 value (omega (arith, size)) fits in
    let fourth = half_at 10 value (omega (arith, size)) fits in
    let fixed : sack.fixed at ≡ take 12 value =
    ap₂ (λ (b d : ℕ). sack.number_bytes (record n {
      gap_ack_block_count = b;
      duplicate_tsn_count = d;
    })) count more
    ∙ ap₂ app (ap₂ app (ap₂ app first second ∙ sym (take-add 4 4 value)) third
    ∙ sym (take-add 8 2 value)) fourth ∙ sym (take-add 10 2 value) in
    let one : flat_map sack.block_bytes at.blocks ≡ take (4 * blocks) (drop 12 value) =
    fields_again sack.block_at sack.block_bytes 4 block_again blocks (drop 12 value)
    (omega (arith, after)) (bytes_after 12 value fits) in
    let two : numbers w32 at.duplicates ≡ drop place value =
    fields_again number32 (to_be_bytes w32) 4 word_again duplicates (drop place value)
    (omega (arith, end)) (bytes_after place value fits)
    ∙ take_all (4 * duplicates) (drop place value) (omega (arith, end)) in
    let bytes : sack.bytes at ≡ value =
    ap₂ app fixed (ap₂ app one two)
    ∙ sym (append_assoc (take 12 value) (take (4 * blocks) (drop 12 value)) (drop place value))
    ∙ ap (λ (a : List ℕ). a ++ drop place value) (sym (take-add 12 (4 * blocks) value))
    ∙ take-append-drop place value in
    subst (λ (x : sack.Tree). (sack.format x).tlv ≡ solid_tlv 3 0 value) is
    (same_tlv 3 0 (12 + (4 * length at.blocks + 4 * length at.duplicates)) (sack.bytes at) value
    (sack.format at).sized bytes)

-- ---- user data

pub data_again : (flags : ℕ) (value : List ℕ) (c : data_kind.Tree)
    → data_chunk.read flags value ≡ Ok c → AreBytes value
    → (data_chunk.format c).tlv ≡ solid_tlv 0 (flags % 16) value
data_again flags value c e fits =
    let n = data_chunk.numbers_at value in
    let whole = not_refused (nat_lt (length value) 12) _ Length c e in
    let size : 12 ≤ length value = ltb-false _ _ whole.0 in
    let at : data_kind.Tree = data_kind.chunk_of flags n.tsn.0 n.stream_id.0 (record data_kind.no_data {
      ssn = n.ssn.0;
      ppid = n.ppid.0;
      payload = drop 12 value;
    }) in
    let is : at ≡ c = of_ok _ c whole.1 in
    let first = word_at 0 value (omega (arith, size)) fits in
    let second = half_at 4 value (omega (arith, size)) fits in
    let third = half_at 6 value (omega (arith, size)) fits in
    let fourth = word_at 8 value (omega (arith, size)) fits in
    let fixed : data_chunk.fixed at ≡ take 12 value =
    ap₂ app (ap₂ app (ap₂ app first second ∙ sym (take-add 4 2 value)) third
    ∙ sym (take-add 6 2 value)) fourth ∙ sym (take-add 8 4 value) in
    let bytes : data_chunk.bytes at ≡ value =
    ap (λ (b : List ℕ). b ++ drop 12 value) fixed ∙ take-append-drop 12 value in
    subst (λ (x : data_kind.Tree). (data_chunk.format x).tlv ≡ solid_tlv 0 (flags % 16) value) is
    (ap (λ (f : ℕ). flagged_tlv 0 f (12 + length (drop 12 value)) (data_chunk.bytes at))
    (four_flags flags)
    ∙ same_tlv 0 (flags % 16) (12 + length (drop 12 value)) (data_chunk.bytes at) value
    (data_chunk.format at).sized bytes)

-- the one number that I-DATA carries
one_of : (b : Bool) (n : ℕ) → (if b then (if b then n else 0) else (if b then 0 else n)) ≡ n
one_of true n = refl
one_of false n = refl

pub idata_again : (flags : ℕ) (value : List ℕ) (c : data_kind.Tree)
    → idata_chunk.read flags value ≡ Ok c → AreBytes value
    → (idata_chunk.format c).tlv ≡ solid_tlv 64 (flags % 16) (value_again 64 value)
idata_again flags value c e fits =
    let n = idata_chunk.numbers_at value in
    let b = is_set flags 1 in
    let whole = not_refused (nat_lt (length value) 16) _ Length c e in
    let size : 16 ≤ length value = ltb-false _ _ whole.0 in
    let at : data_kind.Tree = data_kind.chunk_of flags n.tsn.0 n.stream_id.0 (record data_kind.no_data {
      mid = n.mid.0;
      fsn = if b then 0 else n.ppid_or_fsn;
      ppid = if b then n.ppid_or_fsn else 0;
      payload = drop 16 value;
    }) in
    let is : at ≡ c = of_ok _ c whole.1 in
    let first = word_at 0 value (omega (arith, size)) fits in
    let second = half_at 4 value (omega (arith, size)) fits in
    let third = word_at 8 value (omega (arith, size)) fits in
    let fourth = word_at 12 value (omega (arith, size)) fits in
    let front : List ℕ = take 6 value ++ 0 ∷ 0 ∷ [] in
    let rest = drop 8 value in
    let apart : drop 4 rest ≡ drop 12 value = drop-drop 4 8 value in
    let last : drop 8 rest ≡ drop 16 value = drop-drop 8 8 value in
    let numbers : to_be_bytes w32 n.mid.0 ++ to_be_bytes w32 n.ppid_or_fsn ≡ take 8 rest =
    ap₂ app third (fourth ∙ ap (take 4) (sym apart)) ∙ sym (take-add 4 4 rest) in
    let fixed : idata_chunk.fixed at ≡ front ++ take 8 rest =
    ap (λ (k : ℕ). idata_chunk.number_bytes (record n { ppid_or_fsn = k })) (one_of b n.ppid_or_fsn)
    ∙ ap₂ app (ap (λ (x : List ℕ). x ++ 0 ∷ 0 ∷ []) (ap₂ app first second
    ∙ sym (take-add 4 2 value))) numbers in
    let bytes : idata_chunk.bytes at ≡ value_again 64 value =
    ap₂ app fixed (sym last) ∙ append_assoc front (take 8 rest) (drop 8 rest)
    ∙ ap (λ (x : List ℕ). front ++ x) (take-append-drop 8 rest)
    ∙ append_assoc (take 6 value) (0 ∷ 0 ∷ []) rest in
    subst (λ (x : data_kind.Tree). (idata_chunk.format x).tlv
    ≡ solid_tlv 64 (flags % 16) (value_again 64 value)) is
    (ap (λ (f : ℕ). flagged_tlv 64 f (16 + length (drop 16 value)) (idata_chunk.bytes at))
    (four_flags flags)
    ∙ same_tlv 64 (flags % 16) (16 + length (drop 16 value)) (idata_chunk.bytes at)
    (value_again 64 value) (idata_chunk.format at).sized bytes)

-- ---- skipped streams

pub forward_again : (value : List ℕ) (t : streams.Tree) → forward.read value ≡ Ok t
    → AreBytes value → (forward.format t).tlv ≡ solid_tlv 192 0 value
forward_again value t e fits =
    let n = streams.stream_count 4 value in
    let whole = passed (length value == 4 + 4 * n) _ Length t e in
    let size : length value ≡ 4 + 4 * n = eqb-true (length value) (4 + 4 * n) whole.0 in
    let at : streams.Tree =
    record { tsn = number32 value; streams = fields forward.stream_at 4 n (drop 4 value) } in
    let is : at ≡ t = of_ok _ t whole.1 in
    let left : length (drop 4 value) ≡ 4 * n = omega (arith, length-drop 4 value, size) in
    let list : flat_map forward.stream_bytes at.streams ≡ drop 4 value =
    fields_again forward.stream_at forward.stream_bytes 4 stream_is n (drop 4 value)
    (omega (arith, left)) (bytes_after 4 value fits)
    ∙ take_all (4 * n) (drop 4 value) (omega (arith, left)) in
    subst (λ (x : streams.Tree). (forward.format x).tlv ≡ solid_tlv 192 0 value) is
    (same_tlv 192 0 (4 + 4 * length at.streams)
    (numbers w32 (at.tsn ∷ []) ++ flat_map forward.stream_bytes at.streams) value
    (forward.format at).sized
    (ap₂ app (word_at 0 value (omega (arith, size)) fits) list ∙ take-append-drop 4 value)) where
      stream_is : (bytes : List ℕ) → 4 ≤ length bytes → AreBytes bytes
          → forward.stream_bytes (forward.stream_at bytes) ≡ take 4 bytes
      stream_is bytes size fits =
          ap₂ app (half_again bytes (omega (arith, size)) fits)
          (half_at 2 bytes (omega (arith, size)) fits) ∙ sym (take-add 2 2 bytes)

-- a bit in two bytes
bit_bytes : (n : ℕ) → n < 2 → to_be_bytes w16 n ≡ 0 ∷ n ∷ []
bit_bytes zero lt = refl
bit_bytes (suc zero) lt = refl
bit_bytes (suc (suc n)) lt = absurd (omega arith)

stream_by_mid : (bytes : List ℕ) → 8 ≤ length bytes → AreBytes bytes
    → iforward.stream_bytes (iforward.stream_at bytes) ≡ stream_again bytes
stream_by_mid [] size fits = absurd (omega arith)
stream_by_mid (a ∷ []) size fits = absurd (omega arith)
stream_by_mid (a ∷ b ∷ []) size fits = absurd (omega arith)
stream_by_mid (a ∷ b ∷ c ∷ []) size fits = absurd (omega arith)
stream_by_mid (a ∷ b ∷ c ∷ d ∷ []) size fits = absurd (omega arith)
stream_by_mid (a ∷ b ∷ c ∷ d ∷ e ∷ []) size fits = absurd (omega arith)
stream_by_mid (a ∷ b ∷ c ∷ d ∷ e ∷ f ∷ []) size fits = absurd (omega arith)
stream_by_mid (a ∷ b ∷ c ∷ d ∷ e ∷ f ∷ g ∷ []) size fits = absurd (omega arith)
stream_by_mid (a ∷ b ∷ c ∷ d ∷ e ∷ f ∷ g ∷ h ∷ more) size fits =
    let bytes : List ℕ = a ∷ b ∷ c ∷ d ∷ e ∷ f ∷ g ∷ h ∷ more in
    let low : number16 (drop 2 bytes) % 2 ≡ d % 2 = omega arith in
    let flag : to_be_bytes w16 (if number16 (drop 2 bytes) % 2 == 1 then 1 else 0)
    ≡ 0 ∷ d % 2 ∷ [] =
    ap (to_be_bytes w16) (bit_again (number16 (drop 2 bytes)) ∙ low)
    ∙ bit_bytes (d % 2) (omega arith) in
    ap₂ app (ap₂ app (half_again bytes (omega arith) fits) flag)
    (word_at 4 bytes (omega arith) fits)

pub iforward_again : (value : List ℕ) (t : streams.Tree) → iforward.read value ≡ Ok t
    → AreBytes value → (iforward.format t).tlv ≡ solid_tlv 194 0 (value_again 194 value)
iforward_again value t e fits =
    let n = streams.stream_count 8 value in
    let whole = passed (length value == 4 + 8 * n) _ Length t e in
    let size : length value ≡ 4 + 8 * n = eqb-true (length value) (4 + 8 * n) whole.0 in
    let at : streams.Tree =
    record { tsn = number32 value; streams = fields iforward.stream_at 8 n (drop 4 value) } in
    let is : at ≡ t = of_ok _ t whole.1 in
    let left : length (drop 4 value) ≡ 8 * n = omega (arith, length-drop 4 value, size) in
    let list : flat_map iforward.stream_bytes at.streams ≡ streams_again n (drop 4 value) =
    fields_rewritten iforward.stream_at iforward.stream_bytes stream_again 8 stream_by_mid n
    (drop 4 value) (omega (arith, left)) (bytes_after 4 value fits) in
    subst (λ (x : streams.Tree). (iforward.format x).tlv
    ≡ solid_tlv 194 0 (value_again 194 value)) is
    (same_tlv 194 0 (4 + 8 * length at.streams)
    (numbers w32 (at.tsn ∷ []) ++ flat_map iforward.stream_bytes at.streams) (value_again 194 value)
    (iforward.format at).sized
    (ap₂ app (word_at 0 value (omega (arith, size)) fits) list))
