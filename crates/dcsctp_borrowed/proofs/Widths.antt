-- Whatever the lenient grammar reads of bytes lies in its widths: numbers, lists and texts.
use Rattle.std.{proofs.Common.{◌≡◌, ℕ, zero, suc, ◌+◌, ◌*◌, ◌<◌, ◌^◌, Bool, true, false, Option, Some, None, List, [], ◌∷◌, length, take, drop, Result, Ok, Err, refl, sym, subst, arith, inl, inr, ◌==◌, if◌then◌else◌, ltb-true}, specs.Prelude.{nat_lt, IfSome}, specs.Int.{w16, w32, from_be_bytes}, specs.List.{AllByRecursion, list_all}, specs.Str.{is_utf8, IsAscii}, proofs.lemmas.Str.{IsUtf8-from_is_utf8, IsUtf8-from_ascii}, proofs.lemmas.Str.Ascii.{IsAscii-from_all}, proofs.lemmas.List.Sums.{AllPass-from_list_all}}
use Rattle.dcsctp_tlv.{specs.Fault.{Fault, Length}, specs.Fields.{fields}, specs.Frame.{Item, lenient}, specs.Level.{Row, Level, ItemsMean, MeansTrees}, specs.Number.{AreBytes, number16, number32}, specs.Table.{◌&◌}, specs.Typed.{item_type, typed_level}, proofs.FieldLaws.{fields-first}, proofs.KindLaws.{of_ok, of_map_ok, chosen, passed, not_refused}}
use Rattle.dcsctp_tlv.specs.UnknownParameter as unnamed
use Rattle.dcsctp_tlv.specs.OutgoingSsnResetRequest as outgoing
use Rattle.dcsctp_tlv.specs.IncomingSsnResetRequest as incoming
use Rattle.dcsctp_tlv.specs.AddStreamsRequest as add_streams
use Rattle.dcsctp_tlv.specs.ReconfigurationResponse as response
use Rattle.dcsctp_tlv.specs.Parameter as parameter
use Rattle.dcsctp_cause.specs.MissingMandatoryParameter as missing
use Rattle.dcsctp_cause.specs.UserInitiatedAbort as abort_cause
use Rattle.dcsctp_cause.specs.ProtocolViolation as violation
use Rattle.dcsctp_cause.specs.Text.{text_or, IsText}
use Rattle.dcsctp_cause.specs.Cause as cause
use Rattle.dcsctp_chunk.specs.Data as data_kind
use Rattle.dcsctp_chunk.specs.DataChunk as data_chunk
use Rattle.dcsctp_chunk.specs.IDataChunk as idata_chunk
use Rattle.dcsctp_chunk.specs.Flags.{is_set}
use Rattle.dcsctp_chunk.specs.Sack as sack
use Rattle.dcsctp_chunk.specs.CookieEcho as cookie_echo
use Rattle.dcsctp_chunk.specs.SkippedStreams as streams
use Rattle.dcsctp_chunk.specs.ForwardTsn as forward
use Rattle.dcsctp_chunk.specs.IForwardTsn as iforward
use Rattle.dcsctp_chunk.specs.Unknown as unknown
use Rattle.dcsctp_wire.specs.InitFields as init
use Rattle.dcsctp_wire.specs.ParameterList as list
use Rattle.dcsctp_wire.specs.Abort as abort
use Rattle.dcsctp_wire.specs.Error as error
use Rattle.dcsctp_wire.specs.Chunk.{ChunkTree, Unknown, chunks, chunk_row, IsInWidth}
use Rattle.dcsctp_borrowed.{specs.Rewritten.{IsByteItem}, proofs.FrameItems.{bytes_after}, proofs.ItemsRewritten.{byte_items}, proofs.ParametersRewritten.{response_with}, proofs.Rewritten.{first_bytes}, proofs.TreeRows.{of_typed_as, of_chunk_as}}

-- ---- numbers and fields

half : (bytes : List ℕ) → AreBytes bytes → from_be_bytes w16 bytes < 2 ^ 16
half bytes fits = omega (arith, fits 0, fits 1)

word : (bytes : List ℕ) → AreBytes bytes → from_be_bytes w32 bytes < 2 ^ 32
word bytes fits = omega (arith, fits 0, fits 1, fits 2, fits 3)

-- a number at a place
pub half_at : (n : ℕ) (bytes : List ℕ) → AreBytes bytes → number16 (drop n bytes) < 2 ^ 16
half_at n bytes fits =
    half (take 2 (drop n bytes)) (first_bytes 2 (drop n bytes) (bytes_after n bytes fits))

pub word_at : (n : ℕ) (bytes : List ℕ) → AreBytes bytes → number32 (drop n bytes) < 2 ^ 32
word_at n bytes fits =
    word (take 4 (drop n bytes)) (first_bytes 4 (drop n bytes) (bytes_after n bytes fits))

-- fields of one size in a row lie in their widths, if each does
fields_fit : {A : Type 0} (read : List ℕ → A) (size : ℕ) (Fits : A → Type 0)
    → ((bytes : List ℕ) → AreBytes bytes → Fits (read bytes))
    → (count : ℕ) (bytes : List ℕ) → AreBytes bytes
    → AllByRecursion Fits (fields read size count bytes)
fields_fit read size Fits law zero bytes fits = tt
fields_fit read size Fits law (suc n) bytes fits =
    subst (AllByRecursion Fits) (sym (fields-first read size n bytes))
    (law bytes fits, fields_fit read size Fits law n (drop size bytes) (bytes_after size bytes fits))

-- numbers in a row, from a place on
halves_at : (count n : ℕ) (bytes : List ℕ) → AreBytes bytes
    → AllByRecursion (λ k. k < 2 ^ 16) (fields number16 2 count (drop n bytes))
halves_at count n bytes fits =
    fields_fit number16 2 (λ k. k < 2 ^ 16) (half_at 0) count (drop n bytes)
    (bytes_after n bytes fits)

-- ---- lists

-- a list of a level, if each item means what lies in its widths
module _ {T : Type 0} (level : Level T) (Fits : T → Type 0)
    (each : (i : Item) (t : T) → IsByteItem i → (level.row i.first i.second).means i.value t
    → Fits t) where
  items_fit : (items : List Item) (trees : List T) → AllByRecursion IsByteItem items
      → ItemsMean level items trees → AllByRecursion Fits trees
  items_fit [] [] are mean = tt
  items_fit [] (t ∷ ts) are mean = absurd mean
  items_fit (i ∷ is) [] are mean = absurd mean
  items_fit (i ∷ is) (t ∷ ts) are mean = (each i t are.0 mean.0, items_fit is ts are.1 mean.1)

  list_fits : (bytes : List ℕ) (trees : List T) → AreBytes bytes → MeansTrees level bytes trees
      → AllByRecursion Fits trees
  list_fits bytes trees fits m =
      items_fit m.items trees (byte_items level.padding m.items bytes fits m.are) m.mean

-- of parameters or of error causes, whose types have two bytes
typed_list_fits : {T : Type 0} (row : ℕ → Row T) (Fits : T → Type 0)
    → ((typ : ℕ) → typ < 2 ^ 16 → (value : List ℕ) (t : T) → (row typ).means value t
    → AreBytes value → Fits t)
    → (bytes : List ℕ) (trees : List T) → AreBytes bytes
    → MeansTrees (typed_level row lenient) bytes trees → AllByRecursion Fits trees
typed_list_fits row Fits law = list_fits (typed_level row lenient) Fits
    (λ i t are m. law (item_type i) (omega (arith, are.first, are.second)) i.value t m are.value)

-- ---- values that several kinds have

abbrev read_whole : List ℕ → Result (List ℕ) Fault
read_whole value = Ok value

abbrev read_word : List ℕ → Result ℕ Fault
read_word value = if length value == 4 then Ok (number32 value) else Err Length

abbrev read_text : List ℕ → List ℕ → Result (List ℕ) Fault
read_text fixed value = Ok (text_or fixed value)

-- any bytes
whole_fits : (value x : List ℕ) → read_whole value ≡ Ok x → AreBytes value → AreBytes x
whole_fits value x e fits = subst AreBytes (of_ok value x e) fits

-- a number of four bytes, and nothing else
word_fits : (value : List ℕ) (n : ℕ) → read_word value ≡ Ok n → AreBytes value → n < 2 ^ 32
word_fits value n e fits =
    let whole = passed (length value == 4) _ Length n e in
    subst (λ (k : ℕ). k < 2 ^ 32) (of_ok (number32 value) n whole.1) (word_at 0 value fits)

-- a text, or the fixed one in its place, which is ASCII
ascii_is : (fixed : List ℕ) → list_all (λ b. nat_lt b 128) fixed ≡ true → IsAscii fixed
ascii_is fixed e = IsAscii-from_all fixed
    (λ i d lt. ltb-true _ _ (AllPass-from_list_all (λ b. nat_lt b 128) fixed e i d lt))

either_text : (fixed value : List ℕ) → IsAscii fixed → AreBytes value
    → IsText (text_or fixed value)
either_text fixed value ascii fits = tested (is_utf8 value) refl where
  tested : (b : Bool) → is_utf8 value ≡ b → IsText (if b then value else fixed)
  tested true e = record { fits = fits; utf8 = IsUtf8-from_is_utf8 value e }
  tested false e =
      record { fits = λ i. omega (arith, ascii i); utf8 = IsUtf8-from_ascii fixed ascii }

text_fits : (fixed : List ℕ) → IsAscii fixed → (value text : List ℕ)
    → read_text fixed value ≡ Ok text → AreBytes value → IsText text
text_fits fixed ascii value text e fits =
    subst IsText (of_ok (text_or fixed value) text e) (either_text fixed value ascii fits)

-- ---- parameters

outgoing_fits : (value : List ℕ) (r : outgoing.Tree) → outgoing.read value ≡ Ok r
    → AreBytes value → outgoing.IsInWidth r
outgoing_fits value r e fits =
    let n = outgoing.stream_count value in
    let whole = passed (length value == 12 + 2 * n) _ Length r e in
    subst outgoing.IsInWidth (of_ok _ r whole.1) (record {
      request = word_at 0 value fits;
      response = word_at 4 value fits;
      last_tsn = word_at 8 value fits;
      streams = halves_at n 12 value fits;
    })

incoming_fits : (value : List ℕ) (r : incoming.Tree) → incoming.read value ≡ Ok r
    → AreBytes value → incoming.IsInWidth r
incoming_fits value r e fits =
    let n = incoming.stream_count value in
    let whole = passed (length value == 4 + 2 * n) _ Length r e in
    subst incoming.IsInWidth (of_ok _ r whole.1)
    (record { request = word_at 0 value fits; streams = halves_at n 4 value fits })

add_streams_fits : (value : List ℕ) (r : add_streams.Tree) → add_streams.read value ≡ Ok r
    → AreBytes value → add_streams.IsInWidth r
add_streams_fits value r e fits =
    let whole = passed (length value == 8) _ Length r e in
    subst add_streams.IsInWidth (of_ok _ r whole.1)
    (record { request = word_at 0 value fits; new_streams = half_at 4 value fits })

-- a response with these next TSNs
response_with_fits : (value : List ℕ) (sender receiver : Option ℕ) (r : response.Tree)
    → response.response_with value sender receiver ≡ Ok r → AreBytes value
    → IfSome sender (λ tsn. tsn < 2 ^ 32) → IfSome receiver (λ tsn. tsn < 2 ^ 32)
    → response.IsInWidth r
unfolding response_with
response_with_fits value sender receiver r e fits s t =
    let x = of_map_ok (response_with value sender receiver)
    (response.result_of (number32 (drop 4 value))) r e in
    subst response.IsInWidth (sym x.1.1)
    (record { response = word_at 0 value fits; sender_next_tsn = s; receiver_next_tsn = t })

response_fits : (value : List ℕ) (r : response.Tree) → response.read value ≡ Ok r
    → AreBytes value → response.IsInWidth r
response_fits value r e fits = elim (chosen (length value == 8) _ _ (Ok r) e) [
  | inl h ↦ response_with_fits value None None r h.1 fits tt tt
  | inr h ↦ (let whole = passed (length value == 16) _ Length r h.1 in
      response_with_fits value (Some (number32 (drop 8 value))) (Some (number32 (drop 12 value))) r
      whole.1 fits (word_at 8 value fits) (word_at 12 value fits))
]

abbrev ParameterFits : ℕ → List ℕ → parameter.ParameterTree → Type 0
ParameterFits typ value t = AreBytes value → parameter.IsInWidth t

parameter_fits : (typ : ℕ) → typ < 2 ^ 16 → (value : List ℕ) (t : parameter.ParameterTree)
    → (parameter.row typ).means value t → ParameterFits typ value t
parameter_fits typ small =
    of_typed_as ParameterFits typ parameter.members parameter.Unknown
    (whole_fits & whole_fits & outgoing_fits & incoming_fits & word_fits & response_fits
    & add_streams_fits & add_streams_fits & word_fits & whole_fits & (λ value t e fits. tt) & tt)
    (λ isnt value u e fits. subst unnamed.IsInWidth (of_ok _ u e)
    (record { typ = small; value = fits }))

parameters_fit : (bytes : List ℕ) (ps : List parameter.ParameterTree) → AreBytes bytes
    → MeansTrees (parameter.parameters lenient) bytes ps → AllByRecursion parameter.IsInWidth ps
parameters_fit = typed_list_fits parameter.row parameter.IsInWidth parameter_fits

-- ---- error causes

missing_fits : (value types : List ℕ) → missing.read value ≡ Ok types → AreBytes value
    → AllByRecursion (λ typ. typ < 2 ^ 16) types
missing_fits value types e fits =
    let whole = passed (length value == 4 + 2 * number32 value) _ Length types e in
    subst (AllByRecursion (λ typ. typ < 2 ^ 16)) (of_ok _ types whole.1)
    (halves_at (number32 value) 4 value fits)

abbrev CauseFits : ℕ → List ℕ → cause.CauseTree → Type 0
CauseFits code value t = AreBytes value → cause.IsInWidth t

cause_fits : (code : ℕ) → code < 2 ^ 16 → (value : List ℕ) (t : cause.CauseTree)
    → (cause.row code).means value t → CauseFits code value t
cause_fits code small =
    of_typed_as CauseFits code cause.members cause.Unknown
    (missing_fits & whole_fits & word_fits & (λ value t e fits. tt)
    & text_fits abort_cause.unreadable (ascii_is abort_cause.unreadable refl)
    & text_fits violation.unreadable (ascii_is violation.unreadable refl) & tt)
    (λ isnt value u e fits. subst unnamed.IsInWidth (of_ok _ u e)
    (record { typ = small; value = fits }))

pub causes_fit : (bytes : List ℕ) (cs : List cause.CauseTree) → AreBytes bytes
    → MeansTrees (cause.causes lenient) bytes cs → AllByRecursion cause.IsInWidth cs
causes_fit = typed_list_fits cause.row cause.IsInWidth cause_fits

-- ---- chunks with a list

init_fits : (value : List ℕ) (i : init.Tree) → (init.row lenient).means value i
    → AreBytes value → init.IsInWidth i
init_fits value i m fits = subst init.IsInWidth (sym m.1.2) (record {
  tag = word_at 0 value fits;
  window = word_at 4 value fits;
  outbound = half_at 8 value fits;
  inbound = half_at 10 value fits;
  tsn = word_at 12 value fits;
  each = parameters_fit (drop 16 value) m.1.0 (bytes_after 16 value fits) m.1.1;
})

parameter_list_fits : (value : List ℕ) (ps : List parameter.ParameterTree)
    → (list.row lenient).means value ps → AreBytes value → AllByRecursion parameter.IsInWidth ps
parameter_list_fits value ps m fits = subst (AllByRecursion parameter.IsInWidth) (sym m.1.2)
    (parameters_fit value m.1.0 fits m.1.1)

abort_fits : (flags : ℕ) (value : List ℕ) (a : abort.Tree)
    → (abort.row lenient flags).means value a → AreBytes value
    → AllByRecursion cause.IsInWidth a.causes
abort_fits flags value a m fits =
    subst (λ (x : abort.Tree). AllByRecursion cause.IsInWidth x.causes) (sym m.1.2)
    (causes_fit value m.1.0 fits m.1.1)

error_fits : (value : List ℕ) (cs : List cause.CauseTree) → (error.row lenient).means value cs
    → AreBytes value → AllByRecursion cause.IsInWidth cs
error_fits value cs m fits = subst (AllByRecursion cause.IsInWidth) (sym m.1.2)
    (causes_fit value m.1.0 fits m.1.1)

-- ---- chunks without one

data_fits : (flags : ℕ) (value : List ℕ) (c : data_kind.Tree)
    → data_chunk.read flags value ≡ Ok c → AreBytes value → data_kind.IsInWidth c
data_fits flags value c e fits =
    let whole = not_refused (nat_lt (length value) 12) _ Length c e in
    subst data_kind.IsInWidth (of_ok _ c whole.1) (record {
      tsn = word_at 0 value fits;
      stream = half_at 4 value fits;
      ssn = half_at 6 value fits;
      mid = omega arith;
      fsn = omega arith;
      ppid = word_at 8 value fits;
      payload = bytes_after 12 value fits;
    })

either : (b : Bool) (m n : ℕ) → m < 2 ^ 32 → n < 2 ^ 32 → (if b then m else n) < 2 ^ 32
either true m n p q = p
either false m n p q = q

idata_fits : (flags : ℕ) (value : List ℕ) (c : data_kind.Tree)
    → idata_chunk.read flags value ≡ Ok c → AreBytes value → data_kind.IsInWidth c
idata_fits flags value c e fits =
    let whole = not_refused (nat_lt (length value) 16) _ Length c e in
    let none : 0 < 2 ^ 32 = omega arith in
    let number = word_at 12 value fits in
    subst data_kind.IsInWidth (of_ok _ c whole.1) (record {
      tsn = word_at 0 value fits;
      stream = half_at 4 value fits;
      ssn = omega arith;
      mid = word_at 8 value fits;
      fsn = either (is_set flags 1) 0 _ none number;
      ppid = either (is_set flags 1) _ 0 number none;
      payload = bytes_after 16 value fits;
    })

sack_fits : (value : List ℕ) (s : sack.Tree) → sack.read value ≡ Ok s → AreBytes value
    → sack.IsInWidth s
sack_fits value s e fits =
    let n = sack.numbers_at value in
    let place : ℕ = 12 + 4 * n.gap_ack_block_count in
    let whole = passed (length value == sack.size_of_value n) _ Length s e in
    subst sack.IsInWidth (of_ok _ s whole.1) (record {
      tsn = word_at 0 value fits;
      a_rwnd = word_at 4 value fits;
      blocks = fields_fit sack.block_at 4 sack.IsBlockInWidth
          (λ bytes are. record { start = half_at 0 bytes are; end = half_at 2 bytes are })
          n.gap_ack_block_count (drop 12 value) (bytes_after 12 value fits);
      duplicates = fields_fit number32 4 (λ tsn. tsn < 2 ^ 32) (word_at 0) n.duplicate_tsn_count
          (drop place value) (bytes_after place value fits);
    })

cookie_echo_fits : (value x : List ℕ) → cookie_echo.read value ≡ Ok x → AreBytes value
    → AreBytes x
cookie_echo_fits value x e fits =
    subst AreBytes (of_ok value x (not_refused (length value == 0) _ Length x e).1) fits

-- skipped streams of either chunk
streams_fit : (stream_at : List ℕ → streams.SkippedStreamTree) (size : ℕ)
    → ((bytes : List ℕ) → AreBytes bytes → streams.IsSkippedStreamInWidth (stream_at bytes))
    → (value : List ℕ) (t : streams.Tree) → streams.read_of stream_at size value ≡ Ok t
    → AreBytes value → streams.IsInWidth t
streams_fit stream_at size law value t e fits =
    let n = streams.stream_count size value in
    let whole = passed (length value == 4 + size * n) _ Length t e in
    subst streams.IsInWidth (of_ok _ t whole.1) (record {
      tsn = word_at 0 value fits;
      streams = fields_fit stream_at size streams.IsSkippedStreamInWidth law n (drop 4 value)
          (bytes_after 4 value fits);
    })

-- ---- any chunk

abbrev ChunkFits : ℕ → List ℕ → ChunkTree → Type 0
ChunkFits typ value t = AreBytes value → IsInWidth t

pub chunk_fits : (typ flags : ℕ) → typ < 2 ^ 8 → flags < 2 ^ 8 → (value : List ℕ) (t : ChunkTree)
    → (chunk_row lenient typ flags).means value t → ChunkFits typ value t
chunk_fits typ flags small few =
    of_chunk_as ChunkFits typ flags
    (data_fits flags & init_fits & init_fits & sack_fits & parameter_list_fits
    & parameter_list_fits & abort_fits flags & word_fits & (λ value t e fits. tt) & error_fits
    & cookie_echo_fits & (λ value t e fits. tt) & (λ value t e fits. tt) & idata_fits flags
    & parameter_list_fits
    & streams_fit forward.stream_at 4 (λ bytes are. (half_at 0 bytes are, half_at 2 bytes are))
    & streams_fit iforward.stream_at 8 (λ bytes are. (half_at 0 bytes are, word_at 4 bytes are))
    & tt)
    (λ isnt value u e fits. subst (λ (v : unknown.Tree). IsInWidth (Unknown v)) (of_ok _ u e)
    (small, few, fits))

-- the chunks of a packet
pub chunks_fit : (bytes : List ℕ) (ts : List ChunkTree) → AreBytes bytes
    → MeansTrees (chunks lenient) bytes ts → AllByRecursion IsInWidth ts
chunks_fit = list_fits (chunks lenient) IsInWidth
    (λ i t are m. chunk_fits i.first i.second are.first are.second i.value t m are.value)
