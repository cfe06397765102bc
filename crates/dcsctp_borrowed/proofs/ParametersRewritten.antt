-- A parameter is written again of its own bytes, but for reserved ones, which are zeros.
use Rattle.std.{proofs.Common.{if◌then◌else◌, ◌≡◌, ℕ, ◌+◌, ◌*◌, ◌/◌, ◌%◌, List, [], ◌∷◌, ◌++◌, length, take, drop, refl, sym, ap, subst, ◌∙◌, arith, Option, Some, None, Result, Ok, inl, inr, ◌==◌, eqb-true, ne_eqb, take-append-drop, take_all, length-drop, append_assoc}, specs.Int.{w16, w32, to_be_bytes}, proofs.Math.Seq.{take-add}}
use Rattle.dcsctp_tlv.{specs.Fault.{Fault, Length}, specs.Fields.{fields}, specs.Frame.{Item, lenient}, specs.Image.{typed_tlv}, specs.Number.{AreBytes, number16, number32, numbers}, specs.Table.{IsUnnamed, ◌&◌}, specs.Typed.{item_type}, proofs.KindLaws.{of_ok, of_map_ok, chosen, passed}, specs.declared.parameter.reconfiguration_response_parameter.ReconfigurationResponseResult.{ReconfigurationResponseResult}, specs.declared.parameter.reconfiguration_response_parameter.ReconfigurationResponseResult.TheVariants.{SuccessNothingToDo, SuccessPerformed, Denied, ErrorWrongSSN, ErrorRequestAlreadyInProgress, ErrorBadSequenceNumber, InProgress}}
use Rattle.dcsctp_tlv.specs.UnknownParameter as unknown
use Rattle.dcsctp_tlv.specs.HeartbeatInfo as info
use Rattle.dcsctp_tlv.specs.StateCookie as cookie
use Rattle.dcsctp_tlv.specs.SupportedExtensions as extensions
use Rattle.dcsctp_tlv.specs.ForwardTsnSupported as forward_tsn
use Rattle.dcsctp_tlv.specs.ZeroChecksumAcceptable as zero_checksum
use Rattle.dcsctp_tlv.specs.OutgoingSsnResetRequest as outgoing
use Rattle.dcsctp_tlv.specs.IncomingSsnResetRequest as incoming
use Rattle.dcsctp_tlv.specs.SsnTsnResetRequest as ssn_tsn
use Rattle.dcsctp_tlv.specs.AddStreamsRequest as add_streams
use Rattle.dcsctp_tlv.specs.AddOutgoingStreamsRequest as add_outgoing
use Rattle.dcsctp_tlv.specs.AddIncomingStreamsRequest as add_incoming
use Rattle.dcsctp_tlv.specs.ReconfigurationResponse as response
use Rattle.dcsctp_tlv.specs.Parameter.{ParameterTree, HeartbeatInfo, StateCookie, OutgoingSsnResetRequest, IncomingSsnResetRequest, SsnTsnResetRequest, ReconfigurationResponse, ZeroChecksumAcceptable, SupportedExtensions, ForwardTsnSupported, Unknown, members, table, row, parameters, tlv}
use Rattle.dcsctp_borrowed.{specs.Rewritten.{IsByteItem, item_again, without_reserved, parameter_value, parameter_again}, proofs.FrameItems.{bytes_after}, proofs.Rewritten.{word_again, half_again, fields_again, same_tlv, none, typed_is}, proofs.TreeRows.{of_typed_as}}

abbrev ParameterAgain : ℕ → List ℕ → ParameterTree → Type 0
ParameterAgain typ value t = AreBytes value → tlv t ≡ typed_tlv typ (parameter_value typ value)

-- ---- any bytes

info_again : (value x : List ℕ) → info.read value ≡ Ok x → ParameterAgain 1 value (HeartbeatInfo x)
info_again value x e fits =
    same_tlv 0 1 (length x) x value (info.format x).sized (sym (of_ok _ x e))

cookie_again : (value x : List ℕ) → cookie.read value ≡ Ok x
    → ParameterAgain 7 value (StateCookie x)
cookie_again value x e fits =
    same_tlv 0 7 (length x) x value (cookie.format x).sized (sym (of_ok _ x e))

extensions_again : (value x : List ℕ) → extensions.read value ≡ Ok x
    → ParameterAgain 0x8008 value (SupportedExtensions x)
extensions_again value x e fits =
    same_tlv 128 8 (length x) x value (extensions.format x).sized (sym (of_ok _ x e))

-- ---- one size

-- a number of four bytes, and nothing else
whole_word : (value : List ℕ) (n : ℕ) → length value ≡ 4 → number32 value ≡ n → AreBytes value
    → to_be_bytes w32 n ≡ value
whole_word value n size is fits =
    ap (to_be_bytes w32) (sym is) ∙ word_again value (omega (arith, size)) fits
    ∙ take_all 4 value (omega (arith, size))

ssn_tsn_again : (value : List ℕ) (n : ℕ) → ssn_tsn.read value ≡ Ok n
    → ParameterAgain 15 value (SsnTsnResetRequest n)
ssn_tsn_again value n e fits =
    let whole = passed (length value == 4) _ Length n e in
    same_tlv 0 15 4 (to_be_bytes w32 n) value (ssn_tsn.format n).sized
    (whole_word value n (eqb-true (length value) 4 whole.0) (of_ok _ n whole.1) fits)

zero_checksum_again : (value : List ℕ) (n : ℕ) → zero_checksum.read value ≡ Ok n
    → ParameterAgain 0x8001 value (ZeroChecksumAcceptable n)
zero_checksum_again value n e fits =
    let whole = passed (length value == 4) _ Length n e in
    same_tlv 128 1 4 (to_be_bytes w32 n) value (zero_checksum.format n).sized
    (whole_word value n (eqb-true (length value) 4 whole.0) (of_ok _ n whole.1) fits)

forward_tsn_again : (value : List ℕ) (t : Unit {0}) → forward_tsn.read value ≡ Ok t
    → ParameterAgain 0xC000 value ForwardTsnSupported
forward_tsn_again value t e fits =
    let whole = passed (length value == 0) _ Length t e in
    same_tlv 192 0 0 [] value refl (none value (eqb-true (length value) 0 whole.0))

-- a request for more streams, of which the reserved bytes are zeros
add_streams_again : (typ : ℕ) (name value : List ℕ) (r : add_streams.Tree)
    → add_streams.read value ≡ Ok r → AreBytes value
    → (add_streams.format typ name r).tlv ≡ typed_tlv typ (without_reserved value)
add_streams_again typ name value r e fits =
    let whole = passed (length value == 8) _ Length r e in
    let size : length value ≡ 8 = eqb-true (length value) 8 whole.0 in
    let at : add_streams.Tree =
    record { request = number32 value; new_streams = number16 (drop 4 value) } in
    let is : at ≡ r = of_ok _ r whole.1 in
    let first = word_again value (omega (arith, size)) fits in
    let second = half_again (drop 4 value) (omega (arith, length-drop 4 value, size))
    (bytes_after 4 value fits) in
    same_tlv (typ / 256) (typ % 256) 8 (add_streams.value_of r) (take 6 value ++ 0 ∷ 0 ∷ []) refl
    (ap add_streams.value_of (sym is)
    ∙ ap (λ (b : List ℕ). b ++ (to_be_bytes w16 (number16 (drop 4 value)) ++ 0 ∷ 0 ∷ [])) first
    ∙ ap (λ (b : List ℕ). take 4 value ++ (b ++ 0 ∷ 0 ∷ [])) second
    ∙ sym (append_assoc (take 4 value) (take 2 (drop 4 value)) (0 ∷ 0 ∷ []))
    ∙ ap (λ (b : List ℕ). b ++ 0 ∷ 0 ∷ []) (sym (take-add 4 2 value)))
    ∙ ap (λ (b : List ℕ). typed_tlv typ (take 6 value ++ (0 ∷ 0 ∷ b)))
    (none (drop 8 value) (omega (arith, length-drop 8 value, size)))

-- ---- numbers, and after them stream ids

outgoing_again : (value : List ℕ) (r : outgoing.Tree) → outgoing.read value ≡ Ok r
    → ParameterAgain 13 value (OutgoingSsnResetRequest r)
outgoing_again value r e fits =
    let n = outgoing.stream_count value in
    let whole = passed (length value == 12 + 2 * n) _ Length r e in
    let size : length value ≡ 12 + 2 * n = eqb-true (length value) (12 + 2 * n) whole.0 in
    let at : outgoing.Tree = record {
      request = number32 value;
      response = number32 (drop 4 value);
      last_tsn = number32 (drop 8 value);
      streams = fields number16 2 n (drop 12 value);
    } in
    let is : at ≡ r = of_ok _ r whole.1 in
    let left : length (drop 12 value) ≡ 2 * n = omega (arith, length-drop 12 value, size) in
    let first : numbers w32 (outgoing.leading at) ≡ take 12 value =
    fields_again number32 (to_be_bytes w32) 4 word_again 3 value (omega (arith, size)) fits in
    let list : numbers w16 at.streams ≡ drop 12 value =
    fields_again number16 (to_be_bytes w16) 2 half_again n (drop 12 value) (omega (arith, left))
    (bytes_after 12 value fits)
    ∙ take_all (2 * n) (drop 12 value) (omega (arith, left)) in
    subst (λ (x : outgoing.Tree). tlv (OutgoingSsnResetRequest x) ≡ typed_tlv 13 value) is
    (same_tlv 0 13 (12 + 2 * length at.streams)
    (numbers w32 (outgoing.leading at) ++ numbers w16 at.streams) value (outgoing.format at).sized
    (ap (λ (b : List ℕ). b ++ numbers w16 at.streams) first
    ∙ ap (λ (b : List ℕ). take 12 value ++ b) list ∙ take-append-drop 12 value))

incoming_again : (value : List ℕ) (r : incoming.Tree) → incoming.read value ≡ Ok r
    → ParameterAgain 14 value (IncomingSsnResetRequest r)
incoming_again value r e fits =
    let n = incoming.stream_count value in
    let whole = passed (length value == 4 + 2 * n) _ Length r e in
    let size : length value ≡ 4 + 2 * n = eqb-true (length value) (4 + 2 * n) whole.0 in
    let at : incoming.Tree =
    record { request = number32 value; streams = fields number16 2 n (drop 4 value) } in
    let is : at ≡ r = of_ok _ r whole.1 in
    let left : length (drop 4 value) ≡ 2 * n = omega (arith, length-drop 4 value, size) in
    let first : numbers w32 (at.request ∷ []) ≡ take 4 value =
    word_again value (omega (arith, size)) fits in
    let list : numbers w16 at.streams ≡ drop 4 value =
    fields_again number16 (to_be_bytes w16) 2 half_again n (drop 4 value) (omega (arith, left))
    (bytes_after 4 value fits)
    ∙ take_all (2 * n) (drop 4 value) (omega (arith, left)) in
    subst (λ (x : incoming.Tree). tlv (IncomingSsnResetRequest x) ≡ typed_tlv 14 value) is
    (same_tlv 0 14 (4 + 2 * length at.streams)
    (numbers w32 (at.request ∷ []) ++ numbers w16 at.streams) value (incoming.format at).sized
    (ap (λ (b : List ℕ). b ++ numbers w16 at.streams) first
    ∙ ap (λ (b : List ℕ). take 4 value ++ b) list ∙ take-append-drop 4 value))

-- ---- a response

-- the number of the result that was chosen for it
chosen_again : (n k : ℕ) (x r : ReconfigurationResponseResult)
    (rest : Result ReconfigurationResponseResult Fault)
    → (if n == k then Ok x else rest) ≡ Ok r → response.result_number x ≡ k
    → (rest ≡ Ok r → response.result_number r ≡ n) → response.result_number r ≡ n
chosen_again n k x r rest e is later = elim (chosen (n == k) (Ok x) rest (Ok r) e) [
  | inl h ↦ ap response.result_number (sym (of_ok x r h.1)) ∙ is ∙ sym (eqb-true n k h.0)
  | inr h ↦ later h.1
]

result_again : (n : ℕ) (r : ReconfigurationResponseResult) → response.result_of n ≡ Ok r
    → response.result_number r ≡ n
result_again n r e =
    chosen_again n 0 SuccessNothingToDo r _ e refl (λ e.
    chosen_again n 1 SuccessPerformed r _ e refl (λ e.
    chosen_again n 2 Denied r _ e refl (λ e.
    chosen_again n 3 ErrorWrongSSN r _ e refl (λ e.
    chosen_again n 4 ErrorRequestAlreadyInProgress r _ e refl (λ e.
    chosen_again n 5 ErrorBadSequenceNumber r _ e refl (λ e.
    chosen_again n 6 InProgress r _ e refl (λ e. absurd cc)))))))

-- as many numbers of four bytes as the value has
all_words : (value : List ℕ) (n : ℕ) → length value ≡ 4 * n → AreBytes value
    → numbers w32 (fields number32 4 n value) ≡ value
all_words value n size fits =
    fields_again number32 (to_be_bytes w32) 4 word_again n value (omega (arith, size)) fits
    ∙ take_all (4 * n) value (omega (arith, size))

-- the response with these next TSNs
unfoldable pub response_with : List ℕ → Option ℕ → Option ℕ → ReconfigurationResponseResult → response.Tree
response_with value sender receiver result = record {
  response = number32 value;
  result = result;
  sender_next_tsn = sender;
  receiver_next_tsn = receiver;
}

-- a response whose next TSNs are the numbers after the first two
own_response : (value : List ℕ) (n : ℕ) (sender receiver : Option ℕ) (r : response.Tree)
    → response.response_with value sender receiver ≡ Ok r → length value ≡ 4 * n → AreBytes value
    → (number32 value ∷ number32 (drop 4 value) ∷ response.next_tsns sender receiver)
    ≡ fields number32 4 n value
    → tlv (ReconfigurationResponse r) ≡ typed_tlv 16 value
unfolding response_with
own_response value n sender receiver r e size fits is =
    let x = of_map_ok (response_with value sender receiver)
    (response.result_of (number32 (drop 4 value))) r e in
    let same = result_again (number32 (drop 4 value)) x.0 x.1.0 in
    let at : response.Tree = response_with value sender receiver x.0 in
    subst (λ (y : response.Tree). tlv (ReconfigurationResponse y) ≡ typed_tlv 16 value) (sym x.1.1)
    (same_tlv 0 16 (8 + 4 * length (response.tsns at))
    (numbers w32 (response.leading at) ++ numbers w32 (response.tsns at)) value
    (response.format at).sized
    (ap (λ (k : ℕ). numbers w32 (number32 value ∷ k ∷ response.next_tsns sender receiver)) same
    ∙ ap (numbers w32) is ∙ all_words value n size fits))

response_again : (value : List ℕ) (r : response.Tree) → response.read value ≡ Ok r
    → ParameterAgain 16 value (ReconfigurationResponse r)
response_again value r e fits = elim (chosen (length value == 8) _ _ (Ok r) e) [
  | inl h ↦ own_response value 2 None None r h.1 (eqb-true (length value) 8 h.0) fits refl
  | inr h ↦ (let whole = passed (length value == 16) _ Length r h.1 in
      own_response value 4 (Some (number32 (drop 8 value))) (Some (number32 (drop 12 value))) r
      whole.1 (eqb-true (length value) 16 whole.0) fits refl)
]

-- ---- any type

others : (typ : ℕ) → IsUnnamed table typ → (value : List ℕ) (u : unknown.Tree)
    → unknown.read typ value ≡ Ok u → ParameterAgain typ value (Unknown u)
others typ isnt value u e fits =
    let at : unknown.Tree = record { typ = typ; value = value } in
    let is : at ≡ u = of_ok _ u e in
    let seventeen = ne_eqb typ 17 isnt.1.1.1.1.1.1.0 in
    let eighteen = ne_eqb typ 18 isnt.1.1.1.1.1.1.1.0 in
    rw (seventeen, eighteen) (ap (λ (v : unknown.Tree). tlv (Unknown v)) (sym is))

-- what a value of a type means, in bytes
pub parameter_is : (typ : ℕ) (value : List ℕ) (t : ParameterTree) → (row typ).means value t
    → AreBytes value → tlv t ≡ typed_tlv typ (parameter_value typ value)
parameter_is typ = of_typed_as ParameterAgain typ members Unknown
    (info_again & cookie_again & outgoing_again & incoming_again & ssn_tsn_again & response_again
    & add_streams_again 17 add_outgoing.name & add_streams_again 18 add_incoming.name
    & zero_checksum_again & extensions_again & forward_tsn_again & tt)
    (others typ)

-- an item is written as what it means
pub each_parameter : (i : Item) (t : ParameterTree) → IsByteItem i
    → ((parameters lenient).row i.first i.second).means i.value t
    → tlv t ≡ item_again parameter_again i
each_parameter i t fits m =
    parameter_is (item_type i) i.value t m fits.value
    ∙ typed_is i fits (parameter_value (item_type i) i.value)
