-- An error cause is written again of its own bytes; a text that isn't UTF-8 as its fixed text.
use Rattle.std.{proofs.Common.{◌≡◌, ℕ, ◌+◌, ◌*◌, List, [], ◌∷◌, ◌++◌, length, take, drop, refl, sym, ap, ◌∙◌, arith, Ok, ◌==◌, eqb-true, ne_eqb, take-append-drop, take_all, length-drop}, specs.Int.{w16, w32, to_be_bytes}}
use Rattle.dcsctp_tlv.{specs.Fault.{Length}, specs.Fields.{fields}, specs.Frame.{Item, lenient}, specs.Image.{typed_tlv}, specs.Number.{AreBytes, number16, number32, numbers}, specs.Table.{IsUnnamed, ◌&◌}, specs.Typed.{item_type}, proofs.FieldLaws.{length-fields}, proofs.KindLaws.{of_ok, passed}}
use Rattle.dcsctp_tlv.specs.UnknownParameter as unknown
use Rattle.dcsctp_cause.specs.MissingMandatoryParameter as missing
use Rattle.dcsctp_cause.specs.UnrecognizedChunk as chunk
use Rattle.dcsctp_cause.specs.NoUserData as no_user_data
use Rattle.dcsctp_cause.specs.CookieReceivedWhileShuttingDown as cookie_received
use Rattle.dcsctp_cause.specs.UserInitiatedAbort as abort
use Rattle.dcsctp_cause.specs.ProtocolViolation as violation
use Rattle.dcsctp_cause.specs.{Text.{text_or}, Cause.{CauseTree, MissingMandatoryParameter, UnrecognizedChunk, NoUserData, CookieReceivedWhileShuttingDown, UserInitiatedAbort, ProtocolViolation, Unknown, members, table, row, causes, tlv}}
use Rattle.dcsctp_borrowed.{specs.Rewritten.{IsByteItem, item_again, cause_value, cause_again}, proofs.FrameItems.{bytes_after}, proofs.Rewritten.{word_again, half_again, fields_again, same_tlv, none, typed_is}, proofs.TreeRows.{of_typed_as}}

abbrev CauseAgain : ℕ → List ℕ → CauseTree → Type 0
CauseAgain code value t = AreBytes value → tlv t ≡ typed_tlv code (cause_value code value)

missing_again : (value types : List ℕ) → missing.read value ≡ Ok types
    → CauseAgain 2 value (MissingMandatoryParameter types)
missing_again value types e fits =
    let whole = passed (length value == 4 + 2 * number32 value) _ Length types e in
    let size : length value ≡ 4 + 2 * number32 value =
    eqb-true (length value) (4 + 2 * number32 value) whole.0 in
    let are : fields number16 2 (number32 value) (drop 4 value) ≡ types = of_ok _ types whole.1 in
    let count : length types ≡ number32 value =
    ap length (sym are) ∙ length-fields number16 2 (number32 value) (drop 4 value) in
    let left : length (drop 4 value) ≡ 2 * number32 value =
    omega (arith, length-drop 4 value, size) in
    let list : numbers w16 types ≡ drop 4 value =
    ap (numbers w16) (sym are)
    ∙ fields_again number16 (to_be_bytes w16) 2 half_again (number32 value) (drop 4 value)
    (omega (arith, left)) (bytes_after 4 value fits)
    ∙ take_all (2 * number32 value) (drop 4 value) (omega (arith, left)) in
    let first : to_be_bytes w32 (length types) ≡ take 4 value =
    ap (to_be_bytes w32) count ∙ word_again value (omega (arith, size)) fits in
    same_tlv 0 2 (4 + 2 * length types) (numbers w32 (length types ∷ []) ++ numbers w16 types) value
    (missing.format types).sized
    (ap (λ (b : List ℕ). b ++ numbers w16 types) first ∙ ap (λ (b : List ℕ). take 4 value ++ b) list
    ∙ take-append-drop 4 value)

chunk_again : (value bytes : List ℕ) → chunk.read value ≡ Ok bytes
    → CauseAgain 6 value (UnrecognizedChunk bytes)
chunk_again value bytes e fits =
    let is : value ≡ bytes = of_ok _ bytes e in
    same_tlv 0 6 (length bytes) bytes value (chunk.format bytes).sized (sym is)

no_user_data_again : (value : List ℕ) (tsn : ℕ) → no_user_data.read value ≡ Ok tsn
    → CauseAgain 9 value (NoUserData tsn)
no_user_data_again value tsn e fits =
    let whole = passed (length value == 4) _ Length tsn e in
    let size : length value ≡ 4 = eqb-true (length value) 4 whole.0 in
    let is : number32 value ≡ tsn = of_ok _ tsn whole.1 in
    same_tlv 0 9 4 (to_be_bytes w32 tsn) value (no_user_data.format tsn).sized
    (ap (to_be_bytes w32) (sym is) ∙ word_again value (omega (arith, size)) fits
    ∙ take_all 4 value (omega (arith, size)))

cookie_again : (value : List ℕ) (t : Unit {0}) → cookie_received.read value ≡ Ok t
    → CauseAgain 10 value CookieReceivedWhileShuttingDown
cookie_again value t e fits =
    let whole = passed (length value == 0) _ Length t e in
    same_tlv 0 10 0 [] value refl (none value (eqb-true (length value) 0 whole.0))

abort_again : (value text : List ℕ) → abort.read value ≡ Ok text
    → CauseAgain 12 value (UserInitiatedAbort text)
abort_again value text e fits =
    same_tlv 0 12 (length text) text (text_or abort.unreadable value) (abort.format text).sized
    (sym (of_ok _ text e))

violation_again : (value text : List ℕ) → violation.read value ≡ Ok text
    → CauseAgain 13 value (ProtocolViolation text)
violation_again value text e fits =
    same_tlv 0 13 (length text) text (text_or violation.unreadable value)
    (violation.format text).sized (sym (of_ok _ text e))

others : (code : ℕ) → IsUnnamed table code → (value : List ℕ) (u : unknown.Tree)
    → unknown.read code value ≡ Ok u → CauseAgain code value (Unknown u)
others code isnt value u e fits =
    let is : record { typ = code; value = value } ≡ u = of_ok _ u e in
    let twelve = ne_eqb code 12 isnt.1.1.1.1.0 in
    let thirteen = ne_eqb code 13 isnt.1.1.1.1.1.0 in
    rw (twelve, thirteen) (ap (λ (v : unknown.Tree). tlv (Unknown v)) (sym is))

-- of what a value of a code means, in bytes
pub cause_is : (code : ℕ) (value : List ℕ) (t : CauseTree) → (row code).means value t
    → AreBytes value → tlv t ≡ typed_tlv code (cause_value code value)
cause_is code = of_typed_as CauseAgain code members Unknown
    (missing_again & chunk_again & no_user_data_again & cookie_again & abort_again
    & violation_again & tt)
    (others code)

-- an item is written as what it means
pub each_cause : (i : Item) (t : CauseTree) → IsByteItem i
    → ((causes lenient).row i.first i.second).means i.value t
    → tlv t ≡ item_again cause_again i
each_cause i t fits m =
    cause_is (item_type i) i.value t m fits.value
    ∙ typed_is i fits (cause_value (item_type i) i.value)
