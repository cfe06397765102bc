-- What each kind of error cause has to satisfy for the laws of the table.
use Rattle.std.{proofs.Common.{◌≡◌, ℕ, ◌+◌, ◌*◌, true, List, length, drop, refl, sym, ap, ◌∙◌, arith, Result, Ok, ◌==◌, eqb-true}, specs.Str.{IsUtf8}, proofs.lemmas.Bool.Decides.{Decides-eqb}, proofs.lemmas.Nat.{from_be_bytes-to_be_bytes_4}}
use Rattle.dcsctp_tlv.{specs.Fault.{Fault, Length}, specs.Format.{Format}, specs.Image.{solid, IsEncodable}, specs.Number.{number16, number32}, proofs.FieldLaws.{length-fields, numbers16_back}, proofs.FormatLaws.{FormatLaws, format_laws}, proofs.KindLaws.{KindLaws, by_value, of_ok, passed}, proofs.Layouts.{any_laws, number_laws, empty_laws}, proofs.Unpadded.{if_passed}}
use Rattle.dcsctp_cause.specs.MissingMandatoryParameter as missing
use Rattle.dcsctp_cause.specs.UnrecognizedChunk as chunk
use Rattle.dcsctp_cause.specs.NoUserData as no_user_data
use Rattle.dcsctp_cause.specs.CookieReceivedWhileShuttingDown as cookie_received
use Rattle.dcsctp_cause.specs.UserInitiatedAbort as abort
use Rattle.dcsctp_cause.specs.ProtocolViolation as violation
use Rattle.dcsctp_cause.{specs.Text.{text_or, IsText}, proofs.Texts.{text_or_utf8}, proofs.Types.{bytes_of_types, length-bytes_of_types}}

-- ---- types of missing parameters

missing_back : (types : List ℕ) → (missing.format types).IsInWidth
    → IsEncodable (missing.format types).tlv → missing.read (bytes_of_types types) ≡ Ok types
missing_back types w fits =
    let value : List ℕ = bytes_of_types types in
    let size = length-bytes_of_types types in
    let count : number32 value ≡ length types =
    from_be_bytes-to_be_bytes_4 (length types) (omega (arith, fits)) in
    let whole : (length value == 4 + 2 * length types) ≡ true =
    (Decides-eqb (length value) (4 + 2 * length types)).1 size in
    rw (count, whole, numbers16_back types (length types) refl w) refl

pub missing_laws : FormatLaws missing.read missing.format
missing_laws =
    format_laws missing.read missing.format bytes_of_types (λ types. refl)
    (λ types width form fits. missing_back types width fits) (λ value types e. tt)
    (λ value. if_passed (length value == 4 + 2 * number32 value) _)
    (λ value types kept e.
    let whole = passed (length value == 4 + 2 * number32 value) _ Length types e in
    let count : length types ≡ number32 value = ap length (sym (of_ok _ types whole.1))
    ∙ length-fields number16 2 (number32 value) (drop 4 value) in
    let size = eqb-true (length value) (4 + 2 * number32 value) whole.0 in
    omega (arith, length-bytes_of_types types, count, size))

-- ---- any bytes

pub chunk_laws : FormatLaws chunk.read chunk.format
chunk_laws = any_laws chunk.format (λ x. refl) (λ x. tt)

-- ---- one size

pub no_user_data_laws : FormatLaws no_user_data.read no_user_data.format
no_user_data_laws = number_laws no_user_data.format (λ n. refl) (λ n width. width) (λ n. tt)

pub cookie_received_laws : FormatLaws cookie_received.read cookie_received.format
cookie_received_laws = empty_laws cookie_received.format (λ t. refl) (λ t. tt)

-- ---- texts: a value that isn't UTF-8 is read as another text, whose size may be another

abbrev read_text : List ℕ → List ℕ → Result (List ℕ) Fault
read_text fixed value = Ok (text_or fixed value)

-- a value that is UTF-8 is kept
abbrev TextLaws : (List ℕ → Result (List ℕ) Fault) → (List ℕ → Format) → Type 0
TextLaws read format = KindLaws IsUtf8 (by_value read) format

text_laws : (fixed : List ℕ) (format : List ℕ → Format)
    → ((x : List ℕ) → (format x).tlv.value ≡ solid x)
    → ((x : List ℕ) → (format x).IsInWidth → IsText x)
    → ((x : List ℕ) → (format x).IsWellFormed) → TextLaws (read_text fixed) format
text_laws fixed format same width formed =
    format_laws (read_text fixed) format (λ x. x) same
    (λ x w form fits. ap (λ (text : List ℕ). Ok text) (text_or_utf8 fixed x (width x w).utf8))
    (λ value x e. formed x) (λ value. tt)
    (λ value x utf8 e. ap length (sym (of_ok _ x e) ∙ text_or_utf8 fixed value utf8))

pub abort_laws : TextLaws abort.read abort.format
abort_laws = text_laws _ abort.format (λ x. refl) (λ x width. width) (λ x. tt)

pub violation_laws : TextLaws violation.read violation.format
violation_laws = text_laws _ violation.format (λ x. refl) (λ x width. width) (λ x. tt)
