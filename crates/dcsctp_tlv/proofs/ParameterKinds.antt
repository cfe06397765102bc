-- What each kind of parameter has to satisfy for the laws of the table.
use Rattle.std.{proofs.Common.{◌≡◌, ℕ, ◌+◌, ◌/◌, ◌%◌, ◌^◌, ◌<◌, true, false, List, [], ◌∷◌, ◌++◌, length, drop, refl, sym, ap, subst, ◌∙◌, arith, Option, Some, None, Ok, ◌⊎◌, inl, inr, ◌==◌, eqb-true}, specs.Int.{w16, w32, to_be_bytes, from_be_bytes}, proofs.lemmas.Nat.{from_be_bytes-to_be_bytes_2, from_be_bytes-to_be_bytes_4}}
use Rattle.dcsctp_tlv.{specs.Fault.{Length}, specs.Image.{size_of}, specs.Level.{plain, map_ok}, specs.Number.{number16, number32, numbers}, specs.ReconfigurationResponse.{result_of, result_number, response_with, next_tsns}, specs.declared.parameter.reconfiguration_response_parameter.ReconfigurationResponseResult.{ReconfigurationResponseResult}, specs.declared.parameter.reconfiguration_response_parameter.ReconfigurationResponseResult.TheVariants.{SuccessNothingToDo}, proofs.KindLaws.{of_ok, of_map_ok, chosen, passed}, proofs.FormatLaws.{FormatLaws, format_laws}, proofs.FieldLaws.{number16_law}, proofs.Forms.{FormsRow}, proofs.Layouts.{any_laws, sized_laws, number_laws, empty_laws, FieldsAfter, fields_laws}, proofs.Unpadded.{NotPadding, either, mapped}}
use Rattle.dcsctp_tlv.specs.HeartbeatInfo as info
use Rattle.dcsctp_tlv.specs.StateCookie as cookie
use Rattle.dcsctp_tlv.specs.SupportedExtensions as extensions
use Rattle.dcsctp_tlv.specs.ForwardTsnSupported as forward_tsn
use Rattle.dcsctp_tlv.specs.ZeroChecksumAcceptable as zero_checksum
use Rattle.dcsctp_tlv.specs.UnknownParameter as unknown
use Rattle.dcsctp_tlv.specs.OutgoingSsnResetRequest as outgoing
use Rattle.dcsctp_tlv.specs.IncomingSsnResetRequest as incoming
use Rattle.dcsctp_tlv.specs.SsnTsnResetRequest as ssn_tsn
use Rattle.dcsctp_tlv.specs.AddStreamsRequest as add_streams
use Rattle.dcsctp_tlv.specs.ReconfigurationResponse as response

-- ---- any bytes

pub info_laws : FormatLaws info.read info.format
info_laws = any_laws info.format (λ x. refl) (λ x. tt)

pub cookie_laws : FormatLaws cookie.read cookie.format
cookie_laws = any_laws cookie.format (λ x. refl) (λ x. tt)

pub extensions_laws : FormatLaws extensions.read extensions.format
extensions_laws = any_laws extensions.format (λ x. refl) (λ x. tt)

-- ---- one size

pub ssn_tsn_laws : FormatLaws ssn_tsn.read ssn_tsn.format
ssn_tsn_laws = number_laws ssn_tsn.format (λ n. refl) (λ n width. width) (λ n. tt)

-- both requests for more streams, each of its type and name
pub add_streams_laws : (typ : ℕ) (name : List ℕ)
    → FormatLaws add_streams.read (add_streams.format typ name)
add_streams_laws typ name =
    sized_laws 8 _ (add_streams.format typ name) add_streams.value_of (λ r. refl) (λ r. refl)
    (λ r width. rw (
      from_be_bytes-to_be_bytes_4 r.request width.request,
      from_be_bytes-to_be_bytes_2 r.new_streams width.new_streams,
    ) refl)
    (λ r. tt)

pub zero_checksum_laws : FormatLaws zero_checksum.read zero_checksum.format
zero_checksum_laws = number_laws zero_checksum.format (λ n. refl) (λ n width. width) (λ n. tt)

pub forward_tsn_laws : FormatLaws forward_tsn.read forward_tsn.format
forward_tsn_laws = empty_laws forward_tsn.format (λ t. refl) (λ t. tt)

-- ---- any type

-- the two bytes that a type is written as are read as that type
pub type_back : (typ : ℕ) → from_be_bytes w16 (typ / 256 ∷ typ % 256 ∷ []) ≡ typ
type_back typ = omega arith

pub unknown_keeps : (typ : ℕ) (value : List ℕ) (u : unknown.Tree) → unknown.read typ value ≡ Ok u
    → size_of (unknown.format u).tlv ≡ 4 + length value
unknown_keeps typ value u e =
    let kept : unknown.Tree = record { typ = typ; value = value } in
    ap (λ (v : unknown.Tree). 4 + length v.value) (sym (of_ok kept u e))

-- what is kept as it is holds the type of its item
pub unknown_forms : {T : Type 0} (IsFormed : T → Type 0) (typ : ℕ) (tree : unknown.Tree → T)
    → ((value : List ℕ) → IsFormed (tree (record { typ = typ; value = value })))
    → FormsRow IsFormed (plain (λ value. map_ok tree (unknown.read typ value)))
unknown_forms IsFormed typ tree law value t e =
    let u = of_map_ok tree (unknown.read typ value) t e in
    let kept : unknown.Tree = record { typ = typ; value = value } in
    subst IsFormed (ap tree (of_ok kept u.0 u.1.0) ∙ sym u.1.1) (law value)

-- ---- requests: numbers, and after them streams

abbrev outgoing_with : List ℕ → List ℕ → outgoing.Tree
outgoing_with value streams = record {
  request = number32 value;
  response = number32 (drop 4 value);
  last_tsn = number32 (drop 8 value);
  streams = streams;
}

outgoing_fields : FieldsAfter 12 2 number16 outgoing_with outgoing.format (to_be_bytes w16)
    (λ n. n < 2 ^ 16)
outgoing_fields = record {
  leading = λ r. numbers w32 (outgoing.leading r);
  list = λ r. r.streams;
  law = number16_law;
  counted = λ n. omega arith;
  same = λ r. refl;
  written = λ r. refl;
  placed = λ r. refl;
  made = λ r rest w. rw (
    from_be_bytes-to_be_bytes_4 r.request w.request,
    from_be_bytes-to_be_bytes_4 r.response w.response,
    from_be_bytes-to_be_bytes_4 r.last_tsn w.last_tsn,
  ) refl;
  kept = λ value streams. refl;
  writable = λ r w form. w.streams;
  formed = λ value n. tt;
}

pub outgoing_laws : FormatLaws outgoing.read outgoing.format
outgoing_laws = fields_laws 12 2 number16 outgoing_with _ _ _ outgoing_fields

abbrev incoming_with : List ℕ → List ℕ → incoming.Tree
incoming_with value streams = record { request = number32 value; streams = streams }

incoming_fields : FieldsAfter 4 2 number16 incoming_with incoming.format (to_be_bytes w16)
    (λ n. n < 2 ^ 16)
incoming_fields = record {
  leading = λ r. numbers w32 (incoming.leading r);
  list = λ r. r.streams;
  law = number16_law;
  counted = λ n. omega arith;
  same = λ r. refl;
  written = λ r. refl;
  placed = λ r. refl;
  made = λ r rest w. rw (from_be_bytes-to_be_bytes_4 r.request w.request) refl;
  kept = λ value streams. refl;
  writable = λ r w form. w.streams;
  formed = λ value n. tt;
}

pub incoming_laws : FormatLaws incoming.read incoming.format
incoming_laws = fields_laws 4 2 number16 incoming_with _ _ _ incoming_fields

-- ---- a response

result_back : (x : ReconfigurationResponseResult) → result_of (result_number x) ≡ Ok x
result_back SuccessNothingToDo = refl
result_back x = refl

result_fits : (x : ReconfigurationResponseResult) → result_number x < 2 ^ 32
result_fits SuccessNothingToDo = omega arith
result_fits x = omega arith

abbrev response_of : ℕ → ReconfigurationResponseResult → Option ℕ → Option ℕ → response.Tree
response_of n x s r =
    record { response = n; result = x; sender_next_tsn = s; receiver_next_tsn = r }

response_back : (n : ℕ) (x : ReconfigurationResponseResult) (s r : Option ℕ)
    → response.IsInWidth (response_of n x s r)
    → (response.format (response_of n x s r)).IsWellFormed
    → response.read (numbers w32 (n ∷ result_number x ∷ []) ++ numbers w32 (next_tsns s r))
    ≡ Ok (response_of n x s r)
response_back n x None None w both =
    rw (
      from_be_bytes-to_be_bytes_4 (result_number x) (result_fits x),
      result_back x,
      from_be_bytes-to_be_bytes_4 n w.response,
    ) refl
response_back n x (Some s) (Some r) w both =
    rw (
      from_be_bytes-to_be_bytes_4 (result_number x) (result_fits x),
      result_back x,
      from_be_bytes-to_be_bytes_4 n w.response,
      from_be_bytes-to_be_bytes_4 s w.sender_next_tsn,
      from_be_bytes-to_be_bytes_4 r w.receiver_next_tsn,
    ) refl
response_back n x (Some s) None w both = absurd (let one : false ≡ true = both.0 refl in cc)
response_back n x None (Some r) w both = absurd (let one : false ≡ true = both.1 refl in cc)

-- the next TSNs of what was read
abbrev IsRead : List ℕ → response.Tree → Type 0
IsRead value t =
    ((length value ≡ 8) × ((t.sender_next_tsn ≡ None) × (t.receiver_next_tsn ≡ None)))
    ⊎ ((length value ≡ 16) × ((t.sender_next_tsn ≡ Some (number32 (drop 8 value)))
    × (t.receiver_next_tsn ≡ Some (number32 (drop 12 value)))))

with_tsns : (value : List ℕ) (s r : Option ℕ) (t : response.Tree) → response_with value s r ≡ Ok t
    → (t.sender_next_tsn ≡ s) × (t.receiver_next_tsn ≡ r)
with_tsns value s r t e =
    let x = of_map_ok (λ result. response_of (number32 value) result s r)
    (result_of (number32 (drop 4 value))) t e in (
      ap (λ (y : response.Tree). y.sender_next_tsn) x.1.1,
      ap (λ (y : response.Tree). y.receiver_next_tsn) x.1.1,
    )

response_read : (value : List ℕ) (t : response.Tree) → response.read value ≡ Ok t → IsRead value t
response_read value t e = elim (chosen (length value == 8) _ _ (Ok t) e) [
  | inl p ↦ inl (eqb-true (length value) 8 p.0, with_tsns value None None t p.1)
  | inr p ↦ (let q = passed (length value == 16) _ Length t p.1 in
      inr (eqb-true (length value) 16 q.0, with_tsns value _ _ t q.1))
]

result_unpadded : (n : ℕ) → NotPadding (result_of n)
result_unpadded n =
    either (n == 0) _ _ tt (either (n == 1) _ _ tt (either (n == 2) _ _ tt (either (n == 3) _ _ tt
    (either (n == 4) _ _ tt (either (n == 5) _ _ tt (either (n == 6) _ _ tt tt))))))

response_unpadded : (value : List ℕ) → NotPadding (response.read value)
response_unpadded value =
    let known = λ (s r : Option ℕ). mapped
    (λ result. response_of (number32 value) result s r) (result_of (number32 (drop 4 value)))
    (result_unpadded (number32 (drop 4 value))) in
    either (length value == 8) _ _ (known _ _) (either (length value == 16) _ _ (known _ _) tt)

pub response_laws : FormatLaws response.read response.format
response_laws =
    format_laws response.read response.format
    (λ r. numbers w32 (response.leading r) ++ numbers w32 (response.tsns r)) (λ r. refl)
    (λ r width form fits. response_back r.response r.result r.sender_next_tsn r.receiver_next_tsn
    width form)
    (λ value t e. both value t (response_read value t e)) response_unpadded
    (λ value t kept e. as_long value t (response_read value t e)) where
      both : (value : List ℕ) (t : response.Tree) → IsRead value t
          → (response.format t).IsWellFormed
      both value t (inl p) = rw (p.1.0, p.1.1) ((λ h. h), (λ h. h))
      both value t (inr p) = rw (p.1.0, p.1.1) ((λ h. h), (λ h. h))

      as_long : (value : List ℕ) (t : response.Tree) → IsRead value t
          → length (numbers w32 (response.leading t) ++ numbers w32 (response.tsns t))
          ≡ length value
      as_long value t (inl p) = rw (p.1.0, p.0) refl
      as_long value t (inr p) = rw (p.1.0, p.1.1, p.0) refl
