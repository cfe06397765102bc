-- The laws of the table of parameters: a line for each kind, of the laws that it satisfies.
use Rattle.std.{proofs.Common.{rules, ◌≡◌, ℕ, Bool, ◌+◌, ◌*◌, ◌^◌, ◌<◌, List, ◌++◌, length, Result, refl, ap, Option, Some, None, IfSome}, specs.Int.{w32}, specs.List.{AllByRecursion}}
use Rattle.dcsctp_tlv.{specs.Decided.{LawfulRow, IgnoresPadding}, specs.Format.{sized_tlv}, specs.Frame.{lenient}, specs.Number.{numbers}, specs.declared.error.ChunkParseError.{ChunkParseError}, specs.Kinds.{ChecksKind}, specs.Reading.{Answers, checking, RowAnswer, Counted, Unplaced}, proofs.Lengths.{length-format}, specs.Image.{Tlv, zeroed, image_of, size_of}, specs.Table.{Content, Varied, ◌&◌}, specs.ReconfigurationResponse.{next_tsns, kept_tsn}, specs.Parameter.{ParameterTree, Unknown, members, kinds, table, row, parameters, entry, format, tlv, IsInWidth, IsWellFormed, kept, all_kept}, proofs.Laws.{Lawful}, proofs.KindLaws.{IsGood}, proofs.Satisfies.{AllSatisfy, SatisfiesOf, plain_satisfies, kept_satisfies, back_of, kept_tlv_of, kept_width_of}, proofs.Lenient.{Loosens}, proofs.TableLaws.{TypedFacts, typed_row_lawful, typed_lawful, typed_looser, typed_form, typed_account, typed_unpadded, typed_tested, unknown_means}, proofs.ReadsBack.{ReadsBack}, proofs.ParameterKinds.{info_laws, cookie_laws, outgoing_laws, incoming_laws, response_laws, zero_checksum_laws, extensions_laws, forward_tsn_laws, ssn_tsn_laws, add_streams_laws}, proofs.Forms.{FormsTrees}, proofs.Accounts.{Accounts}, proofs.Kept.{all_map}}
use Rattle.dcsctp_tlv.specs.AddOutgoingStreamsRequest as add_outgoing
use Rattle.dcsctp_tlv.specs.AddIncomingStreamsRequest as add_incoming
use Rattle.dcsctp_tlv.specs.ReconfigurationResponse as response

-- ---- a response as it is written

kept_tsns : (s r : Option ℕ) → next_tsns (kept_tsn s r) (kept_tsn r s) ≡ next_tsns s r
kept_tsns (Some s) (Some r) = refl
kept_tsns (Some s) None = refl
kept_tsns None (Some r) = refl
kept_tsns None None = refl

-- a response with these next TSNs, as it is written
abbrev tlv_with : response.Tree → List ℕ → Tlv
tlv_with r tsns =
    sized_tlv 16 (8 + 4 * length tsns) (numbers w32 (response.leading r) ++ numbers w32 tsns)

kept_response_tlv : (r : response.Tree)
    → (response.format (response.kept r)).tlv ≡ (response.format r).tlv
kept_response_tlv r = ap (tlv_with r) (kept_tsns r.sender_next_tsn r.receiver_next_tsn)

-- what holds of a next TSN holds of the one that is kept
tsn_kept : (P : ℕ → Type 0) (s r : Option ℕ) → IfSome s P → IfSome (kept_tsn s r) P
tsn_kept P s (Some r) h = h
tsn_kept P s None h = tt

abbrev IsTsn : ℕ → Type 0
IsTsn tsn = tsn < 2 ^ 32

kept_response_width : (r : response.Tree) → (response.format r).IsInWidth
    → (response.format (response.kept r)).IsInWidth
kept_response_width r w = record {
  response = w.response;
  sender_next_tsn = tsn_kept IsTsn r.sender_next_tsn r.receiver_next_tsn w.sender_next_tsn;
  receiver_next_tsn = tsn_kept IsTsn r.receiver_next_tsn r.sender_next_tsn w.receiver_next_tsn;
}

-- ---- what each kind satisfies

-- every value keeps its size
abbrev Keeps : Content → List ℕ → Type 0
Keeps content value = Unit {0}

satisfied : AllSatisfy Keeps members
satisfied =
    plain_satisfies 1 _ info_laws &
    plain_satisfies 7 _ cookie_laws &
    plain_satisfies 13 _ outgoing_laws &
    plain_satisfies 14 _ incoming_laws &
    plain_satisfies 15 _ ssn_tsn_laws &
    kept_satisfies 16 _ response.kept response_laws (λ value is. tt) kept_response_tlv
    kept_response_width &
    plain_satisfies 17 _ (add_streams_laws 17 add_outgoing.name) &
    plain_satisfies 18 _ (add_streams_laws 18 add_incoming.name) &
    plain_satisfies 0x8001 _ zero_checksum_laws &
    plain_satisfies 0x8008 _ extensions_laws &
    plain_satisfies 0xC000 _ forward_tsn_laws & tt

-- what the kind of each tree satisfies
satisfies_of : (t : ParameterTree) → SatisfiesOf Keeps (entry t)
satisfies_of (Unknown u) = tt
satisfies_of t = assumption satisfied

-- ---- what the level has

facts : TypedFacts members entry Unknown Keeps (λ typ. Keeps Varied)
facts = record {
  satisfied = satisfied;
  found = search rules;
  single = search rules;
  same = λ u. refl;
  formed = λ u unnamed. unnamed;
  one = λ u. refl;
}

pub row_lawful : (typ : ℕ) → LawfulRow (row typ)
row_lawful = typed_row_lawful facts

-- a check that says what the kind does says what the table does
pub parameter_tested : (typ : ℕ) (value : List ℕ) (r : Result (Unit {0}) ChunkParseError)
    → ChecksKind kinds 0 typ value r
    → Answers checking (λ (u : Unit {0}). u) (Counted (λ t. tt) (Unplaced (RowAnswer (row typ) value))) r
parameter_tested = typed_tested facts

pub parameters_lawful : (strict : Bool) → Lawful (parameters strict)
parameters_lawful = typed_lawful facts

pub parameters_looser : (strict : Bool) → Loosens (parameters strict) (parameters lenient)
parameters_looser = typed_looser facts

pub parameters_form : FormsTrees (parameters lenient) IsWellFormed
parameters_form = typed_form facts

pub parameters_account : Accounts (parameters lenient) tlv (λ i. Unit {0})
parameters_account = typed_account facts

pub parameters_unpadded : IgnoresPadding (parameters lenient)
parameters_unpadded = typed_unpadded facts

-- ---- reading back

-- a parameter that can be written and read again
abbrev pub IsGoodParameter : ParameterTree → Type 0
IsGoodParameter t = IsGood (format t)

-- the row for the two bytes that a type is written as
abbrev Means : Tlv → ParameterTree → Type 0
Means tlv t = ((parameters lenient).row tlv.first tlv.second).means (zeroed tlv.value) t

parameter_means : (t : ParameterTree) → IsGoodParameter t → Means (tlv t) t
parameter_means (Unknown u) good = unknown_means table Unknown u good.formed
parameter_means t good = back_of Keeps lenient (entry t) (satisfies_of t) good

-- an image is as long as its size
pub length-parameter : (t : ParameterTree) → length (image_of (tlv t)) ≡ size_of (tlv t)
length-parameter t = length-format (format t)

pub parameters_read_back : (strict : Bool) → ReadsBack (parameters strict) tlv IsGoodParameter
parameters_read_back strict = record {
  sized = λ t. (format t).sized;
  fits = λ t good. good.encodable;
  means = parameter_means;
}

-- ---- as they are written

pub kept_parameter_tlv : (t : ParameterTree) → tlv (kept t) ≡ tlv t
kept_parameter_tlv (Unknown u) = refl
kept_parameter_tlv t = kept_tlv_of Keeps (entry t) (satisfies_of t)

pub kept_parameter_width : (t : ParameterTree) → IsInWidth t → IsInWidth (kept t)
kept_parameter_width (Unknown u) width = width
kept_parameter_width t width = kept_width_of Keeps (entry t) (satisfies_of t) width

pub kept_parameters_width : (ts : List ParameterTree) → AllByRecursion IsInWidth ts
    → AllByRecursion IsInWidth (all_kept ts)
kept_parameters_width ts width = all_map IsInWidth IsInWidth kept kept_parameter_width ts width
