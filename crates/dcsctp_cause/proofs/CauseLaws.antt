-- The laws of the table of error causes: a line for each kind, of the laws that it satisfies.
use Rattle.std.{proofs.Common.{rules, ◌≡◌, ℕ, Bool, List, length, Result, refl, subst, inl, inr}, specs.Str.{IsUtf8}, specs.List.{AllByRecursion}}
use Rattle.dcsctp_tlv.{specs.Decided.{LawfulRow, IgnoresPadding}, specs.Frame.{Item, AreItems, any_padding, lenient}, specs.Image.{Tlv, zeroed, size_of, image_of}, specs.Level.{MeansTrees}, specs.Table.{Content, Text, ◌&◌}, specs.declared.error.ChunkParseError.{ChunkParseError}, specs.Kinds.{ChecksKind}, specs.Reading.{Answers, checking, RowAnswer, Counted, Unplaced}, proofs.Lengths.{length-format}, proofs.Laws.{Lawful}, proofs.Satisfies.{AllSatisfy, SatisfiesOf, plain_satisfies, satisfies_if, back_of}, proofs.Lenient.{Loosens}, proofs.TableLaws.{TypedFacts, typed_row_lawful, typed_lawful, typed_looser, typed_form, typed_account, typed_unpadded, typed_tested, unknown_means}, proofs.ReadsBack.{ReadsBack}, proofs.KindLaws.{IsGood, of_ok, of_map_ok}, proofs.Forms.{FormsTrees}, proofs.Accounts.{Accounts, items_kept}, proofs.Decided.{splits_one_way}}
use Rattle.dcsctp_cause.specs.UserInitiatedAbort as abort
use Rattle.dcsctp_cause.specs.ProtocolViolation as violation
use Rattle.dcsctp_cause.{specs.Cause.{CauseTree, UserInitiatedAbort, ProtocolViolation, Unknown, members, kinds, table, row, causes, entry, format, tlv, IsWellFormed, HoldsText, IsTextKept, HasOwnText}, proofs.Texts.{utf8_unless}, proofs.CauseKinds.{missing_laws, chunk_laws, no_user_data_laws, cookie_received_laws, abort_laws, violation_laws}}

-- ---- what each kind satisfies

-- a text keeps its size where it is UTF-8
abbrev Keeps : Content → List ℕ → Type 0
Keeps Text value = IsUtf8 value
Keeps content value = Unit {0}

satisfied : AllSatisfy Keeps members
satisfied =
    plain_satisfies 2 _ missing_laws &
    plain_satisfies 6 _ chunk_laws &
    plain_satisfies 9 _ no_user_data_laws &
    plain_satisfies 10 _ cookie_received_laws &
    satisfies_if 12 _ abort_laws (λ value is. is) &
    satisfies_if 13 _ violation_laws (λ value is. is) & tt

-- what the kind of each tree satisfies
satisfies_of : (t : CauseTree) → SatisfiesOf Keeps (entry t)
satisfies_of (Unknown u) = tt
satisfies_of t = assumption satisfied

-- ---- what the level has

facts : TypedFacts members entry Unknown Keeps (λ code value. HoldsText code → IsUtf8 value)
facts = record {
  satisfied = satisfied;
  found = search (rules, inl, inr);
  single = search rules;
  same = λ u. refl;
  formed = λ u unnamed. unnamed;
  one = λ u. refl;
}

pub row_lawful : (code : ℕ) → LawfulRow (row code)
row_lawful = typed_row_lawful facts

-- a check that says what the kind does says what the table does
pub cause_tested : (code : ℕ) (value : List ℕ) (r : Result (Unit {0}) ChunkParseError)
    → ChecksKind kinds 0 code value r
    → Answers checking (λ (u : Unit {0}). u) (Counted (λ t. tt) (Unplaced (RowAnswer (row code) value))) r
cause_tested = typed_tested facts

pub causes_lawful : (strict : Bool) → Lawful (causes strict)
causes_lawful = typed_lawful facts

pub causes_looser : (strict : Bool) → Loosens (causes strict) (causes lenient)
causes_looser = typed_looser facts

pub causes_form : FormsTrees (causes lenient) IsWellFormed
causes_form = typed_form facts

pub causes_account : Accounts (causes lenient) tlv IsTextKept
causes_account = typed_account facts

-- a text is kept if it was read as its own
text_kept : (i : Item) (t : CauseTree) → ((causes lenient).row i.first i.second).means i.value t
    → HasOwnText t → IsTextKept i
text_kept i t m own (inl is) =
    let x = of_map_ok UserInitiatedAbort (abort.read i.value) t
    (subst (λ (code : ℕ). (row code).means i.value t) is m) in
    utf8_unless abort.unreadable i.value (rw (of_ok _ x.0 x.1.0) (subst HasOwnText x.1.1 own))
text_kept i t m own (inr is) =
    let x = of_map_ok ProtocolViolation (violation.read i.value) t
    (subst (λ (code : ℕ). (row code).means i.value t) is m) in
    utf8_unless violation.unreadable i.value (rw (of_ok _ x.0 x.1.0) (subst HasOwnText x.1.1 own))

pub texts_kept : (bytes : List ℕ) (cs : List CauseTree) → MeansTrees (causes lenient) bytes cs
    → AllByRecursion HasOwnText cs → (items : List Item) → AreItems any_padding bytes items
    → AllByRecursion IsTextKept items
texts_kept bytes cs m own items are = subst (AllByRecursion IsTextKept)
    (splits_one_way any_padding bytes m.items items m.are are)
    (items_kept (causes lenient) HasOwnText IsTextKept text_kept m.items cs m.mean own)

pub causes_unpadded : IgnoresPadding (causes lenient)
causes_unpadded = typed_unpadded facts

-- ---- reading back

-- a cause that can be written and read again
abbrev pub IsGoodCause : CauseTree → Type 0
IsGoodCause t = IsGood (format t)

-- the row for the two bytes that a code is written as
abbrev Means : Tlv → CauseTree → Type 0
Means tlv t = ((causes lenient).row tlv.first tlv.second).means (zeroed tlv.value) t

cause_means : (t : CauseTree) → IsGoodCause t → Means (tlv t) t
cause_means (Unknown u) good = unknown_means table Unknown u good.formed
cause_means t good = back_of Keeps lenient (entry t) (satisfies_of t) good

-- an image is as long as its size
pub length-cause : (t : CauseTree) → length (image_of (tlv t)) ≡ size_of (tlv t)
length-cause t = length-format (format t)

pub causes_read_back : (strict : Bool) → ReadsBack (causes strict) tlv IsGoodCause
causes_read_back strict =
    record { sized = λ t. (format t).sized; fits = λ t good. good.encodable; means = cause_means }
