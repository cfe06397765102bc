-- What an end says of its addresses (RFC 9260 section 3.3.2.1, RFC 5061 section 4.2), and what the
-- other end answers (RFC 5061 sections 4.2.3 and 4.2.5).
use Rattle.std.specs.Prelude.{◌≡◌, ◌<◌, ◌==◌, ◌&&◌, not, Bool, true, false, ℕ, if◌then◌else◌, List, get_or, length, Option, Some, None, IsSome, option_map}
use Rattle.dump_associations.specs.declared.associations.announced.Announced.{Announced}
use Rattle.dump_associations.specs.declared.associations.announced.Answer.{Answer}
use Rattle.dump_associations.specs.declared.associations.announced.Answer.TheVariants.{Accepted, Refused, Unclear}
use Rattle.dump_associations.specs.declared.associations.announced.RequestId.{RequestId}
use Rattle.dump_associations.specs.declared.associations.announced.Statement.{Statement}
use Rattle.dump_associations.specs.declared.associations.announced.Topic.{Topic}
use Rattle.dump_associations.specs.declared.associations.announced.Topic.TheVariants.{Added, Primary, Deleted}

abbrev pub is_refused : Option Answer → Bool
is_refused (Some Refused) = true
is_refused (Some (Accepted _)) = false
is_refused (Some Unclear) = false
is_refused None = false

-- whether it succeeded is known
abbrev pub is_settled : Option Answer → Bool
is_settled (Some Refused) = true
is_settled (Some (Accepted _)) = true
is_settled (Some Unclear) = false
is_settled None = false

-- it was said, and not refused
abbrev pub holds : Option Statement → Bool
holds (Some s) = not (is_refused s.answer)
holds None = false

abbrev pub is_deleted : Announced → Bool
is_deleted a = holds a.deleted

-- An address that was added already isn't added again; of others the last one counts.
abbrev pub with_statement : Topic → Statement → Announced → Announced
with_statement Added s a = if holds a.added then a else record a { added = Some s }
with_statement Primary s a = record a { primary = Some s }
with_statement Deleted s a = record a { deleted = Some s }

-- a request by the number of its ASCONF and its own
abbrev pub is_request : RequestId → Option RequestId → Bool
is_request id (Some r) =
    (r.sequence_number == id.sequence_number) && (r.correlation_id == id.correlation_id)
is_request id None = false

-- The first answer that says whether it succeeded stays.
abbrev pub with_answer : RequestId → Answer → Statement → Statement
with_answer id answer s =
    if is_request id s.request && not (is_settled s.answer)
    then record s { answer = Some answer } else s

-- whatever it says of an address
abbrev pub answered : RequestId → Answer → Announced → Announced
answered id answer a = record a {
  added = option_map (with_answer id answer) a.added;
  primary = option_map (with_answer id answer) a.primary;
  deleted = option_map (with_answer id answer) a.deleted;
}

-- of each address that is kept
abbrev pub AreAnswered : RequestId → Answer → List (Option Announced) → List (Option Announced)
    → Type 0
AreAnswered id answer before after =
    (i : ℕ) → i < length before
    → get_or after i None ≡ option_map (answered id answer) (get_or before i None)

-- Eight addresses are kept, and there is no room for another one.
abbrev pub IsFull : List (Option Announced) → Type 0
IsFull list = (i : ℕ) → i < 8 → IsSome (get_or list i None)
