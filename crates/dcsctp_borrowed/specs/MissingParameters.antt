-- The types of Missing Mandatory Parameter (RFC 9260 section 3.3.10.2), read in their bytes.
use Rattle.std.specs.{Prelude.{◌==◌, ℕ, List, if◌then◌else◌, Option, Some, None}, Result.{result_ok}}
use Rattle.dcsctp_cause.specs.Cause.{CauseTree, MissingMandatoryParameter}
use Rattle.dcsctp_cause.specs.MissingMandatoryParameter as missing_kind

-- the types of a Missing Mandatory Parameter; nothing of any other cause
abbrev pub missing_of : CauseTree → Option (List ℕ)
missing_of (MissingMandatoryParameter types) = Some types
missing_of t = None

-- What a cause of this code with this value reads as; nothing where it has another code, or isn't
-- as long as its count says.
abbrev pub read_missing : ℕ → List ℕ → Option (List ℕ)
read_missing code value = if code == 2 then result_ok (missing_kind.read value) else None
