-- What is done with a chunk or a parameter of a type that isn't recognized (RFC 9260 sections 3.2
-- and 3.2.1).
use Rattle.std.specs.Prelude.{ℕ, ◌/◌, ◌==◌, Bool, true, false, if◌then◌else◌}
use Rattle.dcsctp_receive.specs.declared.action.Action.{Action}
use Rattle.dcsctp_receive.specs.declared.action.Action.TheVariants.{Stop, StopAndReport, Skip, SkipAndReport}

-- "Chunk Types are encoded such that the highest-order 2 bits specify the action that is taken if
-- the processing endpoint does not recognize the Chunk Type": table 2, and of parameters table 3.
abbrev pub action_of : ℕ → Action
action_of bits =
    if bits == 0 then Stop else
    if bits == 1 then StopAndReport else
    if bits == 2 then Skip else
    SkipAndReport

-- of the eight bits of a chunk's type, and of the sixteen of a parameter's
abbrev pub action_to_chunk : ℕ → Action
action_to_chunk typ = action_of (typ / 64)

abbrev pub action_to_parameter : ℕ → Action
action_to_parameter typ = action_of (typ / 16384)

-- "continue processing", not "stop processing"
abbrev pub skips : Action → Bool
skips Stop = false
skips StopAndReport = false
skips Skip = true
skips SkipAndReport = true

-- "report the unrecognized chunk" or parameter
abbrev pub reports : Action → Bool
reports Stop = false
reports StopAndReport = true
reports Skip = false
reports SkipAndReport = true
