-- What the one loop over a list that is reported is given.
use Rattle.std.specs.Prelude.{if◌then◌else◌, List, Option, Some, None}
use Rattle.dcsctp_borrowed.specs.Part.{Item, part_of}
use Rattle.dcsctp_receive.specs.{Chunks.{items_of}, Unrecognized.{chunk_action, parameter_action}, Restart.{is_new}}
use Rattle.dcsctp_receive.specs.declared.action.Action.{Action}
use Rattle.dcsctp_receive.specs.declared.action.Action.TheVariants.{SkipAndReport}
use Rattle.dcsctp_receive.specs.declared.reported.Handling.{Handling}
use Rattle.dcsctp_receive.specs.declared.reported.Handling.TheVariants as handling

-- a new address is listed, as if it was reported
abbrev pub address_action : List Item → Item → Option Action
address_action known p = if is_new known p then Some SkipAndReport else None

abbrev pub action_by : Handling → Item → Option Action
action_by (handling.Chunks known) = chunk_action known.now
action_by (handling.Parameters known) = parameter_action known.now
action_by (handling.Addresses known) = address_action (items_of (part_of known))
