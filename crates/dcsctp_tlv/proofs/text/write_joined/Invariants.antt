use Rattle.std.{proofs.Common.{◌≡◌, ℕ, List, Some, map, take}, specs.Fmt.{HasWritten, IsPlainFormatter}}
use Rattle.dcsctp_tlv.specs.Text.{joined}
use Rattle.dcsctp_tlv.proofs.text.write_joined.Given as goal

abbrev pub invariant-loop-i : goal.invariant-loop-i
invariant-loop-i g l = (text : g.row.T.Denot → List ℕ)
    → ((x : g.row.T.Denot) → g.T.Display.output x ≡ Some (text x)) → IsPlainFormatter l.initial.f
    → HasWritten g.W.Write.write_str_gives l.initial.f
    (joined l.separator (map text (take l.i l.list))) l.f
