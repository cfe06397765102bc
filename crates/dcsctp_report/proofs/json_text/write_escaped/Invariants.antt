use Rattle.std.proofs.Common.{◌≡◌, ℕ, ◌≤◌, List, ◌++◌, take}
use Rattle.std.specs.Fmt.{HasWritten, IsPlainFormatter}
use Rattle.std.specs.List.{flat_map, slice_range}
use Rattle.dcsctp_report.specs.JsonString.{written}
use Rattle.dcsctp_report.proofs.json_text.write_escaped.Given as goal

abbrev pub invariant-loop-i : goal.invariant-loop-i
invariant-loop-i g l = record {
  in_order : l.start ≤ l.i;
  so_far : IsPlainFormatter l.initial.f → (done : List ℕ)
      × HasWritten g.W.Write.write_str_gives l.initial.f done l.f
      × (done ++ slice_range l.bytes l.start l.i ≡ flat_map written (take l.i l.bytes));
}
