use Rattle.std.proofs.Common.{◌≡◌, ◌≤◌, ◌+◌, min, length}
use Rattle.dcsctp_report.proofs.printed.text_front.Given as goal

abbrev pub invariant-loop-dropped : goal.invariant-loop-dropped
invariant-loop-dropped l = record {
  size : l.end ≤ l.fn.most;
  within : l.end ≤ length l.text;
  whole : length l.text ≤ l.fn.most → l.end ≡ length l.text;
  dropped : min l.fn.most (length l.text) ≤ l.end + l._dropped;
}
