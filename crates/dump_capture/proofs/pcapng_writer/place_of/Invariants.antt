use Rattle.std.proofs.Common.{◌≡◌}
use Rattle.dump_capture.proofs.pcapng_writer.place_of.Given as goal

abbrev pub invariant-loop-known : goal.invariant-loop-known
invariant-loop-known l = l.interface ≡ l.known-index
