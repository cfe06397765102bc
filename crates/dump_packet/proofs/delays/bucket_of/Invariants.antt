use Rattle.std.proofs.Common.{◌≡◌, ◌/◌, ◌^◌, ◌≤◌}
use Rattle.dump_packet.proofs.delays.bucket_of.Given as goal

abbrev pub invariant-loop-octave : goal.invariant-loop-octave
invariant-loop-octave l = record {
  is : l.rest ≡ l.fn.units / 2 ^ l.octave;
  above : (1 ≤ l.octave) → 8 ≤ l.rest;
}
