use Rattle.std.proofs.Common.{◌≡◌, ◌≤◌, ◌<◌, ◌+◌, ◌*◌, ◌/◌, take}
use Rattle.std.specs.List.{sum}
use Rattle.dump_packet.proofs.delays.Delays.median.Given as goal

abbrev pub invariant-loop-bucket : goal.invariant-loop-bucket
invariant-loop-bucket l = record {
  is : l.passed ≡ sum (take l.bucket l.fn.self.buckets);
  bounded : l.passed ≤ l.bucket * 4294967295;
  fewer : 0 < l.fn.self.count → l.passed < (l.fn.self.count + 1) / 2;
}
