-- The bytes of the name up to this one are printable, and were copied.
use Rattle.std.proofs.Common.{◌≡◌, All, take, length}
use Rattle.dump_associations.specs.Transports.{IsPrintable}
use Rattle.dump_associations.proofs.associations.transport.TransportName.of.Given as goal

abbrev pub invariant-loop-i : goal.invariant-loop-i
invariant-loop-i l = record {
  size : length l.bytes ≡ 64;
  copied : take l.i l.bytes ≡ take l.i l.name;
  printable : All IsPrintable (take l.i l.name);
}
