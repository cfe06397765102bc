use Rattle.std.proofs.Common.{ap}
use Rattle.dcsctp_wire.{specs.Canonical.{canonical}, proofs.Canonicals.{canonical_one}}
use Rattle.dcsctp_wire.proofs.laws.canonical_one.Goals as goal

pub returns : goal.returns
returns c = λ m n h k. (canonical_one m n h k, ap canonical)
