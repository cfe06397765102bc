-- The header's fields, the ends of the log and the first chunk are as the calls say.
use Rattle.std.proofs.Common.{rules, ap}
use Rattle.dump_associations.proofs.associations.key.Arrival.of.Goals as goal

pub returns : goal.returns
returns c = (
  ap (λ h. h.verification_tag) c.in_ok-header.ensures.header,
  ap (λ h. h.source_port) c.in_ok-header.ensures.header,
  ap (λ h. h.destination_port) c.in_ok-header.ensures.header,
  search rules,
  c.next.new.self,
  search rules,
)
