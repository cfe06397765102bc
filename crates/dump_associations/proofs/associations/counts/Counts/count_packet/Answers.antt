-- The chunks change no number of packets, and the header counts one.
use Rattle.std.proofs.Common.{ap, ◌∙◌}
use Rattle.dump_associations.proofs.HeaderCounts.{packets-with_header}
use Rattle.dump_associations.proofs.associations.counts.Counts.count_packet.Goals as goal

pub returns-clause-packets : goal.returns-clause-packets
returns-clause-packets c =
    c.count_chunks.ensures.packets ∙ ap (λ k. k.packets) c.count_header.ensures
    ∙ packets-with_header _ _ _
