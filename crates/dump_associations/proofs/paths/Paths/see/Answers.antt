use Rattle.std.proofs.Common.{ap, ◌∙◌, arith}
use Rattle.dump_capture.specs.Number.{one_more}
use Rattle.dump_packet.specs.SeenPackets.{packet_of}
use Rattle.dump_associations.proofs.PathCounts.{once}
use Rattle.dump_associations.proofs.paths.Paths.see.Goals as goal

pub returns-clause-path : goal.returns-clause-path
returns-clause-path c =
    let before = c.args.self.now in
    let found = c.place_of.new.self in
    let after = c.note_chunks.new.self in
    let same = c.in_ok-place.ensures.others in
    let kept = c.note_chunks.ensures.others in (
      c.of-way.result,
      c.of-way.ensures,
      once (packet_of c.args.packet.now) c.of-way.result before.list.items before.others
          c.in_ok-place.place found.list.items c.count.new.self.list.items after.others after.list.items
          c.in_ok-place.ensures.place
          (λ within. let one = c.count.ensures.on_path (omega arith) in (one.0, kept ∙ one.1 ∙ same))
          (λ past.
          let none = c.count.ensures.on_others (omega arith) in
          (none.0, kept ∙ none.1 ∙ ap one_more same))
          c.note_chunks.ensures.alike,
    )
