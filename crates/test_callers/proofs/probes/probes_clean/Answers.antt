use Rattle.std.proofs.Common.{◌∙◌, [], ◌∷◌, ap, inr}
use Rattle.std.proofs.lemmas.List.{map-append}
use Rattle.dcsctp_chunk.specs.Sack as sack
use Rattle.dcsctp_wire.specs.Chunk.{view, views}
use Rattle.dcsctp_wire.specs.Packet.{packet_view}
use Rattle.dcsctp_wire.specs.declared.packet.chunk.Chunk.TheVariants as variant
use Rattle.test_callers.proofs.probes.probes_clean.Goals as goal

pub returns-in-Some-Sack : goal.returns-in-Some-Sack
returns-in-Some-Sack c =
    let rest = c.pop.new.self.items in
    let split = rw c.in-Some-Sack.field-0-is at c.in-Some-Sack.ensures.items in
    inr (
      packet_view c.in-Ok.packet,
      c.in-Ok.ensures.answer.answers,
      (
        views rest,
        sack.view c.in-Some-Sack.sack,
        c.clean_sack.result.gap_ack_blocks.items,
        ap views split ∙ map-append view rest (variant.Sack c.in-Some-Sack.sack ∷ []),
        c.clean_sack.ensures.cleaned,
        c.len.ensures ∙ c.clean_sack.result.gap_ack_blocks.ok.0,
      ),
    )
