use Rattle.std.proofs.Common.{◌∙◌, ◌≤◌, length, take, ap, inr}
use Rattle.std.proofs.lemmas.List.{take_all}
use Rattle.dcsctp_wire.specs.Chunk.{views}
use Rattle.dcsctp_wire.specs.Packet.{meaning_view}
use Rattle.test_callers.proofs.Building.{stays-for, views-next, built-is}
use Rattle.test_callers.proofs.probes.built_size.Goals as goal

pub loop-chunk-preserved : goal.loop-chunk-preserved
loop-chunk-preserved c =
    let chunks = c.args.packet.now.chunks.items in
    let i = c.loop-chunk.chunk-index in
    let below = rw c.deref-chunk-items.ensures.value at c.loop-chunk-test.true in
    let item = rw c.deref-chunk-items.ensures.value at c.chunk-item.is in
    record {
      held =
          rw (views-next chunks i c.chunk-item.result below item)
          (c.in_ok-add.ensures.added (views (take i chunks)) c.loop-chunk.invariant.held);
      settings =
          stays-for (meaning_view c.args.packet.now) c.loop-chunk.builder c.add.new.self
          c.in_ok-add.ensures.settings c.loop-chunk.invariant.settings;
    }

pub returns : goal.returns
returns c =
    let packet = c.args.packet.now in
    let all : length packet.chunks.items ≤ c.loop-chunk.chunk-index =
    rw c.deref-chunk-items.ensures.value at c.loop-chunk-test.false in
    let held = rw (take_all c.loop-chunk.chunk-index packet.chunks.items all) at
    c.loop-chunk.invariant.held in
    inr (c.len.ensures ∙ c.build.result.ok.0 ∙ ap length (c.build.ensures.bytes
    ∙ built-is (meaning_view packet) c.loop-chunk.builder c.loop-chunk.invariant.settings c.requires
    held))
