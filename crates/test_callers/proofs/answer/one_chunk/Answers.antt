use Rattle.std.proofs.Common.{◌≡◌, ◌≢◌, ◌∙◌, ◌/◌, ◌*◌, Ok, [], ◌∷◌, List, true, ap, subst, arith, rules}
use Rattle.dcsctp_crc32c.specs.Checksum.{packet_word}
use Rattle.dcsctp_wire.specs.Builder.{BuilderState, meaning_with}
use Rattle.dcsctp_wire.specs.Chunk.{ChunkTree, view, all_kept}
use Rattle.test_callers.specs.Sealed.{Verified}
use Rattle.test_callers.proofs.answer.one_chunk.Goals as goal

pub returns-clause-sealed : goal.returns-clause-sealed
returns-clause-sealed c = λ readable. (
    let b = c.try_add.new.self in
    let chunks : List ChunkTree = view c.args.chunk ∷ [] in
    let bytes = c.seal.result.items in
    let is : b ≡ record {
      source = c.args.header.now.destination_port;
      destination = c.args.header.now.source_port;
      tag = c.args.tag;
      limit = c.args.limit / 4 * 4;
      writes_checksum = true;
      bytes = b.bytes;
      reserved = b.reserved;
    } = c.in_ok-try_add.ensures.settings ∙ ap (λ (s : BuilderState). record s {
      bytes = b.bytes;
      reserved = b.reserved;
    }) c.new-builder.ensures in
    let on = ap (λ (s : BuilderState). s.writes_checksum) is in
    let most = ap (λ (s : BuilderState). s.limit) is in
    let none = ap (λ (s : BuilderState). s.bytes) c.new-builder.ensures in
    let holds = c.in_ok-try_add.ensures.added (search rules) [] none in
    let some : chunks ≢ [] = λ e. cc in
    subst (λ (s : BuilderState). Verified bytes
    (Ok (record { meaning = meaning_with s (all_kept chunks); checksum = packet_word bytes })))
    is
    (c.seal.ensures.reads on (omega (arith, most, c.ranges.limit.fits)) chunks holds some readable))
