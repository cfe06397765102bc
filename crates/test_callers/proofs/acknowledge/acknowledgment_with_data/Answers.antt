use Rattle.std.proofs.Common.{◌≡◌, ◌≢◌, ◌∙◌, ◌/◌, ◌*◌, Ok, [], ◌∷◌, List, true, refl, ap, subst, arith, rules}
use Rattle.dcsctp_wire.specs.Caller.{sack_view, data_view}
use Rattle.dcsctp_wire.specs.Builder.{BuilderState, meaning_with}
use Rattle.dcsctp_wire.specs.Chunk.{ChunkTree, Sack, Data, all_kept}
use Rattle.dcsctp_wire.specs.Packet.{Answer, checksum_field}
use Rattle.test_callers.proofs.Rooms.{within_limit}
use Rattle.test_callers.proofs.acknowledge.acknowledgment_with_data.Goals as goal

pub returns-clause-reads : goal.returns-clause-reads
returns-clause-reads c = λ expected policy accepted. (
    let b = c.add_both.new.builder in
    let chunks : List ChunkTree =
    Sack (sack_view c.args.sack) ∷ Data (data_view c.args.message) ∷ [] in
    let bytes = c.build.result.items in
    let is : b ≡ record {
      source = c.args.header.now.destination_port;
      destination = c.args.header.now.source_port;
      tag = c.args.header.now.verification_tag;
      limit = c.args.limit / 4 * 4;
      writes_checksum = true;
      bytes = b.bytes;
      reserved = b.reserved;
    } = c.in_ok-add_both.ensures.settings ∙ ap (λ (s : BuilderState). record s {
      bytes = b.bytes;
      reserved = b.reserved;
    }) c.new-builder.ensures in
    let most = ap (λ (s : BuilderState). s.limit) is in
    let none = ap (λ (s : BuilderState). s.bytes) c.new-builder.ensures in
    let holds = c.in_ok-add_both.ensures.holds (search rules) none in
    let some : chunks ≢ [] = λ e. cc in
    let read = c.build.ensures.reads_back (omega (arith, most)) chunks holds some
    (tt, (record { mid = refl; fsn = refl }, tt)) expected policy accepted in
    subst (λ (s : BuilderState). Answer bytes expected policy
    (Ok (record {
      meaning = meaning_with s (all_kept chunks);
      checksum = checksum_field bytes;
    }))) is read)

pub returns-clause-room : goal.returns-clause-room
returns-clause-room c =
    let none = ap (λ (s : BuilderState). s.bytes) c.new-builder.ensures in
    let both = within_limit c.new-builder.result c.args.header.now.destination_port
    c.args.header.now.source_port c.args.header.now.verification_tag c.args.limit
    (Sack (sack_view c.args.sack)) (Data (data_view c.args.message)) c.in_ok-add_both.field-0
    (ap (λ (s : BuilderState). s.limit) c.new-builder.ensures)
    (c.in_ok-add_both.ensures.room none) in
    (λ _. both.0 (search rules), λ _. search rules)
