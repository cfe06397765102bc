use Rattle.std.proofs.Common.{◌≡◌, ◌&&◌, ◌||◌, not, ap, ◌∙◌}
use Rattle.dump_capture.specs.Found.{packet_of}
use Rattle.dcsctp_borrowed.specs.Part.{Part, part_of}
use Rattle.dump_packet.specs.Seen.{chunks_seen}
use Rattle.dump_packet.specs.Filter.{part_in, passes_headers, passes_chunks, has_wrong_checksum}
use Rattle.dump_packet.proofs.filter.Filter.is_met.Goals as goal

pub returns : goal.returns
returns c =
    let f = c.args.self.now in
    let same : part_of c.packet-packet.result ≡ part_in (packet_of c.args.found.now) = λ i.
    record { bytes = c.packet-packet.ensures.bytes i; size = c.packet-packet.ensures.size i } in
    c.is_met_by.ensures
    ∙ ap (λ (p : Part). passes_headers f p c.args.found.now.addresses
    && passes_chunks f (chunks_seen c.args.fault p)
    && (not f.wrong || has_wrong_checksum c.args.word p)) same
