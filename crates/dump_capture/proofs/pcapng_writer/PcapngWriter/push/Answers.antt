use Rattle.std.proofs.Common.{◌≡◌, ◌^◌, ◌<◌, ◌≤◌, ◌++◌, length, min, ap, ◌∙◌, arith, rules}
use Rattle.std.proofs.lemmas.List.{length-take}
use Rattle.dump_capture.specs.PcapngFile.{Frame, Fits, frame_of, kept, links, packet_block}
use Rattle.dump_capture.proofs.PcapngWritten.{added_packet, plain_file}
use Rattle.dump_capture.proofs.pcapng_writer.PcapngWriter.push.Goals as goal

-- what is written of a frame isn't longer than is read
kept_few : (f : Frame) → length (kept f).bytes ≤ 262112
kept_few f = omega (arith, length-take (min f.original_length 262112) f.bytes)

pub push_packet-requires : goal.push_packet-requires
push_packet-requires c =
    let f = frame_of c.args.frame in
    omega (arith, ap (λ (x : Frame). length x.bytes) c.kept.ensures, kept_few f)

pub returns-clause-adds : goal.returns-clause-adds
returns-clause-adds c = λ before frames file.
    let f = frame_of c.args.frame in
    let begun = c.begin.new.self in
    let made = c.interface_of.new.self in
    let i = c.in_ok-interface.interface in
    let bytes : c.push_packet.new.bytes.items
    ≡ made.bytes.items ++ packet_block i (frame_of c.kept.result) = search rules in
    let small : i < 2 ^ 32 = search rules in
    let fits : Fits (kept f) = record {
      time = search rules;
      original = search rules;
      captured = kept_few f;
    } in
    added_packet before made.bytes.items c.push_packet.new.bytes.items made.link_types.items frames
    (kept f) i made.is_begun
    (plain_file (before ++ made.bytes.items) frames (links made)
    (c.in_ok-interface.ensures.adds before frames
    (plain_file (before ++ begun.bytes.items) frames (links begun)
    (c.in_ok-begin.ensures.adds before frames file))))
    c.in_ok-interface.ensures.begun c.in_ok-interface.ensures.place small fits
    (bytes ∙ ap (λ (x : Frame). made.bytes.items ++ packet_block i x) c.kept.ensures)
