use Rattle.std.proofs.Common.{◌≡◌, ◌+◌, ◌*◌, ◌/◌, ◌%◌, ◌^◌, [], ◌∷◌, ◌++◌, length, refl, ◌∙◌, rules}
use Rattle.dump_capture.specs.PcapngFile.{words, frame_of}
use Rattle.dump_capture.proofs.PcapngWritten.{packet_written}
use Rattle.dump_capture.proofs.pcapng_writer.push_packet.Goals as goal

pub returns : goal.returns
returns c =
    let f = frame_of c.args.frame in
    let options = c.direction_options-options.result.now in
    let padding = c.padding_of-padding.result.now in
    let size = length f.bytes + length padding + length options * 4 + 32 in
    let added : c.push_words-3.new.bytes.items
    ≡ ((((c.args.bytes.now.items ++ words (6 ∷ size ∷ c.args.interface ∷ (f.time / 2 ^ 32)
    ∷ (f.time % 2 ^ 32) ∷ length f.bytes ∷ f.original_length ∷ [])) ++ f.bytes) ++ padding)
    ++ words options) ++ words (size ∷ []) = search rules in
    added ∙ packet_written c.args.bytes.now.items padding options c.args.interface size f
    c.padding_of-padding.ensures c.direction_options-options.ensures refl
