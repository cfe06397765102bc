use Rattle.std.proofs.Common.{◌≡◌, [], ◌∷◌, ◌++◌, Some, length, ap, ◌∙◌, arith, rules}
use Rattle.std.specs.Prelude.{slice_get}
use Rattle.std.proofs.Math.Seq.{get_or-append_seam}
use Rattle.std.proofs.lemmas.List.{length-append}
use Rattle.std.proofs.lemmas.Option.{slice_get-get_or}
use Rattle.dump_capture.specs.PcapngFile.{links, interface_block}
use Rattle.dump_capture.proofs.PcapngWritten.{added_interface, plain_file}
use Rattle.dump_capture.proofs.pcapng_writer.PcapngWriter.add_interface.Goals as goal

pub returns-clause-adds : goal.returns-clause-adds
returns-clause-adds c = λ before frames file.
    let made = c.make_room.new.self in
    let link = c.args.link_type in
    let bytes : c.push_words.new.bytes.items ≡ made.bytes.items ++ interface_block link =
    search rules in
    added_interface before made.bytes.items c.push_words.new.bytes.items made.link_types.items
    c.push.new.self.items frames link made.is_begun made.is_begun
    (plain_file (before ++ made.bytes.items) frames (links made)
    (c.in_ok-make_room.ensures.adds before frames file))
    c.in_ok-make_room.ensures.begun c.in_ok-make_room.ensures.begun c.in_ok-make_room.ensures.room
    (omega arith) (search rules) bytes

pub returns-clause-place : goal.returns-clause-place
returns-clause-place c =
    let known = c.make_room.new.self.link_types.items in
    let link = c.args.link_type in
    let pushed : c.push.new.self.items ≡ known ++ link ∷ [] = search rules in
    let place : c.len-interface.result ≡ length known = search rules in
    ap (λ xs. slice_get xs c.len-interface.result) pushed
    ∙ ap (λ k. slice_get (known ++ link ∷ []) k) place
    ∙ slice_get-get_or (known ++ link ∷ []) (length known) 0
    (omega (arith, length-append known (link ∷ [])))
    ∙ ap (λ x. Some x) (get_or-append_seam known link [] 0)
