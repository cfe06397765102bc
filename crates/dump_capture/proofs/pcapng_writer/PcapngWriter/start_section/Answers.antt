use Rattle.std.proofs.Common.{true, refl, rules}
use Rattle.dump_capture.specs.PcapngFile.{links}
use Rattle.dump_capture.proofs.PcapngWritten.{added_section}
use Rattle.dump_capture.proofs.pcapng_writer.PcapngWriter.start_section.Goals as goal

pub returns-clause-adds : goal.returns-clause-adds
returns-clause-adds c = λ before frames file.
    added_section before c.args.self.now.bytes.items c.push_words.new.bytes.items
    c.clear.new.self.items frames (links c.args.self.now) true file (search rules) refl
    c.clear.ensures.items
