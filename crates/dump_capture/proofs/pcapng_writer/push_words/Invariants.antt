use Rattle.std.proofs.Common.{◌≡◌, ◌++◌, take}
use Rattle.dump_capture.specs.PcapngFile.{words}
use Rattle.dump_capture.proofs.pcapng_writer.push_words.Given as goal

abbrev pub invariant-loop-number : goal.invariant-loop-number
invariant-loop-number l = l.bytes.items ≡ l.fn.bytes.items ++ words (take l.number-index l.numbers)
