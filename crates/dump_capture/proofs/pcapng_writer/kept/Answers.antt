use Rattle.std.proofs.Common.{◌≡◌, List, ℕ, ap, take, min, length, ◌∙◌, rules}
use Rattle.std.proofs.lemmas.List.{take_min}
use Rattle.dump_capture.specs.PcapngFile.{frame_of}
use Rattle.dump_capture.proofs.pcapng_writer.kept.Goals as goal

pub returns : goal.returns
returns c =
    let f = frame_of c.args.frame in
    let size : c.min-size.result ≡ min (min f.original_length 262112) (length f.bytes) =
    search rules in
    ap (λ (x : List ℕ). record f { bytes = x }) (ap (λ (k : ℕ). take k f.bytes) size
    ∙ take_min (min f.original_length 262112) f.bytes)
