use Rattle.std.proofs.Common.{◌≡◌, ◌<◌, true, length, sym, ◌∙◌, arith}
use Rattle.dump_capture.proofs.HexLemmas.{past_blank}
use Rattle.dump_capture.proofs.hex_bytes.without_blanks_before.Goals as goal

pub loop-place-preserved : goal.loop-place-preserved
loop-place-preserved c =
    let within : c.loop-place.place < length c.args.text.now = omega arith in
    let is : c.is_blank.result ≡ true = grind arith in
    past_blank c.args.text.now c.loop-place.place within (sym c.is_blank.ensures ∙ is)
    c.loop-place.invariant
