use Rattle.std.proofs.Common.{rules, ◌++◌, sym, ap, ◌∙◌, append_assoc}
use Rattle.std.proofs.Output.{has_written_append}
use Rattle.std.proofs.lemmas.Grind.{flat_map-append}
use Rattle.dcsctp_report.specs.Hexadecimal.{two_digits, digits_of}
use Rattle.dcsctp_report.proofs.hexadecimal.write_digits.Goals as goal

pub loop-rest-preserved : goal.loop-rest-preserved
loop-rest-preserved g c = λ plain.
    let now = c.loop-rest.invariant plain in
    let text = c.write_block.ensures now.1.plain (search rules) in
    let front = c.split_at.result.0.now in
    let back = c.split_at.result.1.now in (
      now.0 ++ digits_of front,
      has_written_append _ _ _ _ _ _ now.1 text,
      append_assoc now.0 (digits_of front) (digits_of back)
          ∙ ap (λ l. now.0 ++ l) (sym (flat_map-append two_digits front back))
          ∙ ap (λ l. now.0 ++ digits_of l) (sym c.split_at.ensures.by_index.0)
          ∙ now.2,
    )
