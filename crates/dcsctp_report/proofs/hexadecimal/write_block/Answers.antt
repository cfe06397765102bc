use Rattle.std.proofs.Common.{◌+◌, ◌*◌, length, take, refl, ap, length-set, ◌∙◌, arith}
use Rattle.std.proofs.lemmas.List.Elements.{All-replicate, All-take}
use Rattle.dcsctp_report.specs.Hexadecimal.{IsPrintable}
use Rattle.dcsctp_report.proofs.{HexDigits.{digits_more}, Rows.{printable_is_ascii}}
use Rattle.dcsctp_report.proofs.hexadecimal.write_block.Goals as goal

pub loop-i-init : goal.loop-i-init
loop-i-init g c = record {
  size = refl;
  front = refl;
  printable = All-replicate IsPrintable 64 48 (omega arith, omega arith);
}

pub loop-i-preserved : goal.loop-i-preserved
loop-i-preserved g c =
    let now = c.loop-i.invariant in
    let put = c.put_digits.ensures in record {
      size = ap length put.digits ∙ length-set _ _ _ ∙ length-set _ _ _ ∙ now.size;
      front = ap (λ l. take (2 * (c.loop-i.i + 1)) l) put.digits
          ∙ digits_more c.loop-i.digits c.args.block.now c.loop-i.i _ _
          (omega (arith, now.size)) (omega arith) refl now.front;
      printable = put.printable now.printable;
    }

pub write_ascii-requires : goal.write_ascii-requires
write_ascii-requires g c =
    printable_is_ascii _ (All-take IsPrintable _ c.loop-i.digits c.loop-i.invariant.printable)
