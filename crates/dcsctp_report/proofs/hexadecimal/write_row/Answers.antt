use Rattle.std.proofs.Common.{◌<◌, length, subst, ◌∙◌, length-set, arith}
use Rattle.std.specs.Fmt.{WritesOnOk}
use Rattle.std.proofs.lemmas.List.Elements.{All-replicate, All-same, All-set}
use Rattle.dcsctp_report.specs.Hexadecimal.{IsPrintable}
use Rattle.dcsctp_report.proofs.Rows.{row_is_ascii, after_break, whole_row}
use Rattle.dcsctp_report.proofs.hexadecimal.write_row.Goals as goal

pub loop-i-init : goal.loop-i-init
loop-i-init g c =
    let blank : IsPrintable 32 = (omega arith, omega arith) in
    let colon : IsPrintable 58 = (omega arith, omega arith) in
    let first = c.put_digits.ensures in
    let second = c.put_digits-2.ensures in record {
      size = length-set c.put_digits-2.new.text 9 58 ∙ second.size ∙ first.size;
      printable = All-set IsPrintable _ 9 58 colon
          (second.printable (first.printable (All-replicate IsPrintable 78 32 blank)));
    }

pub loop-i-preserved : goal.loop-i-preserved
loop-i-preserved g c =
    let blank : IsPrintable 32 = (omega arith, omega arith) in
    let now = c.loop-i.invariant in
    let put = c.put_digits-in-loop-i.ensures in record {
      size = length-set _ _ 32 ∙ put.size ∙ now.size;
      printable = All-set IsPrintable _ _ 32 blank (put.printable now.printable);
    }

pub write_ascii-requires : goal.write_ascii-requires
write_ascii-requires g c =
    let size = length c.args.row.now in
    let row = whole_row c.loop-j.text size c.loop-j.invariant.size c.if-row-eq-ROW.true
    c.loop-j.invariant.printable in
    All-same (λ b. b < 128) _ _ row.1 (row_is_ascii row.0 row.2)

pub returns-then-row-eq-ROW : goal.returns-then-row-eq-ROW
returns-then-row-eq-ROW g c =
    let size = length c.args.row.now in
    let row = whole_row c.loop-j.text size c.loop-j.invariant.size c.if-row-eq-ROW.true
    c.loop-j.invariant.printable in (
      row.0,
      subst (λ text. WritesOnOk g.W.Write.write_str_gives c.args.f.now c.write_ascii.result text
          c.write_ascii.new.f) row.1 c.write_ascii.ensures,
      row.2,
    )

pub write_ascii-requires-2 : goal.write_ascii-requires-2
write_ascii-requires-2 g c =
    let size = length c.args.row.now in
    let row = after_break c.loop-j.text size c.loop-j.invariant.size c.loop-j.invariant.printable in
    All-same (λ b. b < 128) _ _ row.1 (row_is_ascii row.0 row.2)

pub returns : goal.returns
returns g c =
    let size = length c.args.row.now in
    let row = after_break c.loop-j.text size c.loop-j.invariant.size c.loop-j.invariant.printable in (
      row.0,
      subst (λ text. WritesOnOk g.W.Write.write_str_gives c.args.f.now c.write_ascii-2.result text
          c.write_ascii-2.new.f) row.1 c.write_ascii-2.ensures,
      row.2,
    )
