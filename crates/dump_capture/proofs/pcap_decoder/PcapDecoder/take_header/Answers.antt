use Rattle.std.proofs.Common.{refl, sym, ◌∙◌, arith, rules}
use Rattle.std.proofs.lemmas.List.{length-take-le}
use Rattle.dump_capture.proofs.Fronts.{file_header_taken}
use Rattle.dump_capture.proofs.PcapItems.{fault_link, fault_none}
use Rattle.dump_capture.proofs.pcap_decoder.PcapDecoder.take_header.Goals as goal

pub returns-then-not-is_known_link : goal.returns-then-not-is_known_link
returns-then-not-is_known_link c = λ rest end. (
  refl,
  sym (fault_link c.in-Some.header c.args.held.now rest (omega arith) (sym c.in-Some.ensures)
      (search rules)),
  refl,
)

pub returns : goal.returns
returns c =
    let held = c.args.held.now in (
      omega arith,
      (
        length-take-le 24 held (omega arith),
        fault_none c.in-Some.header held (omega arith) (sym c.in-Some.ensures) (search rules),
        refl,
        (
          c.in-Some.header,
          file_header_taken held (omega arith) ∙ sym c.in-Some.ensures,
          refl,
        ),
      ),
    )
