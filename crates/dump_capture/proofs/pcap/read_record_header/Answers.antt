use Rattle.std.proofs.Common.{◌++◌, List, ℕ, ap, ◌∙◌, arith}
use Rattle.std.specs.Int.{w32}
use Rattle.dump_capture.specs.Number.{number_in}
use Rattle.dump_capture.proofs.Records.{header_again, whole_rest}
use Rattle.dump_capture.proofs.pcap.read_record_header.Goals as goal

pub returns-clause-begins : goal.returns-clause-begins
returns-clause-begins c frame size =
    let bytes = c.args.bytes.now in
    let read = λ (b : List ℕ). number_in c.args.order w32 b in
    let again = header_again c.args.order bytes (omega arith)
    (λ k. omega (arith, c.type_inv.bytes k)) in
    let fraction = c.read_u32-2.ensures ∙ ap read (whole_rest 4 bytes) in
    let captured = c.read_u32-3.ensures ∙ ap read (whole_rest 8 bytes) in
    let original = c.read_u32-4.ensures ∙ ap read (whole_rest 12 bytes) in
    rw (size, c.read_u32.ensures, fraction, captured, original)
    (ap (λ (h : List ℕ). h ++ frame) again)
