use Rattle.std.proofs.Common.{◌∙◌, ◌/◌, ◌%◌, ◌^◌, bit_xor, sym, ap}
use Rattle.std.proofs.lemmas.Nat.{and_mask, xor_comm}
use Rattle.dcsctp_crc32c.specs.Checksum.{after_bits}
use Rattle.dcsctp_crc32c.proofs.Linear.{after_bits-enters}
use Rattle.dcsctp_crc32c.proofs.after_byte.Goals as goal

pub returns : goal.returns
returns c =
    let register = c.args.register in
    let byte = c.args.byte in
    ap (λ x. bit_xor x (register / 2 ^ 8))
    (c.entry.ensures ∙ ap (λ low. after_bits 8 (bit_xor low byte)) (and_mask register 8)
    ∙ ap (after_bits 8) (xor_comm (register % 2 ^ 8) byte))
    ∙ sym (ap (after_bits 8) (xor_comm register byte) ∙ after_bits-enters 8 byte register)
