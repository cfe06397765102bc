use Rattle.std.proofs.Common.{◌+◌, arith, length, refl}
use Rattle.dcsctp_buffer.proofs.Extended.{then_put}
use Rattle.dcsctp_registry.proofs.layout.AddressForm.put.Goals as goal

pub returns-clause-written : goal.returns-clause-written
returns-clause-written c =
    let header = c.header-header.result.now in
    rw (c.in-Some.is, ← c.header-header.ensures)
    (then_put c.args.output.now c.put_bytes.new.output c.put_bytes-2.new.output c.args.place
    (c.args.place + length header) header c.in-Some.octets.now (omega (arith, c.requires))
    c.put_bytes.ensures c.put_bytes-2.ensures refl)
