use Rattle.std.proofs.Common.{◌∙◌, length, refl, ap, subst, sym, arith}
use Rattle.dcsctp_receive.specs.Auth.{BeginsWithAuth, auth_data, IsSigned}
use Rattle.dcsctp_receive.proofs.{Hmacs.{length-hmac}, Signatures.{signed}}
use Rattle.dcsctp_receive.proofs.auth.sign.Goals as goal

pub auth_mac-mac-requires : goal.auth_mac-mac-requires
auth_mac-mac-requires c = (c.in-Some.ensures c.in-Some.function).0 refl

pub put_bytes-requires : goal.put_bytes-requires
put_bytes-requires c =
    let function = c.in-Some.function in
    let begins : BeginsWithAuth function c.args.bytes.now = (c.in-Some.ensures function).0 refl in
    omega (
      arith,
      begins.size,
      ap length (c.as_bytes.ensures ∙ c.auth_mac-mac.ensures),
      length-hmac function c.args.key.now (auth_data function c.args.bytes.now),
    )

pub returns-clause-verifies : goal.returns-clause-verifies
returns-clause-verifies c = λ there.
    let function = c.in-Some.function in
    let begins : BeginsWithAuth function c.args.bytes.now = (c.in-Some.ensures function).0 refl in (
      function,
      subst (IsSigned function c.args.key.now) (sym c.put_bytes.ensures)
          (signed function c.args.key.now c.args.bytes.now c.as_bytes.result.now begins
          (c.as_bytes.ensures ∙ c.auth_mac-mac.ensures)),
    )
