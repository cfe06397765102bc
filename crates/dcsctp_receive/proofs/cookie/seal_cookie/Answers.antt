use Rattle.std.proofs.Common.{◌∙◌, ◌++◌, length, ap, ap₂, arith}
use Rattle.dcsctp_tlv.specs.Image.{put}
use Rattle.dcsctp_receive.specs.declared.hmac.HashFunction.TheVariants.{Sha256}
use Rattle.dcsctp_receive.specs.Hmac.{hmac}
use Rattle.dcsctp_receive.proofs.Hmacs.{length-hmac}
use Rattle.dcsctp_receive.proofs.cookie.seal_cookie.Goals as goal

pub put_three-requires : goal.put_three-requires
put_three-requires c = omega (
  arith,
  ap length (c.as_bytes.ensures ∙ c.body_mac-mac.ensures),
  length-hmac Sha256 c.args.key.now
      (c.fixed_bytes-fixed.result ++ c.args.cookie.now.extra.now),
)

pub returns-clause-bytes : goal.returns-clause-bytes
returns-clause-bytes c =
    let extra = c.args.cookie.now.extra.now in
    let fixed = c.fixed_bytes-fixed.ensures.bytes in
    c.put_three.ensures
    ∙ ap₂ (λ mac numbers. put c.args.buffer.now 0 (mac ++ (numbers ++ extra)))
    (c.as_bytes.ensures ∙ c.body_mac-mac.ensures
    ∙ ap (λ numbers. hmac Sha256 c.args.key.now (numbers ++ extra)) fixed) fixed
