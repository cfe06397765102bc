use Rattle.std.proofs.Common.{◌∙◌, [], ap}
use Rattle.dcsctp_receive.specs.Hmac.{hmac}
use Rattle.dcsctp_receive.proofs.Signatures.{data_is}
use Rattle.dcsctp_receive.proofs.auth.auth_mac.Goals as goal

pub returns : goal.returns
returns c =
    let function = c.args.function in
    let key = c.args.key.now in
    c.finalize.ensures function key _ (c.update-3.ensures function key _
    (c.update-2.ensures function key _ (c.update.ensures function key [] c.new-hmac.ensures)))
    ∙ ap (hmac function key)
    (data_is function c.digest_size-size.result c.args.bytes.now c.digest_size-size.ensures)
