use Rattle.std.proofs.Common.{◌++◌, ◌∙◌, refl, length-append}
use Rattle.dcsctp_buffer.proofs.Items.{solid_item}
use Rattle.dcsctp_buffer.proofs.data.put_data.Goals as goal

pub returns : goal.returns
returns c =
    let fixed = c.args.fixed.now in
    let payload = c.args.payload.now in
    c.put_fixed_and_rest.ensures
    ∙ solid_item _ (fixed ++ payload) c.args.output.now refl (length-append fixed payload)
    c.requires.room
