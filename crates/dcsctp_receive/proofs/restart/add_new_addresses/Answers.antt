use Rattle.std.proofs.Common.{ℕ, List, subst}
use Rattle.dcsctp_buffer.specs.Item.{ExtendsCauses}
use Rattle.dcsctp_receive.proofs.restart.add_new_addresses.Goals as goal

pub returns-clause-causes : goal.returns-clause-causes
returns-clause-causes c = λ ok.
    subst (λ (value : List ℕ). ExtendsCauses 11 value) c.new_addresses-value.ensures
    (c.add_written.ensures.causes ok)
