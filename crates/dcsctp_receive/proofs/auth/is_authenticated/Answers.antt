use Rattle.std.proofs.Common.{refl}
use Rattle.dcsctp_receive.proofs.auth.is_authenticated.Goals as goal

pub auth_mac-mac-requires : goal.auth_mac-mac-requires
auth_mac-mac-requires c = (c.in-Some.ensures c.in-Some.function).0 refl
