use Rattle.std.proofs.Common.{refl, sym}
use Rattle.dcsctp_borrowed.specs.UserData.{user_data_view}
use Rattle.dcsctp_c.proofs.Places.{data_there}
use Rattle.dcsctp_c.proofs.parts.data_in.Goals as goal

pub returns : goal.returns
returns c bytes there =
    rw (c.id.ensures, c.is_unordered.ensures)
    (data_there bytes c.args.chunk.now c.args.value.now (user_data_view c.in_ok-found.found) _
    (sym there) c.in_ok-found.ensures.read refl refl refl)
