use Rattle.std.proofs.Common.{◌≡◌, All, false, arith, subst}
use Rattle.std.proofs.lemmas.List.{take_all}
use Rattle.dump_packet.specs.Serial.{IsAfter}
use Rattle.dump_associations.proofs.associations.round_trips.RoundTrips.leave_to.Goals as goal

pub returns : goal.returns
returns c =
    let size = c.loop-sent.invariant.size in
    let end = c.loop-sent-test.false in
    subst (All (λ sent. ¬ (IsAfter c.args.cumulative sent.tsn) → sent.is_waiting ≡ false))
    (take_all c.loop-sent.sent-index c.loop-sent.sent-items (omega (arith, size, end)))
    c.loop-sent.invariant.left
