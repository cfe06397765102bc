use Rattle.std.proofs.Common.{ℕ, List, ◌++◌, drop, refl, ap, ap₂, ◌∙◌}
use Rattle.dcsctp_wire.specs.Canonical.{canonical}
use Rattle.dcsctp_c.specs.Output.{Output, written, no_room, no_form}
use Rattle.dcsctp_c.proofs.packet.put_canonical.Goals as goal

abbrev output : List ℕ → ℕ → Output
output bytes size = record { bytes = bytes; size = size }

pub returns-in-Ok-clause-writes : goal.returns-in-Ok-clause-writes
returns-in-Ok-clause-writes c = λ p r.
    let w = c.in-Ok.ensures.written p r in
    written (canonical p.meaning) (w.0, refl) refl w.1
    (w.2 ∙ ap (λ (n : ℕ). canonical p.meaning ++ drop n c.args.output.now) w.1)

pub returns-in-Ok-clause-one : goal.returns-in-Ok-clause-one
returns-in-Ok-clause-one c = λ zero p r some. c.in-Ok.ensures.one p r some

pub returns-in-Err-DoesNotFit-clause-writes : goal.returns-in-Err-DoesNotFit-clause-writes
returns-in-Err-DoesNotFit-clause-writes c = λ p r.
    no_form (λ form is. c.in-Err-DoesNotFit.ensures.too_long (cc) p r is.0) refl
    (ap (λ (b : List ℕ). output b c.args.size.now) c.in-Err-DoesNotFit.ensures.stays)

pub returns-in-Err-NoRoom-clause-writes : goal.returns-in-Err-NoRoom-clause-writes
returns-in-Err-NoRoom-clause-writes c = λ p r.
    let short = c.in-Err-NoRoom.ensures.no_room (cc) p r in
    let size = c.needs_room.ensures.size p r short.0 in
    no_room (canonical p.meaning) (short.0, refl) short.1 c.needs_room.ensures.code
    (ap₂ output c.in-Err-NoRoom.ensures.stays size)
