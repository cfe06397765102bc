use Rattle.std.proofs.Common.{[], ◌∷◌, refl, ap, rules}
use Rattle.dcsctp_wire.specs.Builder.{BuilderState}
use Rattle.dcsctp_wire.specs.Chunk.{view}
use Rattle.test_callers.proofs.Rooms.{with_second}
use Rattle.test_callers.proofs.acknowledge.add_both.Goals as goal

pub returns-in_ok-try_add-2-clause-holds : goal.returns-in_ok-try_add-2-clause-holds
returns-in_ok-try_add-2-clause-holds c = λ added none. (
    let first = c.in_ok-try_add.ensures.added (search rules) [] none in
    c.in_ok-try_add-2.ensures.added added (view c.args.first.now ∷ []) first)

pub returns-in_ok-try_add-2-clause-room : goal.returns-in_ok-try_add-2-clause-room
returns-in_ok-try_add-2-clause-room c = λ none. (
    let first = c.in_ok-try_add.ensures.added (search rules) [] none in
    with_second c.args.builder.now c.try_add.new.self c.try_add-then-branch.new.self
    (view c.args.first.now) (view c.args.second.now) _ c.in_ok-try_add-2.field-0
    (ap (λ (b : BuilderState). b.limit) c.in_ok-try_add.ensures.settings)
    (ap (λ (b : BuilderState). b.limit) c.in_ok-try_add-2.ensures.settings) first
    c.in_ok-try_add-2.ensures.fits refl
    (λ added. c.in_ok-try_add-2.ensures.added added (view c.args.first.now ∷ []) first))
