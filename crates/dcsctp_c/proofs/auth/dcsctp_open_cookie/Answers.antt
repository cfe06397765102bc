use Rattle.std.proofs.Common.{refl}
use Rattle.dcsctp_c.{specs.Auth.{good, stale}, proofs.Cookies.{holds_opened}}
use Rattle.dcsctp_c.proofs.auth.dcsctp_open_cookie.Goals as goal

pub returns-in-Valid-clause-sealed : goal.returns-in-Valid-clause-sealed
returns-in-Valid-clause-sealed c tree fits is =
    let answers = c.in-Valid.ensures.sealed tree fits is in
    good answers.1
    (holds_opened c.args.key.now c.args.bytes.now tree c.in-Valid.opened _ is answers.0
    c.opened_cookie.ensures.numbers c.opened_cookie.ensures.offset c.opened_cookie.ensures.size)
    refl refl

pub returns-in-Stale-clause-sealed : goal.returns-in-Stale-clause-sealed
returns-in-Stale-clause-sealed c tree fits is =
    let answers = c.in-Stale.ensures.sealed tree fits is in
    stale answers.1 answers.2
    (holds_opened c.args.key.now c.args.bytes.now tree c.in-Stale.opened _ is answers.0
    c.opened_cookie-in-Stale.ensures.numbers c.opened_cookie-in-Stale.ensures.offset
    c.opened_cookie-in-Stale.ensures.size)
    refl
