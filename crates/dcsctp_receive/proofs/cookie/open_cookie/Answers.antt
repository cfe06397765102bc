use Rattle.std.proofs.Common.{◌≡◌, ap, refl, arith}
use Rattle.dcsctp_receive.specs.Cookie.{view}
use Rattle.dcsctp_receive.proofs.Cookies.{cookie_is_sealed, was_sealed, same_cookie}
use Rattle.dcsctp_receive.proofs.cookie.open_cookie.Goals as goal

pub returns-then-not-is_authentic-clause-sealed : goal.returns-then-not-is_authentic-clause-sealed
returns-then-not-is_authentic-clause-sealed c = λ cookie fits is.
    let sealed = cookie_is_sealed c.args.key.now cookie c.args.bytes.now is in
    let authentic = c.if-not-is_authentic.ensures.1 (sealed.size, sealed.authentic) in cc

pub returns-then-not-is_authentic-clause-invalid : goal.returns-then-not-is_authentic-clause-invalid
returns-then-not-is_authentic-clause-invalid c =
    (λ e. returns-then-not-is_authentic-clause-sealed c, λ none. refl)

pub returns-then-elapsed-cookie-clause-sealed : goal.returns-then-elapsed-cookie-clause-sealed
returns-then-elapsed-cookie-clause-sealed c = λ cookie fits is.
    let same : view c.read_body-cookie.result ≡ cookie =
    same_cookie c.args.key.now cookie (view c.read_body-cookie.result) c.args.bytes.now fits is
    c.read_body-cookie.ensures.value in
    let created : c.read_body-cookie.result.created ≡ cookie.created = ap (λ t. t.created) same in
    let lifespan : c.read_body-cookie.result.lifespan ≡ cookie.lifespan =
    ap (λ t. t.lifespan) same in
    (same, omega arith, omega (arith, created, lifespan))

pub returns-then-elapsed-cookie-clause-opened : goal.returns-then-elapsed-cookie-clause-opened
returns-then-elapsed-cookie-clause-opened c =
    was_sealed c.args.key.now c.args.bytes.now (view c.read_body-cookie.result)
    (λ i. (c.type_inv.bytes i).fits) (c.if-not-is_authentic.ensures.0 refl)
    c.read_body-cookie.ensures.value

pub returns-then-elapsed-cookie-clause-invalid : goal.returns-then-elapsed-cookie-clause-invalid
returns-then-elapsed-cookie-clause-invalid c = (
  λ e. absurd (cc),
  λ none. absurd (none (view c.read_body-cookie.result) c.read_body-cookie.ensures.width
      (returns-then-elapsed-cookie-clause-opened c)),
)

pub returns-clause-opened : goal.returns-clause-opened
returns-clause-opened c =
    was_sealed c.args.key.now c.args.bytes.now (view c.read_body-cookie.result)
    (λ i. (c.type_inv.bytes i).fits) (c.if-not-is_authentic.ensures.0 refl)
    c.read_body-cookie.ensures.value

pub returns-clause-sealed : goal.returns-clause-sealed
returns-clause-sealed c = λ cookie fits is.
    let same : view c.read_body-cookie.result ≡ cookie =
    same_cookie c.args.key.now cookie (view c.read_body-cookie.result) c.args.bytes.now fits is
    c.read_body-cookie.ensures.value in
    let created : c.read_body-cookie.result.created ≡ cookie.created = ap (λ t. t.created) same in
    let lifespan : c.read_body-cookie.result.lifespan ≡ cookie.lifespan =
    ap (λ t. t.lifespan) same in
    (same, omega (arith, created, lifespan))

pub returns-clause-invalid : goal.returns-clause-invalid
returns-clause-invalid c = (
  λ e. absurd (cc),
  λ none. absurd (none (view c.read_body-cookie.result) c.read_body-cookie.ensures.width
      (returns-clause-opened c)),
)
