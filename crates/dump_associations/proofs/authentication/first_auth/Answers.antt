use Rattle.std.proofs.Common.{◌≡◌, ◌∙◌, ℕ, Some, None, ap, sym, subst}
use Rattle.dcsctp_borrowed.specs.Part.{Part, Item, part_of, after, after_item}
use Rattle.dump_associations.specs.Authentication.{FirstAuth, here, later, none}
use Rattle.dump_associations.proofs.authentication.first_auth.Goals as goal

pub returns-then-chunk-eq-AUTH : goal.returns-then-chunk-eq-AUTH
returns-then-chunk-eq-AUTH c =
    let p = part_of c.loop-chunk.rest in
    let is = c.in-Some.ensures in
    c.loop-chunk.invariant (Some p)
    (here p is.0 (ap (λ (i : Item). i.first) (sym is.1) ∙ c.if-chunk-eq-AUTH.true))

pub loop-chunk-preserved : goal.loop-chunk-preserved
loop-chunk-preserved c auth first =
    let p = part_of c.loop-chunk.rest in
    let is = c.in-Some.ensures in
    let next : part_of c.after-rest.result ≡ after_item p =
    c.after-rest.ensures ∙ ap (λ (n : ℕ). after n p) is.2 in
    c.loop-chunk.invariant auth
    (later p auth is.0 (λ e. c.if-chunk-eq-AUTH.false (ap (λ (i : Item). i.first) is.1 ∙ e))
    (subst (λ (q : Part). FirstAuth q auth) next first))

pub returns : goal.returns
returns c = c.loop-chunk.invariant None (none (part_of c.loop-chunk.rest) c.in_default.ensures)
