use Rattle.std.proofs.Common.{◌++◌, ◌∷◌, List, ℕ, ap₂}
use Rattle.dcsctp_borrowed.proofs.SameRewritten.{unreserved_one, fronts_tell, backs_tell}
use Rattle.dcsctp_borrowed.proofs.meaning.same_unreserved.Goals as goal

pub returns-then-eq : goal.returns-then-eq
returns-then-eq c =
    let value = c.args.value.now in
    let other = c.args.other.now in
    let front = fronts_tell 6 _ _ value other _ c.min.ensures c.min-2.ensures c.eq.ensures in
    let back = backs_tell 8 _ _ value other _ c.min-then-eq.ensures c.min-then-eq-2.ensures
    c.eq-then-eq.ensures in (
      λ is. ap₂ (λ (a b : List ℕ). a ++ (0 ∷ 0 ∷ b)) (front.0 c.if-eq.true) (back.0 is),
      λ e. back.1 (unreserved_one value other e).1,
    )
