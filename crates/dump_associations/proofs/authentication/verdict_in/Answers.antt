use Rattle.std.proofs.Common.{Some, subst, ◌∙◌}
use Rattle.dcsctp_borrowed.specs.Part.{Part, part_of}
use Rattle.dump_associations.specs.Authentication.{FirstAuth}
use Rattle.dump_associations.proofs.authentication.verdict_in.Goals as goal

pub returns-in-Some : goal.returns-in-Some
returns-in-Some c =
    let auth = part_of c.in-Some.auth in (
      Some auth,
      subst (λ (p : Part). FirstAuth p (Some auth)) (c.rest.ensures ∙ c.chunks.ensures)
          c.in-Some.ensures,
      c.verdict.ensures,
    )
