use Rattle.std.proofs.Common.{◌≡◌, rules, arith, ap, sym, ◌∙◌, subst, not, inr, refl, IsErr}
use Rattle.std.proofs.lemmas.Grind.{common_steps}
use Rattle.std.proofs.lemmas.Fn.{filter_same}
use Rattle.hex.specs.Hex.{decode_of}
use Rattle.sctp_show.specs.Show.{is_blank, without_blanks}
use Rattle.sctp_show.proofs.answer.bytes_of.Goals as goal

pub returns-in-Ok : goal.returns-in-Ok
returns-in-Ok c =
    let kept : c.retain.new.self.items ≡ without_blanks c.args.text.items =
    filter_same _ (λ byte. not (is_blank byte)) _ (λ byte b f k. search rules) _ _
    c.retain.ensures.filtered in
    ap decode_of (sym kept) ∙ c.in-Ok.ensures.ok

pub returns : goal.returns
returns c =
    let kept : c.retain.new.self.items ≡ without_blanks c.args.text.items =
    filter_same _ (λ byte. not (is_blank byte)) _ (λ byte b f k. search rules) _ _
    c.retain.ensures.filtered in
    let bad : IsErr (decode_of c.retain.new.self.items) = grind (arith, common_steps) in
    inr (refl, subst (λ l. IsErr (decode_of l)) kept bad)
