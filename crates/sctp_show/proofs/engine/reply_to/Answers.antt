use Rattle.std.proofs.Common.{◌≡◌, ◌↔◌, true, subst}
use Rattle.dump_io.specs.Watched.{has_failed}
use Rattle.sctp_show.specs.Show.{MayAnswer}
use Rattle.sctp_show.specs.declared.failure.Failure.TheVariants.{Read}
use Rattle.sctp_show.proofs.ShowLemmas.{reply_of-err, MayAnswer-unread, MayAnswer-shown}
use Rattle.sctp_show.proofs.engine.reply_to.Goals as goal

pub returns-in_err-bytes-clause-reply : goal.returns-in_err-bytes-clause-reply
returns-in_err-bytes-clause-reply g c = λ began.
    let reads : (c.in_err-bytes.field-0.0 ≡ Read) ↔ (has_failed c.read_input.new.input ≡ true) = (
      λ e. (c.in_err-bytes.ensures.failed began).0 (cc),
      λ e. let h = (c.in_err-bytes.ensures.failed
          began).1 e in cc,
    ) in
    subst (MayAnswer c.args.strict _ _ _) (reply_of-err _ _ c.from_residual.ensures.1)
    (MayAnswer-unread c.args.strict _ _ _ _ reads c.in_err-bytes.ensures.memory)

pub returns-clause-reply : goal.returns-clause-reply
returns-clause-reply g c = λ began.
    let works : has_failed c.read_input.new.input ≡ true → ⊥ = λ e. let read =
    (c.in_ok-bytes.ensures.failed began).1 e in cc in
    MayAnswer-shown c.args.strict _ _ _ _ _ works c.in_ok-bytes.ensures.read
    c.in_ok-bytes.ensures.first c.in_ok-bytes.ensures.at_most c.answer_to.ensures
