use Rattle.std.proofs.Common.{◌≡◌, Ok, rules, ap, sym, ◌∙◌, subst}
use Rattle.hex.specs.Hex.{decode_of}
use Rattle.sctp_show.specs.Show.{without_blanks, MayShow}
use Rattle.sctp_show.proofs.ShowLemmas.{reply_of-err, MayShow-no_packet, MayShow-packet}
use Rattle.sctp_show.proofs.answer.answer_to.Goals as goal

pub returns-in_err-packet : goal.returns-in_err-packet
returns-in_err-packet c =
    let is : decode_of (without_blanks c.args.input.items) ≡ Ok c.deref.result.now =
    c.in_ok-bytes.ensures ∙ ap Ok (sym c.deref.ensures.value) in
    subst (MayShow c.args.strict _) (reply_of-err _ _ c.from_residual-in_err-packet.ensures.1)
    (MayShow-no_packet c.args.strict _ _ _ (search rules) is c.in_err-packet.ensures.answer.answers)

pub returns : goal.returns
returns c =
    let is : decode_of (without_blanks c.args.input.items) ≡ Ok c.deref.result.now =
    c.in_ok-bytes.ensures ∙ ap Ok (sym c.deref.ensures.value) in
    MayShow-packet c.args.strict _ _ c.in_ok-packet.packet _ (search rules) is
    c.in_ok-packet.ensures.answer.answers c.in_ok-text_of.ensures
