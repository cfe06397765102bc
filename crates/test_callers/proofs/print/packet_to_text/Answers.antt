use Rattle.std.proofs.Common.{◌≡◌, ◌↔◌, ◌∙◌, Result, Ok, Err, ap, sym}
use Rattle.std.proofs.lemmas.Result.{err_from_is_err_and}
use Rattle.dcsctp_wire.specs.Caller.{packet_error_of, packet_text}
use Rattle.dcsctp_wire.specs.declared.packet.sctp_packet.PacketParseError.{PacketParseError}
use Rattle.dcsctp_wire.proofs.PacketChecks.{packet_no_memory}
use Rattle.test_callers.proofs.Sealing.{default_is, verified}
use Rattle.test_callers.proofs.print.packet_to_text.Goals as goal

-- an error is the same of another value's result
same_error : {A B : Type 0} (x y : PacketParseError) (P : Type 0)
    → ((let r : Result A PacketParseError = Err x in r ≡ Err y) ↔ P)
    → (let r : Result B PacketParseError = Err x in r ≡ Err y) ↔ P
same_error x y P h = (
  (λ e. h.0 (let same : x ≡ y = cc in ap Err same)),
  (λ p. let is = h.1 p in let same : x ≡ y = cc in ap Err same),
)

pub returns-in_err-packet-clause-faulty : goal.returns-in_err-packet-clause-faulty
returns-in_err-packet-clause-faulty c e =
    let default = c.default-policy.ensures in
    let policy = c.default-policy.result in
    let answered = verified c.args.bytes.now c.packet_word.result policy
    (Err c.in_err-packet.field-0.0) c.in_err-packet.ensures.answer
    c.packet_word.ensures.value (default_is policy default.0 default.1 default.2) in
    let p = err_from_is_err_and c.from_residual.result c.from_residual.ensures.1 in
    rw (p.1, p.2) (same_error c.in_err-packet.field-0.0 (packet_error_of e) _ (answered.fault e))

pub returns-in_err-format-clause-faulty : goal.returns-in_err-format-clause-faulty
returns-in_err-format-clause-faulty c e =
    let default = c.default-policy.ensures in
    let policy = c.default-policy.result in
    let answered = verified c.args.bytes.now c.packet_word.result policy (Ok c.in_ok-packet.packet)
    c.in_ok-packet.ensures.answer
    c.packet_word.ensures.value (default_is policy default.0 default.1 default.2) in
    let p = err_from_is_err_and c.from_residual-in_err-format.result
    c.from_residual-in_err-format.ensures.1 in (
      (λ h. absurd (packet_no_memory e (let same : p.0 ≡ packet_error_of e = cc in sym same ∙ p.2))),
      (λ v. absurd (let is = (answered.fault e).1 v in cc)),
    )

pub returns-clause-faulty : goal.returns-clause-faulty
returns-clause-faulty c e =
    let default = c.default-policy.ensures in
    let policy = c.default-policy.result in
    let answered = verified c.args.bytes.now c.packet_word.result policy (Ok c.in_ok-packet.packet)
    c.in_ok-packet.ensures.answer
    c.packet_word.ensures.value (default_is policy default.0 default.1 default.2) in (
      (λ h. absurd cc),
      (λ v. absurd (let is = (answered.fault e).1 v in cc)),
    )

pub returns-clause-text : goal.returns-clause-text
returns-clause-text c p ans =
    let default = c.default-policy.ensures in
    let policy = c.default-policy.result in
    let answered = verified c.args.bytes.now c.packet_word.result policy (Ok c.in_ok-packet.packet)
    c.in_ok-packet.ensures.answer
    c.packet_word.ensures.value (default_is policy default.0 default.1 default.2) in
    c.in_ok-format.ensures.ok ∙ ap packet_text (answered.value p ans)
