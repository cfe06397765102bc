use Rattle.std.proofs.{Common.{◌≡◌, ◌<◌, sym, subst, length, replicate, refl, rules}, lemmas.List.{length-replicate}}
use Rattle.dcsctp_c.{specs.Output.{written, no_room}, proofs.AnswerCodes.{resized}}
use Rattle.dcsctp_c.proofs.packet.write_report.Goals as goal

pub returns-then-output-needed-clause-writes : goal.returns-then-output-needed-clause-writes
returns-then-output-needed-clause-writes c =
    let needed = c.text_size-needed.result in
    let size = length-replicate needed 0 in
    no_room (replicate needed 0) tt
    (subst (λ n. length c.args.output.now < n) (sym size) c.if-output-needed.true) refl
    (resized (record { bytes = c.args.output.now; size = c.args.size.now }) needed
    (length (replicate needed 0)) (sym size))

pub returns-clause-writes : goal.returns-clause-writes
returns-clause-writes c =
    let size : length c.fill.new.output ≡ c.text_size-needed.result = search rules in
    written c.fill.new.output tt refl (sym size)
    (rw (size, c.split_at_mut-front.ensures.back) refl)
