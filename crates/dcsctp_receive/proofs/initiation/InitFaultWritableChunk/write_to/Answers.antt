use Rattle.std.proofs.Common.{ℕ, ◌<◌, ◌≤◌, ◌^◌, Bool, [], ◌∷◌, length, sym, ap, subst, ◌∙◌}
use Rattle.dcsctp_chunk.specs.Flags.{flag_byte}
use Rattle.dcsctp_receive.proofs.Aborts.{encodable, in_width, size_is, written_abort}
use Rattle.dcsctp_receive.proofs.initiation.InitFaultWritableChunk.write_to.Goals as goal

pub put_solid-requires-clause-encodable : goal.put_solid-requires-clause-encodable
put_solid-requires-clause-encodable c =
    let fault = c.args.self.now in
    subst (λ (n : ℕ). n < 2 ^ 16) (sym (size_is fault c.causes.result.now c.causes.ensures))
    (encodable fault).1

pub put_solid-requires-clause-room : goal.put_solid-requires-clause-room
put_solid-requires-clause-room c =
    subst (λ (n : ℕ). n ≤ length c.args.output.now)
    (sym (size_is c.args.self.now c.causes.result.now c.causes.ensures)) c.requires.room

pub returns-clause-written : goal.returns-clause-written
returns-clause-written c =
    c.put_solid.ensures
    ∙ written_abort c.args.self.now c.one_flag.result c.causes.result.now c.args.output.now
    (c.one_flag.ensures ∙ ap (λ (b : Bool). flag_byte (b ∷ [])) c.reflects.ensures)
    c.causes.ensures c.requires.room

pub returns-clause-width : goal.returns-clause-width
returns-clause-width c = in_width c.args.self.now
