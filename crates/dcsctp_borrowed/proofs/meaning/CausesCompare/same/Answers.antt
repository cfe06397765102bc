use Rattle.std.{proofs.Common.{◌≡◌, ◌↔◌, ◌∷◌, []}, specs.Prelude.{IsTrue}, specs.Int.{w16, from_be_bytes}}
use lib.Pointwise.{bytes_decides}
use Rattle.dcsctp_borrowed.specs.Rewritten.{cause_value}
use Rattle.dcsctp_borrowed.proofs.SameRewritten.{solid_same}
use Rattle.dcsctp_borrowed.proofs.meaning.CausesCompare.same.Goals as goal

pub returns-then-second-other_second : goal.returns-then-second-other_second
returns-then-second-other_second c =
    let code = from_be_bytes w16 (c.args.first ∷ c.args.second ∷ []) in
    let value = cause_value code c.args.value.now in
    let other = cause_value code c.args.other.now in
    let tells : IsTrue c.eq.result ↔ (value ≡ other) = rw (
      c.eq.ensures,
      c.cause_text.ensures,
      c.cause_text-then-second-other_second.ensures,
      c.from_be_bytes-code.ensures,
    ) (bytes_decides value other) in
    rw (← c.if-second-other_second.true.0, ← c.if-second-other_second.true.1)
    (solid_same c.args.first c.args.second value other c.eq.result tells)
