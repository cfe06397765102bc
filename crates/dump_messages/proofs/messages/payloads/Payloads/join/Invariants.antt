-- What was joined, and what the others are joined to, is what all are joined to.
use Rattle.std.proofs.Common.{◌≡◌, Some, drop}
use Rattle.dump_messages.specs.Payloads.{joined, both, kept_of}
use Rattle.dump_messages.proofs.messages.payloads.Payloads.join.Given as goal

abbrev pub invariant-loop-piece : goal.invariant-loop-piece
invariant-loop-piece l =
    let kept = kept_of l.fn.self l.fn.association l.fn.sender in
    both (Some l.joined.items) (joined kept (drop l.piece-index l.fn.pieces)) ≡ joined kept l.fn.pieces
