-- Nothing is kept of those before this one, and of each other fragment what was kept.
use Rattle.std.proofs.Common.{◌≡◌, ◌<◌, ℕ, Any, None, length, slice_index_or}
use Rattle.dump_messages.specs.Payloads.{kept_of, KeepsOthers}
use Rattle.dump_messages.specs.declared.messages.fragment.Fragment.{Fragment}
use Rattle.dump_messages.proofs.messages.payloads.Payloads.take.Given as goal

abbrev pub invariant-loop-piece : goal.invariant-loop-piece
invariant-loop-piece l =
    ((k : ℕ) (d : Fragment) → k < l.piece-index → k < length l.fn.pieces
    → kept_of l.self l.fn.association l.fn.sender (slice_index_or l.fn.pieces k d).tsn ≡ None)
    × KeepsOthers l.initial.self l.self (λ k s t. (k ≡ l.fn.association) × (s ≡ l.fn.sender)
    × Any (λ f. f.tsn ≡ t) l.fn.pieces)
