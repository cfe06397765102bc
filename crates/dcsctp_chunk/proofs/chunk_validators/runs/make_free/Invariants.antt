use Rattle.std.{proofs.Common.{◌≡◌}, specs.List.{AllWithin}}
use Rattle.dcsctp_chunk.specs.declared.sack_chunk.GapAckBlock.{GapAckBlock}
use Rattle.dcsctp_chunk.proofs.chunk_validators.runs.make_free.Given as goal

abbrev pub invariant-loop-place : goal.invariant-loop-place
invariant-loop-place l = AllWithin (λ (b : GapAckBlock). b.end ≡ 65535) l.places 0 l.place-index
