use Rattle.std.proofs.Common.{refl, subst}
use Rattle.dcsctp_borrowed.specs.Part.{Part}
use Rattle.dcsctp_receive.specs.{Chunks.{items_of}, Unrecognized.{unrecognized_chunks, chunk_action, wholes, IsErrorAdded}}
use Rattle.dcsctp_receive.proofs.AddedItems.{holds_error}
use Rattle.dcsctp_receive.proofs.unrecognized.add_unrecognized_chunks.Goals as goal

pub returns-clause-held : goal.returns-clause-held
returns-clause-held c = λ ok m h.
    holds_error 6 (unrecognized_chunks c.args.known.now c.args.packet.now)
    c.args.buffer.now c.add_error.new.buffer c.args.size.now c.add_error.new.size m
    (subst (λ (p : Part). IsErrorAdded 6
    (wholes (chunk_action c.args.known.now) (items_of p)) c.args.buffer.now c.args.size.now
    c.add_error.new.buffer c.add_error.new.size) c.chunk_part-chunks.ensures
    (c.in_ok-add_error.ensures.added refl)) h
