use Rattle.std.proofs.Common.{◌≡◌, ◌++◌, List, [], ◌∷◌, refl, sym, ap, ◌∙◌}
use Rattle.std.proofs.lemmas.List.{append-nil}
use Rattle.std.proofs.lemmas.Result.{err_from_is_err_and}
use Rattle.dcsctp_wire.specs.Chunk.{ChunkTree, views}
use Rattle.dcsctp_wire.specs.ChunkParseError.TheVariants.{OutOfMemory}
use Rattle.dcsctp_borrowed.specs.PacketRef.{reference}
use Rattle.dcsctp_wire.specs.declared.packet.chunk.Chunk.{Chunk}
use Rattle.dcsctp_wire.specs.declared.packet.sctp_packet.PacketParseError.TheVariants.{FailedParseChunk}
use Rattle.test_callers.proofs.Chunks.{next_built, no_memory}
use Rattle.test_callers.proofs.in_place.owned_chunks.Goals as goal

pub returns-in_err-packet-clause-chunks : goal.returns-in_err-packet-clause-chunks
returns-in_err-packet-clause-chunks c p answer =
    absurd (c.in_err-packet.ensures.answer.value (reference c.args.bytes.now) ((p, answer), refl))

pub loop-raw-init : goal.loop-raw-init
loop-raw-init c p answer = (
  p.meaning.chunks,
  rw c.into_iter-raw-iterator.ensures.into_iter_gives
      (c.in_ok-packet.ensures.refers p answer).chunks,
  rw c.new-chunks.ensures.items refl,
)

pub returns-in_err-try_from-clause-chunks : goal.returns-in_err-try_from-clause-chunks
returns-in_err-try_from-clause-chunks c p answer =
    let old = c.loop-raw.invariant p answer in
    let f = c.in-Some.ensures.steps.2.means old.0 old.1 in
    let lacks : c.in_err-try_from.field-0.0 ≡ OutOfMemory =
    c.in_err-try_from.ensures.answer.value f.first f.means in
    let error = err_from_is_err_and c.from_residual-in_err-try_from.result
    c.from_residual-in_err-try_from.ensures.1 in
    rw (error.1, error.2) (ap FailedParseChunk lacks)

pub returns-in_err-try_from-clause-faulty : goal.returns-in_err-try_from-clause-faulty
returns-in_err-try_from-clause-faulty c e =
    let p = c.in_ok-packet.ensures.answer.answers.0 in
    let old = c.loop-raw.invariant p.0 p.1 in
    let f = c.in-Some.ensures.steps.2.means old.0 old.1 in
    let lacks : c.in_err-try_from.field-0.0 ≡ OutOfMemory =
    c.in_err-try_from.ensures.answer.value f.first f.means in
    let error = err_from_is_err_and c.from_residual-in_err-try_from.result
    c.from_residual-in_err-try_from.ensures.1 in (
      λ h. absurd
          (no_memory e (let is : error.0 ≡ FailedParseChunk c.in_err-try_from.field-0.0 = error.2 in
          let same = error.1 in cc)),
      λ fault. absurd (let h = (c.in_ok-packet.ensures.answer.fault e).1 fault in cc),
    )

pub loop-raw-preserved : goal.loop-raw-preserved
loop-raw-preserved c p answer =
    let items : c.push_reserved.new.self.items ≡ c.loop-raw.chunks.items ++ c.in_ok-try_from.field-0
    ∷ [] =
    c.push_reserved.ensures.items ∙ ap (λ (cs : List Chunk). cs ++ c.in_ok-try_from.field-0 ∷ [])
    c.in_ok-reserve.ensures.items in
    rw items (next_built c.in-Some.raw c.loop-raw.raw-iterator c.next.new.self
    c.loop-raw.chunks.items c.in_ok-try_from.field-0 p.meaning.chunks
    c.in-Some.ensures.steps.2.means c.in_ok-try_from.ensures.answer.value
    (c.loop-raw.invariant p answer))

pub returns-clause-chunks : goal.returns-clause-chunks
returns-clause-chunks c p answer =
    let old = c.loop-raw.invariant p answer in
    let none : old.0 ≡ [] = c.in-None.ensures.steps.means old.0 old.1 in
    let built = views c.loop-raw.chunks.items in
    sym (append-nil built) ∙ ap (λ (ts : List ChunkTree). built ++ ts) (sym none) ∙ old.2
