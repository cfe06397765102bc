use Rattle.std.proofs.{Common.{rules, ◌≡◌, ◌∙◌, ℕ, List, Result, Err, inl, inr, sym, ap, IsErrOf}, lemmas.Result.{err_from_is_err_and}}
use Rattle.dcsctp_tlv.{specs.declared.error.ChunkParseError.{ChunkParseError}, specs.declared.error.ChunkParseError.TheVariants.{OutOfMemory}, specs.declared.error.LocatedFault.{LocatedFault}, specs.Frame.{lenient}, specs.Level.{Row}, specs.Reading.{Answers, locating, reading, RowAnswer, Counted, Unplaced}, proofs.Exact.{row_exactly, no_memory}}
use Rattle.dcsctp_wire.{specs.declared.packet.chunk.Chunk.{Chunk}, specs.Chunk.{ChunkTree, chunks, view, parts as chunk_parts}, proofs.ChunkRows.{chunks_lawful}}
use Rattle.dcsctp_wire.proofs.packet.chunk.Chunk.read.Goals as goal

-- the fault that the check found, wherever it lies
reads_fault : (row : Row ChunkTree) (v : List ℕ) (l : LocatedFault)
    → Answers locating (λ (n : ℕ). n) (Counted chunk_parts (RowAnswer row v)) (Err l)
    → (r : Result Chunk ChunkParseError) → r ≡ Err l.fault
    → Answers reading view (Unplaced (RowAnswer row v)) r
    × (IsErrOf r OutOfMemory → (t : ChunkTree) × row.means v t)
reads_fault row v l (inl f) r is =
    let fault = ap (λ (x : LocatedFault). x.fault) f.1 in
    rw is (
      inl (f.0.0, fault, (f.0.1, f.2)),
      λ lacks. absurd (no_memory f.0.0 (let same : l.fault ≡ OutOfMemory = cc in
          sym fault ∙ same)),
    )
reads_fault row v l (inr none) r is = absurd none

pub returns-in_err-check-clause-answer : goal.returns-in_err-check-clause-answer
returns-in_err-check-clause-answer c =
    let p = err_from_is_err_and c.from_residual.result c.from_residual.ensures.1 in
    row_exactly (chunks_lawful lenient c.args.typ c.args.flags) _ c.type_inv.value
    (reads_fault ((chunks lenient).row c.args.typ c.args.flags) c.args.value.now
    c.in_err-check.field-0.0 c.in_err-check.ensures.found c.from_residual.result
    (p.1 ∙ ap Err p.2))

pub returns-in_err-build-clause-answer : goal.returns-in_err-build-clause-answer
returns-in_err-build-clause-answer c =
    row_exactly (chunks_lawful lenient c.args.typ c.args.flags) _ c.type_inv.value (search rules)

pub returns-clause-answer : goal.returns-clause-answer
returns-clause-answer c =
    row_exactly (chunks_lawful lenient c.args.typ c.args.flags) _ c.type_inv.value (search rules)
