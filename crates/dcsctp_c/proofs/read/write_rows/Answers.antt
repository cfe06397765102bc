use Rattle.std.proofs.Common.{ℕ, drop, take, refl, arith}
use Rattle.dcsctp_tlv.specs.Frame.{lenient}
use Rattle.dcsctp_wire.specs.Chunk.{ChunkTree, chunks, chunk_row}
use Rattle.dcsctp_c.{specs.Part.{value_at, ChunkMeans}, specs.Row.{IsRowAt}, specs.declared.structs.DcsctpRow.{DcsctpRow}, proofs.Rows.{left_meant, none_after}, proofs.Walks.{added, others_stay, walk_begins, walk_goes_on, pass_ends, passed_none, passed_more}}
use Rattle.dcsctp_c.proofs.read.write_rows.Goals as goal

pub loop-offset-init : goal.loop-offset-init
loop-offset-init c =
    let bytes = c.args.bytes.now in
    record {
      within = c.requires.size;
      few = omega arith;
      meant = c.requires.meant;
      rows = walk_begins (IsRowAt bytes) (λ (r : DcsctpRow). r.chunk.next) 12 c.args.rows.now;
      means = λ trees mean. passed_none (chunks lenient) (λ (n : ℕ). drop n bytes)
          (λ (r : DcsctpRow). ChunkMeans bytes r.chunk) trees c.args.rows.now 12 mean;
      after = refl;
    }

pub loop-offset-preserved : goal.loop-offset-preserved
loop-offset-preserved c =
    let bytes = c.args.bytes.now in
    let rows = c.loop-offset.rows in
    let count = c.loop-offset.count in
    let offset = c.loop-offset.offset in
    let puts = c.put_row_at-offset.ensures in
    let row = puts.0 in
    let chunk = puts.1.chunk in
    let before = c.loop-offset.invariant in
    rw (puts.3, puts.2) (record {
      within = chunk.item.within;
      few = omega (arith, before.few, chunk.item.after);
      meant = left_meant bytes offset row.chunk chunk before.meant;
      rows = walk_goes_on (IsRowAt bytes) (λ (r : DcsctpRow). r.chunk.next) 12 (take count rows) _
          count offset row before.rows puts.1 (added rows count row);
      means = λ trees mean. passed_more (chunks lenient) (λ (n : ℕ). drop n bytes)
          (λ (r : DcsctpRow). ChunkMeans bytes r.chunk)
          (chunk_row lenient row.chunk.typ row.chunk.flags) (value_at bytes row.chunk) trees rows
          count offset row.chunk.next row (before.means trees mean) chunk.means
          (λ (t : ChunkTree) m. m);
      after = others_stay rows c.args.rows.now count row before.after;
    })

pub returns-clause-means : goal.returns-clause-means
returns-clause-means c trees mean =
    let bytes = c.args.bytes.now in
    let passed = c.loop-offset.invariant.means trees mean in
    pass_ends (λ (r : DcsctpRow). ChunkMeans bytes r.chunk) trees passed.0
    (take c.loop-offset.count c.loop-offset.rows) c.loop-offset.count passed.2
    (none_after bytes c.loop-offset.offset passed.0 c.loop-offset-test.false passed.1)

pub put_row_at-offset-requires-clause-meant : goal.put_row_at-offset-requires-clause-meant
put_row_at-offset-requires-clause-meant c = c.loop-offset.invariant.meant

pub loop-offset-smaller : goal.loop-offset-smaller
loop-offset-smaller c =
    let puts = c.put_row_at-offset.ensures in
    omega (
      arith,
      c.loop-offset-test.true,
      puts.2,
      puts.1.chunk.item.after,
      puts.1.chunk.item.within,
    )

pub overflow_add-count : goal.overflow_add-count
overflow_add-count c =
    omega (arith, c.loop-offset-test.true, c.loop-offset.invariant.few)

pub returns-clause-rows : goal.returns-clause-rows
returns-clause-rows c = c.loop-offset.invariant.rows.are

pub returns-clause-after : goal.returns-clause-after
returns-clause-after c = c.loop-offset.invariant.after
