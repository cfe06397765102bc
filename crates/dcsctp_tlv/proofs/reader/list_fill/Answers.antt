use Rattle.std.proofs.{Common.{◌≡◌, [], ◌∷◌, ◌++◌, ap, ◌∙◌, arith, vec_len, vec_capacity, map}, lemmas.List.{map_push}, lemmas.List.Elements.{All-push}}
use Rattle.dcsctp_tlv.{specs.Frame.{lenient}, proofs.Lists.{finish, is_nil}, proofs.Checks.{left_tree, frame_shrinks, build_step, no_trees}}
use Rattle.dcsctp_tlv.proofs.reader.list_fill.Goals as goal

pub returns-in_err-reserve_exact-clause-empty : goal.returns-in_err-reserve_exact-clause-empty
returns-in_err-reserve_exact-clause-empty g c = λ e. (
    let meant = c.requires.meant in
    let none = no_trees (g.T.ReadableTlv.level lenient) c.args.bytes.now meant.0 e meant.1 in
    let zero : c.args.count ≡ 0 = meant.2 ∙ none in
    let ok = c.in_err-reserve_exact.ensures.succeeds (omega (arith, zero)) in
    cc)

pub frame_parts-requires : goal.frame_parts-requires
frame_parts-requires g c =
    (left_tree c.loop-rest.invariant.building c.is_empty.ensures c.loop-rest-test.true).frame

pub bounds-rest-1 : goal.bounds-rest-1
bounds-rest-1 g c =
    let f = left_tree c.loop-rest.invariant.building c.is_empty.ensures c.loop-rest-test.true in
    omega (arith, f.frame.header)

pub read_onto-requires-clause-meant : goal.read_onto-requires-clause-meant
read_onto-requires-clause-meant g c =
    let f = left_tree c.loop-rest.invariant.building c.is_empty.ensures c.loop-rest-test.true in
    (f.first, rw c.frame_parts.ensures.value f.means)

pub read_onto-requires-clause-room : goal.read_onto-requires-clause-room
read_onto-requires-clause-room g c =
    let f = left_tree c.loop-rest.invariant.building c.is_empty.ensures c.loop-rest-test.true in
    omega (arith, f.count, c.loop-rest.invariant.building.room)

pub loop-rest-smaller : goal.loop-rest-smaller
loop-rest-smaller g c =
    let f = left_tree c.loop-rest.invariant.building c.is_empty.ensures c.loop-rest-test.true in
    let shrinks = frame_shrinks c.loop-rest.rest.now f.frame in
    rw c.frame_parts.ensures.rest (omega (arith, shrinks, f.frame.low))

pub loop-rest-preserved : goal.loop-rest-preserved
loop-rest-preserved g c =
    let view = g.T.ReadableTlv.view in
    let f = left_tree c.loop-rest.invariant.building c.is_empty.ensures c.loop-rest-test.true in
    let grows = c.in_ok-read_onto.ensures.grows in
    let e : map view c.read_onto.new.list.items ≡ map view c.loop-rest.list.items ++ view grows.last
    ∷ [] = ap (map view) grows.items ∙ map_push view c.loop-rest.list.items grows.last in
    record {
      building = rw (
        e,
        c.frame_parts.ensures.rest,
        c.in_ok-read_onto.ensures.len,
        c.in_ok-read_onto.ensures.capacity,
      )
          (build_step (g.T.ReadableTlv.level lenient) c.args.bytes.now c.loop-rest.rest.now
          (map view c.loop-rest.list.items) (view grows.last) (vec_len c.loop-rest.list)
          (vec_capacity c.loop-rest.list)
          c.loop-rest.invariant.building f (rw (← c.frame_parts.ensures.value) grows.means));
      tight = rw grows.items (All-push g.T.ReadableTlv.is_tight c.loop-rest.list.items grows.last
          c.loop-rest.invariant.tight grows.tight);
    }

pub returns-clause-meant : goal.returns-clause-meant
returns-clause-meant g c = finish (g.T.ReadableTlv.level lenient) c.args.bytes.now
    (map g.T.ReadableTlv.view c.loop-rest.list.items) c.loop-rest.rest.now
    c.loop-rest.invariant.building.progress (is_nil c.loop-rest.rest.now c.is_empty.result
    c.is_empty.ensures c.loop-rest-test.false)

pub returns-clause-reserved : goal.returns-clause-reserved
returns-clause-reserved g c =
    let b = c.loop-rest.invariant.building in
    let none = no_trees (g.T.ReadableTlv.level lenient) c.loop-rest.rest.now b.left
    (is_nil c.loop-rest.rest.now c.is_empty.result c.is_empty.ensures c.loop-rest-test.false)
    b.mean in
    omega (arith, none, b.room)
