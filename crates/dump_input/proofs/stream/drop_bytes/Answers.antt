use Rattle.std.proofs.Common.{◌≡◌, ◌+◌, ◌<◌, ◌≤◌, ◌++◌, [], length, take, rules, arith, length-append, length-take-le}
use Rattle.std.proofs.lemmas.Grind.{common_steps}
use Rattle.dump_io.specs.Window.{held}
use Rattle.dump_io.proofs.Streams.{Consumes-all_dropped, Consumes-front_dropped}
use Rattle.dump_capture.proofs.Handed.{Hands-trans}
use Rattle.dump_input.proofs.stream.drop_bytes.Goals as goal

pub loop-ahead-preserved : goal.loop-ahead-preserved
loop-ahead-preserved g c =
    let before = c.loop-ahead.invariant.0 in
    let old = held c.loop-ahead.window in
    let size : length (before.0 ++ old) ≡ length before.0 + length old =
    length-append before.0 old in
    let more : length old < c.loop-ahead.ahead = grind (arith, common_steps) in
    let len : c.len-in-loop-ahead.result ≡ length old = c.len-in-loop-ahead.ensures in (
      (
        before.0 ++ old,
        omega (arith, size, before.1, more, len),
        Consumes-all_dropped _ _ _ old _ _
            before.0 c.clear.ensures before.2 c.read_more.ensures.stream,
      ),
      search rules,
      Hands-trans g.P.Sink.handed _ _ _ [] [] c.loop-ahead.invariant.2 c.read_more.ensures.handed,
    )

pub returns-clause-dropped : goal.returns-clause-dropped
returns-clause-dropped g c = λ is.
    let before = c.loop-ahead.invariant.0 in
    let old = held c.loop-ahead.window in
    let fits : c.loop-ahead.ahead ≤ length old = grind (arith, common_steps) in
    let size = length-append before.0 (take c.loop-ahead.ahead old) in (
      before.0 ++ take c.loop-ahead.ahead old,
      omega (arith, size, before.1, length-take-le c.loop-ahead.ahead old fits),
      Consumes-front_dropped _ _ old _ before.0 c.loop-ahead.ahead c.consume.ensures before.2,
    )
