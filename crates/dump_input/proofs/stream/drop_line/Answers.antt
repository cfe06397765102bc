use Rattle.std.proofs.Common.{◌≡◌, ℕ, List, [], length, subst, sym, ap, rules, arith}
use Rattle.std.proofs.lemmas.Grind.{common_steps}
use Rattle.dump_io.specs.Watched.{device_of}
use Rattle.dump_io.specs.Window.{held}
use Rattle.dump_capture.specs.Decoding.{IsLine}
use Rattle.dump_capture.proofs.Handed.{Hands-trans}
use Rattle.dump_capture.proofs.TextLines.{BeginsWithLine, no_feed, first_feed}
use Rattle.dump_input.proofs.LineDrops.{Dropped-more, Dropped-fed, Dropped-end}
use Rattle.dump_input.proofs.stream.drop_line.Goals as goal

pub returns-in-Some-clause-dropped : goal.returns-in-Some-clause-dropped
returns-in-Some-clause-dropped g c = λ is.
    let bytes = held c.loop.window in
    Dropped-fed _ (g.R.Read.remaining (device_of c.loop.input)) bytes (held c.consume.new.self)
    c.in-Some.size c.loop.invariant.0
    (subst (λ (l : List ℕ). BeginsWithLine l c.in-Some.size) c.held.ensures
    (first_feed c.held.result.now c.in-Some.size (sym c.in-Some.ensures)))
    c.consume.ensures

pub returns-then-branch-eq0-clause-short : goal.returns-then-branch-eq0-clause-short
returns-then-branch-eq0-clause-short g c = λ no.
    let bytes = held c.loop.window in
    let line : IsLine bytes = subst IsLine c.held.ensures (no_feed c.held.result.now (sym c.in-None.ensures)) in
    let none : c.in_ok-read_more.field-0
    ≡ 0 = first_of (omega arith, search rules, grind (arith, common_steps)) in
    let cleared : length (held c.clear.new.self) ≡ 0 = ap length c.clear.ensures in
    let size = c.in_ok-read_more.ensures.size in
    Dropped-end _ (g.R.Read.remaining (device_of c.loop.input))
    (g.R.Read.remaining (device_of c.read_more.new.input)) bytes (held c.clear.new.self)
    (held c.read_more.new.window) c.loop.invariant.0 line
    c.clear.ensures c.read_more.ensures.stream (omega (arith, size, cleared, none))
    (c.in_ok-read_more.ensures.end none)

pub loop-preserved : goal.loop-preserved
loop-preserved g c =
    let bytes = held c.loop.window in
    let line : IsLine bytes = subst IsLine c.held.ensures (no_feed c.held.result.now (sym c.in-None.ensures)) in (
      Dropped-more _ (g.R.Read.remaining (device_of c.loop.input))
          (g.R.Read.remaining (device_of c.read_more.new.input)) bytes (held c.clear.new.self)
          (held c.read_more.new.window) c.loop.invariant.0 line
          c.clear.ensures c.read_more.ensures.stream,
      search rules,
      Hands-trans g.P.Sink.handed _ _ _ [] [] c.loop.invariant.2 c.read_more.ensures.handed,
    )
