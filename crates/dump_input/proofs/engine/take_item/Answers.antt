use Rattle.std.proofs.Common.{◌≡◌, ◌++◌, [], ℕ, List, true, take, None, Some, subst, inl, rules}
use Rattle.dump_io.specs.Watched.{device_of}
use Rattle.dump_io.specs.Window.{held}
use Rattle.dump_capture.specs.Decoding.{Passes}
use Rattle.dump_input.proofs.Steps.{IfErr-residual, Takes-more, Takes-item, Takes-long, HandsAll-end, HandsAll-short, HandsAll-fault, HandsFront-none, Partly-long, Stops-no_fault}
use Rattle.dump_input.proofs.engine.take_item.Goals as goal

pub returns-in_ok-read_more-in-More-clause-taken : goal.returns-in_ok-read_more-in-More-clause-taken
returns-in_ok-read_more-in-More-clause-taken g c =
    let found = c.in-More.ensures in
    Takes-more g.D.Decoder.Item g.D.Decoder.End g.P.Sink.handed _ _ _ _ _ _ _ found.0
    found.2.2 found.2.3 c.read_more.ensures.stream found.1 c.read_more.ensures.handed

pub returns-in_err-read_more-in-More-clause-stopped :
    goal.returns-in_err-read_more-in-More-clause-stopped
returns-in_err-read_more-in-More-clause-stopped g c =
    let found = c.in-More.ensures in
    IfErr-residual _ c.in_err-read_more-in-More.field-0.0 _ c.from_residual.ensures.1
    (Stops-no_fault g.D.Decoder.Item g.D.Decoder.End g.P.Sink.handed _ _ _ _ _
    c.in_err-read_more-in-More.ensures.no_fault
    (inl (HandsFront-none g.D.Decoder.Item g.D.Decoder.End g.P.Sink.handed _ _ _ _ _ found.0
    found.2.2 found.1 c.read_more.ensures.handed)))

pub returns-in-Item-clause-taken : goal.returns-in-Item-clause-taken
returns-in-Item-clause-taken g c =
    let found = c.in-Item.ensures in
    Takes-item g.D.Decoder.Item g.D.Decoder.End g.P.Sink.handed _ _
    (held c.args.window.now) (held c.consume.new.self)
    (g.R.Read.remaining (device_of c.args.input.now)) c.in-Item.size _ _ found.0
    (subst (λ (l : List ℕ). g.D.Decoder.Item (g.D.Decoder.state c.args.decoder.now)
    (take c.in-Item.size l) found.0 (g.D.Decoder.state c.next.new.self))
    c.held.ensures found.2.1) c.consume.ensures found.1

pub returns-then-whole-clause-taken : goal.returns-then-whole-clause-taken
returns-then-whole-clause-taken g c =
    let found = c.in-Long.ensures in
    Takes-long g.D.Decoder.Item g.D.Decoder.End g.P.Sink.handed _ _ c.in-Long.reach
    (held c.args.window.now) (g.R.Read.remaining (device_of c.args.input.now)) _ _ _ _ found.0
    (subst (λ (l : List ℕ). Passes g.D.Decoder.Item g.D.Decoder.End
    (g.D.Decoder.state c.args.decoder.now) l c.in-Long.reach found.0
    (g.D.Decoder.state c.next.new.self))
    c.held.ensures found.2)
    (c.in_ok-whole-in-Long.ensures.dropped (search rules)) found.1 c.drop_item.ensures.handed

pub returns-else-whole-clause-whole : goal.returns-else-whole-clause-whole
returns-else-whole-clause-whole g c = λ _.
    let found = c.in-Long.ensures in
    HandsAll-short g.D.Decoder.Item g.D.Decoder.End g.P.Sink.handed _ _ c.in-Long.reach
    (held c.args.window.now) (g.R.Read.remaining (device_of c.args.input.now)) _ _ _ found.0
    (subst (λ (l : List ℕ). Passes g.D.Decoder.Item g.D.Decoder.End
    (g.D.Decoder.state c.args.decoder.now) l c.in-Long.reach found.0
    (g.D.Decoder.state c.next.new.self))
    c.held.ensures found.2)
    (c.in_ok-whole-in-Long.ensures.short (search rules)) found.1 c.drop_item.ensures.handed

pub returns-in_err-whole-in-Long-clause-stopped : goal.returns-in_err-whole-in-Long-clause-stopped
returns-in_err-whole-in-Long-clause-stopped g c =
    let found = c.in-Long.ensures in
    IfErr-residual _ c.in_err-whole-in-Long.field-0.0 _ c.from_residual-in_err-whole-in-Long.ensures.1
    (Stops-no_fault g.D.Decoder.Item g.D.Decoder.End g.P.Sink.handed _ _ _ _ _
    c.in_err-whole-in-Long.ensures.no_fault
    (Partly-long g.D.Decoder.Item g.D.Decoder.End g.P.Sink.handed _ _ c.in-Long.reach
    (held c.args.window.now) (g.R.Read.remaining (device_of c.args.input.now)) _ _ _ found.0
    (subst (λ (l : List ℕ). Passes g.D.Decoder.Item g.D.Decoder.End
    (g.D.Decoder.state c.args.decoder.now) l c.in-Long.reach found.0
    (g.D.Decoder.state c.next.new.self))
    c.held.ensures found.2) found.1 c.drop_item.ensures.handed))

pub returns-in-End-clause-whole : goal.returns-in-End-clause-whole
returns-in-End-clause-whole g c = λ _.
    let found = c.in-End.ensures in
    HandsAll-end g.D.Decoder.Item g.D.Decoder.End g.P.Sink.handed _
    (held c.args.window.now) (g.R.Read.remaining (device_of c.args.input.now)) _ _ found.0
    (subst (λ (l : List ℕ). g.D.Decoder.End (g.D.Decoder.state c.args.decoder.now) l found.0
    None) c.held.ensures found.2.1)
    (c.requires found.2.0) found.1

pub returns-in-Fault-clause-stopped : goal.returns-in-Fault-clause-stopped
returns-in-Fault-clause-stopped g c =
    let found = c.in-Fault.ensures in
    HandsAll-fault g.D.Decoder.Item g.D.Decoder.End g.P.Sink.handed _
    (held c.args.window.now) (g.R.Read.remaining (device_of c.args.input.now)) c.args.at_end _ _
    found.0 c.in-Fault.fault
    (subst (λ (l : List ℕ). (rest : List ℕ) → (c.args.at_end ≡ true → rest ≡ [])
    → g.D.Decoder.End (g.D.Decoder.state c.args.decoder.now) (l ++ rest) found.0 (Some c.in-Fault.fault)) c.held.ensures found.2)
    c.requires found.1
