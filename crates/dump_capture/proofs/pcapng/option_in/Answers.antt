use Rattle.std.proofs.Common.{◌≡◌, ◌≢◌, ◌-◌, ◌+◌, ℕ, List, drop, take, sym, ap, ◌∙◌, arith}
use Rattle.std.specs.Int.{w16}
use Rattle.dump_capture.specs.Number.{number_in}
use Rattle.dump_capture.specs.Pcapng.{option_size, option_in}
use Rattle.dump_capture.proofs.Options.{Option-none, Option-short, Option-end, Option-found, Option-next}
use Rattle.dump_capture.proofs.pcapng.option_in.Goals as goal
use Rattle.dump_capture.proofs.pcapng.option_in.Goals.{then-rest-lt4-via-then-rest-lt4, then-rest-lt4-via-else-rest-lt4+then-read_u16-eq0}

pub returns-then-rest-lt4 : goal.returns-then-rest-lt4
returns-then-rest-lt4 c =
    let left = c.args.most - c.loop.counter in
    let rest = c.loop.rest.now in
    sym (c.loop.invariant ∙ elim c.then-rest-lt4.branch [
      | then-rest-lt4-via-then-rest-lt4 w ↦ Option-short left c.args.order c.args.code
          c.args.size rest (omega arith)
      | then-rest-lt4-via-else-rest-lt4+then-read_u16-eq0 w ↦ Option-end left c.args.order
          c.args.code c.args.size rest (sym w.read_u16.ensures ∙ w.if-read_u16-eq0.true)
    ])

pub returns-then-is_option : goal.returns-then-is_option
returns-then-is_option c =
    let rest = c.loop.rest.now in
    let some : number_in c.args.order w16 rest ≢ 0 =
    λ e. c.if-read_u16-eq0.false (c.read_u16.ensures ∙ e) in
    c.front.ensures ∙ ap (λ (x : List ℕ). take c.args.size x) c.after.ensures
    ∙ sym (c.loop.invariant ∙ Option-found (c.args.most - c.loop.counter)
    (c.args.most - (c.loop.counter + 1)) c.args.order c.args.code c.args.size rest (omega arith)
    (omega arith) some (sym c.is_option.ensures ∙ c.if-is_option.true))

pub loop-preserved : goal.loop-preserved
loop-preserved c =
    let order = c.args.order in
    let rest = c.loop.rest.now in
    let fewer = c.args.most - (c.loop.counter + 1) in
    let value : c.read_u16-length.result ≡ number_in order w16 (drop 2 rest) =
    c.read_u16-length.ensures ∙ ap (λ (x : List ℕ). number_in order w16 x)
    c.after-in-loop.ensures in
    let some : number_in order w16 rest ≢ 0 =
    λ e. c.if-read_u16-eq0.false (c.read_u16.ensures ∙ e) in
    let past : c.after-rest.result.now
    ≡ drop (option_size (number_in order w16 (drop 2 rest))) rest =
    c.after-rest.ensures ∙ ap (λ (k : ℕ). drop k rest)
    (c.option_size.ensures ∙ ap (λ (k : ℕ). option_size k) value) in
    c.loop.invariant
    ∙ Option-next (c.args.most - c.loop.counter) fewer order c.args.code c.args.size rest
    (omega arith) (omega arith) some (sym c.is_option.ensures ∙ c.if-is_option.false)
    ∙ ap (λ (x : List ℕ). option_in fewer order c.args.code c.args.size x) (sym past)

pub returns : goal.returns
returns c =
    sym (c.loop.invariant
    ∙ Option-none (c.args.most - c.loop.counter) c.args.order c.args.code c.args.size
    c.loop.rest.now (omega arith))
