-- The options that are left have the value that all of them have.
use Rattle.std.proofs.Common.{◌≡◌, ◌-◌}
use Rattle.dump_capture.specs.Pcapng.{option_in}
use Rattle.dump_capture.proofs.pcapng.option_in.Given as goal

abbrev pub invariant-loop : goal.invariant-loop
invariant-loop l =
    option_in l.fn.most l.order l.code l.size l.fn.options
    ≡ option_in (l.most - l.counter) l.order l.code l.size l.rest
