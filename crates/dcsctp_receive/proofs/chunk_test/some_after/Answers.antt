use Rattle.std.proofs.Common.{sym, ap, ◌∙◌}
use Rattle.std.specs.List.{list_any}
use Rattle.dcsctp_receive.specs.ChunkTest.{meets_test}
use Rattle.dcsctp_receive.proofs.chunk_test.some_after.Goals as goal

pub returns-in-Some : goal.returns-in-Some
returns-in-Some c =
    c.some.ensures ∙ ap (list_any (meets_test c.args.second)) (sym c.in-Some.ensures.1)

pub returns-in-None : goal.returns-in-None
returns-in-None c = sym (ap (list_any (meets_test c.args.second)) c.in-None.ensures.1)
