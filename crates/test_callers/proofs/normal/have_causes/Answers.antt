use Rattle.std.proofs.{Common.{◌∙◌, rules, tests}, lemmas.Iterator.{YieldsList-from_slice}, lemmas.Iterator.Search.{any_from_yields_List}}
use Rattle.dcsctp_wire.specs.Chunk.{view}
use Rattle.test_callers.{specs.Normal.{has_causes}, proofs.Texts.{any_view}}
use Rattle.test_callers.proofs.normal.have_causes.Goals as goal

pub returns : goal.returns
returns c =
    any_from_yields_List (λ chunk. has_causes (view chunk)) _ _ _ c.any.ensures.ran
    (YieldsList-from_slice c.args.chunks.now cc) (λ x b q k. search (rules, tests))
    ∙ any_view c.args.chunks.now
