use Rattle.std.proofs.{Common.{not, ap, rules, tests}, lemmas.Iterator.{YieldsList-from_slice}, lemmas.Iterator.Search.{any_from_yields_List}}
use Rattle.std.specs.Option.{is_some}
use Rattle.dump_packet.proofs.filter.asks_nothing.Goals as goal

pub returns : goal.returns
returns g c =
    ap not (any_from_yields_List is_some _ _ c.any.result c.any.ensures.ran
    (YieldsList-from_slice c.args.asked.now cc) (λ x b q k. search (rules, tests)))
