use Rattle.std.proofs.{Common.{◌||◌, Bool, ap, sym, ◌∙◌, rules, tests}, lemmas.Iterator.{YieldsList-from_slice}, lemmas.Iterator.Search.{any_from_yields_List}}
use Rattle.std.specs.List.{list_any}
use Rattle.dcsctp_borrowed.specs.Part.{part_of}
use Rattle.dcsctp_receive.specs.Fields.{has_port}
use Rattle.dump_packet.specs.Filter.{is_met}
use Rattle.dump_packet.proofs.filter.Filter.matches_ports.Goals as goal

pub returns-else-asks_nothing : goal.returns-else-asks_nothing
returns-else-asks_nothing c =
    let asked = c.args.self.now.ports in
    let test = is_met (λ port. has_port port (part_of c.args.packet)) in
    any_from_yields_List test _ _ c.any.result c.any.ensures.ran
    (YieldsList-from_slice asked cc) (λ x b q k. search (rules, tests))
    ∙ ap (λ (b : Bool). b || list_any test asked)
    (sym c.if-asks_nothing.false ∙ c.asks_nothing.ensures)
