use Rattle.std.proofs.Common.{◌∙◌}
use Rattle.dcsctp_tlv.{specs.Frame.{lenient}, proofs.Checks.{as_many}}
use Rattle.dcsctp_tlv.proofs.reader.list_fill_counted.Goals as goal

pub list_fill-requires-clause-meant : goal.list_fill-requires-clause-meant
list_fill-requires-clause-meant g c =
    let meant = c.requires.meant in
    let m = meant.1 in (
      meant.0,
      m,
      c.count_items.ensures (g.T.ReadableTlv.level lenient).padding m.items m.are
          ∙ as_many (g.T.ReadableTlv.level lenient) m.items meant.0 m.mean,
    )
