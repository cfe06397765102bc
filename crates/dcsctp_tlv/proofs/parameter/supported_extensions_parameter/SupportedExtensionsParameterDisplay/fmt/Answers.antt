use Rattle.std.{proofs.Common.{ap, refl, ◌++◌, map, codes}, specs.Fmt.{decimal}, proofs.Output.{has_written_append, has_written_of_eq}}
use Rattle.dcsctp_tlv.specs.Text.{joined}
use Rattle.dcsctp_tlv.proofs.parameter.supported_extensions_parameter.SupportedExtensionsParameterDisplay.fmt.Goals as goal

pub returns-clause-writes : goal.returns-clause-writes
returns-clause-writes g c = λ plain ok.
    let title = c.in_ok-write.ensures.writes plain refl in
    has_written_of_eq _ _ _ _ _ (ap (λ types. codes "Supported extensions, chunks="
    ++ joined (codes ",") (map decimal types)) c.deref.ensures.value)
    (has_written_append _ _ _ _ _ _ title (c.write_joined.ensures decimal (λ x. refl) title.plain
    ok))
