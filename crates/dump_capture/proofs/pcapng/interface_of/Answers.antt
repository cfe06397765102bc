use Rattle.std.proofs.Common.{rules, ◌∙◌, arith}
use Rattle.std.proofs.lemmas.Int.{to_z-of_z}
use Rattle.std.specs.Int.{w64}
use Rattle.std.specs.Int.RustNames.{FitsSigned}
use Rattle.dump_capture.proofs.Options.{interface_is}
use Rattle.dump_capture.proofs.pcapng.interface_of.Goals as goal

pub returns : goal.returns
returns c =
    let fits : FitsSigned w64 c.offset_of.result = search rules in
    interface_is c.args.order c.args.body.now _ _ _ _ (omega arith) (omega arith) (search rules)
    (search rules) (search rules)
    (to_z-of_z w64 c.offset_of.result fits ∙ search rules)
