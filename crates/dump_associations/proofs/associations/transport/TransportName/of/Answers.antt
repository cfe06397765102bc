use Rattle.std.proofs.Common.{◌<◌, ◌++◌, ◌∷◌, [], ℕ, List, All, length, slice_index_or, sym, ap, subst, ◌∙◌, arith, rules, length-set}
use Rattle.std.proofs.lemmas.List.{take_more, take_more_set}
use Rattle.std.proofs.lemmas.List.Elements.{All-push}
use Rattle.dump_associations.specs.Transports.{IsPrintable}
use Rattle.dump_associations.proofs.associations.transport.TransportName.of.Goals as goal

pub loop-i-preserved : goal.loop-i-preserved
loop-i-preserved c =
    let name = c.args.name.now in
    let bytes = c.loop-i.bytes in
    let i = c.loop-i.i in
    let byte = slice_index_or name i 0 in
    let size = c.loop-i.invariant.size in
    let within : i < length name = omega arith in
    let room : i < length bytes = omega (arith, size) in
    let more = take_more name i 0 within in
    record {
      size = length-set bytes i byte ∙ size;
      copied = take_more_set bytes i byte room
          ∙ ap (λ (l : List ℕ). l ++ byte ∷ []) c.loop-i.invariant.copied ∙ sym more;
      printable = subst (All IsPrintable) (sym more)
          (All-push IsPrintable _ byte c.loop-i.invariant.printable (search rules));
    }
