use Rattle.std.proofs.Common.{sym, ap, subst, List, [], map, length, arith}
use Rattle.std.specs.List.{Contains, remove}
use Rattle.std.proofs.lemmas.Grind.{common_steps}
use Rattle.dump_capture.specs.Reassembly.{joined, kept, AreKept}
use Rattle.dump_capture.specs.declared.reassembly.KeptFragment.{KeptFragment}
use Rattle.std.proofs.lemmas.List.Elements.{All-same, All-nil}
use Rattle.dump_capture.proofs.Kept.{All-remove}
use Rattle.dump_capture.proofs.reassembly.Reassembly.take.Goals as goal

pub returns-then-saturating_sub-le-MOST_APART-clause-kept :
    goal.returns-then-saturating_sub-le-MOST_APART-clause-kept
returns-then-saturating_sub-le-MOST_APART-clause-kept c = λ fs all.
    let items = c.args.self.now.packets.items in (
      record {
        each = All-same (AreKept fs) _ (remove items c.in-Some.index)
            c.remove-packet.ensures.items (All-remove (AreKept fs) items c.in-Some.index all.each);
        few = grind (arith, common_steps);
      },
      subst (AreKept fs) (sym c.remove-packet.ensures.value)
          (all.each c.in-Some.index c.remove-packet.result c.in-Some.ensures.found.0),
    )

pub returns-else-saturating_sub-le-MOST_APART-clause-kept :
    goal.returns-else-saturating_sub-le-MOST_APART-clause-kept
returns-else-saturating_sub-le-MOST_APART-clause-kept c = λ fs all.
    let items = c.args.self.now.packets.items in (
      record {
        each = All-same (AreKept fs) _ (remove items c.in-Some.index)
            c.remove-packet.ensures.items (All-remove (AreKept fs) items c.in-Some.index all.each);
        few = grind (arith, common_steps);
      },
      record {
        known = All-same (λ k. Contains fs (kept c.args.key k)) _ [] c.new.ensures.items
            (All-nil (λ k. Contains fs (kept c.args.key k)));
        few = grind (arith, common_steps);
        size = sym (ap (λ (xs : List KeptFragment). length (joined (map (kept c.args.key) xs)))
            c.new.ensures.items);
        small = omega arith;
      },
    )
