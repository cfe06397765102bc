use Rattle.std.proofs.Common.{◌≡◌, ◌+◌, ℕ, List, length, map, sym, ap, subst, refl, ◌∙◌, arith}
use Rattle.std.proofs.lemmas.Grind.{common_steps}
use Rattle.std.specs.List.{Contains, insert}
use Rattle.std.proofs.lemmas.List.Elements.{All-same}
use Rattle.dump_capture.specs.IpFragment.{Fragment, fragment_of}
use Rattle.dump_capture.specs.Reassembly.{joined, kept}
use Rattle.dump_capture.specs.declared.reassembly.KeptFragment.{KeptFragment}
use Rattle.dump_capture.proofs.Kept.{All-insert, size-insert}
use Rattle.dump_capture.proofs.reassembly.PartialPacket.add.Goals as goal

pub returns-in_err-insert-in-Before-clause-kept : goal.returns-in_err-insert-in-Before-clause-kept
returns-in_err-insert-in-Before-clause-kept c = λ fs all one.
    let key = c.args.self.now.key in record {
      known = All-same (λ k. Contains fs (kept key k)) _ _ c.in_err-insert-in-Before.ensures.items
          all.known;
      few = grind (arith, common_steps);
      size = all.size ∙ ap (λ (xs : List KeptFragment). length (joined (map (kept key) xs)))
          (sym c.in_err-insert-in-Before.ensures.items);
      small = all.small;
    }

pub returns-in_ok-insert-in-Before-clause-kept : goal.returns-in_ok-insert-in-Before-clause-kept
returns-in_ok-insert-in-Before-clause-kept c = λ fs all one.
    let key = c.args.self.now.key in
    let items = c.args.self.now.fragments.items in
    let element : KeptFragment = record {
      protocol = c.args.fragment.protocol;
      offset = c.args.fragment.offset;
      more = c.args.fragment.more;
      bytes = c.in_ok-bytes-in-Before.bytes;
    } in
    let same : kept key element ≡ fragment_of c.args.fragment =
    rw (c.requires, c.in_ok-bytes-in-Before.ensures.items) refl in record {
      known = All-same (λ k. Contains fs (kept key k)) _ (insert items c.in-Before.index element)
          c.in_ok-insert-in-Before.ensures.items
          (All-insert (λ k. Contains fs (kept key k)) items c.in-Before.index
          element (subst (λ (f : Fragment). Contains fs f) (sym same) one) all.known);
      few = grind (arith, common_steps);
      size = ap (λ (n : ℕ). n + length c.args.fragment.bytes.now) all.size
          ∙ ap (λ (b : List ℕ). length (joined (map (kept key) items)) + length b)
          (sym c.in_ok-bytes-in-Before.ensures.items)
          ∙ sym (size-insert key items c.in-Before.index element)
          ∙ ap (λ (xs : List KeptFragment). length (joined (map (kept key) xs)))
          (sym c.in_ok-insert-in-Before.ensures.items);
      small = (c.has_room.ensures c.if-has_room.true).1;
    }
