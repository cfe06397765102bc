use Rattle.std.proofs.Common.{◌≡◌, ◌∙◌, ℕ, ◌<◌, true, false, List, ◌∷◌, get_or, suc, drop, length, refl, sym, ap}
use Rattle.std.proofs.Math.Seq.{drop-cons}
use Rattle.dump_messages.specs.Messages.{goes_on}
use Rattle.dump_messages.specs.declared.messages.fragment.Fragment.{Fragment}
use Rattle.dump_messages.proofs.messages.fragment.is_whole.Goals as goal

-- no fragment follows the one that ends the message
ends : (last next : Fragment) (rest : List Fragment) → last.is_end ≡ true
    → goes_on last (next ∷ rest) ≡ false
ends last next rest is = rw is refl

ends_before : (last : Fragment) (rest : List Fragment) (i : ℕ) → i < length rest
    → last.is_end ≡ true → goes_on last (drop i rest) ≡ false
ends_before last rest i lt is =
    ap (goes_on last) (drop-cons rest i last lt) ∙ ends last (get_or rest i last) (drop (suc i) rest) is

pub returns-then-last : goal.returns-then-last
returns-then-last c =
    sym (ends_before c.loop-next.last c.in-Some.rest.now c.loop-next.next-index
    c.loop-next-test.true c.if-last.true)
    ∙ c.loop-next.invariant
