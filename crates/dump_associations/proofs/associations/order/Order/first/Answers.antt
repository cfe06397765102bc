use Rattle.std.proofs.Common.{ℕ, ◌≡◌, ◌∙◌, ◌++◌, ap, sym, Some}
use Rattle.std.specs.Prelude.{option_map}
use Rattle.lru.specs.LruCache.{last_entry}
use Rattle.dump_associations.proofs.Slots.{picked, last_of}
use Rattle.dump_associations.proofs.associations.order.Order.first.Goals as goal

pub returns : goal.returns
returns c =
    let living = c.args.self.now.living.entries in
    let ended = c.args.self.now.ended.entries in
    let slot = c.in_ok-slot.slot.now in
    let seen = picked {Q = ℕ × Unit {0}} (λ p. (p.0.now, p.1.now)) c.peek_lru.result c.peek_lru-2.result _ (sym c.or.ensures ∙ c.in_ok-slot.was) in
    let last : last_entry (living ++ ended) ≡ Some (slot, tt) = last_of living ended ∙ rw (sym c.peek_lru.ensures) (rw (sym c.peek_lru-2.ensures) seen) in
    ap (option_map (λ e. e.0)) (sym last)
