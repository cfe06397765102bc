-- The first ones are taken, by other addresses or by ones that were deleted.
use Rattle.std.proofs.Common.{◌≡◌, ℕ, ◌<◌, get_or, None, IsSome}
use Rattle.dump_associations.proofs.associations.announced.Announcements.note.Given as goal

abbrev pub invariant-loop-i : goal.invariant-loop-i
invariant-loop-i l =
    (l.self ≡ l.fn.self) × ((k : ℕ) → k < l.i → IsSome (get_or l.fn.self.list k None))
