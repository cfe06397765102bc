-- It is answered of the first addresses, and the others are as they were.
use Rattle.std.proofs.Common.{◌≡◌, ℕ, ◌<◌, ◌≤◌, get_or, None}
use Rattle.std.specs.Prelude.{option_map}
use Rattle.dump_associations.specs.Announced.{answered}
use Rattle.dump_associations.proofs.associations.announced.Announcements.answer.Given as goal

abbrev pub invariant-loop-i : goal.invariant-loop-i
invariant-loop-i l =
    ((k : ℕ) → k < l.i → get_or l.self.list k None
    ≡ option_map (answered l.id l.answer) (get_or l.initial.self.list k None))
    × ((k : ℕ) → l.i ≤ k → get_or l.self.list k None ≡ get_or l.initial.self.list k None)
