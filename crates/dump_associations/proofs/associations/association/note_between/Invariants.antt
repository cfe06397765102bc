-- The chunks change no counts: these were counted before them.
use Rattle.std.proofs.Common.{◌≡◌}
use Rattle.dump_associations.proofs.associations.association.note_between.Given as goal

abbrev pub invariant-loop-chunk : goal.invariant-loop-chunk
invariant-loop-chunk l =
    (l.sender.counts ≡ l.initial.sender.counts) × (l.receiver.counts ≡ l.initial.receiver.counts)
