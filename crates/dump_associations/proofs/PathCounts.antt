-- Paths whose ways and counts are as they were, but that one has a packet more.
use Rattle.std.proofs.Common.{◌≡◌, ◌<◌, ◌≤◌, ℕ, List, length, slice_index_or, inl, inr, sym, ap, subst, ◌∙◌, arith}
use Rattle.std.proofs.lemmas.List.{length_push}
use Rattle.dump_capture.specs.Number.{one_more}
use Rattle.dump_packet.specs.SeenPackets.{Packet}
use Rattle.dump_associations.specs.Counts.{CountsPacket}
use Rattle.dump_associations.specs.Paths.{CountAlike, CountsAt, CountsOnce, FindsPlace}
use Rattle.dump_associations.specs.declared.associations.counts.Counts.{Counts}
use Rattle.dump_associations.specs.declared.paths.path.Path.{Path}
use Rattle.dump_associations.specs.declared.paths.path.Way.{Way}

pub counted_then : (p : Packet) (place : ℕ) (xs ys zs : List Path) → CountsAt p place xs ys
    → CountAlike ys zs → CountsAt p place xs zs
counted_then p place xs ys zs a b =
    let size = a.1 in (
      a.0,
      b.0 ∙ size,
      λ k d within. b.1 k d (omega (arith, size, within)) ∙ a.2 k d within,
      λ k d within apart. b.2 k d (omega (arith, size, within)) ∙ a.3 k d within apart,
      λ d. subst (λ (c : Counts). CountsPacket (slice_index_or xs place d).counts p c)
          (sym (b.2 place d (omega (arith, size, a.0)))) (a.4 d),
    )

-- a packet is counted in the place that was found, and then its chunks are noted
pub once : (p : Packet) (way : Way) (before : List Path) (others place : ℕ)
    (found counted : List Path) (others_after : ℕ) (after : List Path)
    → FindsPlace way before place found
    → (place < length found → CountsAt p place found counted × (others_after ≡ others))
    → (length found ≤ place → (counted ≡ found) × (others_after ≡ one_more others))
    → CountAlike counted after → CountsOnce p way before others after others_after
once p way before others place found counted others_after after finds on_path on_others alike =
    elim finds [
      | inl known ↦
          let same = known.1 in
          let one = on_path (subst (λ (l : List Path). place < length l) (sym same) known.0.0) in
          inl (
            place,
            known.0,
            subst (λ (l : List Path). CountsAt p place l after) same
                (counted_then p place found counted after one.0 alike),
            one.1,
          )
      | inr other ↦ elim other [
        | inl new ↦
            let at = new.2 in
            let is = new.3.2 in
            let size = ap (λ (l : List Path). length l) is in
            let one = on_path (omega (arith, at, size, length_push before new.3.0)) in
            inr (inl (
              new.0,
              new.1,
              (
                new.3.0,
                new.3.1,
                subst (λ (l : List Path). CountsAt p (length before) l after) is
                    (subst (λ (n : ℕ). CountsAt p n found after) at
                    (counted_then p place found counted after one.0 alike)),
              ),
              one.1,
            ))
        | inr full ↦
            let at = full.2 in
            let same = full.3 in
            let none = on_others (omega (arith, at, ap (λ (l : List Path). length l) same)) in
            inr (inr (
              full.0,
              full.1,
              subst (λ (l : List Path). CountAlike l after) (none.0 ∙ same) alike,
              none.1,
            ))
      ]
    ]
