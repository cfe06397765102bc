-- A packet without error causes has no text that could be replaced.
use Rattle.std.{proofs.Common.{◌≡◌, ◌||◌, false, Bool, List, [], ◌∷◌, refl, ap}, specs.List.{list_any, AllByRecursion}}
use Rattle.dcsctp_wire.specs.{Chunk.{ChunkTree, Abort, Error, view, views}, Account.{HasOwnTexts}, declared.packet.chunk.Chunk.{Chunk}}
use Rattle.test_callers.specs.Normal.{has_causes}

pub no_texts : (ts : List ChunkTree) → list_any has_causes ts ≡ false
    → AllByRecursion HasOwnTexts ts
no_texts [] none = tt
no_texts (Abort a ∷ ts) none = absurd cc
no_texts (Error causes ∷ ts) none = absurd cc
no_texts (t ∷ ts) none = (tt, no_texts ts none)

pub any_view : (cs : List Chunk) → list_any (λ c. has_causes (view c)) cs
    ≡ list_any has_causes (views cs)
any_view [] = refl
any_view (c ∷ cs) = ap (λ (b : Bool). has_causes (view c) || b) (any_view cs)
