-- A packet fits or it doesn't.
use Rattle.std.{proofs.Common.{◌≡◌, ◌<◌, ◌^◌, ◌⊎◌, inl, inr, ℕ, Bool, true, false, List, [], ◌∷◌, refl, arith}, specs.List.{AllByRecursion}, proofs.lemmas.Bool.{cases_lt}}
use Rattle.dcsctp_tlv.specs.Image.{size_of}
use Rattle.dcsctp_chunk.specs.SkippedStreams.{SkippedStreamTree, is_by_mid, AreByMid}
use Rattle.dcsctp_wire.specs.{Chunk.{ChunkTree, ForwardTsn, IForwardTsn, IsPlaced, IsChunkEncodable, tlv}, Packet.{Meaning}, Canonical.{Fits, padded_size}}

lt_tells : (m n : ℕ) → (m < n) ⊎ (¬ (m < n))
lt_tells m n = elim (cases_lt m n) [ inl h ↦ inl h | inr h ↦ inr (λ k. omega arith) ]

bool_tells : (a b : Bool) → (a ≡ b) ⊎ (¬ (a ≡ b))
bool_tells true true = inl refl
bool_tells true false = inr (λ e. cc)
bool_tells false true = inr (λ e. cc)
bool_tells false false = inl refl

all_tells : {T : Type 0} (P : T → Type 0) → ((x : T) → P x ⊎ (¬ P x)) → (xs : List T)
    → AllByRecursion P xs ⊎ (¬ AllByRecursion P xs)
all_tells P each [] = inl tt
all_tells P each (x ∷ xs) = elim (each x) [
  | inr fails ↦ inr (λ h. fails h.0)
  | inl holds ↦ elim (all_tells P each xs) [
    | inl all ↦ inl (holds, all)
    | inr fails ↦ inr
        (λ h. fails h.1)
  ]
]

by_mid_tells : (by_mid : Bool) (streams : List SkippedStreamTree) → AreByMid by_mid streams
    ⊎ (¬ AreByMid by_mid streams)
by_mid_tells by_mid streams =
    all_tells (λ s. is_by_mid s ≡ by_mid) (λ s. bool_tells (is_by_mid s) by_mid) streams

placed_tells : (t : ChunkTree) → IsPlaced t ⊎ (¬ IsPlaced t)
placed_tells (ForwardTsn f) = by_mid_tells false f.streams
placed_tells (IForwardTsn f) = by_mid_tells true f.streams
placed_tells t = inl tt

encodable_tells : (t : ChunkTree) → IsChunkEncodable t ⊎ (¬ IsChunkEncodable t)
encodable_tells t = elim (placed_tells t) [
  | inr fails ↦ inr (λ h. fails h.0)
  | inl placed ↦ elim (lt_tells (size_of (tlv t)) (2 ^ 16)) [
    | inr fails ↦ inr (λ h. fails h.1)
    | inl size ↦ inl (placed, size)
  ]
]

pub fits_tells : (m : Meaning) → Fits m ⊎ (¬ Fits m)
fits_tells m = elim (all_tells IsChunkEncodable encodable_tells m.chunks) [
  | inr fails ↦ inr (λ h. fails h.each)
  | inl each ↦ elim (lt_tells (padded_size m.chunks) 65521) [
    | inr fails ↦ inr (λ h. (let whole = h.whole in fails (omega arith)))
    | inl less ↦ inl (record { each = each; whole = omega arith })
  ]
]
