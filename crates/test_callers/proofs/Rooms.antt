-- Whether two chunks have room in a packet that is built.
use Rattle.std.proofs.Common.{◌≡◌, ◌↔◌, ◌+◌, ◌*◌, ◌/◌, ◌≤◌, ℕ, Bool, IsTrue, [], ◌∷◌, length, ap, ◌∙◌, arith}
use Rattle.dcsctp_wire.specs.Caller.{BuilderState, ChunkTree, Holds, IsChunkEncodable, meaning_with, padded_size, room}
use Rattle.dcsctp_wire.proofs.Canonicals.{length-canonical}
use Rattle.test_callers.specs.Reply.{HasRoom}

-- the second is added to the first if and only if both have room
pub with_second : (b mid after : BuilderState) (t u : ChunkTree) (more : ℕ) (added : Bool)
    → mid.limit ≡ b.limit → after.limit ≡ mid.limit → Holds mid (t ∷ [])
    → IsTrue added ↔ (IsChunkEncodable u × (more ≤ room mid)) → more + 0 ≡ padded_size (u ∷ [])
    → (IsTrue added → Holds after (t ∷ u ∷ []))
    → IsTrue added ↔ HasRoom b.limit (meaning_with b (t ∷ u ∷ []))
with_second b mid after t u more added before later held fits size holds =
    let one = ap length held.bytes ∙ length-canonical (meaning_with mid (t ∷ [])) in (
      λ yes. (
          let h = holds yes in
          let two = ap length h.bytes ∙ length-canonical (meaning_with after (t ∷ u ∷ [])) in
          let within = h.within in
          record { each = h.each; whole = omega (arith, two, within, before, later) }),
      λ h. (
          let whole = h.whole in
          fits.1 (h.each.1.0, omega (arith, one, size, before, whole))),
    )

-- a builder's limit is the caller's, rounded down; what chunks take is a multiple of 4
pub within_limit : (b : BuilderState) (source destination tag limit : ℕ) (t u : ChunkTree)
    (added : Bool) → b.limit ≡ limit / 4 * 4
    → IsTrue added ↔ HasRoom b.limit (meaning_with b (t ∷ u ∷ []))
    → IsTrue added ↔ HasRoom limit (record {
      source = source;
      destination = destination;
      tag = tag;
      chunks = t ∷ u ∷ [];
    })
within_limit b source destination tag limit t u added rounded both = (
  λ yes. (
      let h = both.0 yes in
      let whole = h.whole in
      record { each = h.each; whole = omega (arith, whole, rounded) }),
  λ h. (
      let whole = h.whole in
      both.1 (record { each = h.each; whole = omega (arith, whole, rounded) })),
)
