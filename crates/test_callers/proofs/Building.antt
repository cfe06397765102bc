-- A packet that is built chunk by chunk.
use Rattle.std.proofs.Common.{◌≡◌, ◌≢◌, ◌+◌, ◌<◌, ◌∙◌, ℕ, false, List, [], ◌∷◌, ◌++◌, length, take, get_or, ap, sym, refl, add-one}
use Rattle.std.proofs.Math.Seq.{take-suc}
use Rattle.std.proofs.lemmas.List.{map-append}
use Rattle.dcsctp_wire.specs.Builder.{BuilderState, Holds, meaning_with, built, checksummed}
use Rattle.dcsctp_wire.specs.Canonical.{canonical}
use Rattle.dcsctp_wire.specs.Chunk.{ChunkTree, view, views}
use Rattle.dcsctp_wire.specs.Packet.{Meaning}
use Rattle.dcsctp_wire.specs.declared.packet.chunk.Chunk.{Chunk}

-- the builder has the header of this meaning, and leaves the checksum field zero
pub record IsFor (m : Meaning) (b : BuilderState) : Type 0 where
  pub same : (cs : List ChunkTree) → meaning_with b cs ≡ record m { chunks = cs }
  pub switch : b.writes_checksum ≡ false

pub stays-for : (m : Meaning) (b next : BuilderState)
    → next ≡ record b { bytes = next.bytes; reserved = next.reserved }
    → IsFor m b → IsFor m next
stays-for m b next e h = record {
  same = λ cs. ap (λ (s : BuilderState). meaning_with s cs) e ∙ h.same cs;
  switch = ap (λ (s : BuilderState). s.writes_checksum) e ∙ h.switch;
}

-- one chunk more
pub views-next : (cs : List Chunk) (i : ℕ) (c : Chunk) → i < length cs → c ≡ get_or cs i c
    → views (take (i + 1) cs) ≡ views (take i cs) ++ view c ∷ []
views-next cs i c h e =
    ap (λ (n : ℕ). views (take n cs)) (add-one i)
    ∙ ap views (take-suc cs i c h)
    ∙ map-append view (take i cs) (get_or cs i c ∷ [])
    ∙ ap (λ (x : Chunk). views (take i cs) ++ view x ∷ []) (sym e)

bytes_of : (b : BuilderState) (cs : List ChunkTree) → cs ≢ [] → Holds b cs
    → b.bytes ≡ canonical (meaning_with b cs)
bytes_of b [] some h = absurd (some refl)
bytes_of b (c ∷ cs) some h = h.bytes

-- what is built of all the chunks
pub built-is : (m : Meaning) (b : BuilderState) → IsFor m b → m.chunks ≢ [] → Holds b m.chunks
    → built b 0 ≡ canonical m
built-is m b h some held =
    ap (λ switch. checksummed switch 0 b.bytes) h.switch
    ∙ bytes_of b m.chunks some held
    ∙ ap canonical (h.same m.chunks)
