-- Fields of one size in a row that are read of bytes lie in their widths.
use Rattle.std.{proofs.Common.{ℕ, zero, suc, ◌<◌, ◌^◌, List, [], ◌∷◌, drop, sym, subst, arith}, specs.List.{AllByRecursion}}
use Rattle.dcsctp_tlv.{specs.Fields.{fields}, specs.Number.{AreBytes, number16, number32}, proofs.FieldLaws.{fields-first}}
use Rattle.dcsctp_chunk.specs.Sack.{IsBlockInWidth, block_at}
use Rattle.dcsctp_borrowed.proofs.FrameItems.{bytes_after}

pub below16 : (bytes : List ℕ) → AreBytes bytes → number16 bytes < 2 ^ 16
below16 [] fits = omega arith
below16 (a ∷ []) fits = omega (arith, fits 0)
below16 (a ∷ b ∷ more) fits = omega (arith, fits 0, fits 1)

pub below32 : (bytes : List ℕ) → AreBytes bytes → number32 bytes < 2 ^ 32
below32 [] fits = omega arith
below32 (a ∷ []) fits = omega (arith, fits 0)
below32 (a ∷ b ∷ []) fits = omega (arith, fits 0, fits 1)
below32 (a ∷ b ∷ c ∷ []) fits = omega (arith, fits 0, fits 1, fits 2)
below32 (a ∷ b ∷ c ∷ d ∷ more) fits = omega (arith, fits 0, fits 1, fits 2, fits 3)

pub block_below : (bytes : List ℕ) → AreBytes bytes → IsBlockInWidth (block_at bytes)
block_below bytes fits = record {
  start = below16 bytes fits;
  end = below16 (drop 2 bytes) (bytes_after 2 bytes fits);
}

-- what holds of one field that is read of bytes holds of each
pub each_below : {A : Type 0} (read : List ℕ → A) (size : ℕ) (P : A → Type 0)
    → ((bytes : List ℕ) → AreBytes bytes → P (read bytes)) → (count : ℕ) (bytes : List ℕ)
    → AreBytes bytes → AllByRecursion P (fields read size count bytes)
each_below read size P law zero bytes fits = tt
each_below read size P law (suc n) bytes fits = subst (AllByRecursion P)
    (sym (fields-first read size n bytes))
    (law bytes fits, each_below read size P law n (drop size bytes) (bytes_after size bytes fits))
