-- Packets mean the same if and only if their numbers are the same, and their chunks are written
-- again the same.
use Rattle.std.{proofs.Common.{◌≡◌, ◌↔◌, ℕ, ◌%◌, Bool, true, false, ◌==◌, List, [], ◌∷◌, length, map, refl, sym, ap, ap₂, subst, ◌∙◌, arith, inl, inr, eqb-true, eq-eqb}, specs.Prelude.{IsTrue}, specs.List.{AllByRecursion}}
use Rattle.dcsctp_tlv.{specs.Frame.{Item, lenient}, specs.Image.{Tlv, zeroed, IsEncodable}, specs.Level.{Level, ItemsMean, MeansTrees}, specs.Number.{AreBytes}, proofs.FormatLaws.{all_good}, proofs.Forms.{list_formed}, proofs.Laws.{Lawful}, proofs.ReadsBack.{ReadsBack}}
use Rattle.dcsctp_cause.specs.Cause as cause
use Rattle.dcsctp_cause.proofs.CauseLaws.{IsGoodCause, causes_lawful, causes_form, causes_read_back}
use Rattle.dcsctp_chunk.{specs.Flags.{is_set}, proofs.FlagLaws.{one_again}}
use Rattle.dcsctp_wire.{specs.Chunk.{ChunkTree, Abort, Error, HoldsCauses, chunks, chunk_row, tlv as chunk_tlv}, specs.Canonical.{canonical, HasCanonical}, specs.Packet.{Meaning, PacketTree}, proofs.Canonicals.{canonical_of}, proofs.ChunkLaws.{IsGoodChunk, chunks_read_back}, proofs.ChunkRows.{chunks_lawful, chunks_form, chunks_account}}
use Rattle.dcsctp_borrowed.{specs.declared.packet_ref.SctpPacketRef.{SctpPacketRef}, specs.PacketRef.{RefersTo}, specs.RawChunks.{MeanChunks}, specs.Rewritten.{IsByteItem, item_again, all_again, cause_again, chunk_again}, proofs.CausesRewritten.{each_cause}, proofs.ChunksRewritten.{each_chunk}, proofs.ItemsRewritten.{items_are, byte_items, trees_again}, proofs.PlainRewritten.{one_flag}, proofs.SameRewritten.{IsWritten, IsShortItem, each_short, all_written, listed_one, causes_short, chunk_front}, proofs.Widths.{causes_fit, chunk_fits}}

-- ---- trees of a level that read back

module _ {T : Type 0} (level : Level T) (law : Lawful level) (tlv : T → Tlv) (IsGood : T → Type 0)
    (back : ReadsBack level tlv IsGood) where
  tree_one : (t u : T) → IsGood t → IsGood u → tlv t ≡ tlv u → t ≡ u
  tree_one t u good good_too e =
      (law (tlv t).first (tlv t).second).one (zeroed (tlv t).value) t u (back.means t good)
      (subst (λ (x : Tlv). (level.row x.first x.second).means (zeroed x.value) u) (sym e)
      (back.means u good_too))

  trees_one : (ts us : List T) → AllByRecursion IsGood ts → AllByRecursion IsGood us
      → map tlv ts ≡ map tlv us → ts ≡ us
  trees_one [] [] good good_too e = refl
  trees_one [] (u ∷ us) good good_too e = absurd cc
  trees_one (t ∷ ts) [] good good_too e = absurd cc
  trees_one (t ∷ ts) (u ∷ us) good good_too e =
      let head : tlv t ≡ tlv u = cc e in
      let tail : map tlv ts ≡ map tlv us = cc e in
      ap₂ (λ (x : T) (xs : List T). x ∷ xs) (tree_one t u good.0 good_too.0 head)
      (trees_one ts us good.1 good_too.1 tail)

-- ---- error causes

each_small : (cs : List cause.CauseTree) → AllByRecursion IsWritten (map cause.tlv cs)
    → AllByRecursion (λ c. IsEncodable (cause.tlv c)) cs
each_small [] all = tt
each_small (c ∷ cs) all = (all.0.small, each_small cs all.1)

causes_good : (bytes : List ℕ) (cs : List cause.CauseTree) → AreBytes bytes
    → MeansTrees (cause.causes lenient) bytes cs → AllByRecursion IsGoodCause cs
causes_good bytes cs fits m =
    all_good cause.format cs (causes_fit bytes cs fits m)
    (list_formed (cause.causes lenient) cause.IsWellFormed causes_form bytes cs m)
    (each_small cs (subst (AllByRecursion IsWritten)
    (sym (trees_again (cause.causes lenient) cause.tlv cause_again each_cause bytes cs fits m))
    (all_written cause_again causes_short bytes fits)))

causes_one : (bytes other : List ℕ) (cs ds : List cause.CauseTree) → AreBytes bytes
    → AreBytes other → MeansTrees (cause.causes lenient) bytes cs
    → MeansTrees (cause.causes lenient) other ds
    → all_again cause_again bytes ≡ all_again cause_again other → cs ≡ ds
causes_one bytes other cs ds fits fits_too m n e =
    let again = trees_again (cause.causes lenient) cause.tlv cause_again each_cause in
    trees_one (cause.causes lenient) (causes_lawful lenient) cause.tlv IsGoodCause
    (causes_read_back lenient) cs ds (causes_good bytes cs fits m)
    (causes_good other ds fits_too n)
    (again bytes cs fits m ∙ e ∙ sym (again other ds fits_too n))

-- ---- chunks

module _ (a b : ℕ) (value other : List ℕ) (t u : ChunkTree) (fits : AreBytes value)
    (fits_too : AreBytes other) where
  abort_one : (chunk_row lenient 6 a).means value t → (chunk_row lenient 6 b).means other u
      → chunk_again 6 a value ≡ chunk_again 6 b other → t ≡ u
  abort_one m n e =
      let same = listed_one cause_again causes_short 6 (a % 2) (b % 2) [] [] value other fits
      fits_too refl e in
      let causes = causes_one value other m.1.1.0 n.1.1.0 fits fits_too m.1.1.1 n.1.1.1 same.1 in
      let flags : a % 2 ≡ b % 2 = ap (λ (x : Tlv). x.second) e in
      let reflected = sym (one_again (is_set a 0))
      ∙ ap (λ (n : ℕ). is_set n 0) (one_flag a ∙ flags ∙ sym (one_flag b))
      ∙ one_again (is_set b 0) in
      m.2 ∙ ap Abort m.1.1.2
      ∙ ap₂ (λ (r : Bool) (cs : List cause.CauseTree).
      Abort (record { tag_reflected = r; causes = cs })) reflected causes
      ∙ sym (n.2 ∙ ap Abort n.1.1.2)

  error_one : (chunk_row lenient 9 a).means value t → (chunk_row lenient 9 b).means other u
      → chunk_again 9 a value ≡ chunk_again 9 b other → t ≡ u
  error_one m n e =
      let same = listed_one cause_again causes_short 9 0 0 [] [] value other fits fits_too refl e in
      m.2 ∙ ap Error m.1.1.2
      ∙ ap Error (causes_one value other m.1.1.0 n.1.1.0 fits fits_too m.1.1.1 n.1.1.1 same.1)
      ∙ sym (n.2 ∙ ap Error n.1.1.2)

-- a chunk without causes is no longer than it was
chunk_good : (i : Item) (t : ChunkTree) → IsByteItem i → IsShortItem i → ¬ HoldsCauses i.first
    → ((chunks lenient).row i.first i.second).means i.value t → IsGoodChunk t
chunk_good i t fits short none m = record {
  width = chunk_fits i.first i.second fits.first fits.second i.value t m fits.value;
  formed = chunks_form.formed i.first i.second i.value t m;
  encodable = (let size = (chunks_account.sized i t (λ holds. absurd (none holds)) m).at_most in
      omega (arith, size, short));
}

module _ (i j : Item) (t u : ChunkTree) (fits : IsByteItem i) (fits_too : IsByteItem j)
    (short : IsShortItem i) (short_too : IsShortItem j)
    (m : ((chunks lenient).row i.first i.second).means i.value t)
    (n : ((chunks lenient).row j.first j.second).means j.value u)
    (e : item_again chunk_again i ≡ item_again chunk_again j) where
  types : i.first ≡ j.first
  types = sym (chunk_front i.first i.second i.value).0 ∙ ap (λ (x : Tlv). x.first) e
      ∙ (chunk_front j.first j.second j.value).0

  by_type : (six nine : Bool) → (i.first == 6) ≡ six → (i.first == 9) ≡ nine → t ≡ u
  by_type true nine is _ =
      let six : i.first ≡ 6 = eqb-true i.first 6 is in
      let six_too : j.first ≡ 6 = sym types ∙ six in
      abort_one i.second j.second i.value j.value t u fits.value fits_too.value
      (subst (λ (k : ℕ). (chunk_row lenient k i.second).means i.value t) six m)
      (subst (λ (k : ℕ). (chunk_row lenient k j.second).means j.value u) six_too n)
      (sym (ap (λ (k : ℕ). chunk_again k i.second i.value) six) ∙ e
      ∙ ap (λ (k : ℕ). chunk_again k j.second j.value) six_too)
  by_type false true _ is =
      let nine : i.first ≡ 9 = eqb-true i.first 9 is in
      let nine_too : j.first ≡ 9 = sym types ∙ nine in
      error_one i.second j.second i.value j.value t u fits.value fits_too.value
      (subst (λ (k : ℕ). (chunk_row lenient k i.second).means i.value t) nine m)
      (subst (λ (k : ℕ). (chunk_row lenient k j.second).means j.value u) nine_too n)
      (sym (ap (λ (k : ℕ). chunk_again k i.second i.value) nine) ∙ e
      ∙ ap (λ (k : ℕ). chunk_again k j.second j.value) nine_too)
  by_type false false six nine =
      let none : ¬ HoldsCauses i.first = λ h. elim h [
        | inl is ↦ (let yes = eq-eqb i.first 6 is in absurd cc)
        | inr is ↦ (let yes = eq-eqb i.first 9 is in absurd cc)
      ] in
      tree_one (chunks lenient) (chunks_lawful lenient) chunk_tlv IsGoodChunk
      (chunks_read_back lenient) t u (chunk_good i t fits short none m)
      (chunk_good j u fits_too short_too (subst (λ (k : ℕ). ¬ HoldsCauses k) types none) n)
      (each_chunk i t fits m ∙ e ∙ sym (each_chunk j u fits_too n))

  chunk_one : t ≡ u
  chunk_one = by_type (i.first == 6) (i.first == 9) refl refl

items_one : (is js : List Item) (ts us : List ChunkTree) → AllByRecursion IsByteItem is
    → AllByRecursion IsByteItem js → AllByRecursion IsShortItem is → AllByRecursion IsShortItem js
    → ItemsMean (chunks lenient) is ts → ItemsMean (chunks lenient) js us
    → map (item_again chunk_again) is ≡ map (item_again chunk_again) js → ts ≡ us
items_one [] [] [] [] fits fits_too short short_too m n e = refl
items_one [] [] [] (u ∷ us) fits fits_too short short_too m n e = absurd n
items_one [] js (t ∷ ts) us fits fits_too short short_too m n e = absurd m
items_one [] (j ∷ js) [] us fits fits_too short short_too m n e = absurd cc
items_one (i ∷ is) js [] us fits fits_too short short_too m n e = absurd m
items_one (i ∷ is) [] (t ∷ ts) us fits fits_too short short_too m n e = absurd cc
items_one (i ∷ is) (j ∷ js) (t ∷ ts) [] fits fits_too short short_too m n e = absurd n
items_one (i ∷ is) (j ∷ js) (t ∷ ts) (u ∷ us) fits fits_too short short_too m n e =
    let head : item_again chunk_again i ≡ item_again chunk_again j = cc e in
    let tail : map (item_again chunk_again) is ≡ map (item_again chunk_again) js = cc e in
    ap₂ (λ (x : ChunkTree) (xs : List ChunkTree). x ∷ xs)
    (chunk_one i j t u fits.0 fits_too.0 short.0 short_too.0 m.0 n.0 head)
    (items_one is js ts us fits.1 fits_too.1 short.1 short_too.1 m.1 n.1 tail)

chunks_one : (bytes other : List ℕ) (ts us : List ChunkTree) → AreBytes bytes → AreBytes other
    → MeanChunks bytes ts → MeanChunks other us
    → all_again chunk_again bytes ≡ all_again chunk_again other → ts ≡ us
chunks_one bytes other ts us fits fits_too m n e =
    let rule = (chunks lenient).padding in
    let is = items_are rule m.items (length bytes) bytes fits (omega arith) m.are in
    let is_too = items_are rule n.items (length other) other fits_too (omega arith) n.are in
    let again : List Item → List Tlv = map (item_again chunk_again) in
    items_one m.items n.items ts us (byte_items rule m.items bytes fits m.are)
    (byte_items rule n.items other fits_too n.are)
    (subst (AllByRecursion IsShortItem) is (each_short (length bytes) bytes fits))
    (subst (AllByRecursion IsShortItem) is_too (each_short (length other) other fits_too))
    m.mean n.mean (sym (ap again is) ∙ e ∙ ap again is_too)

-- ---- packets

abbrev meaning_with : ℕ → ℕ → ℕ → List ChunkTree → Meaning
meaning_with source destination tag ts =
    record { source = source; destination = destination; tag = tag; chunks = ts }

pub meaning_same : (l r : SctpPacketRef) (p q : PacketTree) → RefersTo l p → RefersTo r q
    → AreBytes l.chunks → AreBytes r.chunks
    → (l.common_header.source_port ≡ r.common_header.source_port)
    × (l.common_header.destination_port ≡ r.common_header.destination_port)
    × (l.common_header.verification_tag ≡ r.common_header.verification_tag) → (test : Bool)
    → (IsTrue test ↔ (all_again chunk_again l.chunks ≡ all_again chunk_again r.chunks))
    → IsTrue test ↔ (p.meaning ≡ q.meaning)
meaning_same l r p q ref ref_too fits fits_too numbers test tells =
    let again = trees_again (chunks lenient) chunk_tlv chunk_again each_chunk in (
      λ is. ap₂ (λ (a b : ℕ). meaning_with a b p.meaning.tag p.meaning.chunks)
          (sym ref.source ∙ numbers.0 ∙ ref_too.source)
          (sym ref.destination ∙ numbers.1 ∙ ref_too.destination)
          ∙ ap₂ (meaning_with q.meaning.source q.meaning.destination)
          (sym ref.tag ∙ numbers.2 ∙ ref_too.tag)
          (chunks_one l.chunks r.chunks p.meaning.chunks q.meaning.chunks fits fits_too ref.chunks
          ref_too.chunks (tells.0 is)),
      λ e. tells.1 (sym (again l.chunks p.meaning.chunks fits ref.chunks)
          ∙ ap (λ (x : Meaning). map chunk_tlv x.chunks) e
          ∙ again r.chunks q.meaning.chunks fits_too ref_too.chunks),
    )

-- where both have canonical packets, if and only if these are the same
pub canonical_same : (m n : Meaning) (test : Bool) → HasCanonical m → HasCanonical n
    → (IsTrue test ↔ (m ≡ n)) → IsTrue test ↔ (canonical m ≡ canonical n)
canonical_same m n test has has_too tells =
    (λ is. ap canonical (tells.0 is), λ e. tells.1 ((canonical_of m has).one n has_too e))
