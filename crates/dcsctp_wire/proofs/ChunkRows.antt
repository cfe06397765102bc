-- What the kinds of chunk satisfy, a line for each, and by it the table of chunks.
use Rattle.std.proofs.Common.{rules, ℕ, ◌+◌, ◌*◌, ◌≤◌, Bool, List, length, Result, refl, sym, subst, arith, inl, inr, codes}
use Rattle.dcsctp_tlv.{specs.declared.error.ChunkParseError.{ChunkParseError}, specs.Decided.{LawfulRow, IgnoresPadding}, specs.Frame.{lenient}, specs.Level.{Row, plain, map_ok}, specs.Table.{IsUnnamed, ◌&◌}, proofs.Accounts.{Accounts, plain_account}, proofs.Counts.{Counts}, proofs.Forms.{FormsTrees}, proofs.KindLaws.{of_ok, of_map_ok}, proofs.Laws.{Lawful, plain_lawful}, proofs.Lenient.{Loosens}, proofs.Tables.{of_table}, proofs.Unpadded.{ok_unpadded, list_unpadded}, specs.Kinds.{ChecksKind}, proofs.Satisfies.{AllSatisfy, AllFound, SatisfiesOf, Sound, kept_satisfies, plain_satisfies, all_lawful, all_sound, rows_looser}, proofs.KindChecks.{AreSingle, Finds, table_finds}}
use Rattle.dcsctp_chunk.{specs.PlainKinds.{plain_kinds}, specs.Unknown.{read as unknown_at}, proofs.ForwardTsnLaws.{forward_tsn_laws, iforward_tsn_laws}, proofs.SackLaws.{sack_laws}}
use Rattle.dcsctp_chunk.proofs.Laws as kind
use Rattle.dcsctp_wire.{specs.Chunk.{ChunkTree, Unknown, members, table, chunks, chunk_row, entry, HoldsCauses, tlv as chunk_tlv, parts as chunk_parts, IsWellFormed as IsChunkWellFormed}, specs.Account.{AreTextsKept}, proofs.ListRows.{KeepTexts, KeepsAt, init_satisfies, parameter_list_satisfies, abort_satisfies, error_satisfies}}

-- ---- the kinds

satisfied : AllSatisfy KeepsAt members
satisfied =
    kept_satisfies 0 _ _ kind.data_laws (λ value is. tt) kind.data_kept_tlv kind.data_kept_width &
    init_satisfies 1 (codes "INIT") &
    init_satisfies 2 (codes "INIT-ACK") &
    plain_satisfies 3 _ sack_laws &
    parameter_list_satisfies 4 _ &
    parameter_list_satisfies 5 _ &
    abort_satisfies &
    plain_satisfies 7 _ kind.shutdown_laws &
    plain_satisfies 8 _ kind.shutdown_ack_laws &
    error_satisfies &
    plain_satisfies 10 _ kind.cookie_echo_laws &
    plain_satisfies 11 _ kind.cookie_ack_laws &
    plain_satisfies 14 _ kind.shutdown_complete_laws &
    kept_satisfies 64 _ _ kind.idata_laws (λ value is. tt) kind.idata_kept_tlv kind.idata_kept_width &
    parameter_list_satisfies 130 _ &
    plain_satisfies 192 _ forward_tsn_laws &
    plain_satisfies 194 _ iforward_tsn_laws & tt

-- the causes keep their texts
abbrev KeepsCauses : ℕ → List ℕ → Type 0
KeepsCauses typ value = HoldsCauses typ → KeepTexts value

found : AllFound KeepsAt KeepsCauses entry members
found = search (rules, inl, inr)

-- what the kind of each tree satisfies
pub satisfies_of : (t : ChunkTree) → SatisfiesOf KeepsAt (entry t)
satisfies_of (Unknown u) = tt
satisfies_of t = assumption satisfied

-- ---- a type that isn't named

abbrev others : ℕ → ℕ → Row ChunkTree
others typ flags = plain (λ value. map_ok Unknown (unknown_at typ flags value))

unknown_sound : (typ flags : ℕ) → IsUnnamed (table lenient flags) typ
    → Sound KeepsCauses entry typ (others typ flags)
unknown_sound typ flags unnamed = record {
  forms = λ value t e. subst IsChunkWellFormed
      (of_ok (Unknown (record { typ = typ; flags = flags; value = value })) t e) unnamed;
  account = λ value t kept m. plain_account (unknown_at typ flags) Unknown chunk_tlv value t
      (λ u e. kind.unknown_laws.keeps typ flags value u tt e) m;
  counted = λ value t m.
      (let x = of_map_ok Unknown (unknown_at typ flags value) t m in
      subst (λ (u : ChunkTree). 4 * chunk_parts u ≤ 4 + length value) (sym x.1.1) (omega arith));
  unpadded = ok_unpadded _;
}

-- ---- the table

sound : (typ flags : ℕ) → Sound KeepsCauses entry typ (chunk_row lenient typ flags)
sound typ flags = of_table (Sound KeepsCauses entry) (table lenient flags) typ _
    (all_sound KeepsAt KeepsCauses entry flags members satisfied found) (unknown_sound typ flags)

-- each row of the table of chunks is a function of the value, or has one answer otherwise
pub chunks_lawful : (strict : Bool) → Lawful (chunks strict)
chunks_lawful strict typ flags = of_table (λ n row. LawfulRow row) (table strict flags) typ _
    (all_lawful KeepsAt strict flags members satisfied) (λ unnamed. plain_lawful _)

pub chunks_looser : (strict : Bool) → Loosens (chunks strict) (chunks lenient)
chunks_looser strict = record {
  row = λ typ flags. rows_looser KeepsAt strict flags members satisfied typ _;
  any = λ size there. refl;
}

-- the check of the kinds without a list says what the row of such a type does
pub plain_finds : (strict : Bool) (typ flags : ℕ) (value : List ℕ)
    (r : Result (Unit {0}) ChunkParseError) → AreSingle chunk_parts typ members
    → ChecksKind plain_kinds flags typ value r
    → Finds chunk_parts (chunk_row strict typ flags) value r
plain_finds strict typ flags value r single p =
    table_finds chunk_parts members strict flags typ (others typ flags) value r single
    (_, refl, refl) p

pub chunks_form : FormsTrees (chunks lenient) IsChunkWellFormed
chunks_form = record { formed = λ typ flags. (sound typ flags).forms }

pub chunks_account : Accounts (chunks lenient) chunk_tlv AreTextsKept
chunks_account =
    record { sized = λ i t kept. (sound i.first i.second).account i.value t kept }

pub chunks_count : Counts (chunks lenient) chunk_parts
chunks_count = record { bound = λ i t m. (sound i.first i.second).counted i.value t m }

pub chunks_unpadded : IgnoresPadding (chunks lenient)
chunks_unpadded =
    list_unpadded (chunks lenient) (λ _ _. refl) (λ typ flags. (sound typ flags).unpadded)
