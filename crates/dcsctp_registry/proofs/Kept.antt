-- What is read in place here is what the owned packet keeps as bytes, of a type that isn't named.
use Rattle.std.proofs.Common.{◌≡◌, ℕ, List, ap, sym}
use Rattle.dcsctp_tlv.{specs.Frame.{lenient}, specs.Level.{Row, plain, map_ok}, specs.Table.{IsUnnamed}, specs.UnknownParameter.{Tree as UnnamedTree, read as unnamed_at}, proofs.KindLaws.{of_map_ok}, proofs.Tables.{of_others}}
use Rattle.dcsctp_tlv.specs.Parameter as parameter
use Rattle.dcsctp_cause.specs.Cause as cause
use Rattle.dcsctp_chunk.specs.Unknown.{Tree as UnknownTree, read as unknown_at}
use Rattle.dcsctp_wire.specs.Chunk.{ChunkTree, Unknown, table, chunk_row}
use Rattle.dcsctp_borrowed.proofs.TreeRows.{of_typed, of_chunk}
use Rattle.dcsctp_registry.specs.{CauseLayouts.{cause_rows}, ChunkLayouts.{chunk_rows}, ParameterLayouts.{parameter_rows}, Registered.{read_in, registered_parameter as parameter_of, registered_cause as cause_of, registered_chunk as chunk_of}}

-- a tree of a type that isn't named is the type and the value
of_unnamed : {T : Type 0} (tree : UnnamedTree → T) (typ : ℕ) (value : List ℕ) (t : T)
    → (plain (λ v. map_ok tree (unnamed_at typ v))).means value t
    → t ≡ tree (record { typ = typ; value = value })
of_unnamed tree typ value t m = let x = of_map_ok tree (unnamed_at typ value) t m in
    let e = x.1.0 in let f = x.1.1 in cc

-- and of a chunk the flags too
of_unknown : (typ flags : ℕ) (value : List ℕ) (t : ChunkTree)
    → (plain (λ v. map_ok Unknown (unknown_at typ flags v))).means value t
    → t ≡ Unknown (record { typ = typ; flags = flags; value = value })
of_unknown typ flags value t m = let x = of_map_ok Unknown (unknown_at typ flags value) t m in
    let e = x.1.0 in let f = x.1.1 in cc

-- ---- parameters

abbrev Parameter : ℕ → List ℕ → parameter.ParameterTree → Type 0
Parameter typ value t =
    (parameter.row typ).means value t → read_in parameter_rows typ value ≡ parameter_of t

unnamed_parameter : (typ : ℕ) → IsUnnamed parameter.table typ → (value : List ℕ) (u : UnnamedTree)
    → Parameter typ value (parameter.Unknown u)
unnamed_parameter typ isnt value u =
    of_others (λ (r : Row parameter.ParameterTree). r.means value (parameter.Unknown u)
    → read_in parameter_rows typ value ≡ parameter_of (parameter.Unknown u)) parameter.table typ
    (plain (λ v. map_ok parameter.Unknown (unnamed_at typ v))) isnt
    (λ m. ap parameter_of (sym (of_unnamed parameter.Unknown typ value (parameter.Unknown u) m)))

pub parameters_kept : (typ : ℕ) (value : List ℕ) (t : parameter.ParameterTree)
    → (parameter.row typ).means value t → read_in parameter_rows typ value ≡ parameter_of t
unfolding parameter_rows
parameters_kept typ value t m =
    of_typed Parameter typ parameter.members parameter.Unknown
    (assumption) (unnamed_parameter typ) value t m m

-- ---- error causes

abbrev Cause : ℕ → List ℕ → cause.CauseTree → Type 0
Cause typ value t = (cause.row typ).means value t → read_in cause_rows typ value ≡ cause_of t

unnamed_cause : (typ : ℕ) → IsUnnamed cause.table typ → (value : List ℕ) (u : UnnamedTree)
    → Cause typ value (cause.Unknown u)
unnamed_cause typ isnt value u =
    of_others (λ (r : Row cause.CauseTree). r.means value (cause.Unknown u)
    → read_in cause_rows typ value ≡ cause_of (cause.Unknown u)) cause.table typ
    (plain (λ v. map_ok cause.Unknown (unnamed_at typ v))) isnt
    (λ m. ap cause_of (sym (of_unnamed cause.Unknown typ value (cause.Unknown u) m)))

pub causes_kept : (typ : ℕ) (value : List ℕ) (t : cause.CauseTree)
    → (cause.row typ).means value t → read_in cause_rows typ value ≡ cause_of t
unfolding cause_rows
causes_kept typ value t m =
    of_typed Cause typ cause.members cause.Unknown
    (assumption) (unnamed_cause typ) value t m m

-- ---- chunks

abbrev Chunk : ℕ → ℕ → List ℕ → ChunkTree → Type 0
Chunk flags typ value t =
    (chunk_row lenient typ flags).means value t → read_in chunk_rows typ value ≡ chunk_of t

unknown_chunk : (typ flags : ℕ) → IsUnnamed (table lenient flags) typ
    → (value : List ℕ) (u : UnknownTree) → Chunk flags typ value (Unknown u)
unknown_chunk typ flags isnt value u =
    of_others (λ (r : Row ChunkTree). r.means value (Unknown u)
    → read_in chunk_rows typ value ≡ chunk_of (Unknown u)) (table lenient flags) typ
    (plain (λ v. map_ok Unknown (unknown_at typ flags v))) isnt
    (λ m. ap chunk_of (sym (of_unknown typ flags value (Unknown u) m)))

pub chunks_kept : (typ flags : ℕ) (value : List ℕ) (t : ChunkTree)
    → (chunk_row lenient typ flags).means value t → read_in chunk_rows typ value ≡ chunk_of t
unfolding chunk_rows
chunks_kept typ flags value t m =
    of_chunk (Chunk flags) typ flags (assumption) (unknown_chunk typ flags) value t m m
