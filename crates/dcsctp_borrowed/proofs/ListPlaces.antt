-- Where a chunk's list lies: what the chunk's row of the table means of the value, the list there
-- means.
use Rattle.std.proofs.Common.{◌≡◌, ℕ, List, Option, Some, None, refl, ap, subst, rules, ne_eqb}
use Rattle.dcsctp_tlv.specs.{Frame.{lenient}, Level.{Level, MeansSome}, Parameter.{ParameterTree, parameters}}
use Rattle.dcsctp_cause.specs.Cause.{CauseTree, causes}
use Rattle.dcsctp_wire.specs.{InitFields.{Tree as InitTree, row as init_row}, ParameterList.{row as parameter_list_row}, Abort.{Tree as AbortTree, row as abort_row}, Error.{row as error_row}, Chunk.{ChunkTree, Init, HeartbeatRequest, Abort, Error, chunk_row}}
use Rattle.dcsctp_borrowed.{specs.Front.{GivesList, MeansList}, specs.RawParameters.{parameter_bytes, parameters_of}, specs.RawCauses.{cause_bytes, causes_of}, proofs.TreeRows.{of_chunk}}

-- ---- what is given of a place

-- it means what the place means
pub given : {T : Type 0} (level : Level T) (place result : Option (List ℕ)) (ts : Option (List T))
    → GivesList level place result → MeansList level place ts → MeansList level result ts
given level place (Some bytes) ts g m = subst (λ (p : Option (List ℕ)). MeansList level p ts) g.0 m
given level None None ts g m = m
given level (Some bytes) None (Some trees) g m = absurd (g bytes refl (trees, m))
given level (Some bytes) None None g m = absurd m

-- nothing, where the bytes there mean no list
pub not_given : {T : Type 0} (level : Level T) (place : Option (List ℕ)) (rest : List ℕ)
    → Some rest ≡ place → ¬ MeansSome level rest → GivesList level place None
not_given level place rest is none bytes e m =
    none (subst (λ (b : List ℕ). MeansSome level b) (let same : bytes ≡ rest = cc in same) m)

-- ---- parameters

abbrev HasParameters : ℕ → List ℕ → ChunkTree → Type 0
HasParameters typ value t =
    MeansList (parameters lenient) (parameter_bytes typ value) (parameters_of t)

init : (value : List ℕ) (i : InitTree) → (init_row lenient).means value i
    → HasParameters 1 value (Init i)
init value i m = rw (m.0, ap (λ (x : InitTree). x.parameters) m.1.2) m.1.1

listed : (value : List ℕ) (ps : List ParameterTree) → (parameter_list_row lenient).means value ps
    → HasParameters 4 value (HeartbeatRequest ps)
listed value ps m = rw m.1.2 m.1.1

-- of what a chunk means, its parameters lie there
pub parameters_there : (typ flags : ℕ) (value : List ℕ) (t : ChunkTree)
    → (chunk_row lenient typ flags).means value t
    → MeansList (parameters lenient) (parameter_bytes typ value) (parameters_of t)
parameters_there typ flags = of_chunk HasParameters typ flags (assumption (init, listed))
    (λ isnt value u. search (rules, ne_eqb))

-- ---- error causes

abbrev HasCauses : ℕ → List ℕ → ChunkTree → Type 0
HasCauses typ value t = MeansList (causes lenient) (cause_bytes typ value) (causes_of t)

abort : (flags : ℕ) (value : List ℕ) (a : AbortTree) → (abort_row lenient flags).means value a
    → HasCauses 6 value (Abort a)
abort flags value a m = rw (ap (λ (x : AbortTree). x.causes) m.1.2) m.1.1

error : (value : List ℕ) (cs : List CauseTree) → (error_row lenient).means value cs
    → HasCauses 9 value (Error cs)
error value cs m = rw (m.0, m.1.2) m.1.1

-- of what a chunk means, its causes lie there
pub causes_there : (typ flags : ℕ) (value : List ℕ) (t : ChunkTree)
    → (chunk_row lenient typ flags).means value t
    → MeansList (causes lenient) (cause_bytes typ value) (causes_of t)
causes_there typ flags = of_chunk HasCauses typ flags (assumption (abort flags, error))
    (λ isnt value u. search (rules, ne_eqb))
