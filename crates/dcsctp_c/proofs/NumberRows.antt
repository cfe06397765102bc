-- What a value of four bytes reads as is what the tables mean, of each kind whose value is one
-- number.
use Rattle.std.{proofs.Common.{◌≡◌, ◌∙◌, ℕ, Bool, true, false, List, Option, Some, None, Result, Ok, Err, ap, rules, ne_eqb, ◌==◌, if◌then◌else◌, length}, specs.Option.{option_and_then}}
use Rattle.dcsctp_tlv.specs.{Fault.{Fault, Length}, Frame.{lenient}, Number.{number32}, Parameter.{ParameterTree, row as parameter_row, members as parameter_members, Unknown as UnknownParameter}}
use Rattle.dcsctp_tlv.specs.SsnTsnResetRequest as reset_kind
use Rattle.dcsctp_tlv.specs.ZeroChecksumAcceptable as method_kind
use Rattle.dcsctp_cause.specs.Cause.{CauseTree, row as cause_row, members as cause_members, Unknown as UnknownCause}
use Rattle.dcsctp_cause.specs.NoUserData as cause_kind
use Rattle.dcsctp_chunk.specs.Shutdown as shutdown_kind
use Rattle.dcsctp_wire.specs.Chunk.{ChunkTree, chunk_row}
use Rattle.dcsctp_borrowed.proofs.TreeRows.{of_chunk, of_typed}
use Rattle.dcsctp_c.specs.{Part.{ChunkMeans, read_number, read_shutdown, shutdown_of, shutdown_at}, Parameter.{ParameterMeans, CauseMeans, number_at, number_of, cause_number_of}, declared.structs.DcsctpChunk.{DcsctpChunk}, declared.structs.DcsctpParameter.{DcsctpParameter}}

is_number : (test : Bool) (n m : ℕ) → (if test then Ok n else Err Length) ≡ Ok m
    → (if test then Some n else None) ≡ Some m
is_number true n m e = cc
is_number false n m e = absurd (let no : Err Length ≡ Ok m = e in cc)

shutdown : (value : List ℕ) (n : ℕ) → shutdown_kind.read value ≡ Ok n → read_number value ≡ Some n
shutdown value n e = is_number (length value == 4) (number32 value) n e

reset : (value : List ℕ) (n : ℕ) → reset_kind.read value ≡ Ok n → read_number value ≡ Some n
reset value n e = is_number (length value == 4) (number32 value) n e

method : (value : List ℕ) (n : ℕ) → method_kind.read value ≡ Ok n → read_number value ≡ Some n
method value n e = is_number (length value == 4) (number32 value) n e

no_data : (value : List ℕ) (n : ℕ) → cause_kind.read value ≡ Ok n → read_number value ≡ Some n
no_data value n e = is_number (length value == 4) (number32 value) n e

-- ---- SHUTDOWN

abbrev ReadsAs : ℕ → List ℕ → ChunkTree → Type 0
ReadsAs typ value t = read_shutdown typ value ≡ shutdown_of t

shutdown_alike : (typ flags : ℕ) (value : List ℕ) (t : ChunkTree)
    → (chunk_row lenient typ flags).means value t → read_shutdown typ value ≡ shutdown_of t
shutdown_alike typ flags = of_chunk ReadsAs typ flags (assumption shutdown)
    (λ isnt value u. search (rules, ne_eqb))

pub shutdown_there : (bytes : List ℕ) (c : DcsctpChunk) (tree : ChunkTree)
    → ChunkMeans bytes c tree → shutdown_at bytes c ≡ shutdown_of tree
shutdown_there bytes c tree m = ap (option_and_then (read_shutdown c.typ)) m.1
    ∙ shutdown_alike c.typ c.flags m.0 tree m.2

-- ---- a parameter or a cause that is one number

abbrev IsNumber : {T : Type 0} → (T → Option ℕ) → ℕ → List ℕ → T → Type 0
IsNumber number_of typ value t = (n : ℕ) → number_of t ≡ Some n → read_number value ≡ Some n

-- of a tree that isn't one
other : {A : Type 0} (n : ℕ) → None ≡ Some n → A
other n e = absurd (let no : None ≡ Some n = e in cc)

-- and of a kind that is one
one : (read : List ℕ → Result ℕ Fault)
    → ((value : List ℕ) (x : ℕ) → read value ≡ Ok x → read_number value ≡ Some x)
    → (value : List ℕ) (x : ℕ) → read value ≡ Ok x → (n : ℕ) → Some x ≡ Some n
    → read_number value ≡ Some n
one read is value x m n e = is value x m ∙ e

parameter_number : (typ : ℕ) (value : List ℕ) (t : ParameterTree)
    → (parameter_row typ).means value t → (n : ℕ) → number_of t ≡ Some n
    → read_number value ≡ Some n
parameter_number typ =
    of_typed (IsNumber number_of) typ parameter_members UnknownParameter
    (search (rules, other, one reset_kind.read reset, one method_kind.read method))
    (λ isnt value u n e. other n e)

cause_number : (code : ℕ) (value : List ℕ) (t : CauseTree) → (cause_row code).means value t
    → (n : ℕ) → cause_number_of t ≡ Some n → read_number value ≡ Some n
cause_number code = of_typed (IsNumber cause_number_of) code cause_members UnknownCause
    (search (rules, other, one cause_kind.read no_data)) (λ isnt value u n e. other n e)

pub parameter_number_there : (bytes : List ℕ) (p : DcsctpParameter) (tree : ParameterTree)
    (n : ℕ) → ParameterMeans bytes p tree → number_of tree ≡ Some n → number_at bytes p ≡ Some n
parameter_number_there bytes p tree n m e =
    ap (option_and_then read_number) m.1 ∙ parameter_number p.typ m.0 tree m.2 n e

pub cause_number_there : (bytes : List ℕ) (p : DcsctpParameter) (tree : CauseTree)
    (n : ℕ) → CauseMeans bytes p tree → cause_number_of tree ≡ Some n
    → number_at bytes p ≡ Some n
cause_number_there bytes p tree n m e =
    ap (option_and_then read_number) m.1 ∙ cause_number p.typ m.0 tree m.2 n e
