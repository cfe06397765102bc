-- A chunk is written again of its own bytes, a list in it item by item.
use Rattle.std.{proofs.Common.{◌≡◌, ℕ, ◌≤◌, ◌%◌, List, [], ◌++◌, length, take, drop, refl, sym, ap, ap₂, subst, ◌∙◌, arith, Ok, ne_eqb, append_assoc}, specs.Int.{w16, w32, to_be_bytes}, proofs.Math.Seq.{take-add}, proofs.lemmas.Bool.{leb-true}}
use Rattle.dcsctp_tlv.{specs.Frame.{Item, lenient}, specs.Image.{listed_tlv}, specs.Number.{AreBytes}, specs.Table.{IsUnnamed, ◌&◌}, specs.Parameter.{parameters, tlv as parameter_tlv}, proofs.KindLaws.{of_ok}}
use Rattle.dcsctp_cause.specs.Cause.{causes, tlv as cause_tlv, CauseTree}
use Rattle.dcsctp_tlv.specs.Parameter.{ParameterTree}
use Rattle.dcsctp_chunk.specs.Unknown as unknown
use Rattle.dcsctp_wire.specs.InitFields as init
use Rattle.dcsctp_wire.specs.ParameterList as list
use Rattle.dcsctp_wire.specs.Abort as abort
use Rattle.dcsctp_wire.specs.Error as error
use Rattle.dcsctp_wire.specs.Chunk.{ChunkTree, Unknown, table, chunks, chunk_row, tlv}
use Rattle.dcsctp_borrowed.{specs.Rewritten.{IsByteItem, item_again, listed_again, parameter_again, cause_again, chunk_again}, proofs.FrameItems.{bytes_after}, proofs.ItemsRewritten.{listed_is}, proofs.CausesRewritten.{each_cause}, proofs.ParametersRewritten.{each_parameter}, proofs.PlainRewritten.{one_flag, app, word_at, half_at, data_again, sack_again, shutdown_again, shutdown_ack_again, cookie_echo_again, cookie_ack_again, shutdown_complete_again, idata_again, forward_again, iforward_again}, proofs.TreeRows.{of_chunk_as}}

-- what a value of a type means, in bytes
abbrev ChunkAgain : ℕ → ℕ → List ℕ → ChunkTree → Type 0
ChunkAgain flags typ value t = AreBytes value → tlv t ≡ chunk_again typ flags value

-- ---- kinds with a list

grouped : (a b c d e : List ℕ) → (((a ++ b) ++ c) ++ d) ++ e ≡ a ++ (b ++ (c ++ (d ++ e)))
grouped a b c d e = simp append_assoc

-- the numbers before the parameters
leading_again : (value : List ℕ) (ps : List ParameterTree) → 16 ≤ length value → AreBytes value
    → init.leading (init.tree_of value ps) ≡ take 16 value
leading_again value ps size fits =
    let first = word_at 0 value (omega (arith, size)) fits in
    let second = word_at 4 value (omega (arith, size)) fits in
    let third = half_at 8 value (omega (arith, size)) fits in
    let fourth = half_at 10 value (omega (arith, size)) fits in
    let fifth = word_at 12 value (omega (arith, size)) fits in
    sym (grouped (to_be_bytes w32 _) (to_be_bytes w32 _) (to_be_bytes w16 _) (to_be_bytes w16 _)
    (to_be_bytes w32 _))
    ∙ ap₂ app (ap₂ app (ap₂ app (ap₂ app first second ∙ sym (take-add 4 4 value)) third
    ∙ sym (take-add 8 2 value)) fourth ∙ sym (take-add 10 2 value)) fifth
    ∙ sym (take-add 12 4 value)

init_is : (typ : ℕ) (value : List ℕ) (i : init.Tree) → (init.row lenient).means value i
    → AreBytes value
    → (init.format typ [] i).tlv
    ≡ listed_again parameter_again typ 0 (take 16 value) (drop 16 value)
init_is typ value i m fits =
    let size : 16 ≤ length value = leb-true 16 (length value) m.0 in
    subst (λ (x : init.Tree). (init.format typ [] x).tlv
    ≡ listed_again parameter_again typ 0 (take 16 value) (drop 16 value)) (sym m.1.2)
    (listed_is (parameters lenient) parameter_tlv parameter_again each_parameter typ 0
    (init.leading (init.tree_of value m.1.0)) (take 16 value) (drop 16 value) m.1.0
    (leading_again value m.1.0 size fits) (bytes_after 16 value fits) m.1.1)

list_is : (typ : ℕ) (value : List ℕ) (ps : List ParameterTree) → (list.row lenient).means value ps
    → AreBytes value → (list.format typ [] ps).tlv ≡ listed_again parameter_again typ 0 [] value
list_is typ value ps m fits =
    subst (λ (x : List ParameterTree). (list.format typ [] x).tlv
    ≡ listed_again parameter_again typ 0 [] value) (sym m.1.2)
    (listed_is (parameters lenient) parameter_tlv parameter_again each_parameter typ 0 [] [] value
    m.1.0 refl fits m.1.1)

abort_is : (flags : ℕ) (value : List ℕ) (a : abort.Tree) → (abort.row lenient flags).means value a
    → AreBytes value → (abort.format a).tlv ≡ listed_again cause_again 6 (flags % 2) [] value
abort_is flags value a m fits =
    subst (λ (x : abort.Tree). (abort.format x).tlv
    ≡ listed_again cause_again 6 (flags % 2) [] value) (sym m.1.2)
    (ap (λ (f : ℕ). listed_tlv 6 f [] cause_tlv m.1.0) (one_flag flags)
    ∙ listed_is (causes lenient) cause_tlv cause_again each_cause 6 (flags % 2) [] [] value
    m.1.0 refl fits m.1.1)

error_is : (value : List ℕ) (cs : List CauseTree) → (error.row lenient).means value cs
    → AreBytes value → (error.format cs).tlv ≡ listed_again cause_again 9 0 [] value
error_is value cs m fits =
    subst (λ (x : List CauseTree). (error.format x).tlv ≡ listed_again cause_again 9 0 [] value)
    (sym m.1.2)
    (listed_is (causes lenient) cause_tlv cause_again each_cause 9 0 [] [] value
    m.1.0 refl fits m.1.1)

-- ---- any type

others : (flags typ : ℕ) → IsUnnamed (table lenient flags) typ → (value : List ℕ) (u : unknown.Tree)
    → unknown.read typ flags value ≡ Ok u → ChunkAgain flags typ value (Unknown u)
others flags typ isnt value u e fits =
    let at : unknown.Tree = record { typ = typ; flags = flags; value = value } in
    let is : at ≡ u = of_ok _ u e in
    rw (
      ne_eqb typ 0 isnt.0,
      ne_eqb typ 1 isnt.1.0,
      ne_eqb typ 2 isnt.1.1.0,
      ne_eqb typ 3 isnt.1.1.1.0,
      ne_eqb typ 4 isnt.1.1.1.1.0,
      ne_eqb typ 5 isnt.1.1.1.1.1.0,
      ne_eqb typ 6 isnt.1.1.1.1.1.1.0,
      ne_eqb typ 7 isnt.1.1.1.1.1.1.1.0,
      ne_eqb typ 8 isnt.1.1.1.1.1.1.1.1.0,
      ne_eqb typ 9 isnt.1.1.1.1.1.1.1.1.1.0,
      ne_eqb typ 10 isnt.1.1.1.1.1.1.1.1.1.1.0,
      ne_eqb typ 11 isnt.1.1.1.1.1.1.1.1.1.1.1.0,
      ne_eqb typ 14 isnt.1.1.1.1.1.1.1.1.1.1.1.1.0,
      ne_eqb typ 64 isnt.1.1.1.1.1.1.1.1.1.1.1.1.1.0,
      ne_eqb typ 130 isnt.1.1.1.1.1.1.1.1.1.1.1.1.1.1.0,
      ne_eqb typ 192 isnt.1.1.1.1.1.1.1.1.1.1.1.1.1.1.1.0,
      ne_eqb typ 194 isnt.1.1.1.1.1.1.1.1.1.1.1.1.1.1.1.1.0,
    ) (ap (λ (v : unknown.Tree). tlv (Unknown v)) (sym is))

-- what a value of a type means, in bytes
pub chunk_is : (typ flags : ℕ) (value : List ℕ) (t : ChunkTree)
    → (chunk_row lenient typ flags).means value t
    → AreBytes value → tlv t ≡ chunk_again typ flags value
chunk_is typ flags =
    of_chunk_as (ChunkAgain flags) typ flags
    (data_again flags & init_is 1 & init_is 2 & sack_again & list_is 4 & list_is 5
    & abort_is flags & shutdown_again & (λ value t e fits. shutdown_ack_again value t e)
    & error_is & (λ value t e fits. cookie_echo_again value t e)
    & (λ value t e fits. cookie_ack_again value t e)
    & (λ value t e fits. shutdown_complete_again flags value t e) & idata_again flags
    & list_is 130 & forward_again & iforward_again & tt)
    (others flags typ)

pub each_chunk : (i : Item) (t : ChunkTree) → IsByteItem i
    → ((chunks lenient).row i.first i.second).means i.value t
    → tlv t ≡ item_again chunk_again i
each_chunk i t fits m = chunk_is i.first i.second i.value t m fits.value
