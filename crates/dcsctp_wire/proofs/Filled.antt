-- A chunk that was pushed with an empty list, and whose list was then filled in its place.
use Rattle.std.{proofs.Common.{◌≡◌, ◌∙◌, ℕ, List, [], ◌∷◌, ◌++◌, Result, Ok, Err, drop, ap, IfOk, slice_set, vec_len}, proofs.Math.Seq.{set-append_seam}, specs.declared.vec.Vec.{Vec}}
use Rattle.dcsctp_tlv.specs.{Frame.{lenient}, Level.{Row, Appends, HasMeaning, MeansTrees}, Parameter.{ParameterTree, parameters}}
use Rattle.dcsctp_wire.specs.InitFields as init

-- such an item, which the row means then, is one more
pub filled : {X T Z : Type 0} {view : X → T} {IsTight : X → Type 0} {row : Row T} {v : List ℕ}
    {pushed : List X} {n : ℕ} (list : Vec X Z) (x y : X) → pushed ≡ list.items ++ x ∷ []
    → n ≡ vec_len list → row.means v (view y) → IsTight y
    → Appends view IsTight row v list.items (slice_set pushed n y)
filled list x y is e means tight = record {
  last = y;
  items = rw (is, e ∙ list.ok.0) (set-append_seam list.items x [] y);
  means = means;
  tight = tight;
}

-- an INIT or INIT ACK, whose numbers stay
pub init_filled : {E : Type 0} (r : Result (Unit {0}) E) (value : List ℕ) (t : init.Tree)
    (ps : List ParameterTree) → HasMeaning (init.row lenient) value → t ≡ init.tree_of value []
    → IfOk r (λ _. MeansTrees (parameters lenient) (drop 16 value) ps)
    → IfOk r (λ _. (init.row lenient).means value (record t { parameters = ps }))
init_filled (Ok u) value t ps some numbers m =
    (some.1.0, (ps, m, ap (λ (t : init.Tree). record t { parameters = ps }) numbers))
init_filled (Err e) value t ps some numbers m = tt
