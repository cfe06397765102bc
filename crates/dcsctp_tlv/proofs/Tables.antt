-- What holds of each row of a table holds of the row that a type has.
use Rattle.std.proofs.{Common.{ℕ, List, [], ◌∷◌, sym, subst, ◌==◌, eqb-true, ne_eqb}, lemmas.Bool.{eqb-false}}
use Rattle.dcsctp_tlv.{specs.Level.{Row}, specs.Table.{Named, row_of, IsUnnamed}, proofs.Forms.{picked}}

-- each named row keeps a law at its type
abbrev pub EachNamed : {T : Type 0} → (ℕ → Row T → Type 0) → List (Named T) → Type 0
EachNamed Holds [] = Unit {0}
EachNamed Holds (kind ∷ kinds) = Holds kind.typ kind.row × EachNamed Holds kinds

pub of_table : {T : Type 0} (Holds : ℕ → Row T → Type 0) (kinds : List (Named T)) (typ : ℕ)
    (others : Row T) → EachNamed Holds kinds → (IsUnnamed kinds typ → Holds typ others)
    → Holds typ (row_of kinds typ others)
of_table Holds [] typ others each rest = rest tt
of_table Holds (kind ∷ kinds) typ others each rest =
    picked (Holds typ) (typ == kind.typ) kind.row (row_of kinds typ others)
    (λ is. subst (λ (n : ℕ). Holds n kind.row) (sym (eqb-true typ kind.typ is)) each.0)
    (λ not. of_table Holds kinds typ others each.1
    (λ unnamed. rest (eqb-false typ kind.typ not, unnamed)))

-- an unnamed type has the row of all others
pub of_others : {T : Type 0} (Holds : Row T → Type 0) (kinds : List (Named T)) (typ : ℕ)
    (others : Row T) → IsUnnamed kinds typ → Holds others → Holds (row_of kinds typ others)
of_others Holds [] typ others unnamed h = h
of_others Holds (kind ∷ kinds) typ others unnamed h =
    rw (ne_eqb typ kind.typ unnamed.0) (of_others Holds kinds typ others unnamed.1 h)
