-- The laws of a level whose items have a type in their first two bytes, by what its kinds satisfy.
use Rattle.std.{proofs.Common.{◌≡◌, ℕ, ◌/◌, ◌%◌, ◌+◌, ◌*◌, ◌≤◌, Bool, List, [], ◌∷◌, length, Result, refl, sym, ap, subst, ◌∙◌, arith}, specs.Int.{w16, from_be_bytes}}
use Rattle.dcsctp_tlv.{specs.Decided.{LawfulRow, IgnoresPadding}, specs.Frame.{lenient}, specs.Image.{solid, zeroed, size_of}, specs.Kinds.{Member, kinds_of, plain_of, rows, Entry, format_of, parts_of, ChecksKind}, specs.Level.{plain, map_ok}, specs.Reading.{Answers, checking, RowAnswer, Counted, Unplaced}, specs.declared.error.ChunkParseError.{ChunkParseError}, specs.Table.{Content, Named, IsUnnamed}, specs.Typed.{item_type, typed_row, typed_level}, proofs.Accounts.{Accounts, plain_account}, proofs.Forms.{FormsTrees}, proofs.KindChecks.{AreSingle, table_finds, finds_tested}, proofs.KindLaws.{of_map_ok}, proofs.Laws.{Lawful, plain_lawful}, proofs.Lenient.{Loosens}, proofs.Satisfies.{AllSatisfy, AllFound, Sound, all_lawful, all_sound}, proofs.ParameterKinds.{type_back, unknown_keeps, unknown_forms}, proofs.ReadsBack.{zeroed-solid}, proofs.Tables.{of_table, of_others}, proofs.Unpadded.{ok_unpadded, list_unpadded}}
use Rattle.dcsctp_tlv.specs.UnknownParameter as unknown

-- What is shown of a level's kinds and of its trees; `tree` is that of a type that isn't named.
pub record TypedFacts {T : Type 0} (members : List (Member T)) (of : T → Entry T)
    (tree : unknown.Tree → T) (Keeps : Content → List ℕ → Type 0)
    (IsKept : ℕ → List ℕ → Type 0) : Type 0 where
  pub satisfied : AllSatisfy Keeps members
  pub found : AllFound Keeps IsKept of members
  pub single : (typ : ℕ) → AreSingle (λ t. 1) typ members
  pub same : (u : unknown.Tree) → (format_of (of (tree u))).tlv ≡ (unknown.format u).tlv
  pub formed : (u : unknown.Tree) → IsUnnamed (rows lenient 0 members) u.typ
      → (format_of (of (tree u))).IsWellFormed
  pub one : (u : unknown.Tree) → parts_of (of (tree u)) ≡ 1

module _ {T : Type 0} {members : List (Member T)} {of : T → Entry T} {tree : unknown.Tree → T}
    {Keeps : Content → List ℕ → Type 0} {IsKept : ℕ → List ℕ → Type 0}
    (facts : TypedFacts members of tree Keeps IsKept)
  where
    abbrev table : List (Named T)
    table = rows lenient 0 members

    unknown_sound : (typ : ℕ) → IsUnnamed table typ
        → Sound IsKept of typ (plain (λ value. map_ok tree (unknown.read typ value)))
    unknown_sound typ unnamed = record {
      forms = unknown_forms (λ t. (format_of (of t)).IsWellFormed) typ tree
          (λ value. facts.formed (record { typ = typ; value = value }) unnamed);
      account = λ value t kept. plain_account (unknown.read typ) tree (λ t. (format_of (of t)).tlv)
          value t (λ u e. ap size_of (facts.same u) ∙ unknown_keeps typ value u e);
      counted = λ value t m.
          (let u = of_map_ok tree (unknown.read typ value) t m in
          subst (λ (t : T). 4 * parts_of (of t) ≤ 4 + length value) (sym u.1.1)
          (rw (facts.one u.0) (omega arith)));
      unpadded = ok_unpadded _;
    }

    sound : (typ : ℕ) → Sound IsKept of typ (typed_row table tree typ)
    sound typ = of_table (Sound IsKept of) table typ _
        (all_sound Keeps IsKept of 0 members facts.satisfied facts.found) (unknown_sound typ)

    -- each value means one tree or has one fault
    pub typed_row_lawful : (typ : ℕ) → LawfulRow (typed_row table tree typ)
    typed_row_lawful typ = of_table (λ n row. LawfulRow row) table typ _
        (all_lawful Keeps lenient 0 members facts.satisfied) (λ unnamed. plain_lawful _)

    pub typed_lawful : (strict : Bool) → Lawful (typed_level (typed_row table tree) strict)
    typed_lawful strict first second =
        typed_row_lawful (from_be_bytes w16 (first ∷ second ∷ []))

    -- a strict reader's items are a lenient one's
    pub typed_looser : (strict : Bool)
        → Loosens (typed_level (typed_row table tree) strict)
        (typed_level (typed_row table tree) lenient)
    typed_looser strict =
        record { row = λ first second value t m. m; any = λ size there. refl }

    -- what is read is well-formed
    pub typed_form : FormsTrees (typed_level (typed_row table tree) lenient)
        (λ t. (format_of (of t)).IsWellFormed)
    typed_form = record {
      formed = λ first second. (sound (from_be_bytes w16 (first ∷ second ∷ []))).forms;
    }

    -- and written in the same space, where it is kept
    pub typed_account : Accounts (typed_level (typed_row table tree) lenient)
        (λ t. (format_of (of t)).tlv) (λ i. IsKept (item_type i) i.value)
    typed_account =
        record { sized = λ i t kept. (sound (item_type i)).account i.value t kept }

    -- no fault of a lenient reader is that of padding
    pub typed_unpadded : IgnoresPadding (typed_level (typed_row table tree) lenient)
    typed_unpadded =
        list_unpadded (typed_level (typed_row table tree) lenient) (λ _ _. refl)
        (λ first second. (sound (from_be_bytes w16 (first ∷ second ∷ []))).unpadded)

    -- a check of the value that says what its kind does says what the table does
    pub typed_tested : (typ : ℕ) (value : List ℕ) (r : Result (Unit {0}) ChunkParseError)
        → ChecksKind (kinds_of (plain_of members)) 0 typ value r
        → Answers checking (λ (u : Unit {0}). u) (Counted (λ t. tt) (Unplaced (RowAnswer (typed_row table tree typ) value))) r
    typed_tested typ value r p = finds_tested (typed_row table tree typ) value r
        (table_finds (λ t. 1) members lenient 0 typ
        (plain (λ v. map_ok tree (unknown.read typ v))) value r (facts.single typ) (_, refl, refl) p)

-- ---- a type that isn't named

-- it is written as it was, and its two bytes are read as its type again
abbrev MeansUnknown : {T : Type 0} → List (Named T) → (unknown.Tree → T) → unknown.Tree → ℕ → Type 0
MeansUnknown table tree u typ =
    (typed_row table tree typ).means (zeroed (solid u.value)) (tree u)

pub unknown_means : {T : Type 0} (table : List (Named T)) (tree : unknown.Tree → T)
    (u : unknown.Tree) → IsUnnamed table u.typ
    → MeansUnknown table tree u (from_be_bytes w16 (u.typ / 256 ∷ u.typ % 256 ∷ []))
unknown_means table tree u h = subst (MeansUnknown table tree u) (sym (type_back u.typ))
    (of_others (λ row. row.means (zeroed (solid u.value)) (tree u)) table u.typ _ h
    (rw (zeroed-solid u.value) refl))
