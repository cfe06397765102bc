-- The check of a kind without a list, at the level of a table that has the kinds' rows.
use Rattle.std.proofs.Common.{◌≡◌, ℕ, Bool, cond, true, false, List, [], ◌∷◌, Result, Ok, Err, inl, inr, ap, refl, sym, ◌==◌, ◌≢◌, ne_eqb, IsOk}
use Rattle.dcsctp_tlv.{specs.declared.error.ChunkParseError.{ChunkParseError}, specs.declared.error.LocatedFault.{LocatedFault}, specs.Fault.{Fault}, specs.Level.{Row, plain, if_row, map_ok}, specs.Reading.{Answers, checking, locating, Tested, RowAnswer, Counted, Unplaced}, specs.Table.{row_of}, proofs.Places.{fault_at_front}, specs.Kinds.{Member, Reader, AtFixed, Nested, kinds_of, if_plain, plain_of, rows, row_as, Checks, ChecksKind}}

-- what the check of a whole item answers, where its value is checked first
abbrev pub whole : Result (Unit {0}) ChunkParseError → Result ℕ LocatedFault
whole (Ok u) = Ok 1
whole (Err e) = Err (record { offset = 0; fault = e })

-- that is one part, or the fault of the item as a whole
abbrev pub Finds : {T : Type 0} → (T → ℕ) → Row T → List ℕ → Result (Unit {0}) ChunkParseError
    → Type 0
Finds parts row value r = Answers locating (λ (n : ℕ). n) (Counted parts (RowAnswer row value)) (whole r)

-- a tree of the kind has one part; the type is that of no kind with a list
abbrev pub IsSingle : {X T : Type 0} → (T → ℕ) → ℕ → ℕ → (X → T) → Reader X → Type 0
IsSingle {X} parts typ n tree (AtFixed read) = (x : X) → parts (tree x) ≡ 1
IsSingle parts typ n tree (Nested row) = typ ≢ n

abbrev pub AreSingle : {T : Type 0} → (T → ℕ) → ℕ → List (Member T) → Type 0
AreSingle parts typ [] = Unit {0}
AreSingle parts typ (m ∷ ms) =
    IsSingle parts typ m.kind.typ m.tree m.kind.reader × AreSingle parts typ ms

kind_finds : {A T : Type 0} (parts : T → ℕ) (tree : A → T) → ((x : A) → parts (tree x) ≡ 1)
    → (read : List ℕ → Result A Fault) (value : List ℕ) (r : Result (Unit {0}) ChunkParseError)
    → Answers checking (λ (u : Unit {0}). u) (Tested (read value)) r
    → Finds parts (plain (λ v. map_ok tree (read v))) value r
kind_finds {A} {T} parts tree one read value (Ok x) p = found (read value) p where
  found : (a : Result A Fault) → IsOk a → (t : T) × (map_ok tree a ≡ Ok t) × (1 ≡ parts t)
  found (Ok x) h = (tree x, refl, sym (one x))
  found (Err d) h = absurd (let e : false ≡ true = h in cc)
kind_finds parts tree one read value (Err e) p =
    fault_at_front (plain (λ v. map_ok tree (read v))) parts value (Tested (read value))
    (λ f is. (ap (map_ok tree) is, refl)) e p

-- any value of a type that has none of the kinds passes
other_finds : {T : Type 0} (parts : T → ℕ) (row : Row T) (value : List ℕ)
    (r : Result (Unit {0}) ChunkParseError) → Counted parts (RowAnswer row value) (Ok 1) → IsOk r
    → Finds parts row value r
other_finds parts row value (Ok x) means p = means
other_finds parts row value (Err e) means p = absurd (let e : false ≡ true = p in cc)

choice : {T : Type 0} (parts : T → ℕ) (value : List ℕ) (r : Result (Unit {0}) ChunkParseError)
    (b : Bool) (row others : Row T) (P Q : Type 0) → (P → Finds parts row value r)
    → (Q → Finds parts others value r) → cond b P Q → Finds parts (if_row b row others) value r
choice parts value r true row others P Q own rest p = own p
choice parts value r false row others P Q own rest p = rest p

member_finds : {X T : Type 0} (parts : T → ℕ) (m : Member T) (ms : List (Member T)) (tree : X → T)
    (reader : Reader X) (strict : Bool) (flags typ : ℕ) (others : Row T) (value : List ℕ)
    (r : Result (Unit {0}) ChunkParseError)
    → (Checks m.kind.reader flags value r → Checks reader flags value r)
    → IsSingle parts typ m.kind.typ tree reader
    → (ChecksKind (kinds_of ms) flags typ value r → Finds parts others value r)
    → ChecksKind (kinds_of (if_plain reader m ms)) flags typ value r
    → Finds parts (if_row (typ == m.kind.typ) (row_as strict flags tree reader) others) value r
member_finds parts m ms tree (AtFixed read) strict flags typ others value r same one rest p =
    choice parts value r (typ == m.kind.typ) _ _ _ _
    (λ c. kind_finds parts tree one (read flags) value r (same c).answers) rest p
member_finds parts m ms tree (Nested row) strict flags typ others value r same other rest p =
    rw (ne_eqb typ m.kind.typ other) (rest p)

-- so the check of the value says what the level's table does
pub table_finds : {T : Type 0} (parts : T → ℕ) (ms : List (Member T)) (strict : Bool)
    (flags typ : ℕ) (others : Row T) (value : List ℕ) (r : Result (Unit {0}) ChunkParseError)
    → AreSingle parts typ ms → Counted parts (RowAnswer others value) (Ok 1)
    → ChecksKind (kinds_of (plain_of ms)) flags typ value r
    → Finds parts (row_of (rows strict flags ms) typ others) value r
table_finds parts [] strict flags typ others value r one means p =
    other_finds parts others value r means p
table_finds parts (m ∷ ms) strict flags typ others value r one means p =
    member_finds parts m (plain_of ms) m.tree m.kind.reader strict flags typ _ value r (λ c. c)
    one.0 (table_finds parts ms strict flags typ others value r one.1 means) p

-- the same of the value alone, where each tree is one part
pub finds_tested : {T : Type 0} (row : Row T) (value : List ℕ) (r : Result (Unit {0}) ChunkParseError)
    → Finds (λ t. 1) row value r
    → Answers checking (λ (u : Unit {0}). u) (Counted (λ t. tt) (Unplaced (RowAnswer row value))) r
finds_tested row value (Ok x) found = (found.0, found.1, refl)
finds_tested row value (Err e) (inl found) =
    inl (found.0.0, ap (λ (x : LocatedFault). x.fault) found.1, (found.0.1, found.2))
finds_tested row value (Err e) (inr none) = absurd none
