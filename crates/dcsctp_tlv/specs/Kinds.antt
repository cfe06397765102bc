-- A kind of chunk, of parameter or of error cause (RFC 9260 sections 3.2, 3.2.1 and 3.3.10): all
-- that the tables say of it, in one record.
use Rattle.std.proofs.Common.{ℕ, Bool, List, [], ◌∷◌, ◌==◌, Result, IsOk, cond}
use Rattle.dcsctp_tlv.specs.{declared.error.ChunkParseError.{ChunkParseError}, Fault.{Fault}, Format.{Format}, Level.{Row, plain, as_row, map_ok}, Reading.{Exactly, checking, Tested}, Table.{Named, Content}}

-- How a value is read, under the flags: at fixed places; or by a row, where a list is in it.
pub data Reader (X : Type 0) : Type 1 where
  AtFixed : (ℕ → List ℕ → Result X Fault) → Reader X
  Nested : (Bool → ℕ → Row X) → Reader X

pub record Kind : Type 1 where
  pub typ : ℕ
  pub content : Content
  -- what its values mean, and how one is read
  pub Tree : Type 0
  pub reader : Reader Tree
  -- how a tree is written and printed, and what it reads back as
  pub format : Tree → Format
  pub kept : Tree → Tree
  -- how many parts it has: itself, and the parameters or causes in it
  pub parts : Tree → ℕ

-- a kind without a list, of which some fields aren't carried
abbrev pub kept_kind : {X : Type 0} → ℕ → Content → (ℕ → List ℕ → Result X Fault) → (X → Format)
    → (X → X) → Kind
kept_kind {X} typ content read format kept = record {
  typ = typ;
  content = content;
  Tree = X;
  reader = AtFixed read;
  format = format;
  kept = kept;
  parts = λ x. 1;
}

-- one without a list, whose fields are all carried
abbrev pub plain_kind : {X : Type 0} → ℕ → Content → (ℕ → List ℕ → Result X Fault) → (X → Format)
    → Kind
plain_kind typ content read format = kept_kind typ content read format (λ x. x)

-- ---- its row, alone and in a level's table

abbrev pub own_row : {X : Type 0} → Bool → ℕ → Reader X → Row X
own_row strict flags (AtFixed read) = plain (read flags)
own_row strict flags (Nested row) = row strict flags

abbrev pub row_as : {X T : Type 0} → Bool → ℕ → (X → T) → Reader X → Row T
row_as strict flags tree (AtFixed read) = plain (λ value. map_ok tree (read flags value))
row_as strict flags tree (Nested row) = as_row tree (row strict flags)

-- ---- the kinds of a level

-- a kind, and its trees as trees of the level
pub record Member (T : Type 0) : Type 1 where
  pub kind : Kind
  pub tree : kind.Tree → T

abbrev pub member : {T : Type 0} → (k : Kind) → (k.Tree → T) → Member T
member k tree = record { kind = k; tree = tree }

abbrev pub kinds_of : {T : Type 0} → List (Member T) → List Kind
kinds_of [] = []
kinds_of (m ∷ ms) = m.kind ∷ kinds_of ms

-- those that have no list
abbrev pub if_plain : {X T : Type 0} → Reader X → Member T → List (Member T) → List (Member T)
if_plain (AtFixed read) m ms = m ∷ ms
if_plain (Nested row) m ms = ms

abbrev pub plain_of : {T : Type 0} → List (Member T) → List (Member T)
plain_of [] = []
plain_of (m ∷ ms) = if_plain m.kind.reader m (plain_of ms)

-- the rows of kinds in the level's table, for a strict reader or a lenient one
abbrev pub rows : {T : Type 0} → Bool → ℕ → List (Member T) → List (Named T)
rows strict flags [] = []
rows strict flags (m ∷ ms) = record {
  typ = m.kind.typ;
  content = m.kind.content;
  row = row_as strict flags m.tree m.kind.reader;
} ∷ rows strict flags ms

-- ---- a tree of the level: of a kind, or of a type that isn't named

pub data Entry (T : Type 0) : Type 1 where
  Of : (k : Kind) → (k.Tree → T) → k.Tree → Entry T
  Unnamed : Format → Entry T

abbrev pub format_of : {T : Type 0} → Entry T → Format
format_of (Of k tree x) = k.format x
format_of (Unnamed format) = format

abbrev pub kept_of : {T : Type 0} → T → Entry T → T
kept_of t (Of k tree x) = tree (k.kept x)
kept_of t (Unnamed format) = t

abbrev pub parts_of : {T : Type 0} → Entry T → ℕ
parts_of (Of k tree x) = k.parts x
parts_of (Unnamed format) = 1

-- ---- what a check of a value returns

-- Exactly what the kind says of the value, without the tree. One with a list passes.
abbrev pub Checks : {X : Type 0} → Reader X → ℕ → List ℕ → Result (Unit {0}) ChunkParseError
    → Type 0
Checks (AtFixed read) flags value result =
    Exactly checking (λ u. u) (Tested (read flags value)) result
Checks (Nested row) flags value result = IsOk result

-- So it is of the kind of the type. A value of any other type passes.
abbrev pub ChecksKind : List Kind → ℕ → ℕ → List ℕ → Result (Unit {0}) ChunkParseError → Type 0
ChecksKind [] flags typ value result = IsOk result
ChecksKind (k ∷ ks) flags typ value result =
    cond (typ == k.typ) (Checks k.reader flags value result) (ChecksKind ks flags typ value result)
