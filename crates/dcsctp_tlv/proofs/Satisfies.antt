-- The laws of its level that a kind satisfies, in one record; and what follows for a table of kinds.
use Rattle.std.proofs.Common.{◌≡◌, ℕ, ◌+◌, ◌*◌, ◌≤◌, Bool, true, false, List, [], ◌∷◌, length, Result, Ok, Err, refl, sym, ap, subst, arith, ◌==◌}
use Rattle.dcsctp_tlv.{specs.Fault.{Fault, Padding}, specs.Format.{Format}, specs.Frame.{lenient}, specs.Image.{zeroed, size_of}, specs.Level.{Row, if_row, map_ok}, specs.Table.{Content, row_of}, proofs.Accounts.{SameSpace, same_size}, proofs.FormatLaws.{TypedLaws}, proofs.KindLaws.{KindLaws, IsGood, of_map_ok}, specs.Decided.{LawfulRow}, proofs.Laws.{plain_lawful, as_lawful}, proofs.Lenient.{LoosensRow}, proofs.Tables.{EachNamed}, proofs.Unpadded.{Unpadded, NotPadding}, specs.Kinds.{Kind, Reader, AtFixed, Nested, plain_kind, kept_kind, own_row, row_as, Member, rows, Entry, Of, Unnamed, format_of, parts_of}}

-- ---- what a kind satisfies

-- `Keeps` says of which values the size is kept, by what they hold
pub record Satisfies (Keeps : Content → List ℕ → Type 0) (k : Kind) : Type 0 where
  -- each value means one tree or has one fault
  pub lawful : (strict : Bool) (flags : ℕ) → LawfulRow (own_row strict flags k.reader)
  -- what a value means, it means to a lenient reader
  pub looser : (strict : Bool) (flags : ℕ)
      → LoosensRow (own_row strict flags k.reader) (own_row lenient flags k.reader)
  -- no fault of a lenient reader is that of padding
  pub unpadded : (flags : ℕ) → Unpadded (own_row lenient flags k.reader)
  -- what is read is well-formed
  pub forms : (flags : ℕ) (value : List ℕ) (x : k.Tree)
      → (own_row lenient flags k.reader).means value x → (k.format x).IsWellFormed
  -- it is written in the same space
  pub account : (flags : ℕ) (value : List ℕ) (x : k.Tree) → Keeps k.content value
      → (own_row lenient flags k.reader).means value x
      → SameSpace (size_of (k.format x).tlv) (4 + length value)
  -- it has no more parts than words
  pub counted : (flags : ℕ) (value : List ℕ) (x : k.Tree)
      → (own_row lenient flags k.reader).means value x → 4 * k.parts x ≤ 4 + length value
  -- what is written is read again
  pub back : (strict : Bool) (x : k.Tree) → IsGood (k.format x)
      → (own_row strict (k.format x).tlv.second k.reader).means (zeroed (k.format x).tlv.value) x
  -- the kept form is written alike, and its numbers lie in their widths
  pub kept_tlv : (x : k.Tree) → (k.format (k.kept x)).tlv ≡ (k.format x).tlv
  pub kept_width : (x : k.Tree) → (k.format x).IsInWidth → (k.format (k.kept x)).IsInWidth

module _ {Keeps : Content → List ℕ → Type 0} {X : Type 0} {read : ℕ → List ℕ → Result X Fault}
    {format : X → Format} (typ : ℕ) (content : Content)
  where
    -- a kind without a list, by the laws of its format and of what it keeps
    pub kept_satisfies : {IsKept : List ℕ → Type 0} (kept : X → X) → KindLaws IsKept (λ first. read) format
        → ((value : List ℕ) → Keeps content value → IsKept value)
        → ((x : X) → (format (kept x)).tlv ≡ (format x).tlv)
        → ((x : X) → (format x).IsInWidth → (format (kept x)).IsInWidth)
        → Satisfies Keeps (kept_kind typ content read format kept)
    kept_satisfies kept laws keeps same width = record {
      lawful = λ strict flags. plain_lawful (read flags);
      looser = λ strict flags value x e. e;
      unpadded = λ flags value n e.
          subst (λ (r : Result X Fault). NotPadding r) e.0 (laws.unpadded 0 flags value);
      forms = λ flags value x e. laws.formed 0 flags value x e;
      account = λ flags value x is e.
          same_size _ _ (laws.keeps 0 flags value x (keeps value is) e);
      counted = λ flags value x e. omega arith;
      back = λ strict x good. laws.back x good;
      kept_tlv = same;
      kept_width = width;
    }

    -- one whose fields are all carried
    pub satisfies_if : {IsKept : List ℕ → Type 0} → KindLaws IsKept (λ first. read) format
        → ((value : List ℕ) → Keeps content value → IsKept value)
        → Satisfies Keeps (plain_kind typ content read format)
    satisfies_if laws keeps = kept_satisfies (λ x. x) laws keeps (λ x. refl) (λ x width. width)

    -- and that keeps the size of every value
    pub plain_satisfies : TypedLaws (λ first. read) format
        → Satisfies Keeps (plain_kind typ content read format)
    plain_satisfies laws = satisfies_if laws (λ value is. tt)

-- ---- a kind's row in a table, from its own

err_of : {A B : Type 0} (f : A → B) (r : Result A Fault) (e : Fault) → map_ok f r ≡ Err e
    → r ≡ Err e
err_of f (Ok x) e h = absurd cc
err_of f (Err d) e h = cc

module _ {X T : Type 0} (tree : X → T) where
  up : (strict : Bool) (flags : ℕ) (r : Reader X) (value : List ℕ) (x : X)
      → (own_row strict flags r).means value x → (row_as strict flags tree r).means value (tree x)
  up strict flags (AtFixed read) value x e = ap (map_ok tree) e
  up strict flags (Nested row) value x m = (x, m, refl)

  pub down : (strict : Bool) (flags : ℕ) (r : Reader X) (value : List ℕ) (t : T)
      → (row_as strict flags tree r).means value t
      → (x : X) × ((own_row strict flags r).means value x × (t ≡ tree x))
  down strict flags (AtFixed read) value t e = of_map_ok tree (read flags value) t e
  down strict flags (Nested row) value t m = (m.0, (m.1, m.2))

  lawful_as : (strict : Bool) (flags : ℕ) (r : Reader X) → LawfulRow (own_row strict flags r)
      → LawfulRow (row_as strict flags tree r)
  lawful_as strict flags (AtFixed read) law = plain_lawful _
  lawful_as strict flags (Nested row) law = as_lawful tree (row strict flags) law

  unpadded_as : (flags : ℕ) (r : Reader X) → Unpadded (own_row lenient flags r)
      → Unpadded (row_as lenient flags tree r)
  unpadded_as flags (AtFixed read) law value n e =
      law value n (err_of tree (read flags value) Padding e.0, e.1)
  unpadded_as flags (Nested row) law value n f = law value n f

-- ---- a table of kinds

abbrev pub AllSatisfy : {T : Type 0} → (Content → List ℕ → Type 0) → List (Member T) → Type 0
AllSatisfy Keeps [] = Unit {0}
AllSatisfy Keeps (m ∷ ms) = Satisfies Keeps m.kind × AllSatisfy Keeps ms

-- What computing shows of each kind in a level: its trees are written, well-formed and counted as
-- the kind says, and its values keep their sizes where those of its type do.
pub record Found {T : Type 0} (Keeps : Content → List ℕ → Type 0) (IsKept : ℕ → List ℕ → Type 0)
    (of : T → Entry T) (m : Member T) : Type 0 where
  pub written : (x : m.kind.Tree) → (format_of (of (m.tree x))).tlv ≡ (m.kind.format x).tlv
  pub formed : (x : m.kind.Tree) → (m.kind.format x).IsWellFormed
      → (format_of (of (m.tree x))).IsWellFormed
  pub parts : (x : m.kind.Tree) → parts_of (of (m.tree x)) ≡ m.kind.parts x
  pub keeps : (value : List ℕ) → IsKept m.kind.typ value → Keeps m.kind.content value

abbrev pub AllFound : {T : Type 0} → (Content → List ℕ → Type 0) → (ℕ → List ℕ → Type 0)
    → (T → Entry T) → List (Member T) → Type 0
AllFound Keeps IsKept of [] = Unit {0}
AllFound Keeps IsKept of (m ∷ ms) = Found Keeps IsKept of m × AllFound Keeps IsKept of ms

pub all_lawful : {T : Type 0} (Keeps : Content → List ℕ → Type 0) (strict : Bool) (flags : ℕ)
    (ms : List (Member T)) → AllSatisfy Keeps ms
    → EachNamed (λ typ row. LawfulRow row) (rows strict flags ms)
all_lawful Keeps strict flags [] satisfied = tt
all_lawful Keeps strict flags (m ∷ ms) satisfied = (
  lawful_as m.tree strict flags m.kind.reader (satisfied.0.lawful strict flags),
  all_lawful Keeps strict flags ms satisfied.1,
)

pick_looser : {T : Type 0} (b : Bool) (row others loose rest : Row T) → LoosensRow row loose
    → LoosensRow others rest → LoosensRow (if_row b row others) (if_row b loose rest)
pick_looser true row others loose rest own other = own
pick_looser false row others loose rest own other = other

-- a type's row loosens, where that of all other types stays
pub rows_looser : {T : Type 0} (Keeps : Content → List ℕ → Type 0) (strict : Bool) (flags : ℕ)
    (ms : List (Member T)) → AllSatisfy Keeps ms → (typ : ℕ) (others : Row T)
    → LoosensRow (row_of (rows strict flags ms) typ others)
    (row_of (rows lenient flags ms) typ others)
rows_looser Keeps strict flags [] satisfied typ others = λ value t means. means
rows_looser {T} Keeps strict flags (m ∷ ms) satisfied typ others =
    pick_looser (typ == m.kind.typ) _ _ _ _ own
    (rows_looser Keeps strict flags ms satisfied.1 typ others) where
      own : LoosensRow (row_as strict flags m.tree m.kind.reader)
          (row_as lenient flags m.tree m.kind.reader)
      own value t means =
          let d = down m.tree strict flags m.kind.reader value t means in
          subst (λ (u : T). (row_as lenient flags m.tree m.kind.reader).means value u) (sym d.1.1)
          (up m.tree lenient flags m.kind.reader value d.0
          (satisfied.0.looser strict flags value d.0 d.1.0))

-- ---- what holds of each row of the lenient table

pub record Sound {T : Type 0} (IsKept : ℕ → List ℕ → Type 0) (of : T → Entry T) (typ : ℕ)
    (row : Row T) : Type 0 where
  pub forms : (value : List ℕ) (t : T) → row.means value t → (format_of (of t)).IsWellFormed
  pub account : (value : List ℕ) (t : T) → IsKept typ value → row.means value t
      → SameSpace (size_of (format_of (of t)).tlv) (4 + length value)
  pub counted : (value : List ℕ) (t : T) → row.means value t
      → 4 * parts_of (of t) ≤ 4 + length value
  pub unpadded : Unpadded row

module _ {T : Type 0} (Keeps : Content → List ℕ → Type 0) (IsKept : ℕ → List ℕ → Type 0)
    (of : T → Entry T) (flags : ℕ)
  where
    sound_as : (m : Member T) → Satisfies Keeps m.kind → Found Keeps IsKept of m
        → Sound IsKept of m.kind.typ (row_as lenient flags m.tree m.kind.reader)
    sound_as m satisfied found = record {
      forms = λ value t means.
          (let d = down m.tree lenient flags m.kind.reader value t means in
          subst (λ (u : T). (format_of (of u)).IsWellFormed) (sym d.1.1)
          (found.formed d.0 (satisfied.forms flags value d.0 d.1.0)));
      account = λ value t kept means.
          (let d = down m.tree lenient flags m.kind.reader value t means in
          subst (λ (u : T). SameSpace (size_of (format_of (of u)).tlv) (4 + length value))
          (sym d.1.1) (rw (found.written d.0)
          (satisfied.account flags value d.0 (found.keeps value kept) d.1.0)));
      counted = λ value t means.
          (let d = down m.tree lenient flags m.kind.reader value t means in
          subst (λ (u : T). 4 * parts_of (of u) ≤ 4 + length value) (sym d.1.1)
          (rw (found.parts d.0) (satisfied.counted flags value d.0 d.1.0)));
      unpadded = unpadded_as m.tree flags m.kind.reader (satisfied.unpadded flags);
    }

    pub all_sound : (ms : List (Member T)) → AllSatisfy Keeps ms → AllFound Keeps IsKept of ms
        → EachNamed (Sound IsKept of) (rows lenient flags ms)
    all_sound [] satisfied found = tt
    all_sound (m ∷ ms) satisfied found =
        (sound_as m satisfied.0 found.0, all_sound ms satisfied.1 found.1)

-- ---- what holds of each tree

abbrev pub SatisfiesOf : {T : Type 0} → (Content → List ℕ → Type 0) → Entry T → Type 0
SatisfiesOf Keeps (Of k tree x) = Satisfies Keeps k
SatisfiesOf Keeps (Unnamed format) = Unit {0}

abbrev pub MeansBack : {T : Type 0} → Bool → Entry T → Type 0
MeansBack strict (Of k tree x) = (row_as strict (k.format x).tlv.second tree k.reader).means
    (zeroed (k.format x).tlv.value) (tree x)
MeansBack strict (Unnamed format) = Unit {0}

pub back_of : {T : Type 0} (Keeps : Content → List ℕ → Type 0) (strict : Bool) (e : Entry T)
    → SatisfiesOf Keeps e → IsGood (format_of e) → MeansBack strict e
back_of Keeps strict (Of k tree x) satisfied good =
    up tree strict (k.format x).tlv.second k.reader _ x (satisfied.back strict x good)
back_of Keeps strict (Unnamed format) satisfied good = tt

abbrev pub kept_format : {T : Type 0} → Entry T → Format
kept_format (Of k tree x) = k.format (k.kept x)
kept_format (Unnamed format) = format

pub kept_tlv_of : {T : Type 0} (Keeps : Content → List ℕ → Type 0) (e : Entry T) → SatisfiesOf Keeps e
    → (kept_format e).tlv ≡ (format_of e).tlv
kept_tlv_of Keeps (Of k tree x) satisfied = satisfied.kept_tlv x
kept_tlv_of Keeps (Unnamed format) satisfied = refl

pub kept_width_of : {T : Type 0} (Keeps : Content → List ℕ → Type 0) (e : Entry T)
    → SatisfiesOf Keeps e → (format_of e).IsInWidth → (kept_format e).IsInWidth
kept_width_of Keeps (Of k tree x) satisfied width = satisfied.kept_width x width
kept_width_of Keeps (Unnamed format) satisfied width = width
