-- What holds of each tree that a chunk, a parameter or an error cause can mean. Where computing
-- shows it of each kind, `assumption` does, however many there are.
use Rattle.std.proofs.Common.{◌≡◌, ℕ, List, [], ◌∷◌, Result, Ok, sym, subst}
use Rattle.dcsctp_tlv.{specs.Fault.{Fault}, specs.Frame.{lenient}, specs.Level.{Row, map_ok}, specs.Table.{IsUnnamed}, specs.Typed.{typed_row}, specs.UnknownParameter.{Tree as UnnamedTree, read as unnamed_at}, proofs.KindLaws.{of_map_ok}, proofs.Tables.{EachNamed, of_table}, specs.Kinds.{Member, own_row, rows}, proofs.Satisfies.{down}}
use Rattle.dcsctp_chunk.specs.Unknown.{Tree as UnknownTree, read as unknown_at}
use Rattle.dcsctp_wire.specs.Chunk.{ChunkTree, Unknown, members, table, chunk_row}

-- it holds of each tree that the row means
abbrev pub OfRow : {T : Type 0} → (ℕ → List ℕ → T → Type 0) → ℕ → Row T → Type 0
OfRow {T} Holds typ row = (value : List ℕ) (t : T) → row.means value t → Holds typ value t

-- of each tree that one of the kinds reads
abbrev pub OfKinds : {T : Type 0} → (ℕ → List ℕ → T → Type 0) → ℕ → List (Member T) → Type 0
OfKinds Holds flags [] = Unit {0}
OfKinds Holds flags (m ∷ ms) =
    ((value : List ℕ) (x : m.kind.Tree) → (own_row lenient flags m.kind.reader).means value x
    → Holds m.kind.typ value (m.tree x))
    × OfKinds Holds flags ms

module _ {T : Type 0} (Holds : ℕ → List ℕ → T → Type 0) where
  of_read : {X : Type 0} (typ : ℕ) (value : List ℕ) (tree : X → T) (r : Result X Fault)
      → ((x : X) → r ≡ Ok x → Holds typ value (tree x)) → (t : T) → map_ok tree r ≡ Ok t
      → Holds typ value t
  of_read typ value tree r h t m =
      let x = of_map_ok tree r t m in subst (Holds typ value) (sym x.1.1) (h x.0 x.1.0)

  of_kinds : (flags : ℕ) (ms : List (Member T)) → OfKinds Holds flags ms
      → EachNamed (OfRow Holds) (rows lenient flags ms)
  of_kinds flags [] h = tt
  of_kinds flags (m ∷ ms) h = (
    λ value t means.
        (let d = down m.tree lenient flags m.kind.reader value t means in
        subst (Holds m.kind.typ value) (sym d.1.1) (h.0 value d.0 d.1.0)),
    of_kinds flags ms h.1,
  )

  -- of the kinds of parameters or of error causes, and of all other types, as they are read
  pub of_typed_as : (typ : ℕ) (ms : List (Member T)) (unnamed : UnnamedTree → T)
      → OfKinds Holds 0 ms
      → (IsUnnamed (rows lenient 0 ms) typ → (value : List ℕ) (u : UnnamedTree)
      → unnamed_at typ value ≡ Ok u → Holds typ value (unnamed u))
      → OfRow Holds typ (typed_row (rows lenient 0 ms) unnamed typ)
  of_typed_as typ ms unnamed kinds others =
      of_table (OfRow Holds) (rows lenient 0 ms) typ _ (of_kinds 0 ms kinds)
      (λ isnt value. of_read typ value unnamed (unnamed_at typ value) (others isnt value))

  -- the same, where nothing is said of how other types are read
  pub of_typed : (typ : ℕ) (ms : List (Member T)) (unnamed : UnnamedTree → T)
      → OfKinds Holds 0 ms
      → (IsUnnamed (rows lenient 0 ms) typ → (value : List ℕ) (u : UnnamedTree)
      → Holds typ value (unnamed u))
      → OfRow Holds typ (typed_row (rows lenient 0 ms) unnamed typ)
  of_typed typ ms unnamed kinds others =
      of_typed_as typ ms unnamed kinds (λ isnt value u e. others isnt value u)

-- of the kinds of chunks, and of all other types, as they are read
pub of_chunk_as : (Holds : ℕ → List ℕ → ChunkTree → Type 0) (typ flags : ℕ)
    → OfKinds Holds flags members
    → (IsUnnamed (table lenient flags) typ → (value : List ℕ) (u : UnknownTree)
    → unknown_at typ flags value ≡ Ok u → Holds typ value (Unknown u))
    → OfRow Holds typ (chunk_row lenient typ flags)
of_chunk_as Holds typ flags kinds others =
    of_table (OfRow Holds) (table lenient flags) typ _ (of_kinds Holds flags members kinds)
    (λ unnamed value. of_read Holds typ value Unknown (unknown_at typ flags value)
    (others unnamed value))

-- the same, where nothing is said of how other types are read
pub of_chunk : (Holds : ℕ → List ℕ → ChunkTree → Type 0) (typ flags : ℕ)
    → OfKinds Holds flags members
    → (IsUnnamed (table lenient flags) typ → (value : List ℕ) (u : UnknownTree)
    → Holds typ value (Unknown u))
    → OfRow Holds typ (chunk_row lenient typ flags)
of_chunk Holds typ flags kinds others =
    of_chunk_as Holds typ flags kinds (λ unnamed value u e. others unnamed value u)
