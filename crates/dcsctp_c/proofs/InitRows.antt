-- The numbers of INIT and INIT ACK are read as the table of chunks says.
use Rattle.std.{proofs.Common.{◌≡◌, ℕ, Bool, List, [], Option, Some, None, refl, sym, ap, subst, ◌∙◌, rules, option_map, false, ne_eqb}, specs.Option.{option_and_then}}
use Rattle.dcsctp_tlv.specs.Frame.{lenient}
use Rattle.dcsctp_wire.specs.{Chunk.{ChunkTree, Init, chunk_row}, InitFields.{Tree, row}}
use Rattle.dcsctp_borrowed.proofs.TreeRows.{of_chunk}
use Rattle.dcsctp_c.specs.{Part.{Reads, ReadsInto, ChunkMeans, read_init, init_of, init_at, HoldsInit}, declared.structs.DcsctpChunk.{DcsctpChunk}, declared.structs.DcsctpInit.{DcsctpInit}}

-- the tree without its parameters
abbrev bare : Tree → Tree
bare i = record i { parameters = [] }

abbrev ReadsAs : ℕ → List ℕ → ChunkTree → Type 0
ReadsAs typ value t = read_init typ value ≡ option_map bare (init_of t)

own : (value : List ℕ) (i : Tree) → (row lenient).means value i → ReadsAs 1 value (Init i)
own value i m = rw m.0 (ap (λ (x : Tree). Some (bare x)) (sym m.1.2))

reads_alike : (typ flags : ℕ) (value : List ℕ) (t : ChunkTree)
    → (chunk_row lenient typ flags).means value t
    → read_init typ value ≡ option_map bare (init_of t)
reads_alike typ flags =
    of_chunk ReadsAs typ flags (assumption own) (λ isnt value u. search (rules, ne_eqb))

-- what holds the numbers holds those of the tree with its parameters
with_parameters : (o : Option Tree) (old new : DcsctpInit) (done : Bool)
    → ReadsInto HoldsInit (option_map bare o) old new done → ReadsInto HoldsInit o old new done
with_parameters (Some i) old new done h =
    let n = h.1 in (
      h.0,
      record {
        tag = n.tag;
        window = n.window;
        outbound = n.outbound;
        inbound = n.inbound;
        tsn = n.tsn;
      },
    )
with_parameters None old new done h = h

-- what the chunk means, it reads as
pub init_alike : (bytes : List ℕ) (c : DcsctpChunk) (tree : ChunkTree) (old new : DcsctpInit)
    (done : Bool) → ChunkMeans bytes c tree
    → ReadsInto HoldsInit (init_at bytes c) old new done
    → ReadsInto HoldsInit (init_of tree) old new done
init_alike bytes c tree old new done m h =
    let same : init_at bytes c ≡ option_map bare (init_of tree) =
    ap (option_and_then (read_init c.typ)) m.1 ∙ reads_alike c.typ c.flags m.0 tree m.2 in
    with_parameters (init_of tree) old new done
    (subst (λ (o : Option Tree). ReadsInto HoldsInit o old new done) same h)

-- nothing was read
pub nothing_read : {T S : Type 0} (Holds : T → S → Type 0) (o : Option T) (old : S)
    → Reads Holds o None → ReadsInto Holds o old old false
nothing_read Holds (Some t) old h = absurd h
nothing_read Holds None old h = (refl, refl)
