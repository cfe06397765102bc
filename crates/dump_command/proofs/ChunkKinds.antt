-- The chunks of a packet are counted by their types, one after the other.
use Rattle.std.proofs.Common.{◌≡◌, ℕ, List, [], ◌∷◌, fold, slice_index, slice_set, refl, ap, subst, ◌∙◌}
use Rattle.dcsctp_tlv.specs.Frame.{BeginsWithFrame, frame_rest}
use Rattle.dump_command.specs.declared.counts.Counts.{Counts}
use Rattle.dump_capture.specs.Number.{one_more}
use Rattle.dump_packet.specs.ChunkTypes.{ChunkTypes, none, next}
use Rattle.dump_command.specs.Counts.{with_kind}

-- whatever types the chunks have that are left, all have them after those that were counted
abbrev pub Counting : List ℕ → Counts → List ℕ → Counts → Type 0
Counting all start left now =
    (others : List ℕ) → ChunkTypes left others → (types : List ℕ) × ChunkTypes all types
    × (record now { kinds = fold with_kind now.kinds others }
    ≡ record start { kinds = fold with_kind start.kinds types })

pub Counting-none : (all : List ℕ) (start : Counts) → Counting all start all start
Counting-none all start = λ others are. (others, are, refl)

pub Counting-next : (all left rest : List ℕ) (start now after : Counts) (typ : ℕ)
    → Counting all start left now → typ ≡ slice_index left 0 → BeginsWithFrame left
    → rest ≡ frame_rest left → after ≡ record now { kinds = with_kind now.kinds typ }
    → Counting all start rest after
Counting-next all left rest start now after typ counting is begins rest_is after_is =
    λ others are.
    let before = counting (typ ∷ others) (next left (typ ∷ others) others begins
    (subst (λ l. ChunkTypes l others) rest_is are) (ap (λ t. t ∷ others) is)) in (
      before.0,
      before.1,
      ap (λ (c : Counts). record c { kinds = fold with_kind c.kinds others })
          after_is ∙ before.2,
    )

pub Counting-all : (all left : List ℕ) (start now : Counts) → Counting all start left now
    → left ≡ [] → (types : List ℕ) × ChunkTypes all types
    × (now ≡ record start { kinds = fold with_kind start.kinds types })
Counting-all all left start now counting none_left =
    counting [] (none left [] none_left refl)

pub kind_counted : (now : Counts) (typ index count : ℕ) → index ≡ typ
    → count ≡ one_more (slice_index now.kinds index)
    → record now { kinds = slice_set now.kinds index count }
    ≡ record now { kinds = with_kind now.kinds typ }
kind_counted now typ index count same count_is =
    ap (λ (n : ℕ). record now { kinds = slice_set now.kinds index n }) count_is
    ∙ ap (λ (i : ℕ). record now { kinds = with_kind now.kinds i }) same
