use Rattle.std.proofs.Common.{arith, ◌≡◌, ◌≢◌, ◌<◌, ◌+◌, ◌∙◌, ℕ, List, None, ap, sym, subst, length, slice_index_or, ⊎_elim}
use Rattle.std.proofs.lemmas.Bool.{cases_eq}
use Rattle.std.proofs.lemmas.List.{get_or_default}
use Rattle.dump_messages.specs.Payloads.{kept_of}
use Rattle.dump_messages.specs.declared.messages.fragment.Fragment.{Fragment}
use Rattle.dump_messages.proofs.messages.payloads.Payloads.take.Goals as goal

up-to : (P Q : ℕ → Type 0) (xs : List Fragment) (i : ℕ) (e : Fragment) → ((t : ℕ) → P t → Q t)
    → Q (slice_index_or xs i e).tsn
    → ((k : ℕ) (d : Fragment) → k < i → k < length xs → P (slice_index_or xs k d).tsn)
    → (k : ℕ) (d : Fragment) → k < i + 1 → k < length xs → Q (slice_index_or xs k d).tsn
up-to P Q xs i e more this before k d lt within =
    ⊎_elim
    (λ (same : k ≡ i). subst (λ (f : Fragment). Q f.tsn)
    (sym (get_or_default xs k d e within ∙ ap (λ (j : ℕ). slice_index_or xs j e) same)) this)
    (λ (apart : k ≢ i). more _ (before k d (grind arith) within))
    (cases_eq k i)

-- src/payloads.rt:70:9
pub loop-piece-preserved : goal.loop-piece-preserved
loop-piece-preserved c = (
  up-to
      (λ t. kept_of c.loop-piece.self c.args.association c.args.sender t ≡ None)
      (λ t. kept_of c.leave.new.self c.args.association c.args.sender t ≡ None)
      c.args.pieces.now c.loop-piece.piece-index _
      c.leave.ensures.gone c.leave.ensures.taken c.loop-piece.invariant.0,
  λ a s t lt apart.
      c.leave.ensures.others a s t lt (λ e. apart (
        e.0,
        e.1,
        (
          c.loop-piece.piece-index,
          _,
          grind arith,
          get_or_default c.args.pieces.now c.loop-piece.piece-index _ _ (grind arith),
          sym e.2,
        ),
      ))
      ∙ c.loop-piece.invariant.1 a s t lt apart,
)
