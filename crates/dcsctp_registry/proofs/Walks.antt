-- Bytes are items if what is left after the first is.
use Rattle.std.proofs.Common.{◌≡◌, ◌≢◌, ◌≤◌, ◌&&◌, ℕ, zero, suc, Bool, true, false, List, [], ◌∷◌, length, refl, arith}
use Rattle.dcsctp_tlv.{specs.Frame.{BeginsWithFrame, frame_rest}, proofs.Checks.{frame_shrinks}}
use Rattle.dcsctp_registry.specs.Items.{has_frame, are_items_of}

-- ---- frames

pub is_frame : (bytes : List ℕ) → has_frame bytes ≡ true → BeginsWithFrame bytes
is_frame bytes has = search (arith, has)

pub is_framed : (bytes : List ℕ) → BeginsWithFrame bytes → has_frame bytes ≡ true
is_framed bytes frame = search (arith, frame)

pub has_no_frame : (bytes : List ℕ) → ¬ BeginsWithFrame bytes → has_frame bytes ≡ false
has_no_frame bytes none = search (arith, none)

-- ---- how many items there can be

same_if : (has a b : Bool) → (has ≡ true → a ≡ b) → (has && a) ≡ (has && b)
same_if true a b same = same refl
same_if false a b same = refl

-- more steps than there are bytes change nothing
pub enough : (n m : ℕ) (bytes : List ℕ) → length bytes ≤ n → length bytes ≤ m
    → are_items_of n bytes ≡ are_items_of m bytes
unfolding are_items_of
enough n m [] few less = refl
enough zero m (b ∷ bs) few less = absurd (omega (arith, few))
enough (suc n) zero (b ∷ bs) few less = absurd (omega (arith, less))
enough (suc n) (suc m) (b ∷ bs) few less =
    same_if (has_frame (b ∷ bs)) (are_items_of n (frame_rest (b ∷ bs)))
    (are_items_of m (frame_rest (b ∷ bs)))
    (λ has.
    let frame = is_frame (b ∷ bs) has in
    let shrinks = frame_shrinks (b ∷ bs) frame in
    enough n m (frame_rest (b ∷ bs)) (omega (arith, shrinks, frame.low, few))
    (omega (arith, shrinks, frame.low, less)))

-- the bytes are items if what follows the frame is
pub of_rest : (bytes : List ℕ) → BeginsWithFrame bytes → bytes ≢ []
    → are_items_of (length bytes) bytes
    ≡ are_items_of (length (frame_rest bytes)) (frame_rest bytes)
unfolding are_items_of
of_rest [] frame some = absurd (some refl)
of_rest (b ∷ bs) frame some =
    let shrinks = frame_shrinks (b ∷ bs) frame in
    let has : has_frame (b ∷ bs) ≡ true = search (arith, frame) in
    rw has (enough (length bs) (length (frame_rest (b ∷ bs))) (frame_rest (b ∷ bs))
    (omega (arith, shrinks, frame.low)) (omega arith))

-- and aren't, where there is none
pub of_none : (bytes : List ℕ) → ¬ BeginsWithFrame bytes → bytes ≢ []
    → are_items_of (length bytes) bytes ≡ false
unfolding are_items_of
of_none [] frame some = absurd (some refl)
of_none (b ∷ bs) frame some = rw (has_no_frame (b ∷ bs) frame) refl

pub of_nil : (bytes : List ℕ) → bytes ≡ [] → are_items_of (length bytes) bytes ≡ true
unfolding are_items_of
of_nil bytes none = rw none refl
