-- Where a fault lies, and what a check finds.
use Rattle.std.proofs.Common.{◌≡◌, ◌≢◌, ℕ, ◌+◌, ◌-◌, ◌≤◌, true, false, Bool, cond, Result, Ok, Err, List, [], ◌∷◌, length, drop, refl, sym, ap, subst, ◌∙◌, arith, inl, inr, ◌==◌, length-take, length-drop}
use Rattle.dcsctp_tlv.{specs.declared.error.ChunkParseError.{ChunkParseError}, specs.declared.error.ChunkParseError.TheVariants.{InvalidLength}, specs.declared.reader.Counts.{Counts}, specs.declared.error.LocatedFault.{LocatedFault}, specs.Fault.{Fault, Length, Padding}, specs.Frame.{round_up_to_4, padding_size, first_nonzero, BeginsWithFrame, frame_length, frame_value, frame_padding}, specs.Level.{Row, Level, front_row, HasFault, no_frame, value, padding, listed}, specs.Reading.{Answers, error_of, checking, locating, RowAnswer, ListAnswer, Counted, Unplaced, counts, ListedAnswer}, proofs.Lists.{Progress, fault}}

-- what is a fault of a part at one place is a fault of the whole at another
pub moved : {T U : Type 0} (move : ℕ → ℕ) (P : Result T (Fault × ℕ) → Type 0) (Q : Result U (Fault
    × ℕ) → Type 0) → ((f : Fault × ℕ) → P (Err f) → Q (Err (f.0, move f.1)))
    → (l : LocatedFault) → Answers locating (λ (t : T). t) P (Err l)
    → Answers locating (λ (u : U). u) Q
    (Err (record { offset = move l.offset; fault = l.fault }))
moved move P Q grows l (inl found) =
    let place : LocatedFault → LocatedFault =
    λ x. record { offset = move x.offset; fault = x.fault } in
    inl ((found.0.0, move found.0.1), ap place found.1, grows found.0 found.2)
moved move P Q grows l (inr none) = absurd none

-- a list's fault, wherever it lies
pub fault_only : {T : Type 0} (level : Level T) (parts : T → ℕ) (bytes : List ℕ) (l : LocatedFault)
    → Answers locating (λ (n : Counts). n) (Counted (counts parts) (ListAnswer level bytes)) (Err l)
    → Answers checking (λ (n : ℕ). n) (Counted length (Unplaced (ListAnswer level bytes))) (Err l.fault)
fault_only level parts bytes l (inl found) =
    inl (found.0.0, ap (λ (x : LocatedFault). x.fault) found.1, (found.0.1, found.2))
fault_only level parts bytes l (inr none) = absurd none

-- ---- rows

pub fault_at_front : {T U : Type 0} (row : Row T) (parts : T → ℕ) (v : List ℕ)
    (answer : Result U Fault → Type 0) → ((e : Fault) → answer (Err e) → row.faults v (e, 0))
    → (x : ChunkParseError) → Answers checking (λ (u : U). u) answer (Err x)
    → Answers locating (λ (n : ℕ). n) (Counted parts (RowAnswer row v))
    (Err (record { offset = 0; fault = x }))
fault_at_front row parts v answer front x (inl found) =
    let place : ChunkParseError → LocatedFault = λ y. record { offset = 0; fault = y } in
    inl ((found.0, 0), ap place found.1, front found.0 found.2)
fault_at_front row parts v answer front x (inr none) = absurd none

-- what a check finds of a list in a value
pub finds_listed : {T U : Type 0} (rule : List ℕ → Bool) (place : ℕ) (level : Level U)
    (tree_of : List ℕ → List U → T) (parts : T → ℕ) → ((v : List ℕ) (ts : List U)
    → parts (tree_of v ts) ≡ 1 + length ts)
    → (v : List ℕ) (r : Result ℕ LocatedFault) → rule v ≡ true
    → Answers locating (λ (n : ℕ). n) (ListedAnswer level place v) r
    → Answers locating (λ (n : ℕ). n) (Counted parts (RowAnswer (listed rule place level tree_of) v)) r
finds_listed rule place level tree_of parts same v (Ok n) h f =
    let m = f.1 in
    (tree_of v m.0, (h, (m.0, m.1, refl)), f.2 ∙ ap (λ (k : ℕ). 1 + k) m.2 ∙ sym (same v m.0))
finds_listed rule place level tree_of parts same v (Err l) h (inl found) =
    inl (found.0, found.1, inr (h, found.2))
finds_listed rule place level tree_of parts same v (Err l) h (inr none) = absurd none

-- where the rule is broken, it is the item's fault as a whole
pub rule_broken : {T U : Type 0} (rule : List ℕ → Bool) (place : ℕ) (level : Level U)
    (tree_of : List ℕ → List U → T) (parts : T → ℕ) (v : List ℕ) → rule v ≡ false
    → Answers locating (λ (n : ℕ). n) (Counted parts (RowAnswer (listed rule place level tree_of) v))
    (Err (record { offset = 0; fault = InvalidLength }))
rule_broken rule place level tree_of parts v h = inl ((Length, 0), refl, inl (h, refl))

-- ---- lists

-- a fault and its place are what a check gives
pub at_place : {T : Type 0} (level : Level T) (parts : T → ℕ) (bytes : List ℕ) (e : Fault) (n : ℕ)
    → HasFault level bytes (e, n)
    → Answers locating (λ (k : Counts). k) (Counted (counts parts) (ListAnswer level bytes))
    (Err (record { offset = n; fault = error_of e }))
at_place level parts bytes e n f = inl ((e, n), refl, f)

-- what is wrong at the front of what is left is the list's fault: there is no frame,
pub frame_fault : {T : Type 0} (level : Level T) (bytes : List ℕ) (trees : List T) (rest : List ℕ)
    (ahead : ℕ) → Progress level bytes trees rest → ahead ≡ length bytes - length rest → rest ≢ []
    → ¬ BeginsWithFrame rest → HasFault level bytes (Length, ahead)
frame_fault level bytes trees rest ahead p is h none =
    subst (λ (n : ℕ). HasFault level bytes (Length, n)) (omega arith)
    (fault level bytes trees rest (Length, 0) ahead p is (no_frame h none refl))

-- or its value is at fault,
pub value_fault : {T : Type 0} (level : Level T) (parts : T → ℕ) (bytes : List ℕ) (trees : List T)
    (rest : List ℕ) (l : LocatedFault) (ahead : ℕ) → Progress level bytes trees rest
    → ahead ≡ length bytes - length rest → BeginsWithFrame rest
    → Answers locating (λ (n : ℕ). n)
    (Counted parts (RowAnswer (front_row level rest) (frame_value rest))) (Err l)
    → Answers locating (λ (n : Counts). n) (Counted (counts parts) (ListAnswer level bytes))
    (Err (record { offset = ahead + l.offset; fault = l.fault }))
value_fault level parts bytes trees rest l ahead p is frame f =
    moved (λ k. ahead + k) (Counted parts (RowAnswer (front_row level rest) (frame_value rest)))
    (Counted (counts parts) (ListAnswer level bytes))
    (λ f g. fault level bytes trees rest f ahead p is (value frame g)) l f

-- or its padding isn't accepted
pub padding_fault : {T : Type 0} (level : Level T) (bytes : List ℕ) (trees : List T) (rest : List ℕ)
    (t : T) (ahead within : ℕ) → Progress level bytes trees rest
    → ahead ≡ length bytes - length rest → BeginsWithFrame rest
    → (front_row level rest).means (frame_value rest) t
    → level.padding (padding_size (length (frame_value rest))) (frame_padding rest) ≡ false
    → within ≡ frame_length rest + first_nonzero (frame_padding rest)
    → HasFault level bytes (Padding, ahead + within)
padding_fault level bytes trees rest t ahead within p is frame means refused place =
    fault level bytes trees rest (Padding, within) ahead p is
    (padding t frame means refused (ap (λ (n : ℕ). (Padding, n)) place))

-- it lies within what is there
prefix_within : (xs : List ℕ) → first_nonzero xs ≤ length xs
prefix_within [] = omega arith
prefix_within (x ∷ xs) = elim (x == 0) as (λ b. cond b (1 + first_nonzero xs) 0 ≤ length (x ∷ xs)) [
  | true ↦ (let h = prefix_within xs in omega (arith, h))
  | false ↦ omega arith
]

pub padding_within : (rest : List ℕ) → BeginsWithFrame rest
    → frame_length rest + first_nonzero (frame_padding rest) ≤ length rest
padding_within rest frame =
    let most = prefix_within (frame_padding rest) in
    let there = length-take (round_up_to_4 (frame_length rest) - frame_length rest)
    (drop (frame_length rest) rest) in
    let left = length-drop (frame_length rest) rest in
    let high = frame.high in
    omega (arith, most, there, left, high)
