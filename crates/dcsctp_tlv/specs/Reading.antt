-- What a call returns, beside what the grammar says of the bytes: the same of a value, of a list
-- and of a packet (RFC 9260 sections 3, 3.2, 3.2.1 and 3.3.10).
--
-- The grammar's answer is what `Result` has two cases for: a tree that the bytes mean, or a fault
-- that they have. Two notions relate a call's result to it: `Answers` and `Exactly`.
use Rattle.std.specs.Prelude.{◌≡◌, ◌↔◌, ◌⊎◌, ℕ, List, Result, Ok, Err, IsOk, IsErrOf, MatchResult, ◌+◌, drop, length}
use Rattle.dcsctp_tlv.specs.{declared.error.ChunkParseError.{ChunkParseError}, declared.error.LocatedFault.{LocatedFault}, declared.reader.Counts.{Counts}, declared.error.ChunkParseError.TheVariants.{InvalidLength, InvalidPadding, InvalidValue, OutOfMemory}, Level.{Row, Level, MeansTrees, MeansMany, HasFault, HasListFault}, Count.{total}, Fault.{Fault, Length, Padding, Value}}

-- ---- what a call returns

-- The errors of a call: that of each fault, and those that say that memory ran out.
pub record Errors (F E : Type 0) : Type 1 where
  pub of : F → E
  pub out_of_memory : E → Type 0

-- What the call gives, the grammar gives: the value that was read, or a fault whose error this is;
-- or memory ran out.
abbrev pub Answers : {X T E F : Type 0} → Errors F E → (X → T) → (Result T F → Type 0)
    → Result X E → Type 0
Answers errors view answer (Ok x) = answer (Ok (view x))
Answers errors view answer (Err e) =
    ((f : _) × (e ≡ errors.of f) × answer (Err f)) ⊎ errors.out_of_memory e

-- The same both ways: a value that the grammar gives, the call gives too, unless memory ran out;
-- and it gives a fault's error if and only if the grammar gives that fault.
pub record Exactly {X T E F : Type 0} (errors : Errors F E) (view : X → T)
    (answer : Result T F → Type 0) (result : Result X E) : Type 0 where
  pub answers : Answers errors view answer result
  pub value : (t : T) → answer (Ok t) → MatchResult result (λ x. view x ≡ t) errors.out_of_memory
  pub fault : (f : F) → IsErrOf result (errors.of f) ↔ answer (Err f)

-- ---- errors of the readers and the checks of items

abbrev pub error_of : Fault → ChunkParseError
error_of Length = InvalidLength
error_of Padding = InvalidPadding
error_of Value = InvalidValue

-- of a reader
abbrev pub reading : Errors Fault ChunkParseError
reading = record { of = error_of; out_of_memory = λ e. e ≡ OutOfMemory }

-- of a check, which does not allocate
abbrev pub checking : Errors Fault ChunkParseError
checking = record { of = error_of; out_of_memory = λ e. ⊥ }

-- of a check that says where the fault lies
abbrev pub locating : Errors (Fault × ℕ) LocatedFault
locating = record {
  of = λ f. record { offset = f.1; fault = error_of f.0 };
  out_of_memory = λ e. ⊥;
}

-- ---- the grammar's answers: the meaning, or the fault and its offset

-- to a value, by its kind's row: from the item's first byte
abbrev pub RowAnswer : {T : Type 0} → Row T → List ℕ → Result T (Fault × ℕ) → Type 0
RowAnswer row value (Ok tree) = row.means value tree
RowAnswer row value (Err f) = row.faults value f

-- to a list of bytes, by its level
abbrev pub ListAnswer : {T : Type 0} → Level T → List ℕ → Result (List T) (Fault × ℕ) → Type 0
ListAnswer level bytes (Ok trees) = MeansTrees level bytes trees
ListAnswer level bytes (Err f) = HasFault level bytes f

-- the same answer, with a count in place of the value
abbrev pub Counted : {T U F : Type 0} → (T → U) → (Result T F → Type 0) → Result U F → Type 0
Counted count answer (Ok n) = (t : _) × answer (Ok t) × (n ≡ count t)
Counted count answer (Err f) = answer (Err f)

-- the same answer, without the place
abbrev pub Unplaced : {T F : Type 0} → (Result T (F × ℕ) → Type 0) → Result T F → Type 0
Unplaced answer (Ok t) = answer (Ok t)
Unplaced answer (Err f) = (n : ℕ) × answer (Err (f, n))

-- the same of what is read at fixed places, without the value
abbrev pub Tested : {T F : Type 0} → Result T F → Result (Unit {0}) F → Type 0
Tested read (Ok _) = IsOk read
Tested read (Err f) = read ≡ Err f

-- the number of the trees of a list, and that of their parts
abbrev pub counts : {T : Type 0} → (T → ℕ) → List T → Counts
counts parts trees = record { items = length trees; parts = total parts trees }

-- to a list in a value, from a place on: the number of the item and of the list's items; or the
-- list's fault
abbrev pub ListedAnswer : {T : Type 0} → Level T → ℕ → List ℕ → Result ℕ (Fault × ℕ) → Type 0
ListedAnswer level place value (Ok n) =
    (k : ℕ) × MeansMany level (drop place value) k × (n ≡ 1 + k)
ListedAnswer level place value (Err f) = HasListFault level place value f
