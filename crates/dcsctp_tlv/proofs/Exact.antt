-- From what a call answers to what it answers exactly, wherever the grammar gives one answer at
-- most.
use Rattle.std.{proofs.Common.{◌≡◌, ℕ, true, false, List, Result, Ok, Err, inl, inr, refl, sym, ap, subst, ◌∙◌, length, get_or, Fits, IsErrOf}, specs.Int.{w8}}
use Rattle.dcsctp_tlv.{specs.declared.error.ChunkParseError.{ChunkParseError}, specs.declared.error.ChunkParseError.TheVariants.{OutOfMemory}, specs.Fault.{Fault, Length, Padding, Value}, specs.Number.{AreBytes}, specs.Level.{Row, Level, MeansTrees}, specs.Reading.{Errors, Answers, Exactly, error_of, reading, checking, Tested, RowAnswer, ListAnswer, Counted, Unplaced}, specs.Decided.{LawfulRow}, proofs.Laws.{Lawful, list_one, list_apart, list_same}}

-- one answer at most
abbrev pub Single : {T F : Type 0} → (Result T F → Type 0) → Type 0
Single {T} {F} answer = (a b : Result T F) → answer a → answer b → a ≡ b

-- each fault has an error of its own, and none is that memory ran out
pub record Distinct {F E : Type 0} (errors : Errors F E) : Type 0 where
  pub one : (d e : F) → errors.of d ≡ errors.of e → d ≡ e
  pub apart : (f : F) → errors.out_of_memory (errors.of f) → ⊥

-- where there is one answer at most, and memory runs out only where it is a value
pub exactly : {X T E F : Type 0} (errors : Errors F E) → Distinct errors
    → (view : X → T) (answer : Result T F → Type 0) → Single answer → (r : Result X E)
    → Answers errors view answer r
    → ((e : E) → r ≡ Err e → errors.out_of_memory e → (t : T) × answer (Ok t))
    → Exactly errors view answer r
exactly errors distinct view answer single (Ok x) a memory = record {
  answers = a;
  value = λ t m. (let h : Ok (view x) ≡ Ok t = single (Ok (view x)) (Ok t) a m in cc);
  fault = λ f. (
    (λ h. absurd cc),
    (λ g. absurd (let h : Ok (view x) ≡ Err f = single (Ok (view x)) (Err f) a
        g in cc)),
  );
}
exactly errors distinct view answer single (Err e) (inl found) memory = record {
  answers = inl found;
  value = λ t m. absurd (let h : Ok t ≡ Err found.0 = single (Ok t) (Err found.0) m found.2 in cc);
  fault = λ f. (
    (λ h. (let is : e ≡ errors.of f = cc in
        subst (λ y. answer (Err y)) (distinct.one found.0 f (sym found.1 ∙ is)) found.2)),
    (λ g. (let h : Err found.0 ≡ Err f = single (Err found.0) (Err f) found.2 g in
        let same : found.0 ≡ f = cc in ap Err (found.1 ∙ ap errors.of same))),
  );
}
exactly errors distinct view answer single (Err e) (inr lacks) memory = record {
  answers = inr lacks;
  value = λ t m. lacks;
  fault = λ f. (
    (λ h. absurd (let is : e ≡ errors.of f = cc in
        distinct.apart f (subst errors.out_of_memory is lacks))),
    (λ g. absurd (let m = memory e refl lacks in let h : Ok m.0 ≡ Err f = single (Ok m.0) (Err f)
        m.1 g in cc)),
  );
}

-- ---- errors of items

pub error_one : (d e : Fault) → error_of d ≡ error_of e → d ≡ e
error_one Length Length h = refl
error_one Padding Padding h = refl
error_one Value Value h = refl
error_one d e h = absurd cc

pub no_memory : (e : Fault) → error_of e ≡ OutOfMemory → ⊥
no_memory Length h = cc
no_memory e h = cc

pub reading_distinct : Distinct reading
reading_distinct = record { one = error_one; apart = no_memory }

pub checking_distinct : Distinct checking
checking_distinct = record { one = error_one; apart = λ f none. none }

-- ---- one answer at most

pub row_single : {T : Type 0} (row : Row T) → LawfulRow row → (v : List ℕ) → AreBytes v
    → Single (RowAnswer row v)
row_single row law v fits (Ok s) (Ok t) m n = ap Ok (law.one v s t m n)
row_single row law v fits (Ok t) (Err e) m f = absurd (law.apart v t e fits m f)
row_single row law v fits (Err e) (Ok t) f m = absurd (law.apart v t e fits m f)
row_single row law v fits (Err d) (Err e) f g = ap Err (law.same v d e fits f g)

pub list_single : {T : Type 0} (level : Level T) → Lawful level → (bytes : List ℕ) → AreBytes bytes
    → Single (ListAnswer level bytes)
list_single level law bytes fits (Ok s) (Ok t) m n = ap Ok (list_one level law bytes s t m n)
list_single level law bytes fits (Ok t) (Err e) m f =
    absurd (list_apart level law bytes t e fits m f)
list_single level law bytes fits (Err e) (Ok t) f m =
    absurd (list_apart level law bytes t e fits m f)
list_single level law bytes fits (Err d) (Err e) f g =
    ap Err (list_same level law bytes d e fits f g)

pub counted_single : {T U F : Type 0} (count : T → U) (answer : Result T F → Type 0) → Single answer
    → Single (Counted count answer)
counted_single count answer single (Ok m) (Ok n) p q = (let h : Ok p.0 ≡ Ok q.0 = single (Ok p.0)
    (Ok q.0) p.1 q.1 in let same : p.0 ≡ q.0 = cc in ap Ok (p.2 ∙ ap count same ∙ sym q.2))
counted_single count answer single (Ok m) (Err f) p g =
    absurd (let h : Ok p.0 ≡ Err f = single (Ok p.0) (Err f) p.1 g in cc)
counted_single count answer single (Err f) (Ok n) g q =
    absurd (let h : Ok q.0 ≡ Err f = single (Ok q.0) (Err f) q.1 g in cc)
counted_single count answer single (Err f) (Err g) p q =
    (let h : Err f ≡ Err g = single (Err f) (Err g) p q in let same : f ≡ g = cc in ap Err same)

pub unplaced_single : {T F : Type 0} (answer : Result T (F × ℕ) → Type 0) → Single answer
    → Single (Unplaced answer)
unplaced_single answer single (Ok s) (Ok t) p q =
    (let h = single (Ok s) (Ok t) p q in let same : s ≡ t = cc in ap Ok same)
unplaced_single answer single (Ok t) (Err f) p q =
    absurd (let h = single (Ok t) (Err (f, q.0)) p q.1 in cc)
unplaced_single answer single (Err f) (Ok t) p q =
    absurd (let h = single (Ok t) (Err (f, p.0)) q p.1 in cc)
unplaced_single {T} {F} answer single (Err f) (Err g) p q =
    (let h = single (Err (f, p.0)) (Err (g, q.0)) p.1 q.1 in
    let same : (f, p.0) ≡ (g, q.0) = cc in ap (λ (x : F × ℕ). Err x.0) same)

tested_single : {T : Type 0} (read : Result T Fault) → Single (Tested read)
tested_single read (Ok x) (Ok y) p q = refl
tested_single (Ok t) (Ok x) (Err f) p q = absurd cc
tested_single (Err e) (Ok x) (Err f) p q = absurd (let h : false ≡ true = p in cc)
tested_single (Ok t) (Err f) (Ok x) p q = absurd cc
tested_single (Err e) (Err f) (Ok x) p q = absurd (let h : false ≡ true = q in cc)
tested_single read (Err e) (Err f) p q =
    let h : Err e ≡ Err f = sym p ∙ q in let same : e ≡ f = cc in ap Err same

-- ---- of a check of a value

pub tested_exactly : {T : Type 0} (read : Result T Fault) (r : Result (Unit {0}) ChunkParseError)
    → Answers checking (λ (u : Unit {0}). u) (Tested read) r
    → Exactly checking (λ (u : Unit {0}). u) (Tested read) r
tested_exactly read r a = exactly checking checking_distinct (λ u. u) (Tested read)
    (tested_single read) r a (λ e is none. absurd none)

-- ---- of a reader of items

-- the answer where memory ran out
pub lacks : {X T : Type 0} (r : Result X ChunkParseError) (view : X → T) (answer : Result T Fault
    → Type 0) → (IsErrOf r OutOfMemory → (t : T) × answer (Ok t)) → (e : ChunkParseError)
    → r ≡ Err e → e ≡ OutOfMemory → (t : T) × answer (Ok t)
lacks r view answer memory e is h = memory (is ∙ ap Err h)

-- a value has one answer under a lawful row
pub row_exactly : {X T : Type 0} {row : Row T} → LawfulRow row → (v : List ℕ)
    → ((i : ℕ) → Fits w8 (get_or v i 0)) → {view : X → T} {r : Result X ChunkParseError}
    → Answers reading view (Unplaced (RowAnswer row v)) r × (IsErrOf r OutOfMemory → (t : T)
    × row.means v t) → Exactly reading view (Unplaced (RowAnswer row v)) r
row_exactly {X} {T} {row} law v fits {view} {r} a = exactly reading reading_distinct view
    (Unplaced (RowAnswer row v))
    (unplaced_single (RowAnswer row v) (row_single row law v (λ i. (fits i).fits))) r a.0
    (lacks r view (Unplaced (RowAnswer row v)) a.1)

-- the same of a list,
pub list_exactly : {X T : Type 0} (level : Level T) → Lawful level → (bytes : List ℕ)
    → AreBytes bytes → (view : X → List T) (r : Result X ChunkParseError)
    → Answers reading view (Unplaced (ListAnswer level bytes)) r → (IsErrOf r OutOfMemory
    → (ts : List T) × MeansTrees level bytes ts)
    → Exactly reading view (Unplaced (ListAnswer level bytes)) r
list_exactly level law bytes fits view r a memory = exactly reading reading_distinct view
    (Unplaced (ListAnswer level bytes))
    (unplaced_single (ListAnswer level bytes) (list_single level law bytes fits)) r a
    (lacks r view (Unplaced (ListAnswer level bytes)) memory)

-- and of its check
pub count_exactly : {T : Type 0} (level : Level T) → Lawful level → (bytes : List ℕ)
    → AreBytes bytes → (r : Result ℕ ChunkParseError)
    → Answers checking (λ (n : ℕ). n) (Counted length (Unplaced (ListAnswer level bytes))) r
    → Exactly checking (λ (n : ℕ). n) (Counted length (Unplaced (ListAnswer level bytes))) r
count_exactly level law bytes fits r a = exactly checking checking_distinct (λ n. n)
    (Counted length (Unplaced (ListAnswer level bytes)))
    (counted_single length (Unplaced (ListAnswer level bytes))
    (unplaced_single (ListAnswer level bytes) (list_single level law bytes fits))) r a
    (λ e is none. absurd none)
