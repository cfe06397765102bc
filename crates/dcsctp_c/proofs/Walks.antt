-- Items that follow one another, as a loop goes over them and writes a struct for each that has room.
use Rattle.std.proofs.{Common.{◌≡◌, ◌∙◌, ◌+◌, ◌≤◌, ℕ, List, [], ◌∷◌, ◌++◌, Option, length, take, drop, set, refl, sym, ap, subst, inl, inr, arith, append_assoc, append-nil, length-append, length-take, drop-drop, drop-set-lt, take_all}, lemmas.Bool.{cases_lt}, lemmas.List.{set_past, take_more_set}}
use Rattle.dcsctp_tlv.specs.Level.{Row, Level, MeansTrees}
use Rattle.dcsctp_c.specs.{Part.{ValueMeans, MeansFirst}, Walk.{AreFrom, end_of, MeanEach}}

-- ---- what was written

-- One struct more than the number so far, if it has room.
pub data Adds {S : Type 0} (old new : List S) (count : ℕ) (s : S) : Type 0 where
  has_room : length old ≡ count → new ≡ old ++ s ∷ [] → Adds old new count s
  no_room : length old ≤ count → new ≡ old → Adds old new count s

pub added : {S : Type 0} (ss : List S) (count : ℕ) (s : S)
    → Adds (take count ss) (take (count + 1) (set ss count s)) count s
added ss count s = elim (cases_lt count (length ss)) [
  | inl lt ↦ has_room (omega (arith, length-take count ss, lt)) (take_more_set ss count s lt)
  | inr le ↦ no_room (omega (arith, length-take count ss, le))
      (ap (take (count + 1)) (set_past ss count s le) ∙ take_all (count + 1) ss (omega (arith, le))
      ∙ sym (take_all count ss le))
]

-- the structs after those that were written
pub others_stay : {S : Type 0} (ss old : List S) (count : ℕ) (s : S)
    → drop count ss ≡ drop count old → drop (count + 1) (set ss count s) ≡ drop (count + 1) old
others_stay ss old count s same =
    drop-set-lt (count + 1) ss count s (omega arith) ∙ sym (drop-drop 1 count ss)
    ∙ ap (drop 1) same ∙ drop-drop 1 count old

-- ---- where they are

pub end_last : {S : Type 0} (next : S → ℕ) (offset : ℕ) (ss : List S) (s : S)
    → end_of next offset (ss ++ s ∷ []) ≡ next s
end_last next offset [] s = refl
end_last next offset (r ∷ ss) s = end_last next (next r) ss s

pub last_at : {S : Type 0} (IsAt : ℕ → S → Type 0) (next : S → ℕ) (offset : ℕ) (ss : List S) (s : S)
    → AreFrom IsAt next offset ss → IsAt (end_of next offset ss) s
    → AreFrom IsAt next offset (ss ++ s ∷ [])
last_at IsAt next offset [] s are here = (here, tt)
last_at IsAt next offset (r ∷ ss) s are here =
    (are.0, last_at IsAt next (next r) ss s are.1 here)

-- So many items were passed, and the next one is at the offset. The structs are theirs, as many as
-- have room.
pub record Walked {S : Type 0} (IsAt : ℕ → S → Type 0) (next : S → ℕ) (start : ℕ)
    (ss : List S) (count offset : ℕ) : Type 0 where
  pub are : AreFrom IsAt next start ss
  pub ends : length ss ≡ count → end_of next start ss ≡ offset

pub walk_begins : {S : Type 0} (IsAt : ℕ → S → Type 0) (next : S → ℕ) (start : ℕ) (ss : List S)
    → Walked IsAt next start (take 0 ss) 0 start
walk_begins IsAt next start ss = record { are = tt; ends = λ none. refl }

pub walk_goes_on : {S : Type 0} (IsAt : ℕ → S → Type 0) (next : S → ℕ) (start : ℕ)
    (old new : List S) (count offset : ℕ) (s : S) → Walked IsAt next start old count offset
    → IsAt offset s → Adds old new count s → Walked IsAt next start new (count + 1) (next s)
walk_goes_on IsAt next start old new count offset s w here (has_room size is) = record {
  are = subst (AreFrom IsAt next start) (sym is) (last_at IsAt next start old s w.are
      (subst (λ (n : ℕ). IsAt n s) (sym (w.ends size)) here));
  ends = λ all. ap (end_of next start) is ∙ end_last next start old s;
}
walk_goes_on IsAt next start old new count offset s w here (no_room few is) = record {
  are = subst (AreFrom IsAt next start) (sym is) w.are;
  ends = λ all. absurd (omega (arith, few, all, ap length is));
}

-- ---- what they mean

pub more_trees : {S T : Type 0} (Means : S → T → Type 0) (ss : List S) (ts us : List T)
    → MeanEach Means ss ts → MeanEach Means ss (ts ++ us)
more_trees Means [] ts us m = tt
more_trees Means (s ∷ ss) [] us m = absurd m
more_trees Means (s ∷ ss) (t ∷ ts) us m = (m.0, more_trees Means ss ts us m.1)

pub last_means : {S T : Type 0} (Means : S → T → Type 0) (ss : List S) (ts : List T) (s : S) (t : T)
    → MeanEach Means ss ts → length ts ≡ length ss → Means s t
    → MeanEach Means (ss ++ s ∷ []) (ts ++ t ∷ [])
last_means Means [] [] s t m same here = (here, tt)
last_means Means [] (u ∷ ts) s t m same here = absurd (omega (arith, same))
last_means Means (r ∷ ss) [] s t m same here = absurd m
last_means Means (r ∷ ss) (u ∷ ts) s t m same here =
    (m.0, last_means Means ss ts s t m.1 (omega (arith, same)) here)

-- So many trees were passed, and these are left. The structs mean those that were passed.
pub record Passed {S T : Type 0} (Means : S → T → Type 0) (all left : List T) (ss : List S)
    (count : ℕ) : Type 0 where
  pub done : List T
  pub split : all ≡ done ++ left
  pub number : length done ≡ count
  pub mean : MeanEach Means ss done

pub pass_begins : {S T : Type 0} (Means : S → T → Type 0) (all : List T) (ss : List S)
    → Passed Means all all (take 0 ss) 0
pass_begins Means all ss = record { done = []; split = refl; number = refl; mean = tt }

pub pass_goes_on : {S T : Type 0} (Means : S → T → Type 0) (all left others : List T)
    (old new : List S) (count : ℕ) (s : S) (t : T) → Passed Means all left old count
    → left ≡ t ∷ others → Means s t → Adds old new count s → Passed Means all others new (count + 1)
pass_goes_on {S} {T} Means all left others old new count s t p first here adds = record {
  done = p.done ++ t ∷ [];
  split = p.split ∙ ap (λ (us : List T). p.done ++ us) first
      ∙ sym (append_assoc p.done (t ∷ []) others);
  number = (let size = length-append p.done (t ∷ []) in
      let before = p.number in
      omega (arith, size, before));
  mean = last adds;
} where
  last : Adds old new count s → MeanEach Means new (p.done ++ t ∷ [])
  last (has_room size is) =
      subst (λ (ss : List S). MeanEach Means ss (p.done ++ t ∷ [])) (sym is)
      (last_means Means old p.done s t p.mean (p.number ∙ sym size) here)
  last (no_room few is) =
      subst (λ (ss : List S). MeanEach Means ss (p.done ++ t ∷ [])) (sym is)
      (more_trees Means old p.done (t ∷ []) p.mean)

-- all were passed
pub pass_ends : {S T : Type 0} (Means : S → T → Type 0) (all left : List T) (ss : List S)
    (count : ℕ) → Passed Means all left ss count → left ≡ []
    → (count ≡ length all) × MeanEach Means ss all
pass_ends {S} {T} Means all left ss count p none =
    let same : all ≡ p.done =
    p.split ∙ ap (λ (us : List T). p.done ++ us) none ∙ append-nil p.done in
    (sym p.number ∙ ap length (sym same), subst (MeanEach Means ss) (sym same) p.mean)

-- the same, where the trees that are left are those of the bytes from the offset on
abbrev pub PassedTo : {S T : Type 0} → Level T → (ℕ → List ℕ) → (S → T → Type 0) → List T → List S
    → ℕ → ℕ → Type 0
PassedTo {S} {T} level from Means all ss count offset = (left : List T)
    × MeansTrees level (from offset) left × Passed Means all left (take count ss) count

pub passed_none : {S T : Type 0} (level : Level T) (from : ℕ → List ℕ) (Means : S → T → Type 0)
    (all : List T) (ss : List S) (offset : ℕ) → MeansTrees level (from offset) all
    → PassedTo level from Means all ss 0 offset
passed_none level from Means all ss offset mean = (all, mean, pass_begins Means all ss)

pub passed_more : {S T : Type 0} (level : Level T) (from : ℕ → List ℕ) (Means : S → T → Type 0)
    (row : Row T) (found : Option (List ℕ)) (all : List T) (ss : List S)
    (count offset further : ℕ) (s : S) → PassedTo level from Means all ss count offset
    → MeansFirst level row (from offset) found (from further)
    → ((t : T) → ValueMeans row found t → Means s t)
    → PassedTo level from Means all (set ss count s) (count + 1) further
passed_more level from Means row found all ss count offset further s p means is =
    let first = means p.0 p.1 in (
      first.1,
      first.4,
      pass_goes_on Means all p.0 first.1 (take count ss) (take (count + 1) (set ss count s)) count s
          first.0 p.2 first.2 (is first.0 first.3) (added ss count s),
    )
