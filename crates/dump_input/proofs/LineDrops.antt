-- A line that is too long is dropped up to its line feed.
use Rattle.std.proofs.Common.{◌≡◌, ◌+◌, ◌==◌, ◌&&◌, not, Bool, true, false, take-append-drop, ℕ, List, [], ◌∷◌, ◌++◌, length, take, drop, Option, IfSome, refl, sym, ap, subst, ◌∙◌, append_assoc, arith}
use Rattle.std.proofs.lemmas.List.Folds.{list_all-append}
use Rattle.std.specs.List.{list_all}
use Rattle.std.specs.Io.KnownBytes.{Keeps, Consumes, IsAtEnd, prepend_known}
use Rattle.std.proofs.KnownBytes.{Consumes-whole, Keeps-refl, prepend_known-end}
use Rattle.dump_io.proofs.Streams.{Consumes-all_dropped, Consumes-front_dropped}
use Rattle.dump_capture.specs.Decoding.{IsLine, fed}
use Rattle.dump_capture.proofs.TextLines.{BeginsWithLine}

-- ---- lines

both : (x y : Bool) → x ≡ true → y ≡ true → (x && y) ≡ true
both true y p q = q
both false y p q = cc

first : (x y : Bool) → (x && y) ≡ true → x ≡ true
first true y p = refl
first false y p = cc

IsLine-append : (a b : List ℕ) → IsLine a → IsLine b → IsLine (a ++ b)
IsLine-append a b front back =
    list_all-append (λ (byte : ℕ). not (byte == 10)) a b ∙ both _ _ front back

-- a part of a line at its beginning
pub IsLine-take : (n : ℕ) (bytes : List ℕ) → IsLine bytes → IsLine (take n bytes)
IsLine-take n bytes is = first _ _
    (sym (list_all-append (λ (byte : ℕ). not (byte == 10)) (take n bytes) (drop n bytes))
    ∙ ap (list_all (λ (byte : ℕ). not (byte == 10))) (take-append-drop n bytes) ∙ is)

-- ---- what was dropped

-- what was dropped is a beginning of the line
abbrev pub Dropped : Option (List ℕ) → Option (List ℕ) → Type 0
Dropped before now = (dropped : List ℕ) × IsLine dropped × Consumes before now dropped

-- all that was held is a part of the line, and more was read
pub Dropped-more : (before remaining after : Option (List ℕ)) (old none new : List ℕ)
    → Dropped before (prepend_known old remaining) → IsLine old
    → none ≡ [] → Keeps (prepend_known none remaining) (prepend_known new after)
    → Dropped before (prepend_known new after)
Dropped-more before remaining after old none new (dropped, is, consumes) line empty kept = (
  dropped ++ old,
  IsLine-append dropped old is line,
  Consumes-all_dropped before remaining after old none new dropped empty consumes kept,
)

-- there was a line feed
pub Dropped-fed : (before remaining : Option (List ℕ)) (held rest : List ℕ) (size : ℕ)
    → Dropped before (prepend_known held remaining)
    → BeginsWithLine held size → rest ≡ drop (size + 1) held
    → (line : List ℕ) × IsLine line × Consumes before (prepend_known rest remaining) (fed line)
Dropped-fed before remaining held rest size (dropped, is, consumes) begins rest_is = (
  dropped ++ take size held,
  IsLine-append dropped (take size held) is begins.line,
  subst (Consumes before (prepend_known rest remaining))
      (ap (λ (l : List ℕ). dropped ++ l) begins.feed
      ∙ sym (append_assoc dropped (take size held) (10 ∷ [])))
      (Consumes-front_dropped before remaining held rest dropped (size + 1) rest_is consumes),
)

-- the input was at its end
pub Dropped-end : (before remaining after : Option (List ℕ)) (old none new : List ℕ)
    → Dropped before (prepend_known old remaining) → IsLine old
    → none ≡ [] → Keeps (prepend_known none remaining) (prepend_known new after) → length new ≡ 0
    → IsAtEnd after → IfSome before IsLine
Dropped-end before remaining after old none new d line empty kept small end =
    let more = Dropped-more before remaining after old none new d line empty kept in
    Consumes-whole before (prepend_known new after) more.0 IsLine more.2
    (prepend_known-end (prepend_known new after) after new (Keeps-refl (prepend_known new after))
    (nothing new small) end) more.1 where
      nothing : (xs : List ℕ) → length xs ≡ 0 → xs ≡ []
      nothing [] is = refl
      nothing (x ∷ xs) is = absurd (omega arith)
