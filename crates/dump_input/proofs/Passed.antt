-- An item that is too long was dropped, or the input ended in it, or a device failed midway.
use Rattle.std.proofs.Common.{◌≡◌, ◌⊎◌, inl, inr, ◌+◌, ◌-◌, ◌≤◌, ◌<◌, ◌==◌, ◌&&◌, not, ℕ, Bool, true, false, List, [], ◌∷◌, ◌++◌, length, take, drop, replicate, Option, None, Some, IfSome, refl, sym, ap, subst, ◌∙◌, append_assoc, take-append-drop, length-append, length-take-le, arith}
use Rattle.std.proofs.lemmas.Bool.{cases_lt}
use Rattle.std.proofs.lemmas.List.{take-append-le, length-replicate}
use Rattle.std.proofs.lemmas.List.Folds.{list_all-append}
use Rattle.std.proofs.Math.Seq.{take-append_seam, take-length}
use Rattle.std.specs.List.{position}
use Rattle.std.specs.Io.{StartsWith}
use Rattle.std.specs.Io.KnownBytes.{Consumes, prepend_known}
use Rattle.dump_capture.specs.Event.{Event}
use Rattle.dump_capture.specs.Decoding.{Passes, IsLine, fed}
use Rattle.dump_capture.specs.declared.decoder.Extent.{Extent}
use Rattle.dump_capture.specs.declared.decoder.Extent.TheVariants as extent
use Rattle.dump_capture.specs.declared.decoder.Fault.{Fault}
use Rattle.dump_input.specs.Handed.{Reaches, FallsShort}
use Rattle.dump_capture.proofs.TextLines.{no_feed, first_feed}
use Rattle.dump_input.proofs.LineDrops.{IsLine-take}

-- ---- beginnings

starts_longer : (held rest bytes more : List ℕ) → held ++ rest ≡ bytes ++ more
    → length held ≤ length bytes → StartsWith bytes held
starts_longer held rest bytes more same fits =
    sym (take-append-le (length held) bytes more fits)
    ∙ ap (take (length held)) (sym same) ∙ take-append_seam held rest

-- a line feed isn't in a line
feed_in_line : (line : List ℕ) → IsLine (fed line) → ⊥
feed_in_line line is =
    never _ (sym (list_all-append (λ (byte : ℕ). not (byte == 10)) line (10 ∷ [])) ∙ is) where
      never : (x : Bool) → (x && false) ≡ true → ⊥
      never true e = cc
      never false e = cc

before_feed : (held rest line more : List ℕ) → held ++ rest ≡ fed line ++ more → IsLine held
    → length held ≤ length line
before_feed held rest line more same is = by_size (cases_lt (length line) (length held)) where
  by_size : (length line < length held) ⊎ (length held ≤ length line) → length held ≤ length line
  by_size (inr fits) = fits
  by_size (inl past) =
      let size : length (fed line) ≡ length line + 1 = length-append line (10 ∷ []) in
      let within : length (fed line) ≤ length held = omega (arith, size, past) in
      let part : take (length (fed line)) held ≡ fed line =
      sym (take-append-le (length (fed line)) held rest within)
      ∙ ap (take (length (fed line))) same ∙ take-append_seam (fed line) more in
      absurd (feed_in_line line (subst IsLine part (IsLine-take (length (fed line)) held is)))

-- ---- what a dropped item was

-- the item goes on after these bytes
abbrev Begun : Extent → List ℕ → Type 0
Begun (extent.Bytes n) held = length held < n
Begun extent.Line held = IsLine held

-- the end of the item that these bytes begin, in bytes that are known
found_in : (reach : Extent) (held rest : List ℕ)
    → Begun reach held
    → ((bytes : List ℕ) × Reaches reach bytes × StartsWith (held ++ rest) bytes)
    ⊎ FallsShort reach (held ++ rest)
found_in (extent.Bytes n) held rest begun = by_size (cases_lt (length (held ++ rest)) n) where
  by_size : (length (held ++ rest) < n) ⊎ (n ≤ length (held ++ rest))
      → ((bytes : List ℕ) × Reaches (extent.Bytes n) bytes × StartsWith (held ++ rest) bytes)
      ⊎ FallsShort (extent.Bytes n) (held ++ rest)
  by_size (inr fits) =
      let size = length-take-le n (held ++ rest) fits in
      inl (take n (held ++ rest), size, ap (λ m. take m (held ++ rest)) size)
  by_size (inl short) = inr short
found_in extent.Line held rest begun =
    by_feed (position (λ (byte : ℕ). byte == 10) (held ++ rest)) refl where
      by_feed : (at : Option ℕ) → position (λ (byte : ℕ). byte == 10) (held ++ rest) ≡ at
          → ((bytes : List ℕ) × Reaches extent.Line bytes × StartsWith (held ++ rest) bytes)
          ⊎ FallsShort extent.Line (held ++ rest)
      by_feed None is = inr (no_feed (held ++ rest) is)
      by_feed (Some size) is =
          let begins = first_feed (held ++ rest) size is in
          let line = take size (held ++ rest) in
          let within = begins.within in
          let same : length (fed line) ≡ size + 1 = length-append line (10 ∷ [])
          ∙ ap (λ (n : ℕ). n + 1) (length-take-le size (held ++ rest) (omega (arith, within))) in
          inl (
            fed line,
            (line, begins.line, refl),
            ap (λ n. take n (held ++ rest)) same ∙ begins.feed,
          )

module _ {S : Type 0} (Item : S → List ℕ → List Event → S → Type 0)
    (End : S → List ℕ → List Event → Option Fault → Type 0) (s t : S) (events : List Event) where
  begun : (reach : Extent) (held : List ℕ) → Passes Item End s held reach events t
      → Begun reach held
  begun (extent.Bytes n) held passes = passes.0
  begun extent.Line held passes = passes.0

  -- as many bytes as it reaches to are the item
  whole_item : (reach : Extent) (held rest bytes more : List ℕ)
      → Passes Item End s held reach events t → held ++ rest ≡ bytes ++ more
      → Reaches reach bytes → Item s bytes events t
  whole_item (extent.Bytes n) held rest bytes more passes same size =
      passes.1 bytes size (starts_longer held rest bytes more same
      (let begun = passes.0 in omega (arith, begun, size)))
  whole_item extent.Line held rest bytes more passes same (line, is, fed_is) =
      let split : held ++ rest ≡ fed line ++ more = same ∙ ap (λ l. l ++ more) fed_is in
      subst (λ l. Item s l events t) (sym fed_is) (passes.1 line is
      (starts_longer held rest line (10 ∷ more) (split ∙ append_assoc line (10 ∷ []) more)
      (before_feed held rest line more split passes.0)))

  -- less is the end
  short_item : (reach : Extent) (held rest : List ℕ)
      → Passes Item End s held reach events t
      → FallsShort reach (held ++ rest) → End s (held ++ rest) events None
  short_item (extent.Bytes n) held rest passes short =
      passes.2 (held ++ rest) short (take-append_seam held rest)
  short_item extent.Line held rest passes short =
      passes.2 (held ++ rest) short (take-append_seam held rest)

  -- of an input of which nothing is known, some bytes are the item
  any_item : (reach : Extent) (held : List ℕ) → Passes Item End s held reach events t
      → (bytes : List ℕ) × Item s bytes events t
  any_item (extent.Bytes n) held passes =
      let begun = passes.0 in
      let none : ℕ = 0 in
      let more = replicate (n - length held) none in (
        held ++ more,
        passes.1 (held ++ more)
            (omega (arith, begun, length-append held more, length-replicate (n - length held) none))
            (take-append_seam held more),
      )
  any_item extent.Line held passes = (fed held, passes.1 held passes.0 (take-length held))

  any_end : (reach : Extent) (held : List ℕ) → Passes Item End s held reach events t
      → (bytes : List ℕ) × End s bytes events None
  any_end (extent.Bytes n) held passes = (held, passes.2 held passes.0 (take-length held))
  any_end extent.Line held passes = (held, passes.2 held passes.0 (take-length held))

  -- all of it was dropped
  pub Passed : (reach : Extent) (held : List ℕ) (remaining after : Option (List ℕ))
      → Passes Item End s held reach events t
      → (bytes : List ℕ) × Reaches reach bytes
      × Consumes (prepend_known held remaining) after bytes
      → (bytes : List ℕ) × Item s bytes events t
      × Consumes (prepend_known held remaining) after bytes
  Passed reach held None after passes dropped =
      let some = any_item reach held passes in (some.0, some.1, tt)
  Passed reach held (Some rest) None passes (bytes, reaches, consumes) = absurd consumes
  Passed reach held (Some rest) (Some more) passes (bytes, reaches, consumes) =
      (bytes, whole_item reach held rest bytes more passes consumes reaches, consumes)

  -- the input ended in it
  pub Passed-short : (reach : Extent) (held : List ℕ) (remaining : Option (List ℕ))
      → Passes Item End s held reach events t
      → IfSome (prepend_known held remaining) (FallsShort reach)
      → (bytes : List ℕ) × End s bytes events None
      × IfSome (prepend_known held remaining) (λ l. l ≡ bytes)
  Passed-short reach held None passes short =
      let some = any_end reach held passes in (some.0, some.1, tt)
  Passed-short reach held (Some rest) passes short =
      (held ++ rest, short_item reach held rest passes short, refl)

  -- a device failed midway
  pub Passed-partly : (reach : Extent) (held : List ℕ) (remaining : Option (List ℕ))
      → Passes Item End s held reach events t
      → ((bytes : List ℕ) × Item s bytes events t
      × IfSome (prepend_known held remaining) (λ l. StartsWith l bytes))
      ⊎ ((bytes : List ℕ) × End s bytes events None
      × IfSome (prepend_known held remaining) (λ l. l ≡ bytes))
  Passed-partly reach held None passes =
      let some = any_item reach held passes in inl (some.0, some.1, tt)
  Passed-partly reach held (Some rest) passes =
      by_end (found_in reach held rest (begun reach held passes)) where
        by_end : ((bytes : List ℕ) × Reaches reach bytes × StartsWith (held ++ rest) bytes)
            ⊎ FallsShort reach (held ++ rest)
            → ((bytes : List ℕ) × Item s bytes events t × StartsWith (held ++ rest) bytes)
            ⊎ ((bytes : List ℕ) × End s bytes events None × (held ++ rest ≡ bytes))
        by_end (inr short) =
            inr (held ++ rest, short_item reach held rest passes short, refl)
        by_end (inl (bytes, reaches, starts)) =
            let split : held ++ rest ≡ bytes ++ drop (length bytes) (held ++ rest) =
            sym (take-append-drop (length bytes) (held ++ rest))
            ∙ ap (λ l. l ++ drop (length bytes) (held ++ rest)) starts in
            inl (bytes, whole_item reach held rest bytes _ passes split reaches, starts)
