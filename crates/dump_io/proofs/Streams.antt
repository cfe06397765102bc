-- What is left of an input, in memory and in its reader.
use Rattle.std.proofs.Common.{◌≡◌, ℕ, List, [], ◌++◌, take, drop, Option, Some, None, sym, ap, ◌∙◌, append_assoc, append-nil, take-append-drop}
use Rattle.std.specs.Io.KnownBytes.{Keeps, Consumes, prepend_known}
use Rattle.std.proofs.KnownBytes.{Consumes-trans, Consumes-kept}

-- the first bytes in memory were dropped
pub Consumes-dropped : (remaining : Option (List ℕ)) (old new dropped : List ℕ) → old ≡ dropped
    ++ new
    → Consumes (prepend_known old remaining) (prepend_known new remaining) dropped
Consumes-dropped None old new dropped split = tt
Consumes-dropped (Some xs) old new dropped split = ap (λ l. l ++ xs) split
    ∙ append_assoc dropped new xs

-- after what was dropped before, all of the memory was dropped, and more was read
pub Consumes-all_dropped : (all remaining after : Option (List ℕ)) (old none new dropped : List ℕ)
    → none ≡ []
    → Consumes all (prepend_known old remaining) dropped
    → Keeps (prepend_known none remaining) (prepend_known new after)
    → Consumes all (prepend_known new after) (dropped ++ old)
Consumes-all_dropped all remaining after old none new dropped empty before kept =
    let split : old ≡ old ++ none = sym (ap (λ l. old ++ l) empty ∙ append-nil old) in
    Consumes-kept all _ _ _ (Consumes-trans all _ _ dropped old before
    (Consumes-dropped remaining old none old split)) kept

-- after what was dropped before, the first `count` bytes of the memory were dropped
pub Consumes-front_dropped : (all remaining : Option (List ℕ)) (old new dropped : List ℕ)
    (count : ℕ) → new ≡ drop count old
    → Consumes all (prepend_known old remaining) dropped
    → Consumes all (prepend_known new remaining) (dropped ++ take count old)
Consumes-front_dropped all remaining old new dropped count rest before =
    let split : old ≡ take count old ++ new =
    sym (ap (λ l. take count old ++ l) rest ∙ take-append-drop count old) in
    Consumes-trans all _ _ dropped (take count old) before
    (Consumes-dropped remaining old new (take count old) split)
