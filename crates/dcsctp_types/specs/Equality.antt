-- Equality of values.
use Rattle.std.specs.Prelude.{◌≡◌, ◌↔◌, Bool, IsTrue}

-- the test holds of two values if and only if they are the same
abbrev pub TellsSame : {A : Type 0} → (A → A → Bool) → Type 0
TellsSame {A} test = (a b : A) → IsTrue (test a b) ↔ (a ≡ b)

-- what a clone can be is the value itself
abbrev pub IsItself : {A : Type 0} → (A → A → Type 0) → Type 0
IsItself {A} clones = (a b : A) → clones a b → b ≡ a
