-- What a list takes in memory: no room to spare. No standard speaks of it.
use Rattle.std.specs.{Prelude.{◌≡◌, All, vec_len, vec_capacity}, Global.{Vec}}

-- the list has room for its items alone
abbrev pub IsTightList : {X : Type 0} → Vec X → Type 0
IsTightList list = vec_capacity list ≡ vec_len list

-- and so has each list in an item
abbrev pub AreTight : {X : Type 0} → (X → Type 0) → Vec X → Type 0
AreTight IsTight list = IsTightList list × All IsTight list.items
