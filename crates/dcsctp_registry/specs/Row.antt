-- A row of a table of types: the type, and how its value is laid out.
use Rattle.std.specs.Prelude.{ℕ}
use Rattle.dcsctp_registry.specs.declared.layout.{AddressForm.{AddressForm}, Layout.{Layout}, Rest.{Rest}}

pub record Row : Type 0 where
  pub typ : ℕ
  pub layout : Layout

-- the type, its numbers of four bytes, its numbers of two, its reserved bytes, its address, its rest
abbrev pub row : ℕ → ℕ → ℕ → ℕ → AddressForm → Rest → Row
row typ numbers short_numbers reserved address rest = record {
  typ = typ;
  layout = record {
    numbers = numbers;
    short_numbers = short_numbers;
    reserved = reserved;
    address = address;
    rest = rest;
  };
}
