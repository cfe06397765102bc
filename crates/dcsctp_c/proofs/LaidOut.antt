-- Where the address and the rest lie in a value.
use Rattle.std.{proofs.Common.{◌≡◌, ◌∙◌, ◌+◌, ◌-◌, ◌*◌, ◌≤◌, ◌&&◌, ◌==◌, ℕ, Bool, true, false, if◌then◌else◌, Option, Some, None, List, length, take, drop, refl, sym, ap, subst, arith, nat_le, leb-true, length-take, length-drop, drop-drop}, specs.Option.{option_and_then}, proofs.lemmas.Bool.{and_parts}}
use Rattle.dcsctp_tlv.specs.{Fields.{fields}, Number.{number16, number32}}
use Rattle.dcsctp_registry.specs.{Layout.{Registered, has_room, is_nothing, is_laid_out, front_size, header_size, begins_with, octets_at, split_address, rest_in, parts_at, read}, Registered.{layout_in, read_in}, Row.{Row}}
use Rattle.dcsctp_registry.specs.declared.layout.{AddressForm.{AddressForm}, Layout.{Layout}}
use Rattle.dcsctp_registry.specs.declared.layout.AddressForm.TheVariants as address

-- where the test has to pass
pub taken : {A : Type 0} (test : Bool) (o : Option A) (a : A) → (if test then o else None) ≡ Some a
    → (test ≡ true) × (o ≡ Some a)
taken true o a e = (refl, e)
taken false o a e = absurd (let no : None ≡ Some a = e in cc)

pub same_some : {A : Type 0} (a b : A) → Some a ≡ Some b → a ≡ b
same_some a b e = cc

-- ---- the address

record Split (form : AddressForm) (bytes : List ℕ) (parts : Option (List ℕ) × List ℕ)
    : Type 0 where
  pub after : ℕ
  pub left : parts.1 ≡ drop after bytes
  pub within : after ≤ length bytes
  pub octets : (o : List ℕ) → parts.0 ≡ Some o
      → (o ≡ take (length o) (drop (header_size form) bytes))
      × (header_size form + length o ≤ length bytes)

octets_split : (form : AddressForm) (n : ℕ) (bytes : List ℕ) (parts : Option (List ℕ) × List ℕ)
    → octets_at (header_size form) n bytes ≡ Some parts → Split form bytes parts
octets_split form n bytes parts e =
    let h : ℕ = header_size form in
    let octets : List ℕ = take n (drop h bytes) in
    let there = taken (nat_le (h + n) (length bytes)) (Some (Some octets, drop (h + n) bytes)) parts
    e in
    let fits : h + n ≤ length bytes = leb-true _ _ there.0 in
    let count : length octets ≡ n =
    (let a = length-take n (drop h bytes) in let b = length-drop h bytes in omega (arith, a, b, fits)) in
    subst (Split form bytes) (same_some (Some octets, drop (h + n) bytes) parts there.1) (record {
      after = h + n;
      left = refl;
      within = fits;
      octets = λ o same.
          let is : octets ≡ o = same_some octets o same in
          subst (λ (x : List ℕ). (x ≡ take (length x) (drop h bytes)) × (h + length x ≤ length bytes)) is
          (ap (λ (k : ℕ). take k (drop h bytes)) (sym count), omega (arith, count, fits));
    })

address_split : (form : AddressForm) (bytes : List ℕ) (parts : Option (List ℕ) × List ℕ)
    → split_address form bytes ≡ Some parts → Split form bytes parts
address_split address.Nothing bytes parts e =
    subst (Split address.Nothing bytes) (same_some (None, bytes) parts e) (record {
      after = 0;
      left = refl;
      within = omega arith;
      octets = λ o same. absurd (let no : None ≡ Some o = same in cc);
    })
address_split address.Ipv4 bytes parts e = octets_split address.Ipv4 4 bytes parts e
address_split address.Ipv6 bytes parts e = octets_split address.Ipv6 16 bytes parts e
address_split address.Parameter bytes parts e =
    either (begins_with 5 8 bytes) (begins_with 6 20 bytes) e
  where
    either : (one two : Bool)
        → (if one then octets_at 4 4 bytes else if two then octets_at 4 16 bytes else None) ≡ Some parts
        → Split address.Parameter bytes parts
    either true two is = octets_split address.Parameter 4 bytes parts is
    either false true is = octets_split address.Parameter 16 bytes parts is
    either false false is = absurd (let no : None ≡ Some parts = is in cc)

-- ---- the rest

rest_is : (none : Bool) (bytes b : List ℕ) → (if none then None else Some bytes) ≡ Some b
    → bytes ≡ b
rest_is true bytes b e = absurd (let no : None ≡ Some b = e in cc)
rest_is false bytes b e = same_some bytes b e

-- ---- both

pub record Placed (value : List ℕ) (r : Registered) : Type 0 where
  pub address : (o : List ℕ) → r.address ≡ Some o
      → (o ≡ take (length o) (drop (front_size r.layout + header_size r.layout.address) value))
      × (front_size r.layout + header_size r.layout.address + length o ≤ length value)
  pub rest : (b : List ℕ) → r.rest ≡ Some b
      → (b ≡ drop (length value - length b) value) × (length b ≤ length value)

placed_by : (l : Layout) (value : List ℕ) (r : Registered) → front_size l ≤ length value
    → (found : Option (Option (List ℕ) × List ℕ))
    → split_address l.address (drop (front_size l) value) ≡ found
    → option_and_then (parts_at l value) found ≡ Some r → Placed value r
placed_by l value r fits None split e = absurd (let no : None ≡ Some r = e in cc)
placed_by l value r fits (Some parts) split e =
    let front : ℕ = front_size l in
    let at = address_split l.address (drop front value) parts split in
    let left = length-drop front value in
    let made : Registered = record {
      layout = l;
      numbers = fields number32 4 l.numbers value;
      short_numbers = fields number16 2 l.short_numbers (drop (4 * l.numbers) value);
      address = parts.0;
      rest = rest_in l.rest parts.1;
    } in
    let is = taken (is_laid_out made) (Some made) r e in
    subst (Placed value) (same_some made r is.1) (record {
      address = λ o same.
          let it = at.octets o same in
          let within = it.1 in (
            it.0 ∙ ap (take (length o)) (drop-drop (header_size l.address) front value),
            omega (arith, within, left, fits),
          );
      rest = λ b same.
          let begins : parts.1 ≡ b =
          rest_is (is_nothing l.rest && length parts.1 == 0) parts.1 b same in
          let place : b ≡ drop (front + at.after) value =
          sym begins ∙ at.left ∙ drop-drop at.after front value in
          let size = ap length place in
          let all = length-drop (front + at.after) value in
          let within = at.within in
          let start : front + at.after ≡ length value - length b =
          omega (arith, size, all, within, left, fits) in
          (place ∙ ap (λ (n : ℕ). drop n value) start, omega (arith, size, all));
    })

pub placed : (l : Layout) (value : List ℕ) (r : Registered) → read l value ≡ Some r
    → Placed value r
placed l value r e =
    let long = taken (has_room l && nat_le (front_size l) (length value)) _ r e in
    let both = and_parts (has_room l) (nat_le (front_size l) (length value)) long.0 in
    placed_by l value r (leb-true _ _ both.1)
    (split_address l.address (drop (front_size l) value)) refl long.1

pub placed_in : (rows : List Row) (typ : ℕ) (value : List ℕ) (r : Registered)
    → read_in rows typ value ≡ Some r → Placed value r
placed_in rows typ value r e = of_found (layout_in rows typ) e where
  of_found : (found : Option Layout) → option_and_then (λ l. read l value) found ≡ Some r
      → Placed value r
  of_found (Some l) is = placed l value r is
  of_found None is = absurd (let no : None ≡ Some r = is in cc)
