-- What is written reads as the same.
use Rattle.std.{proofs.Common.{◌≡◌, ◌∙◌, ◌+◌, ◌*◌, ◌<◌, ◌≤◌, ◌^◌, ◌==◌, ◌||◌, ℕ, zero, suc, Bool, true, false, if◌then◌else◌, Option, Some, None, List, [], ◌∷◌, ◌++◌, length, take, drop, refl, ap, arith, nat_le, le-leb, leb-true, append_assoc, length-append, take_at, drop_at, replicate}, specs.Int.{w16, w32, to_be_bytes}, specs.List.{AllByRecursion}, specs.Option.{unwrap_or}, proofs.lemmas.Bool.{and_parts, eqb-true}, proofs.lemmas.List.{length-replicate}}
use Rattle.dcsctp_tlv.{specs.Fields.{fields}, specs.Frame.{typed_header}, specs.Number.{number16, number32, numbers}, proofs.FieldLaws.{number16_law, number32_law, fields_back}, proofs.Lengths.{length-numbers}}
use Rattle.dcsctp_registry.specs.Layout.{Registered, address_allows, rest_allows, has_room, is_laid_out, laid_out, front_size, octets_at, split_address, rest_in, parts_at, read, address_bytes, front_bytes, value_of}
use Rattle.dcsctp_registry.specs.declared.layout.{AddressForm.{AddressForm}, Layout.{Layout}, Rest.{Rest}}
use Rattle.dcsctp_registry.specs.declared.layout.AddressForm.TheVariants as address
use Rattle.dcsctp_registry.specs.declared.layout.Rest.TheVariants as rest

-- ---- what is laid out

pub record Parts (r : Registered) : Type 0 where
  pub room : has_room r.layout ≡ true
  pub numbers : length r.numbers ≡ r.layout.numbers
  pub short_numbers : length r.short_numbers ≡ r.layout.short_numbers
  pub address : address_allows r.layout.address r.address ≡ true
  pub rest : rest_allows r.layout.rest r.short_numbers r.rest ≡ true

pub parts : (r : Registered) → is_laid_out r ≡ true → Parts r
parts r is =
    let one = and_parts (has_room r.layout) _ is in
    let two = and_parts (length r.numbers == r.layout.numbers) _ one.1 in
    let three = and_parts (length r.short_numbers == r.layout.short_numbers) _ two.1 in
    let four = and_parts (address_allows r.layout.address r.address) _ three.1 in
    record {
      room = one.0;
      numbers = eqb-true _ _ two.0;
      short_numbers = eqb-true _ _ three.0;
      address = four.0;
      rest = four.1;
    }

-- ---- the numbers

-- the reserved bytes
pub few_reserved : (r : Registered) → is_laid_out r ≡ true → r.layout.reserved ≤ 2
few_reserved r is =
    let counts = and_parts (nat_le r.layout.numbers 2) _ (parts r is).room in
    leb-true _ _ (and_parts (nat_le r.layout.short_numbers 3) _ counts.1).1

pub zeros : (n : ℕ) → n ≤ 2 → take {A = ℕ} n (0 ∷ 0 ∷ []) ≡ replicate n 0
zeros zero le = refl
zeros (suc zero) le = refl
zeros (suc (suc zero)) le = refl
zeros (suc (suc (suc n))) le = absurd (omega (arith, le))

pub front_length : (r : Registered) → length (front_bytes r)
    ≡ 4 * length r.numbers + 2 * length r.short_numbers + r.layout.reserved
front_length r =
    let one = length-numbers w32 4 r.numbers (λ n. refl) in
    let two = length-numbers w16 2 r.short_numbers (λ n. refl) in
    let zeros : List ℕ = replicate r.layout.reserved 0 in
    let all = length-append (numbers w32 r.numbers) (numbers w16 r.short_numbers ++ zeros) in
    let more = length-append (numbers w16 r.short_numbers) zeros in
    omega (arith, one, two, all, more, length-replicate {A = ℕ} r.layout.reserved 0)

pub front_sized : (r : Registered) → Parts r → length (front_bytes r) ≡ front_size r.layout
front_sized r p = omega (arith, front_length r, p.numbers, p.short_numbers)

pub numbers_back : (r : Registered) (more : List ℕ) → Parts r
    → AllByRecursion (λ n. n < 2 ^ 32) r.numbers
    → fields number32 4 r.layout.numbers (front_bytes r ++ more) ≡ r.numbers
numbers_back r more p fit =
    let after : List ℕ = numbers w16 r.short_numbers ++ replicate r.layout.reserved 0 in
    rw (← p.numbers, append_assoc (numbers w32 r.numbers) after more)
    (fields_back number32 (to_be_bytes w32) 4 _ number32_law r.numbers (after ++ more) fit)

pub short_numbers_back : (r : Registered) (more : List ℕ) → Parts r
    → AllByRecursion (λ n. n < 2 ^ 16) r.short_numbers
    → fields number16 2 r.layout.short_numbers (drop (4 * r.layout.numbers) (front_bytes r ++ more))
    ≡ r.short_numbers
short_numbers_back r more p fit =
    let zeros : List ℕ = replicate r.layout.reserved 0 in
    let after : List ℕ = numbers w16 r.short_numbers ++ zeros in
    let one = length-numbers w32 4 r.numbers (λ n. refl) in
    let at : drop (4 * r.layout.numbers) (front_bytes r ++ more) ≡ after ++ more =
    ap (drop (4 * r.layout.numbers)) (append_assoc (numbers w32 r.numbers) after more)
    ∙ drop_at (numbers w32 r.numbers) (after ++ more) (4 * r.layout.numbers)
    (omega (arith, one, p.numbers)) in
    ap (fields number16 2 r.layout.short_numbers) at
    ∙ ap (fields number16 2 r.layout.short_numbers)
    (append_assoc (numbers w16 r.short_numbers) zeros more)
    ∙ rw (← p.short_numbers) (fields_back number16 (to_be_bytes w16) 2 _ number16_law
    r.short_numbers (zeros ++ more) fit)

-- ---- the address

-- so many octets after a header of four bytes, and after none
octets_back : (octets more : List ℕ) (n : ℕ) → length octets ≡ n
    → octets_at 0 n (octets ++ more) ≡ Some (Some octets, more)
octets_back octets more n is =
    let all = length-append octets more in
    let zero_is : 0 + n ≡ n = omega arith in
    let long : nat_le n (length (octets ++ more)) ≡ true = le-leb _ _ (omega (arith, all, is)) in
    rw (zero_is, long, take_at octets more n is, drop_at octets more n is) refl

ipv4_back : (octets more : List ℕ) → length octets ≡ 4
    → split_address address.Parameter ((typed_header 5 4 ++ octets) ++ more)
    ≡ Some (Some octets, more)
ipv4_back octets more is =
    let all = length-append octets more in
    let four : nat_le 4 (length ((typed_header 5 4 ++ octets) ++ more)) ≡ true =
    le-leb _ _ (omega (arith, all)) in
    let long : nat_le 8 (length ((typed_header 5 4 ++ octets) ++ more)) ≡ true =
    le-leb _ _ (omega (arith, all, is)) in
    rw (four, long, take_at octets more 4 is, drop_at octets more 4 is) refl

ipv6_back : (octets more : List ℕ) → length octets ≡ 16
    → split_address address.Parameter ((typed_header 6 16 ++ octets) ++ more)
    ≡ Some (Some octets, more)
ipv6_back octets more is =
    let all = length-append octets more in
    let four : nat_le 4 (length ((typed_header 6 16 ++ octets) ++ more)) ≡ true =
    le-leb _ _ (omega (arith, all)) in
    let long : nat_le 20 (length ((typed_header 6 16 ++ octets) ++ more)) ≡ true =
    le-leb _ _ (omega (arith, all, is)) in
    rw (four, long, take_at octets more 16 is, drop_at octets more 16 is) refl

parameter_back : (octets more : List ℕ) (four : Bool) → (length octets == 4) ≡ four
    → (four || length octets == 16) ≡ true
    → split_address address.Parameter
    (((if four then typed_header 5 4 else typed_header 6 16) ++ octets) ++ more)
    ≡ Some (Some octets, more)
parameter_back octets more true is allowed = ipv4_back octets more (eqb-true _ _ is)
parameter_back octets more false is allowed = ipv6_back octets more (eqb-true _ _ allowed)

pub address_back : (form : AddressForm) (a : Option (List ℕ)) (more : List ℕ)
    → address_allows form a ≡ true
    → split_address form (address_bytes form a ++ more) ≡ Some (a, more)
address_back address.Nothing None more allowed = refl
address_back address.Ipv4 None more allowed = absurd (cc)
address_back address.Ipv6 None more allowed = absurd (cc)
address_back address.Parameter None more allowed = absurd (cc)
address_back address.Nothing (Some octets) more allowed = absurd (cc)
address_back address.Ipv4 (Some octets) more allowed =
    octets_back octets more 4 (eqb-true _ _ allowed)
address_back address.Ipv6 (Some octets) more allowed =
    octets_back octets more 16 (eqb-true _ _ allowed)
address_back address.Parameter (Some octets) more allowed =
    parameter_back octets more (length octets == 4) refl allowed

-- how long an address can be, with its header
either_small : (octets : List ℕ) (four : Bool) → (length octets == 4) ≡ four
    → (four || length octets == 16) ≡ true
    → length ((if four then typed_header 5 4 else typed_header 6 16) ++ octets) ≤ 20
either_small octets true is allowed = let four = eqb-true _ _ is in omega (arith, four)
either_small octets false is allowed = let sixteen = eqb-true _ _ allowed in omega (arith, sixteen)

pub address_small : (form : AddressForm) (a : Option (List ℕ)) → address_allows form a ≡ true
    → length (address_bytes form a) ≤ 20
address_small form None allowed = omega arith
address_small address.Nothing (Some octets) allowed = absurd (cc)
address_small address.Ipv4 (Some octets) allowed =
    let four = eqb-true _ _ allowed in omega (arith, four)
address_small address.Ipv6 (Some octets) allowed =
    let sixteen = eqb-true _ _ allowed in omega (arith, sixteen)
address_small address.Parameter (Some octets) allowed =
    either_small octets (length octets == 4) refl allowed

-- ---- the rest

pub rest_back : (form : Rest) (counts : List ℕ) (r : Option (List ℕ))
    → rest_allows form counts r ≡ true → rest_in form (unwrap_or r []) ≡ r
rest_back form counts None allowed = rw allowed refl
rest_back rest.Nothing counts (Some bytes) allowed = absurd (cc)
rest_back rest.Bytes counts (Some bytes) allowed = refl
rest_back rest.ShortNumbers counts (Some bytes) allowed = refl
rest_back rest.Items counts (Some bytes) allowed = refl
rest_back rest.Lists counts (Some bytes) allowed = refl

-- ---- all of it

pub reads_back : (r : Registered) → is_laid_out r ≡ true
    → AllByRecursion (λ n. n < 2 ^ 32) r.numbers → AllByRecursion (λ n. n < 2 ^ 16) r.short_numbers
    → read r.layout (value_of r) ≡ Some r
reads_back r is fit short_fit =
    let p = parts r is in
    let l : Layout = r.layout in
    let front : List ℕ = front_bytes r in
    let more : List ℕ = address_bytes l.address r.address ++ unwrap_or r.rest [] in
    let size = front_sized r p in
    let long : nat_le (front_size l) (length (front ++ more)) ≡ true =
    le-leb _ _ (omega (arith, length-append front more, size)) in
    let split : split_address l.address (drop (front_size l) (front ++ more))
    ≡ Some (r.address, unwrap_or r.rest []) =
    ap (split_address l.address) (drop_at front more (front_size l) size)
    ∙ address_back l.address r.address (unwrap_or r.rest []) p.address in
    let ns = numbers_back r more p fit in
    let ss = short_numbers_back r more p short_fit in
    let rs = rest_back l.rest r.short_numbers r.rest p.rest in
    let same : parts_at l (front ++ more) (r.address, unwrap_or r.rest []) ≡ laid_out r =
    (λ k. laid_out (record {
      layout = l;
      numbers = ns k;
      short_numbers = ss k;
      address = r.address;
      rest = rs k;
    })) in
    rw (p.room, long, split) (same ∙ rw is refl)

-- ---- sizes

pub value_length : (r : Registered) → length (value_of r)
    ≡ length (front_bytes r) + length (address_bytes r.layout.address r.address)
    + length (unwrap_or r.rest [])
value_length r =
    let a : List ℕ = address_bytes r.layout.address r.address in
    let b : List ℕ = unwrap_or r.rest [] in
    omega (arith, length-append (front_bytes r) (a ++ b), length-append a b)
