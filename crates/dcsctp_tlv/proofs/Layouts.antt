-- What a kind has to satisfy for the laws of its level, by how its value is laid out: any bytes;
-- one size, as of a number or of an empty value; numbers, and after them fields.
use Rattle.std.{proofs.Common.{◌≡◌, ℕ, ◌+◌, ◌-◌, ◌*◌, ◌/◌, ◌^◌, ◌<◌, cond, List, [], ◌++◌, length, drop, refl, sym, ap, subst, ◌∙◌, arith, Result, Ok, Err, ◌==◌, eqb-true, eq-eqb, drop_at}, specs.Int.{w32, to_be_bytes}, specs.List.{flat_map, AllByRecursion}, proofs.lemmas.Nat.{from_be_bytes-to_be_bytes_4}}
use Rattle.dcsctp_tlv.{specs.Fault.{Fault, Length}, specs.Fields.{fields}, specs.Format.{Format}, specs.Image.{solid, size_of}, specs.Length.{length-solid}, specs.Number.{number32}, proofs.FieldLaws.{FieldLaw, length-fields, last_fields_back}, proofs.FormatLaws.{FormatLaws, format_laws, TypedLaws, typed_laws}, proofs.KindLaws.{of_ok, passed}, proofs.Unpadded.{if_passed}}

-- ---- any bytes

abbrev any : List ℕ → Result (List ℕ) Fault
any value = Ok value

pub any_laws : (format : List ℕ → Format) → ((x : List ℕ) → (format x).tlv.value ≡ solid x)
    → ((x : List ℕ) → (format x).IsWellFormed) → FormatLaws any format
any_laws format same formed =
    format_laws any format (λ x. x) same (λ x width form fits. refl) (λ value x e. formed x)
    (λ value. tt) (λ value x kept e. ap length (sym (of_ok value x e)))

-- ---- one size

-- what a value of this size means, after the item's first two bytes
abbrev read_sized : {T : Type 0} → ℕ → (ℕ → ℕ → List ℕ → T) → ℕ → ℕ → List ℕ → Result T Fault
read_sized size meaning first second value =
    cond (length value == size) (Ok (meaning first second value)) (Err Length)

pub sized_laws : {T : Type 0} (size : ℕ) (meaning : ℕ → ℕ → List ℕ → T) (format : T → Format)
    (bytes : T → List ℕ)
    → ((t : T) → (format t).tlv.value ≡ solid (bytes t))
    → ((t : T) → length (bytes t) ≡ size)
    → ((t : T) → (format t).IsInWidth
    → meaning (format t).tlv.first (format t).tlv.second (bytes t) ≡ t)
    → ((t : T) → (format t).IsWellFormed)
    → TypedLaws (read_sized size meaning) format
sized_laws {T} size meaning format bytes same long again formed =
    typed_laws (read_sized size meaning) format bytes same
    (λ t width form fits. rw (eq-eqb (length (bytes t)) size (long t))
    (ap (λ (x : T). Ok x) (again t width)))
    (λ first second value t e. formed t)
    (λ first second value. if_passed (length value == size) (meaning first second value))
    (λ first second value t kept e.
    let whole = passed (length value == size) (Ok (meaning first second value)) Length t e in
    long t ∙ sym (eqb-true (length value) size whole.0))

-- a number of four bytes
abbrev read_number : ℕ → ℕ → List ℕ → Result ℕ Fault
read_number = read_sized 4 (λ first second. number32)

pub number_laws : (format : ℕ → Format)
    → ((n : ℕ) → (format n).tlv.value ≡ solid (to_be_bytes w32 n))
    → ((n : ℕ) → (format n).IsInWidth → n < 2 ^ 32)
    → ((n : ℕ) → (format n).IsWellFormed) → TypedLaws read_number format
number_laws format same width formed =
    sized_laws 4 (λ first second. number32) format (to_be_bytes w32) same (λ n. refl)
    (λ n w. from_be_bytes-to_be_bytes_4 n (width n w)) formed

-- an empty value
abbrev read_empty : ℕ → ℕ → List ℕ → Result (Unit {0}) Fault
read_empty = read_sized 0 (λ first second value. tt)

pub empty_laws : (format : Unit {0} → Format)
    → ((u : Unit {0}) → (format u).tlv.value ≡ [])
    → ((u : Unit {0}) → (format u).IsWellFormed) → TypedLaws read_empty format
empty_laws format same formed =
    sized_laws 0 (λ first second value. tt) format (λ u. []) same (λ u. refl) (λ u w. refl) formed

-- ---- numbers at fixed places, and after them fields of one size up to the end

-- how many fields come after the place
abbrev count_after : ℕ → ℕ → List ℕ → ℕ
count_after place size value = (length value - place) / size

-- what a value means that is whole fields after the place
abbrev read_fields : {T A : Type 0} → ℕ → ℕ → (List ℕ → A) → (List ℕ → List A → T) → List ℕ
    → Result T Fault
read_fields place size read make value =
    let n = count_after place size value in
    cond (length value == place + size * n)
    (Ok (make value (fields read size n (drop place value)))) (Err Length)

-- How a tree is made of such a value and of its fields, and is written: the numbers that come
-- first, and the fields, each of which can be written.
pub record FieldsAfter {T A : Type 0} (place size : ℕ) (read : List ℕ → A) (make : List ℕ → List A
    → T) (format : T → Format) (write : A → List ℕ) (IsWritable : A → Type 0) : Type 0 where
  pub leading : T → List ℕ
  pub list : T → List A
  pub law : FieldLaw read write size IsWritable
  pub counted : (n : ℕ) → (place + size * n - place) / size ≡ n
  pub same : (t : T) → (format t).tlv.value ≡ solid (leading t ++ flat_map write (list t))
  pub written : (t : T) → size_of (format t).tlv ≡ 4 + (place + size * length (list t))
  pub placed : (t : T) → length (leading t) ≡ place
  pub made : (t : T) (rest : List ℕ) → (format t).IsInWidth → make (leading t ++ rest) (list t) ≡ t
  pub kept : (value : List ℕ) (xs : List A) → list (make value xs) ≡ xs
  pub writable : (t : T) → (format t).IsInWidth → (format t).IsWellFormed
      → AllByRecursion IsWritable (list t)
  pub formed : (value : List ℕ) (n : ℕ)
      → (format (make value (fields read size n (drop place value)))).IsWellFormed

module _ {T A : Type 0} (place size : ℕ) (read : List ℕ → A) (make : List ℕ → List A → T)
    (format : T → Format) (write : A → List ℕ) (IsWritable : A → Type 0)
    (laws : FieldsAfter place size read make format write IsWritable)
  where
    abbrev bytes : T → List ℕ
    bytes t = laws.leading t ++ flat_map write (laws.list t)

    length-bytes : (t : T) → length (bytes t) ≡ place + size * length (laws.list t)
    length-bytes t =
        let written = laws.written t in
        let sized : (format t).tlv.value_size ≡ place + size * length (laws.list t) =
        omega (arith, written) in
        sym (length-solid (bytes t)) ∙ ap length (sym (laws.same t)) ∙ (format t).sized ∙ sized

    back : (t : T) → (format t).IsInWidth → (format t).IsWellFormed
        → read_fields place size read make (bytes t) ≡ Ok t
    back t width form =
        let n = count_after place size (bytes t) in
        let rest = flat_map write (laws.list t) in
        let count : n ≡ length (laws.list t) =
        rw (length-bytes t) (laws.counted (length (laws.list t))) in
        let whole : length (bytes t) ≡ place + size * n = rw count (length-bytes t) in
        let list_is : fields read size n (drop place (bytes t)) ≡ laws.list t =
        rw (drop_at (laws.leading t) rest place (laws.placed t))
        (last_fields_back read write size IsWritable laws.law (laws.list t) n count
        (laws.writable t width form)) in
        rw (eq-eqb (length (bytes t)) (place + size * n) whole, list_is)
        (ap (λ (x : T). Ok x) (laws.made t rest width))

    -- what was read is made of the value and its fields
    made_of : (value : List ℕ) (t : T) → read_fields place size read make value ≡ Ok t
        → (length value ≡ place + size * count_after place size value)
        × (make value (fields read size (count_after place size value) (drop place value)) ≡ t)
    made_of value t e =
        let n = count_after place size value in
        let whole = passed (length value == place + size * n) _ Length t e in
        (eqb-true (length value) (place + size * n) whole.0, of_ok _ t whole.1)

    as_long : (value : List ℕ) (t : T) → read_fields place size read make value ≡ Ok t
        → length (bytes t) ≡ length value
    as_long value t e =
        let n = count_after place size value in
        let of = made_of value t e in
        let count : length (laws.list t) ≡ n =
        ap (λ (x : T). length (laws.list x)) (sym of.1) ∙ ap length (laws.kept value _)
        ∙ length-fields read size n (drop place value) in
        length-bytes t ∙ ap (λ (k : ℕ). place + size * k) count ∙ sym of.0

    pub fields_laws : FormatLaws (read_fields place size read make) format
    fields_laws =
        format_laws (read_fields place size read make) format bytes laws.same
        (λ t width form fits. back t width form)
        (λ value t e. subst (λ (x : T). (format x).IsWellFormed) (made_of value t e).1
        (laws.formed value (count_after place size value)))
        (λ value. if_passed (length value == place + size * count_after place size value) _)
        (λ value t kept e. as_long value t e)
