-- What the struct holds of a value whose type has no kind of its own.
use Rattle.std.{proofs.Common.{◌≡◌, ◌∙◌, ◌+◌, ◌-◌, ◌≤◌, ◌<◌, ◌^◌, ◌∷◌, [], ℕ, Bool, true, if◌then◌else◌, List, Option, Some, None, length, take, drop, refl, sym, ap, subst, arith, nat_le, le-leb, leb-true, length-drop, length-take, drop-drop, take_all}, proofs.Math.Nat.{min-eq_left}, proofs.lemmas.List.{drop-take, take-take}, specs.Prelude.{min}, specs.List.{AllByRecursion}, specs.Option.{is_some, option_and_then, option_map, unwrap_or}}
use Rattle.dcsctp_tlv.{specs.Parameter.{ParameterTree}, proofs.Images.{all_take}}
use Rattle.dcsctp_cause.specs.Cause.{CauseTree}
use Rattle.dcsctp_wire.specs.Chunk.{ChunkTree}
use Rattle.dcsctp_registry.{specs.CauseLayouts.{cause_rows}, specs.ChunkLayouts.{chunk_rows}, specs.Layout.{Registered, with_numbers, has_none, is_nothing, is_laid_out, read, value_of, front_size, header_size}, specs.ParameterLayouts.{parameter_rows}, specs.Registered.{layout_in, read_in, registered_chunk, registered_parameter, registered_cause}, specs.Row.{Row}, specs.declared.layout.Layout.{Layout}, proofs.Kept.{chunks_kept, parameters_kept, causes_kept}, proofs.ReadBack.{reads_back as reads_as_same}}
use Rattle.dcsctp_c.{proofs.LaidOut.{taken, same_some, Placed, placed_in}, specs.AddRegistered.{value_by, value_with}, specs.Part.{part, part_at, ChunkMeans, ReadsInto}, specs.Parameter.{ParameterMeans, CauseMeans}, specs.Registered.{registered_chunk_at, registered_parameter_at, registered_cause_at, IsPlace, HoldsRegistered, start_of, length_of, struct_by, struct_of}, specs.declared.structs.DcsctpChunk.{DcsctpChunk}, specs.declared.structs.DcsctpParameter.{DcsctpParameter}, specs.declared.structs.DcsctpRegistered.{DcsctpRegistered}}

-- ---- places in a value that lies in bytes

module _ (bytes : List ℕ) (offset size : ℕ) (value : List ℕ)
    (there : part_at bytes offset size ≡ Some value) where
  within : (offset + size ≤ length bytes) × (part bytes offset size ≡ value)
  within =
      let found = taken (nat_le (offset + size) (length bytes)) (Some (part bytes offset size))
      value there in (
        leb-true (offset + size) (length bytes) found.0,
        same_some (part bytes offset size) value found.1,
      )

  pub whole : length value ≡ size
  whole =
      let from = length-drop offset bytes in
      let all = length-take size (drop offset bytes) in
      let is = ap length within.1 in
      let fits = within.0 in
      omega (arith, from, all, is, fits)

  part_of : (k n : ℕ) → k + n ≤ length value
      → part_at bytes (offset + k) n ≡ Some (take n (drop k value))
  part_of k n fits =
      let ends = within.0 in
      let test : nat_le (offset + k + n) (length bytes) ≡ true =
      le-leb _ _ (omega (arith, whole, ends, fits)) in
      let all : k + (size - k) ≡ size = omega (arith, whole, fits) in
      let cut : take n (drop k (take (k + (size - k)) (drop offset bytes)))
      ≡ take n (drop (offset + k) bytes) =
      ap (take n) (drop-take k (size - k) (drop offset bytes))
      ∙ take-take n (size - k) (drop k (drop offset bytes)) (omega (arith, whole, fits))
      ∙ ap (take n) (drop-drop k offset bytes) in
      let is : take n (drop (offset + k) bytes) ≡ take n (drop k value) =
      sym cut ∙ ap (λ (m : ℕ). take n (drop k (take m (drop offset bytes)))) all
      ∙ ap (λ (v : List ℕ). take n (drop k v)) within.1 in
      rw test (ap Some is)

  address_place : (k : ℕ) (a : Option (List ℕ))
      → ((o : List ℕ) → a ≡ Some o → (o ≡ take (length o) (drop k value)) × (k + length o ≤ length value))
      → IsPlace bytes offset size a (start_of (offset + min k size) a) (length_of a)
  address_place k None is = (refl, refl)
  address_place k (Some o) is =
      let it = is o refl in
      let fits = it.1 in
      let least : min k size ≡ k = min-eq_left (omega (arith, whole, fits)) in
      rw least
      (part_of k (length o) fits ∙ ap Some (sym it.0), omega arith, omega (arith, whole, fits))

  rest_place : (r : Option (List ℕ))
      → ((b : List ℕ) → r ≡ Some b → (b ≡ drop (length value - length b) value) × (length b ≤ length value))
      → IsPlace bytes offset size r (start_of (offset + (size - length_of r)) r) (length_of r)
  rest_place None is = (refl, refl)
  rest_place (Some b) is =
      let it = is b refl in
      let fits = it.1 in
      let same : length value - length b ≡ size - length b =
      ap (λ (n : ℕ). n - length b) whole in
      let at : b ≡ drop (size - length b) value = it.0 ∙ ap (λ (n : ℕ). drop n value) same in
      let left = length-drop (size - length b) value in (
        part_of (size - length b) (length b) (omega (arith, whole, fits))
            ∙ ap Some (take_all (length b) (drop (size - length b) value) (omega (arith, left, whole, fits)) ∙ sym at),
        omega arith,
        omega (arith, whole, fits),
      )

  ends : (r : Option (List ℕ)) (left : List ℕ) → r ≡ Some left → length left ≤ length value
      → start_of (offset + (size - length_of r)) r + length_of r ≡ offset + size
  ends r left is fits = rw is (omega (arith, whole, fits))

  pub holds : (flags : ℕ) (r : Registered) → Placed value r
      → HoldsRegistered bytes flags offset size r (struct_of r flags offset size)
  holds flags r p = record {
    number = refl;
    second_number = refl;
    short_number = refl;
    second_short_number = refl;
    third_short_number = refl;
    flags = refl;
    address = address_place (front_size r.layout + header_size r.layout.address) r.address p.address;
    rest = rest_place r.rest p.rest;
    ends = λ left same. ends r.rest left same (p.rest left same).1;
  }

-- ---- by the layout of a type

pub made_of : {A B C : Type 0} (f : B → C) (g : A → Option B) (found : Option A)
    → option_and_then (λ a. option_map f (g a)) found ≡ option_map f (option_and_then g found)
made_of f g (Some a) = refl
made_of f g None = refl

-- ---- what is read

pub reads_into : (rows : List Row) (typ flags : ℕ) (bytes : List ℕ) (offset size : ℕ)
    (value : List ℕ) (found : Option DcsctpRegistered) (p : Option Registered)
    (old new : DcsctpRegistered) (done : Bool) → Some value ≡ part_at bytes offset size
    → found ≡ option_and_then (λ l. struct_by l value flags offset) (layout_in rows typ)
    → option_and_then (read_in rows typ) (part_at bytes offset size) ≡ p
    → done ≡ is_some found → new ≡ unwrap_or found old
    → ReadsInto (HoldsRegistered bytes flags offset size) p old new done
reads_into rows typ flags bytes offset size value found p old new done there made same is_done
    is_new =
    subst (λ (q : Option Registered). ReadsInto Holds q old new done)
    (ap (option_and_then (read_in rows typ)) there ∙ same)
    (of_read (read_in rows typ value) refl found (made ∙ made_of _ _ (layout_in rows typ)) is_done is_new)
  where
    Holds : Registered → DcsctpRegistered → Type 0
    Holds = HoldsRegistered bytes flags offset size

    of_read : (o : Option Registered) → read_in rows typ value ≡ o → (f : Option DcsctpRegistered)
        → f ≡ option_map (λ r. struct_of r flags offset (length value)) o → done ≡ is_some f
        → new ≡ unwrap_or f old → ReadsInto Holds o old new done
    of_read (Some r) e f is d n =
        let at : part_at bytes offset size ≡ Some value = sym there in (
          d ∙ ap is_some is,
          subst (Holds r) (sym (n ∙ ap (λ (g : Option DcsctpRegistered). unwrap_or g old) is))
              (subst (λ (m : ℕ). Holds r (struct_of r flags offset m))
              (sym (whole bytes offset size value at))
              (holds bytes offset size value at flags r (placed_in rows typ value r e))),
        )
    of_read None e f is d n =
        (d ∙ ap is_some is, n ∙ ap (λ (g : Option DcsctpRegistered). unwrap_or g old) is)

-- what a packet keeps as bytes
pub chunk_kept : (bytes : List ℕ) (c : DcsctpChunk) (t : ChunkTree) → ChunkMeans bytes c t
    → registered_chunk_at bytes c ≡ registered_chunk t
chunk_kept bytes c t m =
    ap (option_and_then (read_in chunk_rows c.typ)) m.1 ∙ chunks_kept c.typ c.flags m.0 t m.2

pub parameter_kept : (bytes : List ℕ) (p : DcsctpParameter) (t : ParameterTree)
    → ParameterMeans bytes p t → registered_parameter_at bytes p ≡ registered_parameter t
parameter_kept bytes p t m =
    ap (option_and_then (read_in parameter_rows p.typ)) m.1 ∙ parameters_kept p.typ m.0 t m.2

pub cause_kept : (bytes : List ℕ) (p : DcsctpParameter) (t : CauseTree) → CauseMeans bytes p t
    → registered_cause_at bytes p ≡ registered_cause t
cause_kept bytes p t m =
    ap (option_and_then (read_in cause_rows p.typ)) m.1 ∙ causes_kept p.typ m.0 t m.2

-- ---- what is written reads as the same

pub read_again : (rows : List Row) (typ : ℕ) (bytes : List ℕ) (s : DcsctpRegistered) (v : Registered)
    → ((l : Layout) (r : Registered) → value_by bytes s l ≡ Some r → read l (value_of r) ≡ Some r)
    → value_with rows typ bytes s ≡ Some v → read_in rows typ (value_of v) ≡ Some v
read_again rows typ bytes s v again is = of_layout (layout_in rows typ) is where
  of_layout : (found : Option Layout) → option_and_then (value_by bytes s) found ≡ Some v
      → option_and_then (λ l. read l (value_of v)) found ≡ Some v
  of_layout (Some l) e = again l v e
  of_layout None e = absurd (let no : None ≡ Some v = e in cc)

pub reads_back : (bytes : List ℕ) (s : DcsctpRegistered) (l : Layout) (v : Registered)
    → AllByRecursion (λ n. n < 2 ^ 32) (s.number ∷ s.second_number ∷ [])
    → AllByRecursion (λ n. n < 2 ^ 16) (s.short_number ∷ s.second_short_number ∷ s.third_short_number ∷ [])
    → value_by bytes s l ≡ Some v → read l (value_of v) ≡ Some v
reads_back bytes s l v fit short_fit e =
    let ns : List ℕ = s.number ∷ s.second_number ∷ [] in
    let ss : List ℕ = s.short_number ∷ s.second_short_number ∷ s.third_short_number ∷ [] in
    let r : Registered = with_numbers l ns ss
    (if has_none l.address then None else part_at bytes s.address_offset s.address_size)
    (if is_nothing l.rest then None else part_at bytes s.rest_offset s.rest_size) in
    let it = taken (is_laid_out r) (Some r) v e in
    subst (λ (x : Registered). read l (value_of x) ≡ Some x) (same_some r v it.1)
    (reads_as_same r it.0 (all_take _ l.numbers ns fit) (all_take _ l.short_numbers ss short_fit))
