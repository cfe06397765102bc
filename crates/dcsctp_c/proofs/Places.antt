-- Where a chunk, a parameter or a cause lies in the bytes, and what a chunk holds.
use Rattle.std.{proofs.Common.{Ok, Err, ◌≡◌, ◌≢◌, ◌+◌, ◌^◌, ◌-◌, ◌<◌, ◌≤◌, ℕ, Bool, true, false, List, [], Option, Some, None, length, take, drop, get_or, ◌∙◌, refl, sym, ap, subst, inl, inr, arith, length-drop, length-take, ◌==◌, nat_le, nat_lt, if◌then◌else◌, le-leb, leb-true, ltb-false, drop-drop, get_or-drop}, specs.Option.{option_and_then, unwrap_or}, specs.Result.{result_ok}, proofs.lemmas.Bool.{cases_lt}, proofs.lemmas.List.{drop_all, drop-take, take-take, get_or-take, get_or_past}}
use Rattle.dcsctp_tlv.{specs.Number.{AreBytes, number16}, specs.Frame.{lenient, round_up_to_4, BeginsWithFrame, frame_length, frame_value, frame_rest}, specs.Level.{Row, Level, MeansTrees, MeansSome, front_row}, specs.Parameter.{ParameterTree, parameters, row as parameter_row}, specs.Typed.{typed_level}, proofs.Items.{front_length}, proofs.Checks.{frame_shrinks}}
use Rattle.dcsctp_cause.specs.Cause.{CauseTree, causes, row as cause_row}
use Rattle.dcsctp_chunk.specs.Data as data_kind
use Rattle.dcsctp_chunk.specs.DataChunk as data_chunk
use Rattle.dcsctp_chunk.specs.IDataChunk as idata_chunk
use Rattle.dcsctp_wire.specs.Chunk.{ChunkTree, Abort, Error, chunks}
use Rattle.dcsctp_borrowed.{specs.Front.{MeansList, IsFront}, specs.RawCauses.{cause_bytes, causes_of}, specs.RawParameters.{parameter_bytes, parameters_of}, specs.UserData.{read_user_data}, proofs.Fronts.{is_front, typed_front}, proofs.ListPlaces.{parameters_there, causes_there}}
use Rattle.dcsctp_c.specs.{Part.{part, part_at, Reads, value_at, value_from, list_bytes, IsItemAt, MeansFirst, IsListOf, ChunkMeans, IsChunkAt, bytes_to, data_at, data_view, HoldsData}, Parameter.{IsListedIn, IsParameterAt, parameter_value}, declared.structs.DcsctpChunk.{DcsctpChunk}, declared.structs.DcsctpData.{DcsctpData}, declared.structs.DcsctpParameter.{DcsctpParameter}}

-- ---- an item

-- the end of a list, by its length
suffix : (k : ℕ) (xs : List ℕ) → drop (length xs - length (drop k xs)) xs ≡ drop k xs
suffix k xs = elim (cases_lt k (length xs)) [
  | inl lt ↦ (let left = length-drop k xs in
      let same : length xs - length (drop k xs) ≡ k = omega (arith, left, lt) in
      ap (λ (n : ℕ). drop n xs) same)
  | inr le ↦ (let left = length-drop k xs in
      let all : length xs ≤ length xs - length (drop k xs) = omega (arith, left, le) in
      drop_all (length xs - length (drop k xs)) xs all ∙ sym (drop_all k xs le))
]

-- the value of a frame is a part
value_part : (bytes : List ℕ) (offset : ℕ) → BeginsWithFrame (drop offset bytes)
    → part bytes (offset + 4) (length (frame_value (drop offset bytes)))
    ≡ frame_value (drop offset bytes)
value_part bytes offset frame =
    let len = front_length (drop offset bytes) frame in
    let low = frame.low in
    let n : length (frame_value (drop offset bytes)) ≡ frame_length (drop offset bytes) - 4 =
    omega (arith, len, low) in
    ap (λ (k : ℕ). take k (drop (offset + 4) bytes)) n
    ∙ ap (take (frame_length (drop offset bytes) - 4)) (sym (drop-drop 4 offset bytes))

-- of the item at an offset, whose value this is, and which this rest follows
module _ (bytes : List ℕ) (offset : ℕ) (value rest : List ℕ) (fits : AreBytes bytes)
    (frame : BeginsWithFrame (drop offset bytes))
    (is_value : value ≡ frame_value (drop offset bytes))
    (is_rest : rest ≡ frame_rest (drop offset bytes)) where
  size : length (drop offset bytes) ≡ length bytes - offset
  size = length-drop offset bytes

  shrinks : length (frame_rest (drop offset bytes)) + frame_length (drop offset bytes)
      ≤ length (drop offset bytes)
  shrinks = frame_shrinks (drop offset bytes) frame

  value_size : length value + 4 ≡ frame_length (drop offset bytes)
  value_size =
      let len = front_length (drop offset bytes) frame in
      let same = ap length is_value in
      let low = frame.low in
      omega (arith, same, len, low)

  pub item_within : offset + 4 + length value ≤ length bytes
  item_within = omega (arith, size, frame.high, frame.low, value_size)

  at_value : part_at bytes (offset + 4) (length value) ≡ Some (frame_value (drop offset bytes))
  at_value =
      let within : nat_le (offset + 4 + length value) (length bytes) ≡ true =
      le-leb _ _ item_within in
      let is_part : part bytes (offset + 4) (length value) ≡ frame_value (drop offset bytes) =
      ap (λ (n : ℕ). part bytes (offset + 4) n) (ap length is_value)
      ∙ value_part bytes offset frame in
      rw within (ap Some is_part)

  at_next : drop (length bytes - length rest) bytes ≡ frame_rest (drop offset bytes)
  at_next =
      let at : frame_rest (drop offset bytes)
      ≡ drop (offset + round_up_to_4 (frame_length (drop offset bytes))) bytes =
      drop-drop (round_up_to_4 (frame_length (drop offset bytes))) offset bytes in
      ap (λ (r : List ℕ). drop (length bytes - length r) bytes) (is_rest ∙ at)
      ∙ suffix (offset + round_up_to_4 (frame_length (drop offset bytes))) bytes ∙ sym at

  pub item_there : IsItemAt (λ n. drop n bytes) (length bytes) offset (offset + 4)
      (part_at bytes (offset + 4) (length value)) (length bytes - length rest)
  item_there =
      let rest_size = ap length is_rest in
      record {
        place = refl;
        value = at_value;
        next = at_next;
        after = omega (arith, size, shrinks, frame.low, rest_size);
        within = omega arith;
      }

  some : drop offset bytes ≢ []
  some e =
      let none : length (drop offset bytes) ≡ 0 = ap length e in
      omega (arith, none, frame.header)

  fits_from : AreBytes (drop offset bytes)
  fits_from i = rw get_or-drop (fits (offset + i))

  -- of a row that means what the front's does
  pub first_there : {T : Type 0} (level : Level T) (row : Row T)
      → (MeansSome level (drop offset bytes) × AreBytes (drop offset bytes) → drop offset bytes ≢ []
      → IsFront level (drop offset bytes) row value rest)
      → MeansFirst level row (drop offset bytes) (part_at bytes (offset + 4) (length value))
      (drop (length bytes - length rest) bytes)
  first_there level row front all m =
      let it = (front ((all, m), fits_from) some).means all m in
      let here : part_at bytes (offset + 4) (length value) ≡ Some value =
      at_value ∙ ap Some (sym is_value) in
      let left = subst (λ (l : List ℕ). MeansTrees level l it.others) (is_rest ∙ sym at_next)
      it.mean in
      (it.first, it.others, it.split, (value, here, it.means), left)

-- ---- a chunk's value

chosen : {A : Type 0} (test : Bool) (a b : A) → (if test then Some a else None) ≡ Some b
    → (test ≡ true) × (a ≡ b)
chosen true a b h = (refl, cc)
chosen false a b h = absurd (let no : None ≡ Some b = h in cc)

pub value_there : (bytes : List ℕ) (c : DcsctpChunk) (value : List ℕ)
    → value_at bytes c ≡ Some value
    → (c.value_offset + c.value_size ≤ length bytes)
    × (part bytes c.value_offset c.value_size ≡ value)
value_there bytes c value h =
    let ends = c.value_offset + c.value_size in
    let here = part bytes c.value_offset c.value_size in
    let found = chosen (nat_le ends (length bytes)) here value h in
    (leb-true ends (length bytes) found.0, found.1)

-- its bytes are bytes
pub value_bytes : (bytes : List ℕ) (c : DcsctpChunk) (value : List ℕ) → AreBytes bytes
    → value_at bytes c ≡ Some value → AreBytes value
value_bytes bytes c value fits h = subst AreBytes (value_there bytes c value h).1 part_fits where
  part_fits : AreBytes (part bytes c.value_offset c.value_size)
  part_fits i = elim (cases_lt i c.value_size) [
    | inl lt ↦ rw (
      get_or-take c.value_size (drop c.value_offset bytes) i 0 lt,
      get_or-drop c.value_offset bytes i 0,
    ) (fits (c.value_offset + i))
    | inr le ↦ rw (get_or_past (part bytes c.value_offset c.value_size) i 0
        (omega (arith, length-take c.value_size (drop c.value_offset bytes)))) (omega arith)
  ]

value_length : (bytes : List ℕ) (c : DcsctpChunk) (value : List ℕ)
    → value_at bytes c ≡ Some value → length value ≡ c.value_size
value_length bytes c value h =
    let there = value_there bytes c value h in
    let from = length-drop c.value_offset bytes in
    let whole = length-take c.value_size (drop c.value_offset bytes) in
    let is = ap length there.1 in
    omega (arith, from, whole, is, there.0)

-- ---- the list in a value

-- the value's bytes from an offset on, where it is there
from_there : (bytes : List ℕ) (c : DcsctpChunk) (value : List ℕ) (offset : ℕ)
    → value_at bytes c ≡ Some value → c.value_offset ≤ offset
    → value_from bytes c offset ≡ drop (offset - c.value_offset) value
from_there bytes c value offset there le =
    let test : nat_le c.value_offset offset ≡ true = le-leb _ _ le in
    rw test (ap (λ (o : Option (List ℕ)). drop (offset - c.value_offset) (unwrap_or o [])) there)

-- a chunk has parameters, or causes, or neither
not_both : (t : ChunkTree) (ps : List ParameterTree) (cs : List CauseTree)
    → parameters_of t ≡ Some ps → causes_of t ≡ Some cs → ⊥
not_both (Abort a) ps cs h g = cc
not_both (Error e) ps cs h g = cc
not_both t ps cs h g = cc

-- where there are trees, there are bytes that mean them
trees_there : {T : Type 0} (level : Level T) (place : Option (List ℕ)) (ts : Option (List T))
    (all : List T) → MeansList level place ts → ts ≡ Some all
    → (bytes : List ℕ) × (place ≡ Some bytes) × MeansTrees level bytes all
trees_there level (Some bytes) (Some trees) all m e =
    (bytes, refl, subst (MeansTrees level bytes) (let same : trees ≡ all = cc in same) m)
trees_there level None None all m e = absurd (let no : None ≡ Some all = e in cc)
trees_there level (Some bytes) None all m e = absurd m
trees_there level None (Some trees) all m e = absurd m

-- and where there are none, no place
none_there : {T : Type 0} (level : Level T) (place : Option (List ℕ)) (ts : Option (List T))
    → MeansList level place ts → ts ≡ None → place ≡ None
none_there level None ts m e = refl
none_there level (Some bytes) None m e = absurd m
none_there level (Some bytes) (Some trees) m e = absurd (let no : Some trees ≡ None = e in cc)

is_list : (t : ChunkTree) (first second : Option (List ℕ))
    → MeansList (parameters lenient) first (parameters_of t)
    → MeansList (causes lenient) second (causes_of t)
    → IsListOf t (unwrap_or first (unwrap_or second []))
is_list t first second has_parameters has_causes = record {
  of_parameters = λ ps e.
      (let h = trees_there (parameters lenient) first (parameters_of t) ps has_parameters e in
      rw h.1 h.2);
  of_causes = λ cs e.
      (let h = trees_there (causes lenient) second (causes_of t) cs has_causes e in
      let none = none_there (parameters lenient) first (parameters_of t) has_parameters
      (no_parameters (parameters_of t) (λ ps g. not_both t ps cs g e)) in
      rw (none, h.1) h.2);
  none = λ e g.
      rw (
        none_there (parameters lenient) first (parameters_of t) has_parameters e,
        none_there (causes lenient) second (causes_of t) has_causes g,
      ) refl;
} where
  no_parameters : (o : Option (List ParameterTree)) → ((ps : List ParameterTree) → o ≡ Some ps → ⊥)
      → o ≡ None
  no_parameters None h = refl
  no_parameters (Some ps) h = absurd (h ps refl)

-- at this offset, which is that place of a value that lies in bytes
module _ (c : DcsctpChunk) (place start : ℕ) (within : place ≤ c.value_size)
    (is : c.value_offset + place < 2 ^ 64 → start ≡ c.value_offset + place)
    (is_place : (value : List ℕ) → length value ≡ c.value_size
    → drop place value ≡ list_bytes c.typ value) where
  pub list_there : (bytes value : List ℕ) → length bytes < 2 ^ 64 → value_at bytes c ≡ Some value
      → value_from bytes c start ≡ list_bytes c.typ value
  list_there bytes value fits there =
      let here = value_there bytes c value there in
      let same : start ≡ c.value_offset + place = is (omega (arith, here.0, fits, within)) in
      let skip : start - c.value_offset ≡ place = omega (arith, same) in
      from_there bytes c value start there (omega (arith, same))
      ∙ ap (λ (n : ℕ). drop n value) skip
      ∙ is_place value (value_length bytes c value there)

  pub lists_there : (bytes : List ℕ) (t : ChunkTree) → length bytes < 2 ^ 64
      → ChunkMeans bytes c t → IsListOf t (value_from bytes c start)
  lists_there bytes t fits m =
      rw (list_there bytes m.0 fits m.1)
      (is_list t (parameter_bytes c.typ m.0) (cause_bytes c.typ m.0)
      (parameters_there c.typ c.flags m.0 t m.2) (causes_there c.typ c.flags m.0 t m.2))

-- ---- a chunk

-- what a call writes of a chunk with this value, and this rest after it
abbrev pub chunk_of : (bytes : List ℕ) (offset : ℕ) (value rest : List ℕ) → DcsctpChunk
chunk_of bytes offset value rest = record {
  typ = get_or (drop offset bytes) 0 0;
  flags = get_or (drop offset bytes) 1 0;
  value_offset = offset + 4;
  value_size = length value;
  next = length bytes - length rest;
}

pub chunk_there : (bytes : List ℕ) (offset : ℕ) (value rest : List ℕ) → AreBytes bytes
    → BeginsWithFrame (drop offset bytes) → value ≡ frame_value (drop offset bytes)
    → rest ≡ frame_rest (drop offset bytes)
    → IsChunkAt bytes offset (chunk_of bytes offset value rest)
chunk_there bytes offset value rest fits frame is_value is_rest = record {
  typ = refl;
  flags = refl;
  item = item_there bytes offset value rest fits frame is_value is_rest;
  means = first_there bytes offset value rest fits frame is_value is_rest (chunks lenient)
      (front_row (chunks lenient) (drop offset bytes)) (is_front (chunks lenient)
      (front_row (chunks lenient) (drop offset bytes)) (drop offset bytes) value rest
      (λ tree means. means) is_value is_rest);
}

-- ---- a parameter or a cause

-- what a call writes of one in a list that is all of the bytes
abbrev pub item_of : (bytes : List ℕ) (offset typ : ℕ) (value rest : List ℕ) → DcsctpParameter
item_of bytes offset typ value rest = record {
  typ = typ;
  value_offset = offset + 4;
  value_size = length value;
  next = length bytes - length rest;
}

pub listed_there : (bytes : List ℕ) (offset typ : ℕ) (value rest : List ℕ) → AreBytes bytes
    → BeginsWithFrame (drop offset bytes) → typ ≡ number16 (drop offset bytes)
    → value ≡ frame_value (drop offset bytes) → rest ≡ frame_rest (drop offset bytes)
    → IsListedIn bytes offset (item_of bytes offset typ value rest)
listed_there bytes offset typ value rest fits frame kind is_value is_rest = record {
  typ = kind;
  item = item_there bytes offset value rest fits frame is_value is_rest;
  of_parameters = first parameter_row;
  of_causes = first cause_row;
} where
  first : {T : Type 0} (row : ℕ → Row T) → MeansFirst (typed_level row lenient) (row typ)
      (drop offset bytes) (part_at bytes (offset + 4) (length value))
      (drop (length bytes - length rest) bytes)
  first row =
      first_there bytes offset value rest fits frame is_value is_rest
      (typed_level row lenient) (row typ) (typed_front (typed_level row lenient) row
      (λ first second value tree means. means) (drop offset bytes) typ value rest kind is_value
      is_rest)

-- a part that ends before the bytes are cut off
part_before : (bytes : List ℕ) (size k n : ℕ) → size ≤ length bytes → k + n ≤ size
    → part_at bytes k n ≡ part_at (take size bytes) k n
part_before bytes size k n within fits =
    let whole = length-take size bytes in
    let outer : nat_le (k + n) (length bytes) ≡ true = le-leb _ _ (omega (arith, within, fits)) in
    let inner : nat_le (k + n) (length (take size bytes)) ≡ true =
    le-leb _ _ (omega (arith, whole, within, fits)) in
    let all : k + (size - k) ≡ size = omega (arith, fits) in
    let same : take n (drop k (take (k + (size - k)) bytes)) ≡ take n (drop k bytes) =
    ap (take n) (drop-take k (size - k) bytes)
    ∙ take-take n (size - k) (drop k bytes) (omega (arith, fits)) in
    rw (outer, inner) (ap Some (sym (ap (λ (m : ℕ). take n (drop k (take m bytes))) (sym all)
    ∙ same)))

-- one in the bytes up to the end of a chunk's value is one of the chunk
module _ (bytes to : List ℕ) (c : DcsctpChunk)
    (is : Some to ≡ bytes_to bytes c.value_offset c.value_size) where
  is_to : (c.value_offset + c.value_size ≤ length bytes)
      × (take (c.value_offset + c.value_size) bytes ≡ to)
  is_to =
      let found = chosen (nat_le (c.value_offset + c.value_size) (length bytes))
      (take (c.value_offset + c.value_size) bytes) to (sym is) in
      (leb-true (c.value_offset + c.value_size) (length bytes) found.0, found.1)

  to_size : length to ≡ c.value_offset + c.value_size
  to_size =
      let whole = length-take (c.value_offset + c.value_size) bytes in
      let same = ap length is_to.1 in
      omega (arith, is_to.0, whole, same)

  there : value_at bytes c ≡ Some (part bytes c.value_offset c.value_size)
  there =
      let test : nat_le (c.value_offset + c.value_size) (length bytes) ≡ true =
      le-leb _ _ is_to.0 in
      rw test refl

  pub from_to : (offset : ℕ) → c.value_offset ≤ offset → value_from bytes c offset ≡ drop offset to
  from_to offset le =
      let n = c.value_offset + c.value_size in
      let skip : c.value_offset + (offset - c.value_offset) ≡ offset = omega (arith, le) in
      from_there bytes c (part bytes c.value_offset c.value_size) offset there le
      ∙ ap (drop (offset - c.value_offset)) (sym (drop-take c.value_offset c.value_size bytes))
      ∙ drop-drop (offset - c.value_offset) c.value_offset (take n bytes)
      ∙ ap (λ (k : ℕ). drop k (take n bytes)) skip ∙ ap (drop offset) is_to.1

  found_in : (p : DcsctpParameter) (value : List ℕ) → parameter_value to p ≡ Some value
      → parameter_value bytes p ≡ parameter_value to p
  found_in p value at =
      let found = chosen (nat_le (p.value_offset + p.value_size) (length to))
      (part to p.value_offset p.value_size) value at in
      let within = leb-true (p.value_offset + p.value_size) (length to) found.0 in
      part_before bytes (c.value_offset + c.value_size) p.value_offset p.value_size is_to.0
      (omega (arith, within, to_size))
      ∙ ap (λ (l : List ℕ). part_at l p.value_offset p.value_size) is_to.1

  pub in_chunk : (offset : ℕ) (p : DcsctpParameter) → c.value_offset ≤ offset
      → IsListedIn to offset p → IsParameterAt bytes c offset p
  in_chunk offset p le it = record {
    typ = it.typ ∙ ap number16 (sym here);
    item = record {
      place = it.item.place;
      value = found ∙ it.item.value ∙ ap (λ (l : List ℕ). Some (frame_value l)) (sym here);
      next = left ∙ it.item.next ∙ ap frame_rest (sym here);
      after = it.item.after;
      within = (let within = it.item.within in
          omega (arith, within, to_size));
    };
    of_parameters = rw (here, found, left) it.of_parameters;
    of_causes = rw (here, found, left) it.of_causes;
  } where
    here : value_from bytes c offset ≡ drop offset to
    here = from_to offset le

    left : value_from bytes c p.next ≡ drop p.next to
    left =
        let after = it.item.after in
        from_to p.next (omega (arith, after, le))

    found : parameter_value bytes p ≡ parameter_value to p
    found = found_in p (frame_value (drop offset to)) it.item.value

-- ---- user data

-- the payload is the end of the value
abbrev IsEnd : List ℕ → List ℕ → Type 0
IsEnd value payload = (k : ℕ) × (k ≤ length value) × (payload ≡ drop k value)

read_else : {E : Type 0} (test : Bool) (e : E) (a b : data_kind.Tree)
    → result_ok (if test then Err e else Ok a) ≡ Some b → (test ≡ false) × (a ≡ b)
read_else true e a b h = absurd (let no : None ≡ Some b = h in cc)
read_else false e a b h = (refl, cc)

abbrev payload_of : data_kind.Tree → List ℕ
payload_of tree = tree.user_data.payload

data_payload : (flags : ℕ) (value : List ℕ) (tree : data_kind.Tree)
    → result_ok (data_chunk.read flags value) ≡ Some tree → IsEnd value tree.user_data.payload
data_payload flags value tree h =
    let found = read_else (nat_lt (length value) 12) _ _ tree h in
    (12, ltb-false (length value) 12 found.0, sym (ap payload_of found.1))

idata_payload : (flags : ℕ) (value : List ℕ) (tree : data_kind.Tree)
    → result_ok (idata_chunk.read flags value) ≡ Some tree → IsEnd value tree.user_data.payload
idata_payload flags value tree h =
    let found = read_else (nat_lt (length value) 16) _ _ tree h in
    (16, ltb-false (length value) 16 found.0, sym (ap payload_of found.1))

payload_end : (typ flags : ℕ) (value : List ℕ) (tree : data_kind.Tree)
    → read_user_data typ flags value ≡ Some tree → IsEnd value tree.user_data.payload
payload_end typ flags value tree h = by_type (typ == 0) (typ == 64) h where
  by_type : (first second : Bool)
      → (if first then result_ok (data_chunk.read flags value) else
      (if second then result_ok (idata_chunk.read flags value) else None)) ≡ Some tree
      → IsEnd value tree.user_data.payload
  by_type true second e = data_payload flags value tree e
  by_type false true e = idata_payload flags value tree e
  by_type false false e = absurd (let no : None ≡ Some tree = e in cc)

-- the end of a part is a part
end_part : (bytes : List ℕ) (offset size : ℕ) (payload : List ℕ) → offset + size ≤ length bytes
    → IsEnd (part bytes offset size) payload
    → (length payload ≤ size)
    × (part bytes (offset + (size - length payload)) (length payload) ≡ payload)
end_part bytes offset size payload within e =
    let k = e.0 in
    let from = length-drop offset bytes in
    let whole = length-take size (drop offset bytes) in
    let low = e.1 in
    let rest = length-drop k (part bytes offset size) in
    let left : length payload ≡ size - k =
    omega (arith, ap length e.2, rest, from, whole, within, low) in
    let all : k + (size - k) ≡ size = omega (arith, from, whole, within, low) in
    let place : offset + (size - length payload) ≡ offset + k = omega (arith, left, all) in
    let to : part bytes (offset + k) (size - k) ≡ payload =
    ap (take (size - k)) (sym (drop-drop k offset bytes))
    ∙ sym (drop-take k (size - k) (drop offset bytes))
    ∙ ap (λ (n : ℕ). drop k (take n (drop offset bytes))) all
    ∙ sym e.2 in
    (omega (arith, left), rw (place, left) to)

-- the tree with another payload
abbrev with_payload : data_kind.Tree → List ℕ → data_kind.Tree
with_payload tree payload = record tree { user_data = record tree.user_data { payload = payload } }

pub data_there : (bytes : List ℕ) (c : DcsctpChunk) (value : List ℕ) (tree : data_kind.Tree)
    (d : DcsctpData) → Some value ≡ value_at bytes c
    → Some tree ≡ read_user_data c.typ c.flags value
    → data_view bytes d ≡ with_payload tree (part bytes d.payload_offset d.payload_size)
    → d.payload_offset ≡ c.value_offset + (length value - length tree.user_data.payload)
    → d.payload_size ≡ length tree.user_data.payload
    → Reads (HoldsData bytes c) (data_at bytes c) (Some d)
data_there bytes c value tree d is read same offset size =
    let holds : HoldsData bytes c tree d = record {
      view = same ∙ ap (with_payload tree) payload_is;
      size = size;
      ends = omega (arith, offset, size, value_size, ended.0);
    } in
    subst (λ (o : Option data_kind.Tree). Reads (HoldsData bytes c) o (Some d)) (sym data_is) holds
  where
    there : (c.value_offset + c.value_size ≤ length bytes)
        × (part bytes c.value_offset c.value_size ≡ value)
    there = value_there bytes c value (sym is)

    data_is : data_at bytes c ≡ Some tree
    data_is = ap (option_and_then (read_user_data c.typ c.flags)) (sym is) ∙ sym read

    value_size : length value ≡ c.value_size
    value_size = value_length bytes c value (sym is)

    ended : (length tree.user_data.payload ≤ c.value_size)
        × (part bytes (c.value_offset + (c.value_size - length tree.user_data.payload))
        (length tree.user_data.payload) ≡ tree.user_data.payload)
    ended =
        let end = payload_end c.typ c.flags value tree (sym read) in
        end_part bytes c.value_offset c.value_size tree.user_data.payload there.0
        (subst (λ (v : List ℕ). IsEnd v tree.user_data.payload) (sym there.1) end)

    payload_is : part bytes d.payload_offset d.payload_size ≡ tree.user_data.payload
    payload_is = rw (offset, size, value_size) ended.1
