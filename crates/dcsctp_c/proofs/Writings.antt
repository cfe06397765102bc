-- What a call that adds something did.
use Rattle.std.{proofs.Common.{◌≡◌, ◌↔◌, ◌∙◌, IsTrue, ℕ, ◌/◌, ◌%◌, ◌==◌, ◌||◌, Bool, true, false, List, [], ◌∷◌, ◌++◌, length, refl, sym, ap, subst, if◌then◌else◌, Option, Some, None, option_map, arith, append-nil}, specs.Int.{w16, w32, to_be_bytes}}
use Rattle.dcsctp_tlv.{specs.{Image.{zeroed, solid}, Number.{numbers}, Parameter.{ParameterTree, OutgoingSsnResetRequest, IncomingSsnResetRequest}}, proofs.ReadsBack.{zeroed-solid}}
use Rattle.dcsctp_cause.specs.Cause.{MissingMandatoryParameter}
use Rattle.dcsctp_buffer.specs.Item.{IsLastChunk}
use Rattle.dcsctp_buffer.specs.declared.error.WriteError.TheVariants.{BadPlace, BadValue}
use Rattle.dcsctp_c.specs.{Code.{bad_value_code, bad_place_code}, Output.{Output}, Writing.{declined, AddsNothing, AddsItem, AddsParameter, fixed_tree, re_config_tree, value_of, cause_value, has_streams}, declared.structs.DcsctpReConfig.{DcsctpReConfig}}

some_value : {A : Type 0} (a b : A) → Some a ≡ Some b → a ≡ b
some_value a b e = cc

-- of what was found, what is so of the one that was built
pub of_found : {T : Type 0} (P : T → Type 0) (built t : T) (found : Option T) → Some built ≡ found
    → found ≡ Some t → P built → P t
of_found P built t found e is so = subst P (some_value built t (e ∙ is)) so

-- an output is its bytes and its size
pub same_output : (old new : List ℕ) (m n : ℕ) → (new ≡ old) × (n ≡ m)
    → record { bytes = new; size = n } ≡ (let o : Output = record { bytes = old; size = m } in o)
same_output old new m n same = λ k. record { bytes = same.0 k; size = same.1 k }

pub not_writable : (IsPlace : Type 0) (is_place : Bool) (o : Output) (code : ℕ)
    → IsTrue is_place ↔ IsPlace → code ≡ (if is_place then bad_value_code else bad_place_code)
    → AddsNothing IsPlace o o code
not_writable IsPlace true o code place e =
    declined BadValue (place.0 refl, λ no. absurd no) refl e
not_writable IsPlace false o code place e =
    declined BadPlace (λ yes. let no = place.1 yes in absurd cc) refl e

-- ---- items

-- an item of the same value is added
value_is : (start typ : ℕ) (value other : List ℕ) (old new : Output) (code : ℕ) → value ≡ other
    → AddsItem start typ other old new code → AddsItem start typ value old new code
value_is start typ value other old new code e h =
    subst (λ (v : List ℕ). AddsItem start typ v old new code) (sym e) h

-- the lowest 32 bits of a number are the four bytes of it that are written
four_bytes : (n : ℕ) → to_be_bytes w32 (n % 4294967296) ≡ to_be_bytes w32 n
four_bytes n =
    let a : n % 4294967296 / 16777216 % 256 ≡ n / 16777216 % 256 = omega arith in
    let b : n % 4294967296 / 65536 % 256 ≡ n / 65536 % 256 = omega arith in
    let c : n % 4294967296 / 256 % 256 ≡ n / 256 % 256 = omega arith in
    let d : n % 4294967296 % 256 ≡ n % 256 = omega arith in
    λ k. a k ∷ b k ∷ c k ∷ d k ∷ []

pub missing_added : (start : ℕ) (types count : List ℕ) (old new : Output) (code : ℕ)
    → count ≡ to_be_bytes w32 (length types % 4294967296)
    → AddsItem start 2 (count ++ numbers w16 types) old new code
    → AddsItem start 2 (cause_value (MissingMandatoryParameter types)) old new code
missing_added start types count old new code e h =
    value_is start 2 (cause_value (MissingMandatoryParameter types)) (count ++ numbers w16 types)
    old new code
    (zeroed-solid (to_be_bytes w32 (length types) ++ numbers w16 types)
    ∙ ap (λ (bytes : List ℕ). bytes ++ numbers w16 types)
    (sym (e ∙ four_bytes (length types)))) h

-- the value with stream ids is the value without them, and these
leads : (lead words leading : List ℕ) → Some lead ≡ Some (zeroed (solid (leading ++ [])))
    → zeroed (solid (leading ++ numbers w16 words)) ≡ lead ++ numbers w16 words
leads lead words leading e =
    let is : lead ≡ leading =
    some_value lead _ e ∙ zeroed-solid (leading ++ []) ∙ append-nil leading in
    zeroed-solid (leading ++ numbers w16 words)
    ∙ ap (λ (bytes : List ℕ). bytes ++ numbers w16 words) (sym is)

abbrev with_streams : ℕ → ℕ → ℕ → List ℕ → ParameterTree
with_streams request response last_tsn streams = OutgoingSsnResetRequest (record {
  request = request;
  response = response;
  last_tsn = last_tsn;
  streams = streams;
})

module _ (start typ : ℕ) (lead words : List ℕ) (old new : Output) (code : ℕ)
    (h : AddsItem start typ (lead ++ numbers w16 words) old new code) where
  -- one without stream ids
  plain_added : (found : Option ParameterTree) → Some lead ≡ option_map value_of found
      → words ≡ [] → AddsParameter start typ found old new code
  plain_added (Some p) e none =
      value_is start typ (value_of p) (lead ++ numbers w16 words) old new code
      (sym (some_value lead (value_of p) e) ∙ sym (append-nil lead)
      ∙ ap (λ (ns : List ℕ). lead ++ numbers w16 ns) (sym none)) h
  plain_added None e none = absurd (let no : Some lead ≡ None = e in cc)

  by_type : (is_outgoing is_incoming : Bool) (request response last_tsn : ℕ) (streams : List ℕ)
      (others : Option ParameterTree)
      → Some lead ≡ option_map value_of
      (if is_outgoing then Some (with_streams request response last_tsn []) else
      (if is_incoming
      then Some (IncomingSsnResetRequest (record { request = request; streams = [] })) else others))
      → words ≡ (if is_outgoing || is_incoming then streams else [])
      → AddsParameter start typ
      (if is_outgoing then Some (with_streams request response last_tsn streams) else
      (if is_incoming
      then Some (IncomingSsnResetRequest (record { request = request; streams = streams })) else
      others)) old new code
  by_type true is_incoming request response last_tsn streams others e same =
      value_is start typ _ (lead ++ numbers w16 words) old new code
      (ap (λ (ns : List ℕ). value_of (with_streams request response last_tsn ns)) (sym same)
      ∙ leads lead words (numbers w32 (request ∷ response ∷ last_tsn ∷ [])) e) h
  by_type false true request response last_tsn streams others e same =
      value_is start typ _ (lead ++ numbers w16 words) old new code
      (ap (λ (ns : List ℕ). value_of (IncomingSsnResetRequest
      (record { request = request; streams = ns }))) (sym same)
      ∙ leads lead words (numbers w32 (request ∷ [])) e) h
  by_type false false request response last_tsn streams others e same =
      plain_added others e same

pub re_config_added : (start : ℕ) (c : DcsctpReConfig) (streams lead words : List ℕ)
    (old new : Output) (code : ℕ) → Some lead ≡ option_map value_of (re_config_tree c [])
    → words ≡ (if has_streams c.typ then streams else [])
    → AddsItem start c.typ (lead ++ numbers w16 words) old new code
    → AddsParameter start c.typ (re_config_tree c streams) old new code
re_config_added start c streams lead words old new code e same h =
    by_type start c.typ lead words old new code h (c.typ == 13) (c.typ == 14) c.request_number
    c.response_number c.last_tsn streams (fixed_tree c) e same

-- what has no value has none with streams either
no_tree : (is_outgoing is_incoming : Bool) (a b : List ℕ → ParameterTree)
    (others : Option ParameterTree) (streams : List ℕ)
    → None ≡ option_map value_of
    (if is_outgoing then Some (a []) else (if is_incoming then Some (b []) else others))
    → (if is_outgoing then Some (a streams) else
    (if is_incoming then Some (b streams) else others)) ≡ None
no_tree true is_incoming a b others streams e =
    absurd (let no : None ≡ Some (value_of (a [])) = e in cc)
no_tree false true a b others streams e =
    absurd (let no : None ≡ Some (value_of (b [])) = e in cc)
no_tree false false a b (Some p) streams e = absurd (let no : None ≡ Some (value_of p) = e in cc)
no_tree false false a b None streams e = refl

pub nothing_added : (start : ℕ) (c : DcsctpReConfig) (streams : List ℕ) (o : Output)
    (is_place : Bool) (code : ℕ) → None ≡ option_map value_of (re_config_tree c [])
    → IsTrue is_place ↔ IsLastChunk o.bytes o.size start
    → code ≡ (if is_place then bad_value_code else bad_place_code)
    → AddsParameter start c.typ (re_config_tree c streams) o o code
nothing_added start c streams o is_place code e place is =
    let none : re_config_tree c streams ≡ None =
    no_tree (c.typ == 13) (c.typ == 14)
    (with_streams c.request_number c.response_number c.last_tsn)
    (λ ns. IncomingSsnResetRequest (record { request = c.request_number; streams = ns }))
    (fixed_tree c) streams e in
    rw none (not_writable (IsLastChunk o.bytes o.size start) is_place o code place is)
