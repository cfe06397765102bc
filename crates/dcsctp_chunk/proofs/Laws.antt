-- What each kind has to satisfy for the laws of its level.
use Rattle.std.proofs.{Common.{◌≡◌, ℕ, ◌<◌, ◌^◌, Bool, true, false, cond, List, [], length, drop, refl, sym, ap, subst, ◌∙◌, arith, inl, inr, Ok, ◌==◌, nat_lt, ltb-false, le-ltb, length-drop}, lemmas.Bool.Decides.{eqb_tells}, lemmas.List.{nil_from_length}, lemmas.Nat.{from_be_bytes-to_be_bytes_2, from_be_bytes-to_be_bytes_4}}
use Rattle.dcsctp_tlv.{specs.Fault.{Length}, specs.Number.{number32}, proofs.FormatLaws.{FormatLaws, format_laws, TypedLaws, typed_laws}, proofs.KindLaws.{of_ok, not_refused}, proofs.Layouts.{sized_laws, number_laws, empty_laws}, proofs.Unpadded.{if_not_refused}}
use Rattle.dcsctp_chunk.specs.CookieAck as cookie_ack
use Rattle.dcsctp_chunk.specs.CookieEcho as cookie_echo
use Rattle.dcsctp_chunk.{specs.Data.{Tree, IsInWidth, flags_of}, specs.Flags.{is_set}, proofs.FlagLaws.{one_again, four_again}}
use Rattle.dcsctp_chunk.specs.DataChunk as data_chunk
use Rattle.dcsctp_chunk.specs.IDataChunk as idata_chunk
use Rattle.dcsctp_chunk.specs.Shutdown as shutdown
use Rattle.dcsctp_chunk.specs.ShutdownAck as shutdown_ack
use Rattle.dcsctp_chunk.specs.ShutdownComplete as shutdown_complete
use Rattle.dcsctp_chunk.specs.Unknown as unknown

-- ---- one size

pub shutdown_laws : FormatLaws shutdown.read shutdown.format
shutdown_laws = number_laws shutdown.format (λ n. refl) (λ n width. width) (λ n. tt)

pub shutdown_ack_laws : FormatLaws shutdown_ack.read shutdown_ack.format
shutdown_ack_laws = empty_laws shutdown_ack.format (λ u. refl) (λ u. tt)

pub cookie_ack_laws : FormatLaws cookie_ack.read cookie_ack.format
cookie_ack_laws = empty_laws cookie_ack.format (λ u. refl) (λ u. tt)

pub shutdown_complete_laws : TypedLaws (λ first. shutdown_complete.read) shutdown_complete.format
shutdown_complete_laws =
    sized_laws 0 _ shutdown_complete.format (λ reflected. []) (λ reflected. refl)
    (λ reflected. refl) (λ reflected width. one_again reflected) (λ reflected. tt)

-- ---- any bytes

pub cookie_echo_laws : FormatLaws cookie_echo.read cookie_echo.format
cookie_echo_laws =
    format_laws cookie_echo.read cookie_echo.format (λ cookie. cookie) (λ cookie. refl)
    (λ cookie width form fits. elim (eqb_tells (length cookie) 0) [
      | inl p ↦ absurd (form (nil_from_length cookie p.1))
      | inr p ↦ rw p.0 refl
    ])
    (λ value cookie is none.
    (let p = not_refused (length value == 0) (Ok value) Length cookie is in
    let empty : (length value == 0) ≡ true =
    ap (λ (xs : List ℕ). length xs == 0) (of_ok value cookie p.1 ∙ none) in
    absurd (let e : true ≡ false = sym empty ∙ p.0 in cc)))
    (λ value. if_not_refused (length value == 0) value)
    (λ value cookie kept is. ap length
    (sym (of_ok value cookie (not_refused (length value == 0) (Ok value) Length cookie is).1)))

-- which types aren't named is said where the table is
pub unknown_laws : TypedLaws unknown.read unknown.format
unknown_laws =
    typed_laws unknown.read unknown.format (λ u. u.value) (λ u. refl)
    (λ u width form fits. refl) (λ first flags value u is. tt) (λ first flags value. tt)
    (λ first flags value u kept is. ap (λ (t : unknown.Tree). length t.value)
    (sym (of_ok (record { typ = first; flags = flags; value = value }) u is)))

-- ---- DATA

kept_data_is : (c : Tree) → data_chunk.IsWellFormed c → data_chunk.kept c ≡ c
kept_data_is c form =
    ap (λ (n : ℕ). record c { user_data = record c.user_data { mid = n; fsn = 0 } }) (sym form.mid)
    ∙ ap (λ (n : ℕ). record c { user_data = record c.user_data { fsn = n } }) (sym form.fsn)

-- what is written of a tree is read as what it keeps
data_back : (c : Tree) → IsInWidth c
    → data_chunk.read (flags_of c) (data_chunk.bytes c) ≡ Ok (data_chunk.kept c)
data_back c width =
    let d = c.user_data in
    let flags = four_again d.ending d.beginning d.unordered c.immediate_ack in
    rw (
      le-ltb (length (data_chunk.bytes c)) 12 (omega arith),
      from_be_bytes-to_be_bytes_4 c.tsn width.tsn,
      from_be_bytes-to_be_bytes_2 d.stream width.stream,
      from_be_bytes-to_be_bytes_2 d.ssn width.ssn,
      from_be_bytes-to_be_bytes_4 d.ppid width.ppid,
      flags.0,
      flags.1,
      flags.2,
      flags.3,
    ) refl

pub data_laws : TypedLaws (λ first. data_chunk.read) data_chunk.format
data_laws =
    typed_laws (λ first. data_chunk.read) data_chunk.format data_chunk.bytes (λ c. refl)
    (λ c width form fits. data_back c width ∙ ap (λ (t : Tree). Ok t) (kept_data_is c form))
    (λ first flags value c is.
    (let p = of_ok _ c (not_refused (nat_lt (length value) 12) _ Length c is).1 in
    record {
      mid = ap (λ (t : Tree). t.user_data.mid) (sym p);
      fsn = ap (λ (t : Tree). t.user_data.fsn) (sym p);
    }))
    (λ first flags value. if_not_refused (nat_lt (length value) 12) _)
    (λ first flags value c kept is.
    let p = not_refused (nat_lt (length value) 12) _ Length c is in
    let payload : length (drop 12 value) ≡ length c.user_data.payload =
    ap (λ (t : Tree). length t.user_data.payload) (of_ok _ c p.1) in
    omega (arith, ltb-false _ _ p.0, length-drop 12 value, payload))

-- what isn't carried is neither written nor read
pub data_kept_tlv : (c : Tree)
    → (data_chunk.format (data_chunk.kept c)).tlv ≡ (data_chunk.format c).tlv
data_kept_tlv c = refl

pub data_kept_width : (c : Tree) → IsInWidth c → IsInWidth (data_chunk.kept c)
data_kept_width c width = record {
  tsn = width.tsn;
  stream = width.stream;
  ssn = width.ssn;
  mid = omega arith;
  fsn = omega arith;
  ppid = width.ppid;
  payload = width.payload;
}

-- ---- I-DATA

abbrev idata_with : Tree → ℕ → ℕ → ℕ → Tree
idata_with c ssn fsn ppid =
    record c { user_data = record c.user_data { ssn = ssn; fsn = fsn; ppid = ppid } }

-- of payload protocol id and FSN one is carried, and the other is zero
kept_numbers : (beginning : Bool) (fsn ppid : ℕ) → cond beginning fsn ppid ≡ 0
    → (cond beginning 0 fsn ≡ fsn) × (cond beginning ppid 0 ≡ ppid)
kept_numbers true fsn ppid e = (sym e, refl)
kept_numbers false fsn ppid e = (refl, sym e)

carried_number : (beginning : Bool) (fsn ppid : ℕ)
    → cond beginning (cond beginning ppid 0) (cond beginning 0 fsn) ≡ cond beginning ppid fsn
carried_number true fsn ppid = refl
carried_number false fsn ppid = refl

other_number : (beginning : Bool) (fsn ppid : ℕ)
    → cond beginning (cond beginning 0 fsn) (cond beginning ppid 0) ≡ 0
other_number true fsn ppid = refl
other_number false fsn ppid = refl

read_numbers : (beginning : Bool) (fsn ppid : ℕ)
    → (cond beginning 0 (cond beginning ppid fsn) ≡ cond beginning 0 fsn)
    × (cond beginning (cond beginning ppid fsn) 0 ≡ cond beginning ppid 0)
read_numbers true fsn ppid = (refl, refl)
read_numbers false fsn ppid = (refl, refl)

number_in_width : (beginning : Bool) (m n : ℕ) → m < 2 ^ 32 → n < 2 ^ 32
    → cond beginning m n < 2 ^ 32
number_in_width true m n p q = p
number_in_width false m n p q = q

kept_idata_is : (c : Tree) → idata_chunk.IsWellFormed c → idata_chunk.kept c ≡ c
kept_idata_is c form =
    let d = c.user_data in
    let p = kept_numbers d.beginning d.fsn d.ppid form.fsn_or_ppid in
    ap (λ (n : ℕ). idata_with c n (cond d.beginning 0 d.fsn) (cond d.beginning d.ppid 0))
    (sym form.ssn)
    ∙ ap (λ (n : ℕ). idata_with c d.ssn n (cond d.beginning d.ppid 0)) p.0
    ∙ ap (λ (n : ℕ). idata_with c d.ssn d.fsn n) p.1

-- what is written of a tree is read as what it keeps
idata_back : (c : Tree) → IsInWidth c
    → idata_chunk.read (flags_of c) (idata_chunk.bytes c) ≡ Ok (idata_chunk.kept c)
idata_back c width =
    let d = c.user_data in
    let flags = four_again d.ending d.beginning d.unordered c.immediate_ack in
    let numbers = read_numbers d.beginning d.fsn d.ppid in
    let number = number_in_width d.beginning d.ppid d.fsn width.ppid width.fsn in
    rw (
      le-ltb (length (idata_chunk.bytes c)) 16 (omega arith),
      from_be_bytes-to_be_bytes_4 c.tsn width.tsn,
      from_be_bytes-to_be_bytes_2 d.stream width.stream,
      from_be_bytes-to_be_bytes_4 d.mid width.mid,
      from_be_bytes-to_be_bytes_4 (cond d.beginning d.ppid d.fsn) number,
      flags.0,
      flags.1,
      flags.2,
      flags.3,
      numbers.0,
      numbers.1,
    ) refl

pub idata_laws : TypedLaws (λ first. idata_chunk.read) idata_chunk.format
idata_laws =
    typed_laws (λ first. idata_chunk.read) idata_chunk.format idata_chunk.bytes (λ c. refl)
    (λ c width form fits. idata_back c width ∙ ap (λ (t : Tree). Ok t) (kept_idata_is c form))
    (λ first flags value c is.
    (let p = of_ok _ c (not_refused (nat_lt (length value) 16) _ Length c is).1 in
    let number = number32 (drop 12 value) in
    subst idata_chunk.IsWellFormed p
    (record { ssn = refl; fsn_or_ppid = other_number (is_set flags 1) number number })))
    (λ first flags value. if_not_refused (nat_lt (length value) 16) _)
    (λ first flags value c kept is.
    let p = not_refused (nat_lt (length value) 16) _ Length c is in
    let payload : length (drop 16 value) ≡ length c.user_data.payload =
    ap (λ (t : Tree). length t.user_data.payload) (of_ok _ c p.1) in
    omega (arith, ltb-false _ _ p.0, length-drop 16 value, payload))

-- what isn't carried is neither written nor read
pub idata_kept_tlv : (c : Tree)
    → (idata_chunk.format (idata_chunk.kept c)).tlv ≡ (idata_chunk.format c).tlv
idata_kept_tlv c =
    rw (carried_number c.user_data.beginning c.user_data.fsn c.user_data.ppid) refl

pub idata_kept_width : (c : Tree) → IsInWidth c → IsInWidth (idata_chunk.kept c)
idata_kept_width c width = record {
  tsn = width.tsn;
  stream = width.stream;
  ssn = omega arith;
  mid = width.mid;
  fsn = number_in_width c.user_data.beginning 0 c.user_data.fsn (omega arith) width.fsn;
  ppid = number_in_width c.user_data.beginning c.user_data.ppid 0 width.ppid (omega arith);
  payload = width.payload;
}
