-- What a kind has to satisfy for the laws of its level, where one record is all that the tables say
-- of a tree.
use Rattle.std.{proofs.Common.{◌≡◌, ℕ, ◌+◌, ◌^◌, ◌<◌, List, [], ◌∷◌, length, sym, ap, ◌∙◌, Result, Ok}, specs.List.{AllByRecursion}}
use Rattle.dcsctp_tlv.{specs.Fault.{Fault}, specs.Format.{Format, tlv_by}, specs.Image.{solid, IsEncodable, list_size}, specs.Length.{length-solid}, proofs.KindLaws.{KindLaws, IsGood, by_value}, proofs.ReadsBack.{zeroed-solid, each_encodable}, proofs.Unpadded.{NotPadding}}

-- ---- a kind that is read under the item's first two bytes, as a chunk under its flags

-- each value is kept
abbrev pub TypedLaws
    : {T : Type 0} → (ℕ → ℕ → List ℕ → Result T Fault) → (T → Format) → Type 0
TypedLaws read format = KindLaws (λ value. Unit {0}) read format

-- a value without holes
pub typed_laws : {T : Type 0} {IsKept : List ℕ → Type 0} (read : ℕ → ℕ → List ℕ → Result T Fault)
    (format : T → Format) (bytes : T → List ℕ)
    → ((t : T) → (format t).tlv.value ≡ solid (bytes t))
    → ((t : T) → (format t).IsInWidth → (format t).IsWellFormed → IsEncodable (format t).tlv
    → read (format t).tlv.first (format t).tlv.second (bytes t) ≡ Ok t)
    → ((first second : ℕ) (value : List ℕ) (t : T) → read first second value ≡ Ok t
    → (format t).IsWellFormed)
    → ((first second : ℕ) (value : List ℕ) → NotPadding (read first second value))
    → ((first second : ℕ) (value : List ℕ) (t : T) → IsKept value → read first second value ≡ Ok t
    → length (bytes t) ≡ length value)
    → KindLaws IsKept read format
typed_laws read format bytes same back formed unpadded long = record {
  back = λ t good. rw (same t, zeroed-solid (bytes t))
      (back t good.width good.formed good.encodable);
  formed = formed;
  unpadded = unpadded;
  keeps = λ first second value t kept e.
      ap (λ (n : ℕ). 4 + n) (sym (format t).sized ∙ ap length (same t) ∙ length-solid (bytes t)
      ∙ long first second value t kept e);
}

-- ---- a kind whose value alone is read

abbrev pub FormatLaws : {T : Type 0} → (List ℕ → Result T Fault) → (T → Format) → Type 0
FormatLaws read format = TypedLaws (by_value read) format

pub format_laws : {T : Type 0} {IsKept : List ℕ → Type 0} (read : List ℕ → Result T Fault)
    (format : T → Format) (bytes : T → List ℕ)
    → ((t : T) → (format t).tlv.value ≡ solid (bytes t))
    → ((t : T) → (format t).IsInWidth → (format t).IsWellFormed → IsEncodable (format t).tlv
    → read (bytes t) ≡ Ok t)
    → ((value : List ℕ) (t : T) → read value ≡ Ok t → (format t).IsWellFormed)
    → ((value : List ℕ) → NotPadding (read value))
    → ((value : List ℕ) (t : T) → IsKept value → read value ≡ Ok t
    → length (bytes t) ≡ length value)
    → KindLaws IsKept (by_value read) format
format_laws read format bytes same back formed unpadded long =
    typed_laws (by_value read) format bytes same back (λ first second value t e. formed value t e)
    (λ first second value. unpadded value) (λ first second value t kept e. long value t kept e)

-- ---- trees that can be written and read again

abbrev AreGood : {T : Type 0} → (T → Format) → List T → Type 0
AreGood format ts = AllByRecursion (λ t. IsGood (format t)) ts

pub all_good : {T : Type 0} (format : T → Format) (ts : List T)
    → AllByRecursion (λ t. (format t).IsInWidth) ts
    → AllByRecursion (λ t. (format t).IsWellFormed) ts
    → AllByRecursion (λ t. IsEncodable (format t).tlv) ts → AreGood format ts
all_good format [] w f e = tt
all_good format (t ∷ ts) w f e =
    (record { width = w.0; formed = f.0; encodable = e.0 }, all_good format ts w.1 f.1 e.1)

-- those of a list that two bytes can hold the size of
pub good_list : {T : Type 0} (format : T → Format) (ts : List T)
    → AllByRecursion (λ t. (format t).IsInWidth) ts
    → AllByRecursion (λ t. (format t).IsWellFormed) ts
    → list_size (tlv_by format) ts < 2 ^ 16 → AreGood format ts
good_list format ts width formed fits =
    all_good format ts width formed (each_encodable (tlv_by format) ts fits)
