-- Trees that are written alike: their lists are, too.
use Rattle.std.{proofs.Common.{◌≡◌, ℕ, ◌+◌, List, [], ◌∷◌, ◌++◌, length, refl, ap, map}, specs.List.{AllByRecursion}}
use Rattle.dcsctp_tlv.specs.Image.{solid, Tlv, size_of, image_of, list_image, list_size, listed_tlv}

-- f keeps how each is written
abbrev pub KeepsTlv : {T : Type 0} → (T → Tlv) → (T → T) → Type 0
KeepsTlv {T} tlv f = (t : T) → tlv (f t) ≡ tlv t

pub list_image-kept : {T : Type 0} (tlv : T → Tlv) (f : T → T) → KeepsTlv tlv f → (ts : List T)
    → list_image tlv (map f ts) ≡ list_image tlv ts
list_image-kept tlv f law [] = refl
list_image-kept tlv f law (t ∷ []) = ap image_of (law t)
list_image-kept tlv f law (t ∷ u ∷ ts) =
    rw (law t, list_image-kept tlv f law (u ∷ ts)) refl

pub list_size-kept : {T : Type 0} (tlv : T → Tlv) (f : T → T) → KeepsTlv tlv f → (ts : List T)
    → list_size tlv (map f ts) ≡ list_size tlv ts
list_size-kept tlv f law [] = refl
list_size-kept tlv f law (t ∷ []) = ap size_of (law t)
list_size-kept tlv f law (t ∷ u ∷ ts) =
    rw (law t, list_size-kept tlv f law (u ∷ ts)) refl

-- so is an item whose value ends in such a list
pub listed_tlv-kept : {T : Type 0} (tlv : T → Tlv) (f : T → T) → KeepsTlv tlv f
    → (first second : ℕ) (leading : List ℕ) (ts : List T)
    → listed_tlv first second leading tlv (map f ts) ≡ listed_tlv first second leading tlv ts
listed_tlv-kept tlv f law first second leading ts = λ k. record {
  first = first;
  second = second;
  value = solid leading ++ list_image-kept tlv f law ts k;
  value_size = length leading + list_size-kept tlv f law ts k;
}

-- what each is made to have
pub all_map : {A B : Type 0} (P : A → Type 0) (Q : B → Type 0) (f : A → B)
    → ((x : A) → P x → Q (f x)) → (xs : List A) → AllByRecursion P xs → AllByRecursion Q (map f xs)
all_map P Q f law [] h = tt
all_map P Q f law (x ∷ xs) h = (law x h.0, all_map P Q f law xs h.1)
