-- Key vectors as numbers: of one size they are ordered as their first difference.
use Rattle.std.proofs.Common.{◌≡◌, ◌∙◌, ℕ, zero, suc, ◌+◌, ◌-◌, ◌*◌, ◌<◌, true, false, ◌&&◌, List, [], ◌∷◌, ◌++◌, length, get_or, get_or-drop, length-drop, take, drop, refl, sym, ap, ap₂, arith, inl, inr}
use lib.Dec.{eqb-suc-zero}
use Rattle.std.specs.List.{fold}
use Rattle.std.proofs.lemmas.List.{take-append-drop}
use Rattle.std.proofs.lemmas.List.Sums.{fold-append}
use Rattle.std.proofs.Math.Seq.{drop-cons}
use Rattle.std.specs.declared.cmp.{Ordering.{Ordering}, Ordering.TheVariants.{Less, Equal, Greater}}
use Rattle.dcsctp_tlv.specs.{Frame.{are_zeros}, Number.{AreBytes}}
use Rattle.dcsctp_receive.specs.SharedKey.{vector_number, ComesFirst, Orders}

-- the number that the bytes make of the number before them
abbrev from : ℕ → List ℕ → ℕ
from before bytes = fold (λ number byte. 256 * number + byte) before bytes

later : (x : ℕ) (xs : List ℕ) → AreBytes (x ∷ xs) → AreBytes xs
later x xs fits i = fits (suc i)

bytes_from : (n : ℕ) (xs : List ℕ) → AreBytes xs → AreBytes (drop n xs)
bytes_from n xs fits = λ k. rw get_or-drop (fits (n + k))

-- bytes of one size after a smaller number make a smaller number
pub less_stays : (xs ys : List ℕ) (a b : ℕ) → length xs ≡ length ys → AreBytes xs → AreBytes ys
    → a < b → from a xs < from b ys
less_stays [] [] a b same fits fits' less = less
less_stays [] (y ∷ ys) a b same fits fits' less = absurd (omega (arith, same))
less_stays (x ∷ xs) [] a b same fits fits' less = absurd (omega (arith, same))
less_stays (x ∷ xs) (y ∷ ys) a b same fits fits' less =
    let small : x < 256 = fits 0 in
    less_stays xs ys (256 * a + x) (256 * b + y) (omega (arith, same)) (later x xs fits)
    (later y ys fits') (omega (arith, small, less))

positive_stays : (xs : List ℕ) (a : ℕ) → 0 < a → 0 < from a xs
positive_stays [] a more = more
positive_stays (x ∷ xs) a more = positive_stays xs (256 * a + x) (omega (arith, more))

pub from_zeros : (front : List ℕ) → are_zeros front ≡ true → from 0 front ≡ 0
from_zeros [] zeros = refl
from_zeros (zero ∷ xs) zeros = from_zeros xs zeros
from_zeros (suc x ∷ xs) zeros =
    let clash : false ≡ true = ap (λ t. t && are_zeros xs) (sym (eqb-suc-zero x)) ∙ zeros in
    absurd (cc)

pub from_others : (front : List ℕ) → are_zeros front ≡ false → 0 < from 0 front
from_others [] others = absurd (cc)
from_others (zero ∷ xs) others = from_others xs others
from_others (suc x ∷ xs) others = positive_stays xs (256 * 0 + suc x) (omega arith)

-- zeros at the front don't count
pub rest_counts : (front rest : List ℕ) → are_zeros front ≡ true
    → vector_number (front ++ rest) ≡ vector_number rest
rest_counts front rest zeros =
    fold-append (λ number byte. 256 * number + byte) 0 front rest
    ∙ ap (λ before. from before rest) (from_zeros front zeros)

-- others make a greater number than any that has no byte there
pub front_counts : (front rest other : List ℕ) → are_zeros front ≡ false
    → length rest ≡ length other → AreBytes rest → AreBytes other
    → vector_number other < vector_number (front ++ rest)
front_counts front rest other others same fits fits' =
    let whole = fold-append (λ number byte. 256 * number + byte) 0 front rest in
    let less : from 0 other < from (from 0 front) rest =
    less_stays other rest 0 (from 0 front) (sym same) fits' fits (from_others front others) in
    omega (arith, whole, less)

-- the first difference decides
pub first_decides : (i : ℕ) (xs ys : List ℕ) → length xs ≡ length ys → AreBytes xs → AreBytes ys
    → take i xs ≡ take i ys → i < length xs → get_or xs i 0 < get_or ys i 0
    → vector_number xs < vector_number ys
first_decides i xs ys same fits fits' front within less =
    let split : (zs : List ℕ) → i < length zs → vector_number zs
    ≡ from (256 * from 0 (take i zs) + get_or zs i 0) (drop (suc i) zs) =
    λ zs lt. ap vector_number (sym (take-append-drop i zs)
    ∙ ap (λ back. take i zs ++ back) (drop-cons zs i 0 lt))
    ∙ fold-append (λ number byte. 256 * number + byte) 0 (take i zs)
    (get_or zs i 0 ∷ drop (suc i) zs) in
    let before : from 0 (take i xs) ≡ from 0 (take i ys) = ap (from 0) front in
    let after : from (256 * from 0 (take i xs) + get_or xs i 0) (drop (suc i) xs)
    < from (256 * from 0 (take i ys) + get_or ys i 0) (drop (suc i) ys) =
    less_stays (drop (suc i) xs) (drop (suc i) ys) _ _
    (omega (arith, length-drop (suc i) xs, length-drop (suc i) ys, same))
    (bytes_from (suc i) xs fits) (bytes_from (suc i) ys fits') (omega (arith, before, less)) in
    omega (arith, split xs within, split ys (omega (arith, same, within)), after)

-- the same number in the same size is the same vector
pub same_vector : (xs ys : List ℕ) (a b : ℕ) → length xs ≡ length ys → AreBytes xs → AreBytes ys
    → from a xs ≡ from b ys → (a ≡ b) × (xs ≡ ys)
same_vector [] [] a b same fits fits' is = (is, refl)
same_vector [] (y ∷ ys) a b same fits fits' is = absurd (omega (arith, same))
same_vector (x ∷ xs) [] a b same fits fits' is = absurd (omega (arith, same))
same_vector (x ∷ xs) (y ∷ ys) a b same fits fits' is =
    let rest = same_vector xs ys (256 * a + x) (256 * b + y) (omega (arith, same))
    (later x xs fits) (later y ys fits') is in
    let small : x < 256 = fits 0 in
    let small' : y < 256 = fits' 0 in
    let first : x ≡ y = omega (arith, rest.0, small, small') in
    (omega (arith, rest.0, small, small'), ap₂ (λ z zs. z ∷ zs) first rest.1)

-- ---- vectors of any sizes

some_others : (k : ℕ) (xs : List ℕ) → are_zeros (take k xs) ≡ false → 0 < k
some_others zero xs others = absurd (cc)
some_others (suc k) xs others = omega arith

-- one that is longer, and not by zeros at its front
pub longer_is_greater : (k : ℕ) (one other : List ℕ) → k ≡ length one - length other
    → AreBytes one → AreBytes other → are_zeros (take k one) ≡ false
    → vector_number other < vector_number one
longer_is_greater k one other is fits fits' others =
    let more : 0 < k = some_others k one others in
    let whole : vector_number (take k one ++ drop k one) ≡ vector_number one =
    ap vector_number (take-append-drop k one) in
    let less = front_counts (take k one) (drop k one) other others
    (omega (arith, length-drop k one, is, more)) (bytes_from k one fits) fits' in
    omega (arith, whole, less)

-- zeros at its front don't count
pub same_rest : (k : ℕ) (xs : List ℕ) → are_zeros (take k xs) ≡ true
    → vector_number xs ≡ vector_number (drop k xs)
same_rest k xs zeros =
    ap vector_number (sym (take-append-drop k xs)) ∙ rest_counts (take k xs) (drop k xs) zeros

pub same_order : (order : Ordering) {a b c d : ℕ} → a ≡ c → b ≡ d → Orders order c d
    → Orders order a b
same_order Less e f less = omega (arith, e, f, less)
same_order Equal e f is = e ∙ is ∙ sym f
same_order Greater e f less = omega (arith, e, f, less)

-- where either may come first, both are the same
pub both_first : (one other : List ℕ) → AreBytes one → AreBytes other → ComesFirst one other
    → ComesFirst other one → one ≡ other
both_first one other fits fits' (inl less) (inl more) = absurd (omega (arith, less, more))
both_first one other fits fits' (inl less) (inr same) = absurd (omega (arith, less, same.0))
both_first one other fits fits' (inr same) (inl less) = absurd (omega (arith, less, same.0))
both_first one other fits fits' (inr same) (inr again) =
    (same_vector one other 0 0 (omega (arith, same.1, again.1)) fits fits' same.0).1
