-- The value of an option, option by option.
use Rattle.std.proofs.Common.{◌≡◌, ◌<◌, ◌≤◌, ◌≢◌, ◌==◌, ◌||◌, ℕ, zero, suc, ℤ, Bool, true, false, if◌then◌else◌, List, [], Some, length, take, drop, nat_lt, refl, ap, ◌∙◌, arith}
use Rattle.std.proofs.lemmas.Bool.Decides.{nat_tests}
use Rattle.std.specs.Int.{w16, w32}
use Rattle.dump_capture.specs.Number.{number_in}
use Rattle.dump_capture.specs.Pcapng.{option_size, is_option, option_in, resolution_of, offset_of, interface_of}
use Rattle.dump_capture.specs.declared.pcap.ByteOrder.{ByteOrder}

-- no option
pub Option-none : (n : ℕ) (order : ByteOrder) (code size : ℕ) (xs : List ℕ) → n ≡ 0
    → option_in n order code size xs ≡ []
unfolding option_in
Option-none n order code size xs none = ap (λ (k : ℕ). option_in k order code size xs) none

-- too few bytes for an option
pub Option-short : (n : ℕ) (order : ByteOrder) (code size : ℕ) (xs : List ℕ) → length xs < 4
    → option_in n order code size xs ≡ []
unfolding option_in
Option-short zero order code size xs short = refl
Option-short (suc n) order code size xs short =
    let h : nat_lt (length xs) 4 ≡ true = grind (arith, nat_tests) in rw h refl

ends : {A : Type 0} (a b : Bool) (x y : A) → b ≡ true → (if a || b then x else y) ≡ x
ends true b x y is = refl
ends false true x y is = refl
ends false false x y is = cc

-- the end of the options
pub Option-end : (n : ℕ) (order : ByteOrder) (code size : ℕ) (xs : List ℕ)
    → number_in order w16 xs ≡ 0 → option_in n order code size xs ≡ []
unfolding option_in
Option-end zero order code size xs end = refl
Option-end (suc n) order code size xs end =
    let h : (number_in order w16 xs == 0) ≡ true = grind (arith, nat_tests) in
    ends (nat_lt (length xs) 4) (number_in order w16 xs == 0) _ _ h

-- the option is there
pub Option-found : (m n : ℕ) (order : ByteOrder) (code size : ℕ) (xs : List ℕ) → m ≡ suc n
    → 4 ≤ length xs → number_in order w16 xs ≢ 0 → is_option order code size xs ≡ true
    → option_in m order code size xs ≡ take size (drop 4 xs)
unfolding option_in
Option-found m n order code size xs is enough some found =
    let long : nat_lt (length xs) 4 ≡ false = grind (arith, nat_tests) in
    let more : (number_in order w16 xs == 0) ≡ false = grind (arith, nat_tests) in
    ap (λ (k : ℕ). option_in k order code size xs) is ∙ rw (long, more, found) refl

-- another option
pub Option-next : (m n : ℕ) (order : ByteOrder) (code size : ℕ) (xs : List ℕ) → m ≡ suc n
    → 4 ≤ length xs → number_in order w16 xs ≢ 0 → is_option order code size xs ≡ false
    → option_in m order code size xs
    ≡ option_in n order code size (drop (option_size (number_in order w16 (drop 2 xs))) xs)
unfolding option_in
Option-next m n order code size xs is enough some other =
    let long : nat_lt (length xs) 4 ≡ false = grind (arith, nat_tests) in
    let more : (number_in order w16 xs == 0) ≡ false = grind (arith, nat_tests) in
    ap (λ (k : ℕ). option_in k order code size xs) is ∙ rw (long, more, other) refl

-- the interface of a body that is neither too short nor too long
pub interface_is : (order : ByteOrder) (body : List ℕ) (link size unit : ℕ) (seconds : ℤ)
    → 8 ≤ length body → length body ≤ 262144 → link ≡ number_in order w16 body
    → size ≡ number_in order w32 (drop 4 body)
    → unit ≡ resolution_of (option_in (length body) order 9 1 (drop 8 body))
    → seconds ≡ offset_of order (option_in (length body) order 14 8 (drop 8 body))
    → Some (record { link_type = link; snapshot_length = size; resolution = unit; offset = seconds })
    ≡ interface_of order body
interface_is order body link size unit seconds enough few is_link is_size is_unit are_seconds =
    let short : nat_lt (length body) 8 ≡ false = grind (arith, nat_tests) in
    let long : nat_lt 262144 (length body) ≡ false = grind (arith, nat_tests) in
    rw (short, long, is_link, is_size, is_unit, are_seconds) refl
