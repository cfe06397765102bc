-- A value has the size that is counted: the lemmas that formats cite for this. They are here and
-- not in proofs/, which a definition of the same crate can't cite; none of them has to be believed.
use Rattle.std.{proofs.Common.{◌≡◌, ℕ, ◌+◌, ◌*◌, List, [], ◌∷◌, ◌++◌, Some, length, refl, sym, ap, ◌∙◌, length-append}, specs.Int.{Width, w32, to_be_bytes}, specs.List.{flat_map}, proofs.Math.Nat.{mul-zero, mul-suc, add_comm}, proofs.lemmas.List.{length-map}}
use Rattle.dcsctp_tlv.specs.{Image.{solid}, Number.{numbers}}

pub length-solid : (bytes : List ℕ) → length (solid bytes) ≡ length bytes
length-solid bytes = length-map bytes Some

-- fields of one size
pub length-each : {A : Type 0} (write : A → List ℕ) (size : ℕ) (xs : List A)
    → ((x : A) → length (write x) ≡ size) → length (flat_map write xs) ≡ size * length xs
length-each write size [] each = sym (mul-zero size)
length-each write size (x ∷ xs) each =
    length-append (write x) (flat_map write xs)
    ∙ ap (λ (k : ℕ). k + length (flat_map write xs)) (each x)
    ∙ ap (λ (k : ℕ). size + k) (length-each write size xs each)
    ∙ add_comm size (size * length xs) ∙ sym (mul-suc size (length xs))

-- two lists of fields, one after the other
pub length-two_lists : {A B : Type 0} (write : A → List ℕ) (size : ℕ) (xs : List A)
    (write_more : B → List ℕ) (more_size : ℕ) (ys : List B)
    → ((x : A) → length (write x) ≡ size) → ((y : B) → length (write_more y) ≡ more_size)
    → length (flat_map write xs ++ flat_map write_more ys)
    ≡ size * length xs + more_size * length ys
length-two_lists write size xs write_more more_size ys each each_more =
    length-append (flat_map write xs) (flat_map write_more ys)
    ∙ ap (λ (k : ℕ). k + length (flat_map write_more ys)) (length-each write size xs each)
    ∙ ap (λ (k : ℕ). size * length xs + k) (length-each write_more more_size ys each_more)

-- numbers of four bytes, and after them fields
pub length-fields : {A : Type 0} (leading : List ℕ) (write : A → List ℕ) (size : ℕ) (list : List A)
    → ((x : A) → length (write x) ≡ size)
    → length (solid (numbers w32 leading ++ flat_map write list))
    ≡ 4 * length leading + size * length list
length-fields leading write size list each =
    length-solid (numbers w32 leading ++ flat_map write list)
    ∙ length-two_lists (to_be_bytes w32) 4 leading write size list (λ n. refl) each

-- numbers of four bytes, and after them a list of numbers of another width
pub length-words : (width : Width) (size : ℕ) (leading list : List ℕ)
    → ((n : ℕ) → length (to_be_bytes width n) ≡ size)
    → length (solid (numbers w32 leading ++ numbers width list))
    ≡ 4 * length leading + size * length list
length-words width size leading list each =
    length-fields leading (to_be_bytes width) size list each
