-- An image is as long as its size.
use Rattle.std.{proofs.Common.{◌≡◌, ℕ, ◌+◌, ◌*◌, List, ◌++◌, length, ap, ◌∙◌, length-append}, specs.Int.{Width, to_be_bytes}}
use Rattle.dcsctp_tlv.specs.{Frame.{header}, Image.{solid, Tlv, size_of, image_of}, Number.{numbers}, Format.{Format}, Length.{length-solid, length-each}}

pub length-image_of : (t : Tlv) → length t.value ≡ t.value_size → length (image_of t) ≡ size_of t
unfolding image_of
length-image_of t e =
    length-append (solid (header t.first t.second t.value_size)) t.value ∙ ap (λ (n : ℕ). 4 + n) e

-- where all that is said of a tree is its format
pub length-format : (f : Format) → length (image_of f.tlv) ≡ size_of f.tlv
length-format f = length-image_of f.tlv f.sized

-- bytes of a known number, and after them any
pub length-fixed : (size : ℕ) (fixed rest : List ℕ) → length fixed ≡ size
    → length (solid (fixed ++ rest)) ≡ size + length rest
length-fixed size fixed rest e =
    length-solid (fixed ++ rest) ∙ length-append fixed rest
    ∙ ap (λ (k : ℕ). k + length rest) e

pub length-numbers : (width : Width) (size : ℕ) (ns : List ℕ)
    → ((n : ℕ) → length (to_be_bytes width n) ≡ size) → length (numbers width ns) ≡ size * length ns
length-numbers width size ns each = length-each (to_be_bytes width) size ns each
