-- A State Cookie that was opened, as the struct holds it.
use Rattle.std.proofs.Common.{◌≡◌, ◌∙◌, ◌+◌, ◌≤◌, ℕ, List, Some, true, length, take, drop, refl, sym, ap, arith, nat_le, le-leb, length-drop, drop-drop, take_all, drop_at}
use Rattle.dcsctp_receive.{specs.Cookie.{CookieTree, cookie_bytes, fixed_bytes, view}, specs.declared.cookie.StateCookie.{StateCookie}, proofs.Cookies.{cookie_is_sealed}}
use Rattle.dcsctp_c.specs.{Auth.{cookie_tree, HoldsCookie}, Part.{part_at}, declared.structs.DcsctpCookie.{DcsctpCookie}}

-- what ends the bytes lies there
at_end : (bytes xs : List ℕ) (k : ℕ) → k ≤ length bytes → drop k bytes ≡ xs
    → part_at bytes k (length xs) ≡ Some xs
at_end bytes xs k fits is =
    let size = ap length is in
    let from = length-drop k bytes in
    let whole : nat_le (k + length xs) (length bytes) ≡ true =
    le-leb (k + length xs) (length bytes) (omega (arith, from, size, fits)) in
    rw whole (ap Some (ap (take (length xs)) is ∙ take_all (length xs) xs (omega arith)))

pub holds_opened : (key bytes : List ℕ) (tree : CookieTree) (opened : StateCookie)
    (new : DcsctpCookie) → bytes ≡ cookie_bytes key tree → view opened ≡ tree
    → cookie_tree new opened.extra.now ≡ view opened → new.extra_offset ≡ 80
    → new.extra_size ≡ length opened.extra.now → HoldsCookie bytes tree new
holds_opened key bytes tree opened new is means numbers offset size =
    let sealed = cookie_is_sealed key tree bytes is in
    let same : opened.extra.now ≡ tree.extra =
    ap (λ (t : CookieTree). t.extra) means in
    let rest : drop 80 bytes ≡ tree.extra =
    sym (drop-drop 48 32 bytes) ∙ ap (drop 48) sealed.rest
    ∙ drop_at (fixed_bytes tree) tree.extra 48 refl in
    record {
      numbers = ap (cookie_tree new) (sym same) ∙ numbers ∙ means;
      extra = rw (offset, size, same) (at_end bytes tree.extra 80 sealed.size rest);
    }
