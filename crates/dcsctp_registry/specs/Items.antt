-- Parameters or error causes of any types, one after the other (RFC 9260 sections 3.2.1 and
-- 3.3.10).
use Rattle.std.specs.Prelude.{◌&&◌, ℕ, zero, suc, nat_le, Bool, true, false, List, [], ◌∷◌, length}
use Rattle.dcsctp_tlv.specs.Frame.{frame_length, frame_rest}

-- they begin with a header, and a value as long as it says
abbrev pub has_frame : List ℕ → Bool
has_frame bytes =
    nat_le 4 (length bytes)
    && nat_le 4 (frame_length bytes) && nat_le (frame_length bytes) (length bytes)

-- No bytes are left, or they begin with a frame, and what follows its padding is so too: at most so
-- many frames. (No list has more items than bytes.)
unfoldable pub are_items_of : ℕ → List ℕ → Bool
are_items_of most [] = true
are_items_of zero (byte ∷ more) = false
are_items_of (suc most) (byte ∷ more) =
    has_frame (byte ∷ more) && are_items_of most (frame_rest (byte ∷ more))
