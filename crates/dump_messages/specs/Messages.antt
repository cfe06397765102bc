-- When the fragments of a user message that were seen are all of it.
use Rattle.std.specs.Prelude.{◌+◌, ◌%◌, ◌^◌, ◌==◌, ◌&&◌, not, Bool, false, List, [], ◌∷◌}
use Rattle.dump_messages.specs.declared.messages.fragment.Fragment.{Fragment}

-- "The transmitter MUST then assign, in sequence, a separate TSN to each of the DATA chunks in the
-- series" (RFC 9260 section 6.9, step 2); of I-DATA "The FSN is used to enumerate all fragments of
-- a single user message, starting from 0 and incremented by 1" (RFC 8260 section 2.1). Both are
-- serial numbers of 32 bits.
abbrev pub follows : Fragment → Fragment → Bool
follows before after = after.place == (before.place + 1) % 2 ^ 32

-- the message goes on after this fragment, up to the one that ends it
abbrev pub goes_on : Fragment → List Fragment → Bool
goes_on last [] = last.is_end
goes_on last (next ∷ rest) =
    not last.is_end && not next.is_beginning && follows last next && goes_on next rest

-- "The transmitter MUST also set the B/E bits of the first DATA chunk in the series to 10, the B/E
-- bits of the last DATA chunk in the series to 01, and the B/E bits of all other DATA chunks in the
-- series to 00" (RFC 9260 section 6.9, step 3). Of the only one both are 1.
abbrev pub is_whole : List Fragment → Bool
is_whole [] = false
is_whole (first ∷ rest) = first.is_beginning && goes_on first rest
