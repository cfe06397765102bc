-- The items of the grammar, as items of bytes that were all captured.
use Rattle.std.specs.Prelude.{ℕ, List, length, map}
use Rattle.dcsctp_tlv.specs.Frame as frame
use Rattle.dcsctp_borrowed.specs.Part.{Part, Item}

-- all the bytes were captured
abbrev pub whole : List ℕ → Part
whole bytes = record { bytes = bytes; size = length bytes }

abbrev pub item_of_frame : frame.Item → Item
item_of_frame i = record { first = i.first; second = i.second; value = whole i.value }

abbrev pub items_of_frames : List frame.Item → List Item
items_of_frames items = map item_of_frame items
