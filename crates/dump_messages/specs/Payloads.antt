-- The user data that is kept of fragments, and how it is joined.
use Rattle.std.specs.Prelude.{◌≡◌, ◌+◌, ◌-◌, ◌*◌, ◌^◌, ◌<◌, ◌≤◌, ◌==◌, ◌||◌, ◌++◌, Bool, true, ℕ, nat_eq, if◌then◌else◌, List, [], ◌∷◌, length, drop, Option, Some, None, option_map}
use Rattle.std.specs.HashMap.{get}
use Rattle.dcsctp_borrowed.specs.Part.{Item}
use Rattle.dump_packet.specs.declared.side.Side.{Side}
use Rattle.dump_packet.specs.declared.side.Side.TheVariants.{First, Second}
use Rattle.dump_messages.specs.declared.messages.fragment.Fragment.{Fragment}
use Rattle.dump_messages.specs.declared.messages.payloads.Payloads.{Payloads}

-- a fragment's number: no two fragments have the same one, as a TSN has 32 bits
abbrev pub key_of : ℕ → Side → ℕ → ℕ
key_of association First tsn = association * 2 ^ 33 + tsn
key_of association Second tsn = association * 2 ^ 33 + 2 ^ 32 + tsn

-- what is kept of the fragment that this end of this association sent with this TSN
abbrev pub kept_of : Payloads → ℕ → Side → ℕ → Option (List ℕ)
kept_of p association sender tsn =
    option_map (λ v. v.items) (get nat_eq p.kept (key_of association sender tsn))

-- one after the other; nothing where one of them is missing
abbrev pub both : Option (List ℕ) → Option (List ℕ) → Option (List ℕ)
both None others = None
both (Some first) None = None
both (Some first) (Some others) = Some (first ++ others)

-- what is kept of these fragments, in order; nothing where one of them isn't kept
abbrev pub joined : (ℕ → Option (List ℕ)) → List Fragment → Option (List ℕ)
joined kept [] = Some []
joined kept (f ∷ others) = both (kept f.tsn) (joined kept others)

-- of each fragment but those that are meant, q keeps what p keeps
abbrev pub KeepsOthers : Payloads → Payloads → (ℕ → Side → ℕ → Type 0) → Type 0
KeepsOthers p q IsMeant =
    (association : ℕ) (sender : Side) (tsn : ℕ) → tsn < 2 ^ 32
    → (IsMeant association sender tsn → ⊥)
    → kept_of q association sender tsn ≡ kept_of p association sender tsn

-- ---- chunks

-- DATA (RFC 9260 section 3.3.1) or I-DATA (RFC 8260 section 2.1)
abbrev pub has_user_data : ℕ → Bool
has_user_data typ = (typ == 0) || (typ == 64)

-- how many bytes of its value are before the user data
abbrev pub header_size : ℕ → ℕ
header_size typ = if typ == 64 then 16 else 12

-- the user data, as far as it was captured
abbrev pub captured : Item → List ℕ
captured i = drop (header_size i.first) i.value.bytes

-- the size of the user data
abbrev pub user_data_size : Item → ℕ
user_data_size i = i.value.size - header_size i.first

-- The chunk has user data, all of it was captured, and there is room for it.
abbrev pub Fits : Payloads → Item → Type 0
Fits p i =
    (has_user_data i.first ≡ true) × (header_size i.first ≤ length i.value.bytes)
    × (user_data_size i ≤ length (captured i)) × (p.size + user_data_size i ≤ 16777216)
