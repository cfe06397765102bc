-- A loop over the chunks of a refused packet that are looked at looks for one that meets a test.
use Rattle.std.proofs.Common.{◌≡◌, ◌<◌, ◌-◌, ◌||◌, ◌&&◌, nat_le, nat_lt, ℕ, zero, suc, Bool, true, false, List, [], ◌∷◌, Option, Some, None, length, if◌then◌else◌, sym, ap, subst, ◌∙◌, arith, inl, inr}
use Rattle.std.proofs.lemmas.Bool.{cases_Bool, cases_lt, both_ways, and_parts, cond-true, cond-false, lt-ltb, le-ltb}
use Rattle.std.specs.List.{list_any}
use Rattle.dcsctp_tlv.specs.Frame.{round_up_to_4}
use Rattle.dcsctp_borrowed.specs.Part.{Part, Item, begins_with_item, after_item, length_field}
use Rattle.dcsctp_borrowed.proofs.PacketItems.{one_list}
use Rattle.dcsctp_receive.{specs.Chunks.{chunk_part, items_of}, proofs.ItemLists.{fewer, are_items}}
use Rattle.dump_packet.specs.Seen.{has_header, front_chunk, goes_on, AreWithin, AreSeen, chunks_within, chunks_ahead, chunks_seen}

-- ---- the chunks that are looked at

-- where the chunks go on, an item lies here
begins : (ahead : ℕ) (p : Part) → goes_on ahead p ≡ true → begins_with_item p ≡ true
begins ahead p goes =
    let short = nat_le (round_up_to_4 (length_field p)) ahead in
    (and_parts (begins_with_item p) short goes).0

-- and so its header does
has_its_header : (ahead : ℕ) (p : Part) → goes_on ahead p ≡ true → has_header p ≡ true
has_its_header ahead p goes =
    let front = has_header p && nat_le 4 (length_field p) in
    let both = and_parts front (nat_le (length_field p) p.size) (begins ahead p goes) in
    (and_parts (has_header p) (nat_le 4 (length_field p)) both.0).0

are_within : (n ahead : ℕ) (p : Part) → length p.bytes < n
    → AreWithin ahead p (chunks_within n ahead p)
are_within zero ahead p few = absurd (omega (arith, few))
are_within (suc n) ahead p few =
    let left = ahead - round_up_to_4 (length_field p) in
    let others = chunks_within n left (after_item p) in
    let later : List Item = if goes_on ahead p then others else [] in
    let all = chunks_within (suc n) ahead p in
    elim (cases_Bool (has_header p)) [
      | inr lacks ↦ AreWithin.none ahead p all lacks
          (cond-false (has_header p) (front_chunk p ∷ later) [] lacks)
      | inl has ↦
          let front_is = cond-true (has_header p) (front_chunk p ∷ later) [] has in
          elim (cases_Bool (goes_on ahead p)) [
            | inl goes ↦ AreWithin.next ahead p all others goes
                (are_within n left (after_item p) (omega (arith, few, fewer p (begins ahead p goes))))
                (front_is ∙ ap (λ l. front_chunk p ∷ l) (cond-true (goes_on ahead p) others [] goes))
            | inr ends ↦ AreWithin.last ahead p all has ends
                (front_is ∙ ap (λ l. front_chunk p ∷ l) (cond-false (goes_on ahead p) others [] ends))
          ]
    ]

pub are_ahead : (ahead : ℕ) (p : Part) → AreWithin ahead p (chunks_ahead ahead p)
unfolding chunks_ahead
are_ahead ahead p = are_within (suc (length p.bytes)) ahead p (omega arith)

pub are_seen : (fault : Option ℕ) (packet : Part) → AreSeen fault packet (chunks_seen fault packet)
are_seen None packet = are_items (chunk_part packet)
are_seen (Some fault) packet =
    let chunks = chunks_ahead (fault - 12) (chunk_part packet) in (
      (λ before. cond-true (nat_lt fault 12) [] chunks (lt-ltb fault 12 before)),
      (λ later. subst (AreWithin (fault - 12) (chunk_part packet))
          (sym (cond-false (nat_lt fault 12) [] chunks (le-ltb fault 12 later)))
          (are_ahead (fault - 12) (chunk_part packet))),
    )

-- ---- what a list of them begins with

within_none : (ahead : ℕ) (p : Part) (items : List Item) → has_header p ≡ false
    → AreWithin ahead p items → items ≡ []
within_none ahead p items lacks (AreWithin.none _ _ _ _ is_empty) = is_empty
within_none ahead p items lacks (AreWithin.last _ _ _ has _ _) =
    absurd (both_ways (has_header p) lacks has)
within_none ahead p items lacks (AreWithin.next _ _ _ others goes _ _) =
    absurd (both_ways (has_header p) lacks (has_its_header ahead p goes))

within_last : (ahead : ℕ) (p : Part) (items : List Item) → has_header p ≡ true
    → goes_on ahead p ≡ false → AreWithin ahead p items → items ≡ front_chunk p ∷ []
within_last ahead p items has ends (AreWithin.none _ _ _ lacks _) =
    absurd (both_ways (has_header p) lacks has)
within_last ahead p items has ends (AreWithin.last _ _ _ _ _ items_are) = items_are
within_last ahead p items has ends (AreWithin.next _ _ _ others goes _ _) =
    absurd (both_ways (goes_on ahead p) ends goes)

within_next : (ahead : ℕ) (p : Part) (items : List Item) → goes_on ahead p ≡ true
    → AreWithin ahead p items → (others : List Item)
    × AreWithin (ahead - round_up_to_4 (length_field p)) (after_item p) others
    × (items ≡ front_chunk p ∷ others)
within_next ahead p items goes (AreWithin.none _ _ _ lacks _) =
    absurd (both_ways (has_header p) lacks (has_its_header ahead p goes))
within_next ahead p items goes (AreWithin.last _ _ _ _ ends _) =
    absurd (both_ways (goes_on ahead p) ends goes)
within_next ahead p items goes (AreWithin.next _ _ _ others _ are items_are) =
    (others, are, items_are)

within_front : (ahead : ℕ) (p : Part) (items : List Item) → has_header p ≡ true
    → AreWithin ahead p items → (others : List Item) × (items ≡ front_chunk p ∷ others)
within_front ahead p items has (AreWithin.none _ _ _ lacks _) =
    absurd (both_ways (has_header p) lacks has)
within_front ahead p items has (AreWithin.last _ _ _ _ _ items_are) = ([], items_are)
within_front ahead p items has (AreWithin.next _ _ _ others _ _ items_are) = (others, items_are)

-- ---- the loop

-- Some of all chunks meets the test if and only if one of those that are left does.
abbrev pub LooksAhead : (Item → Bool) → ℕ → Part → ℕ → Part → Type 0
LooksAhead test ahead all left p = (items : List Item) → AreWithin ahead all items
    → (others : List Item) × AreWithin left p others × (list_any test items ≡ list_any test others)

pub LooksAhead-on : (test : Item → Bool) (ahead : ℕ) (all : Part) (left : ℕ) (p : Part)
    → goes_on left p ≡ true → test (front_chunk p) ≡ false → LooksAhead test ahead all left p
    → LooksAhead test ahead all (left - round_up_to_4 (length_field p)) (after_item p)
LooksAhead-on test ahead all left p goes unmet looks = λ items are.
    let l = looks items are in
    let rest = within_next left p l.0 goes l.1 in
    (rest.0, rest.1, l.2 ∙ ap (list_any test) rest.2 ∙ ap (λ b. b || list_any test rest.0) unmet)

pub LooksAhead-found : (test : Item → Bool) (ahead : ℕ) (all : Part) (left : ℕ) (p : Part)
    → has_header p ≡ true → test (front_chunk p) ≡ true → LooksAhead test ahead all left p
    → list_any test (chunks_ahead ahead all) ≡ true
LooksAhead-found test ahead all left p has met looks =
    let l = looks (chunks_ahead ahead all) (are_ahead ahead all) in
    let rest = within_front left p l.0 has l.1 in
    l.2 ∙ ap (list_any test) rest.1 ∙ ap (λ b. b || list_any test rest.0) met

pub LooksAhead-last : (test : Item → Bool) (ahead : ℕ) (all : Part) (left : ℕ) (p : Part)
    → has_header p ≡ true → goes_on left p ≡ false → test (front_chunk p) ≡ false
    → LooksAhead test ahead all left p → list_any test (chunks_ahead ahead all) ≡ false
LooksAhead-last test ahead all left p has ends unmet looks =
    let l = looks (chunks_ahead ahead all) (are_ahead ahead all) in
    l.2 ∙ ap (list_any test) (within_last left p l.0 has ends l.1)
    ∙ ap (λ b. b || list_any test []) unmet

pub LooksAhead-end : (test : Item → Bool) (ahead : ℕ) (all : Part) (left : ℕ) (p : Part)
    → has_header p ≡ false → LooksAhead test ahead all left p
    → list_any test (chunks_ahead ahead all) ≡ false
LooksAhead-end test ahead all left p lacks looks =
    let l = looks (chunks_ahead ahead all) (are_ahead ahead all) in
    l.2 ∙ ap (list_any test) (within_none left p l.0 lacks l.1)

-- ---- what follows

pub one_within : (ahead : ℕ) (p : Part) (items same : List Item) → AreWithin ahead p items
    → AreWithin ahead p same → items ≡ same
one_within ahead p items same (AreWithin.none _ _ _ lacks is_empty) are =
    is_empty ∙ sym (within_none ahead p same lacks are)
one_within ahead p items same (AreWithin.last _ _ _ has ends items_are) are =
    items_are ∙ sym (within_last ahead p same has ends are)
one_within ahead p items same (AreWithin.next _ _ _ others goes rest items_are) are =
    let front = within_next ahead p same goes are in
    items_are ∙ ap (λ l. front_chunk p ∷ l)
    (one_within (ahead - round_up_to_4 (length_field p)) (after_item p) others front.0 rest front.1)
    ∙ sym front.2

pub one_seen : (fault : Option ℕ) (packet : Part) (chunks : List Item)
    → AreSeen fault packet chunks → chunks ≡ chunks_seen fault packet
one_seen None packet chunks are =
    let p = chunk_part packet in one_list p chunks (items_of p) are (are_items p)
one_seen (Some fault) packet chunks are =
    let p = chunk_part packet in
    let all = chunks_ahead (fault - 12) p in
    elim (cases_lt fault 12) [
      | inl before ↦ are.0 before
          ∙ sym (cond-true (nat_lt fault 12) [] all (lt-ltb fault 12 before))
      | inr later ↦ one_within (fault - 12) p chunks all (are.1 later) (are_ahead (fault - 12) p)
          ∙ sym (cond-false (nat_lt fault 12) [] all (le-ltb fault 12 later))
    ]
