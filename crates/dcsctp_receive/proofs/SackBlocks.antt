-- The gap ack blocks of a whole SACK are isolated if and only if they are valid.
use Rattle.std.proofs.Common.{◌≡◌, ◌+◌, ◌*◌, ◌≤◌, ◌↔◌, ◌&&◌, ◌||◌, ◌==◌, ℕ, zero, suc, Bool, true, false, List, length, drop, nat_le, nat_lt, Ok, refl, sym, ap, subst, ◌∙◌, arith, length-drop}
use Rattle.std.proofs.lemmas.Bool.{cond-false, le-ltb, lt-ltb, le-leb, ltb-true, leb-true, eqb-true, and_parts, and_from, both_ways, not-false, not_from_true, true_from_ne_false}
use Rattle.dcsctp_tlv.{specs.Fault.{Length}, specs.Fields.{fields}, proofs.FieldLaws.{fields-first}, proofs.KindLaws.{of_ok, passed}}
use Rattle.dcsctp_chunk.{specs.Apart.{IsApart}, specs.Cover.{AreValid}, specs.Sack.{Tree, read, block_at, numbers_at}, proofs.Runs.{valid_iff}}
use Rattle.dcsctp_borrowed.specs.Part.{Part, Item, after}
use Rattle.dcsctp_receive.specs.Fields.{are_isolated, block_start, block_end, has_wrong_blocks, has_wrong_list}

isolated_apart : (n end : ℕ) (p : Part) → 4 * n ≤ length p.bytes
    → (are_isolated n end p ≡ true) ↔ IsApart (end + 2) (fields block_at 4 n p.bytes)
isolated_apart zero end p long = ((λ yes. tt), (λ apart. refl))
isolated_apart (suc n) end p long =
    let split = fields-first block_at 4 n p.bytes in
    let four : 4 ≤ length p.bytes = omega (arith, long) in
    let low = nat_lt (end + 1) (block_start p) in
    let some = nat_le (block_start p) (block_end p) in
    let others = are_isolated n (block_end p) (after 4 p) in
    let here = cond-false (nat_lt (length p.bytes) 4) true (low && some && others)
    (le-ltb (length p.bytes) 4 four) in
    let later = isolated_apart n (block_end p) (after 4 p)
    (omega (arith, long, length-drop 4 p.bytes)) in (
      (λ yes.
          let parts = and_parts (low && some) others (sym here ∙ yes) in
          let front = and_parts low some parts.0 in
          let first = ltb-true (end + 1) (block_start p) front.0 in
          subst (IsApart (end + 2)) (sym split) (
            omega (arith, first),
            leb-true (block_start p) (block_end p) front.1,
            later.0 parts.1,
          )),
      (λ apart.
          let a = subst (IsApart (end + 2)) split apart in
          here ∙ and_from (low && some) others (and_from low some
          (lt-ltb (end + 1) (block_start p) (omega (arith, a.0)))
          (le-leb (block_start p) (block_end p) a.1)) (later.1 a.2)),
    )

-- the blocks of the tree, and that they lie in the value
blocks_of : (value : List ℕ) (s : Tree) → read value ≡ Ok s
    → (12 + 4 * (numbers_at value).gap_ack_block_count ≤ length value)
    × (fields block_at 4 (numbers_at value).gap_ack_block_count (drop 12 value) ≡ s.blocks)
blocks_of value s is =
    let n = (numbers_at value).gap_ack_block_count in
    let m = (numbers_at value).duplicate_tsn_count in
    let whole = passed (length value == 12 + 4 * n + 4 * m) _ Length s is in
    let size = eqb-true (length value) (12 + 4 * n + 4 * m) whole.0 in
    (omega (arith, size), ap (λ (t : Tree). t.blocks) (of_ok _ s whole.1))

or_false : (b : Bool) → (b || false) ≡ b
or_false true = refl
or_false false = refl

-- of a SACK one list is looked at
wrong_list : (c : Item) → c.first ≡ 3 → has_wrong_blocks c ≡ has_wrong_list 8 12 c.value
wrong_list c sack = rw sack (or_false (has_wrong_list 8 12 c.value))

pub wrong_right : (c : Item) (s : Tree) → c.first ≡ 3 → read c.value.bytes ≡ Ok s
    → (has_wrong_blocks c ≡ false) ↔ AreValid s.blocks
wrong_right c s sack is =
    let value = c.value.bytes in
    let isolated = are_isolated (numbers_at value).gap_ack_block_count 0 (after 12 c.value) in
    let blocks = blocks_of value s is in
    let apart = isolated_apart (numbers_at value).gap_ack_block_count 0 (after 12 c.value)
    (omega (arith, blocks.0, length-drop 12 value)) in (
      (λ right. (valid_iff s.blocks).1 (subst (IsApart 2) blocks.1
          (apart.0 (not-false isolated (sym (wrong_list c sack) ∙ right))))),
      (λ valid. wrong_list c sack ∙ not_from_true isolated
          (apart.1 (subst (IsApart 2) (sym blocks.1) ((valid_iff s.blocks).0 valid)))),
    )

pub wrong_wrong : (c : Item) (s : Tree) → c.first ≡ 3 → read c.value.bytes ≡ Ok s
    → (has_wrong_blocks c ≡ true) ↔ (AreValid s.blocks → ⊥)
wrong_wrong c s sack is =
    let right = wrong_right c s sack is in (
      (λ wrong valid. both_ways (has_wrong_blocks c) (right.1 valid) wrong),
      (λ invalid. true_from_ne_false (has_wrong_blocks c) (λ found. invalid (right.0 found))),
    )
