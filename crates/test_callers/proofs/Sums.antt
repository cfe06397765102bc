-- The sum of a SACK's blocks, gathered apart from what it is added to.
use Rattle.std.proofs.Common.{◌≡◌, ◌≤◌, ◌<◌, ◌+◌, ◌-◌, ◌*◌, ◌%◌, ◌^◌, ℕ, List, [], ◌∷◌, length, refl, sym, ap, ◌∙◌, arith}
use Rattle.std.proofs.Math.Nat.{mod-add-mod}
use Rattle.dcsctp_chunk.specs.declared.sack_chunk.GapAckBlock.{GapAckBlock}
use Rattle.test_callers.specs.Walk.{plus, with_blocks}

-- Starts and ends so far, and the blocks that are left, add to a number what all the blocks do. The
-- ends are known by the sum of both numbers of each block as one of 32 bits, modulo 2^32; and 32
-- bits have room for the starts of those that are left, and for their ends.
pub record IsGathered (n starts both : ℕ) (left all : List GapAckBlock) : Type 0 where
  pub ends : ℕ
  pub sum : with_blocks (plus n (starts + ends)) left ≡ with_blocks n all
  pub both_is : both ≡ (65536 * starts + ends) % 2 ^ 32
  pub starts_room : starts + 65535 * length left ≤ 65535 * 65535
  pub ends_room : ends + 65535 * length left ≤ 65535 * 65535

plus-plus : (n a b : ℕ) → plus (plus n a) b ≡ plus n (a + b)
plus-plus n a b =
    let same : n + a + b ≡ n + (a + b) = omega arith in
    mod-add-mod (n + a) (2 ^ 64) b ∙ ap (λ k. k % 2 ^ 64) same

-- no blocks add nothing
pub nothing_added : (n : ℕ) (all : List GapAckBlock) → length all ≡ 0 → n ≡ with_blocks n all
nothing_added n [] none = refl
nothing_added n (b ∷ bs) none = absurd (omega (arith, none))

pub one_gathered : (n starts both : ℕ) (block : GapAckBlock) (left all : List GapAckBlock)
    → block.start < 2 ^ 16 → block.end < 2 ^ 16
    → IsGathered n starts both (block ∷ left) all
    → IsGathered n (starts + block.start) ((both + (block.start * 65536 + block.end)) % 2 ^ 32)
    left all
one_gathered n starts both block left all start end h =
    let starts_room = h.starts_room in
    let ends_room = h.ends_room in
    let both_is = h.both_is in
    let same : (starts + block.start) + (h.ends + block.end) ≡ (starts + h.ends)
    + (block.start + block.end) = omega arith in
    let one = block.start * 65536 + block.end in
    let more : 65536 * starts + h.ends + one ≡ 65536 * (starts + block.start)
    + (h.ends + block.end) = omega arith in
    record {
      ends = h.ends + block.end;
      sum = ap (λ k. with_blocks (plus n k) left) same
          ∙ sym (ap (λ k. with_blocks k left) (plus-plus n (starts + h.ends) (block.start
          + block.end))) ∙ h.sum;
      both_is = ap (λ k. (k + one) % 2 ^ 32) both_is
          ∙ mod-add-mod (65536 * starts + h.ends) (2 ^ 32) one
          ∙ ap (λ k. k % 2 ^ 32) more;
      starts_room = omega (arith, starts_room, start);
      ends_room = omega (arith, ends_room, end);
    }
