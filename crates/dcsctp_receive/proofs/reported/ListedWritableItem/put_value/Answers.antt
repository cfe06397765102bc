use Rattle.std.proofs.Common.{◌+◌, ℕ, List, length, refl, sym, ap, ◌∙◌, arith, length-append}
use Rattle.std.specs.List.{concat}
use Rattle.dcsctp_tlv.{specs.Image.{put}, proofs.Puts.{put-put}}
use Rattle.dcsctp_borrowed.specs.Part.{part_of}
use Rattle.dcsctp_receive.specs.{Chunks.{items_of}, Unrecognized.{wholes}, Handling.{action_by}}
use Rattle.dcsctp_receive.proofs.reported.ListedWritableItem.put_value.Goals as goal

pub put_bytes-requires : goal.put_bytes-requires
put_bytes-requires c =
    let left = wholes (action_by c.args.self.now.handling) (items_of (part_of c.in-Some.item.left)) in
    omega (
      arith,
      c.loop-item.invariant.room,
      ap (λ (all : List (List ℕ)). length (concat all)) c.in-Some.ensures.found,
      length-append c.in-Some.item.whole.bytes.now (concat left),
    )

pub loop-item-preserved : goal.loop-item-preserved
loop-item-preserved c =
    let left = wholes (action_by c.args.self.now.handling) (items_of (part_of c.in-Some.item.left)) in
    let whole = c.in-Some.item.whole.bytes.now in
    let output = c.loop-item.output in
    let at = c.loop-item.at in
    let size = length-append whole (concat left) in
    let found = ap (λ (all : List (List ℕ)). length (concat all)) c.in-Some.ensures.found in
    record {
      room = omega (arith, c.loop-item.invariant.room, found, size, c.put_bytes.auto.output);
      put = ap (λ (out : List ℕ). put out (at + length whole) (concat left)) c.put_bytes.ensures
          ∙ put-put output at (at + length whole) whole (concat left)
          (omega (arith, c.loop-item.invariant.room)) refl
          ∙ ap (λ (all : List (List ℕ)). put output at (concat all)) (sym c.in-Some.ensures.found)
          ∙ c.loop-item.invariant.put;
    }
