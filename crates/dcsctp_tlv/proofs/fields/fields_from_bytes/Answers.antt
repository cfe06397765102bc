use Rattle.std.proofs.{Common.{arith, sym, ap, ◌∙◌, ◌≡◌, ◌*◌, ◌++◌, [], ◌∷◌, ℕ, List, drop, map}, lemmas.List.{map_push, take_rest}}
use Rattle.dcsctp_tlv.{specs.Fields.{fields}, proofs.Puts.{fields-push}}
use Rattle.dcsctp_tlv.proofs.fields.fields_from_bytes.Goals as goal

pub loop-i-preserved : goal.loop-i-preserved
loop-i-preserved g c =
    let i = c.loop-i.i in
    let size = g.F.Field.SIZE in
    let bytes = c.args.bytes.now in
    let view = g.F.Field.view in
    let x = c.read.result in
    let h : view x ≡ g.F.Field.field_at (drop (size * i) bytes) = c.read.ensures
    ∙ ap g.F.Field.field_at (take_rest bytes (c.SIZE.result * i)
    ∙ ap (λ (n : ℕ). drop (n * i) bytes) c.SIZE.ensures) in
    record {
      fields = ap (map view) c.push_reserved.ensures.items ∙ map_push view c.loop-i.list.items x
          ∙ ap (λ (xs : List _). xs ++ view x ∷ []) c.loop-i.invariant.fields
          ∙ ap (λ (y : _). fields g.F.Field.field_at size i bytes ++ y ∷ []) h
          ∙ sym (fields-push g.F.Field.field_at size i bytes);
      len = omega (arith, c.push_reserved.ensures.len, c.loop-i.invariant.len);
      room = omega (arith, c.push_reserved.ensures.capacity, c.loop-i.invariant.room);
    }
