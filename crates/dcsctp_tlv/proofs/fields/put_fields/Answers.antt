use Rattle.std.{proofs.Common.{arith, sym, ap, subst, ◌∙◌, ◌≡◌, ◌+◌, ℕ, length, drop, take_all, drop-drop}, specs.List.{flat_map}, proofs.lemmas.List.Folds.{flat_map-map}}
use Rattle.dcsctp_tlv.{specs.Image.{put}, proofs.Puts.{next_place, put_more}}
use Rattle.dcsctp_tlv.proofs.fields.put_fields.Goals as goal

pub loop-value-preserved : goal.loop-value-preserved
loop-value-preserved g c =
    let field = g.F.Field in
    let law = g.met.F.Field.field_length in
    let list = c.args.list.now in
    let i = c.loop-value.value-index in
    let x = c.value-item.result in
    let end = c.loop-value.end in
    let out = c.loop-value.output in
    let bytes = field.field_bytes (field.view x) in
    let len : length bytes ≡ field.SIZE = law x (subst field.is_writable (sym c.value-item.is)
    (c.requires.writable i x c.loop-value-test.true)) in
    let back : drop field.SIZE c.split_at_mut-rest.result.1.now ≡ drop (end + length bytes) out =
    ap (drop field.SIZE) c.split_at_mut-rest.ensures.back ∙ drop-drop field.SIZE end out
    ∙ ap (λ (n : ℕ). drop (end + n) out) (sym len) in
    record {
      end = omega (arith, c.loop-value.invariant.end, c.SIZE-end.ensures, next_place field.SIZE i);
      done = rw (c.split_at_mut-rest.ensures.front, c.write.ensures, back)
          (put_more (λ value. field.field_bytes (field.view value)) field.SIZE field.is_writable
          list i x c.args.output.now out c.args.place end
          law c.requires.writable c.loop-value-test.true c.value-item.is
          (omega (arith, c.requires.room)) c.loop-value.invariant.end
          c.loop-value.invariant.done);
    }

pub returns : goal.returns
returns g c =
    let list = c.args.list.now in
    c.loop-value.invariant.done ∙ ap (put c.args.output.now c.args.place)
    (ap (flat_map (λ value. g.F.Field.field_bytes (g.F.Field.view value)))
    (take_all c.loop-value.value-index list c.loop-value-test.false)
    ∙ sym (flat_map-map g.F.Field.field_bytes g.F.Field.view list))
