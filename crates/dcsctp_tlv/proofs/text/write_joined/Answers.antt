use Rattle.std.proofs.{Common.{arith, rules, refl, ap, map, append_assoc, ◌∙◌, take, take_all}, Output.{has_written_append, has_written_of_eq, has_written_to_eq}}
use Rattle.dcsctp_tlv.{specs.Text.{joined}, proofs.Texts.{joined_first, joined_next}, proofs.text.write_joined.Goals.{then-i-gt0+in_ok-write_str, else-i-gt0}}
use Rattle.dcsctp_tlv.proofs.text.write_joined.Goals as goal

pub loop-i-preserved : goal.loop-i-preserved
loop-i-preserved g c = λ text law plain.
    let i = c.loop-i.i in
    let x = c.index-list-i.result in
    let separator = c.args.separator.now in
    let before = joined separator (map text (take i c.args.list.now)) in
    let so_far = c.loop-i.invariant text law plain in
    let item = rw (law x) at c.in_ok-fmt.ensures.writes in
    elim c.if-i-gt0.branch [
      | then-i-gt0+in_ok-write_str w ↦ (let between = has_written_to_eq _ _ _ _ _ w.f-is
          (has_written_append _ _ _ _ _ _ so_far (search rules)) in
          has_written_of_eq _ _ _ _ _ (append_assoc before separator (text x)
          ∙ joined_next separator text c.args.list.now i x (omega arith) c.loop-i-test.true
          c.index-list-i.is) (has_written_append _ _ _ _ _ _ between (item between.plain refl)))
      | else-i-gt0 w ↦ (let between = has_written_to_eq _ _ _ _ _ w.f-is so_far in
          has_written_of_eq _ _ _ _ _ (joined_first separator text c.args.list.now i x (omega arith)
          c.loop-i-test.true c.index-list-i.is) (has_written_append _ _ _ _ _ _ between
          (item between.plain refl)))
    ]

pub returns : goal.returns
returns g c = λ text law plain ok. has_written_of_eq _ _ _ _ _
    (ap (λ xs. joined c.args.separator.now (map text xs)) (take_all c.loop-i.i c.args.list.now
    c.loop-i-test.false)) (c.loop-i.invariant text law plain)
