use Rattle.std.proofs.Common.{◌≡◌, ℕ, true, false, Some, None, sym, ap, subst, ◌∙◌}
use Rattle.std.proofs.lemmas.Bool.{eq-eqb, ne_eqb, cond-true, cond-false}
use Rattle.dcsctp_borrowed.specs.Part.{Item, part_of, begins_with_item, first_item, after}
use Rattle.dcsctp_receive.specs.Chunks.{is_of_type, only}
use Rattle.dcsctp_receive.proofs.ItemLists.{items_end, only_one, not_only}
use Rattle.dcsctp_receive.proofs.items.only.Goals as goal

pub returns-in-Some-item : goal.returns-in-Some-item
returns-in-Some-item c =
    let p = part_of c.args.chunks in
    let later = c.after.ensures ∙ ap (λ (n : ℕ). after n p) c.in-Some.ensures.2 in
    sym (not_only c.args.typ p c.in-Some.ensures.0
    (subst (λ q. begins_with_item q ≡ true) later c.in-Some-item.ensures.0))

pub returns-then-chunk-typ : goal.returns-then-chunk-typ
returns-then-chunk-typ c =
    let p = part_of c.args.chunks in
    let typ = c.args.typ in
    let is = c.in-Some.ensures.1 in
    let later = c.after.ensures ∙ ap (λ (n : ℕ). after n p) c.in-Some.ensures.2 in
    sym (only_one typ p c.in-Some.ensures.0
    (subst (λ q. begins_with_item q ≡ false) later c.in-None-item.ensures)
    ∙ cond-true (is_of_type typ (first_item p)) (Some (first_item p)) None
    (ap (is_of_type typ) (sym is) ∙ eq-eqb c.in-Some.chunk.first typ c.if-chunk-typ.true)
    ∙ ap (λ (i : Item). Some i) (sym is))

pub returns-else-chunk-typ : goal.returns-else-chunk-typ
returns-else-chunk-typ c =
    let p = part_of c.args.chunks in
    let typ = c.args.typ in
    let is = c.in-Some.ensures.1 in
    let later = c.after.ensures ∙ ap (λ (n : ℕ). after n p) c.in-Some.ensures.2 in
    sym (only_one typ p c.in-Some.ensures.0
    (subst (λ q. begins_with_item q ≡ false) later c.in-None-item.ensures)
    ∙ cond-false (is_of_type typ (first_item p)) (Some (first_item p)) None
    (ap (is_of_type typ) (sym is) ∙ ne_eqb c.in-Some.chunk.first typ c.if-chunk-typ.false))

pub returns-in-None : goal.returns-in-None
returns-in-None c =
    sym (ap (only c.args.typ) (items_end (part_of c.args.chunks) c.in-None.ensures))
