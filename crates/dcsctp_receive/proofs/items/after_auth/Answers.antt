use Rattle.std.proofs.Common.{ℕ, ◌∷◌, sym, ap, ◌∙◌}
use Rattle.std.proofs.lemmas.Bool.{eq-eqb, ne_eqb, cond-true, cond-false}
use Rattle.dcsctp_borrowed.specs.Part.{part_of, first_item, after_item, after}
use Rattle.dcsctp_receive.specs.Chunks.{items_of, is_of_type, after_auth}
use Rattle.dcsctp_receive.proofs.ItemLists.{items_next, items_end}
use Rattle.dcsctp_receive.proofs.items.after_auth.Goals as goal

pub returns-then-chunk-eq-AUTH : goal.returns-then-chunk-eq-AUTH
returns-then-chunk-eq-AUTH c =
    let p = part_of c.args.chunks in
    let some = c.in-Some.ensures.0 in
    ap items_of (c.after.ensures ∙ ap (λ (n : ℕ). after n p) c.in-Some.ensures.2)
    ∙ sym (ap after_auth (items_next p some)
    ∙ cond-true (is_of_type 15 (first_item p)) (items_of (after_item p))
    (first_item p ∷ items_of (after_item p))
    (ap (is_of_type 15) (sym c.in-Some.ensures.1)
    ∙ eq-eqb c.in-Some.chunk.first 15 c.if-chunk-eq-AUTH.true))

pub returns-else-chunk-eq-AUTH : goal.returns-else-chunk-eq-AUTH
returns-else-chunk-eq-AUTH c =
    let p = part_of c.args.chunks in
    let some = c.in-Some.ensures.0 in
    items_next p some
    ∙ sym (ap after_auth (items_next p some)
    ∙ cond-false (is_of_type 15 (first_item p)) (items_of (after_item p))
    (first_item p ∷ items_of (after_item p))
    (ap (is_of_type 15) (sym c.in-Some.ensures.1)
    ∙ ne_eqb c.in-Some.chunk.first 15 c.if-chunk-eq-AUTH.false))

pub returns-in-None : goal.returns-in-None
returns-in-None c =
    let ends = items_end (part_of c.args.chunks) c.in-None.ensures in
    ends ∙ sym (ap after_auth ends)
