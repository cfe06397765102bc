use Rattle.std.proofs.Common.{◌≡◌, ◌∙◌, List, [], ◌∷◌, length, refl, sym, ap}
use Rattle.std.proofs.lemmas.Bool.{eqb-true}
use Rattle.std.proofs.lemmas.List.{nil_from_length}
use Rattle.dcsctp_wire.specs.Caller.{init_view, data_view, chunk_views}
use Rattle.dcsctp_wire.specs.declared.packet.chunk.Chunk.{Chunk}
use Rattle.dcsctp_wire.specs.declared.packet.chunk.Chunk.TheVariants as variant
use Rattle.test_callers.specs.Reply.{to_init, to_data}
use Rattle.test_callers.proofs.answer.reply_to.Goals as goal

pub returns-in-Init-clause-reply : goal.returns-in-Init-clause-reply
returns-in-Init-clause-reply c =
    let others = c.in_ok-first.others.now in
    let none : others ≡ [] =
    nil_from_length others (eqb-true (length others) 0 (sym c.if-is_empty.ensures)) in
    to_init (init_view c.in-Init.init) c.if-tag-eq0.true
    (ap chunk_views (sym c.deref.ensures.value ∙ c.in_ok-first.ensures.cases.0
    ∙ ap (λ (first : Chunk). first ∷ others) c.in-Init.is
    ∙ ap (λ (cs : List Chunk). variant.Init c.in-Init.init ∷ cs) none)) refl

pub returns-in-Data-clause-reply : goal.returns-in-Data-clause-reply
returns-in-Data-clause-reply c =
    let others = c.in_ok-first.others.now in
    to_data (data_view c.in-Data.data) (chunk_views others) c.if-tag-own.true
    (ap chunk_views (sym c.deref.ensures.value ∙ c.in_ok-first.ensures.cases.0
    ∙ ap (λ (first : Chunk). first ∷ others) c.in-Data.is))
    (rw (c.new.ensures.items, c.new-in-Data.ensures.items) refl)
