use Rattle.std.{proofs.Common.{◌≡◌, ◌∙◌, List, true, false, ap, subst, sym, length}, specs.List.{list_any}}
use Rattle.dcsctp_wire.{specs.declared.packet.chunk.Chunk.{Chunk}, specs.Chunk.{views}, specs.Packet.{PacketTree, meaning_view}, specs.Canonical.{canonical}, proofs.Canonicals.{length-canonical}}
use Rattle.test_callers.{specs.Normal.{has_causes}, proofs.Texts.{no_texts}}
use Rattle.test_callers.proofs.normal.normalized.Goals as goal

pub canonical_bytes-requires : goal.canonical_bytes-requires
canonical_bytes-requires c =
    let packet = c.in_ok-packet.ensures in
    let none : list_any has_causes (views c.in_ok-packet.packet.chunks.items) ≡ false =
    ap (λ (cs : List Chunk). list_any has_causes (views cs)) (sym c.deref.ensures.value)
    ∙ sym c.have_causes.ensures ∙ c.if-have_causes.false in
    (packet.size (packet.texts (no_texts _ none))).fits c.requires

pub returns-then-have_causes-clause-nothing : goal.returns-then-have_causes-clause-nothing
returns-then-have_causes-clause-nothing c p answer =
    let some : list_any has_causes (views c.in_ok-packet.packet.chunks.items) ≡ true =
    ap (λ (cs : List Chunk). list_any has_causes (views cs)) (sym c.deref.ensures.value)
    ∙ sym c.have_causes.ensures ∙ c.if-have_causes.true in
    subst (λ (q : PacketTree). list_any has_causes q.meaning.chunks ≡ true)
    (c.in_ok-packet.ensures.answer.value p answer) some

pub returns-clause-bytes : goal.returns-clause-bytes
returns-clause-bytes c p answer =
    c.in_ok-canonical_bytes.ensures.bytes
    ∙ ap (λ (p : PacketTree). canonical p.meaning) (c.in_ok-packet.ensures.answer.value p answer)

pub returns-clause-size : goal.returns-clause-size
returns-clause-size c =
    let packet = c.in_ok-packet.ensures in
    let none : list_any has_causes (views c.in_ok-packet.packet.chunks.items) ≡ false =
    ap (λ (cs : List Chunk). list_any has_causes (views cs)) (sym c.deref.ensures.value)
    ∙ sym c.have_causes.ensures ∙ c.if-have_causes.false in
    ap length c.in_ok-canonical_bytes.ensures.bytes
    ∙ length-canonical (meaning_view c.in_ok-packet.packet)
    ∙ (packet.size (packet.texts (no_texts _ none))).whole
