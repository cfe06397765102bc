use Rattle.std.proofs.Common.{◌≡◌, ◌&&◌, ◌||◌, not, Bool, true, false, sym, ap, ap₂, ◌∙◌}
use Rattle.dcsctp_borrowed.specs.Part.{part_of}
use Rattle.dump_packet.specs.Filter.{has_wrong_checksum}
use Rattle.dump_packet.proofs.filter.Filter.is_met_by.Goals as goal

-- by what the headers, the chunks and the checksum are found to have
no_headers : (h k w : Bool) → h ≡ false → false ≡ (h && k && w)
no_headers h k w e = sym (ap (λ (b : Bool). b && k && w) e)

no_chunks : (h k w : Bool) → h ≡ true → k ≡ false → false ≡ (h && k && w)
no_chunks h k w e f = sym (ap₂ (λ (a b : Bool). a && b && w) e f)

the_checksum : (h k w r : Bool) → h ≡ true → k ≡ true → r ≡ w → r ≡ (h && k && w)
the_checksum h k w r e f is = is ∙ sym (ap₂ (λ (a b : Bool). a && b && w) e f)

pub returns-then-not-is_met_by_headers : goal.returns-then-not-is_met_by_headers
returns-then-not-is_met_by_headers c =
    no_headers _ _ _ (sym c.is_met_by_headers.ensures ∙ c.if-not-is_met_by_headers.true)

pub returns-then-not-is_met_by_chunks : goal.returns-then-not-is_met_by_chunks
returns-then-not-is_met_by_chunks c =
    no_chunks _ _ _ (sym c.is_met_by_headers.ensures ∙ c.if-not-is_met_by_headers.false)
    (sym c.is_met_by_chunks.ensures ∙ c.if-not-is_met_by_chunks.true)

pub returns-then-not-self : goal.returns-then-not-self
returns-then-not-self c =
    let wrong = has_wrong_checksum c.args.word (part_of c.args.packet) in
    the_checksum _ _ _ _ (sym c.is_met_by_headers.ensures ∙ c.if-not-is_met_by_headers.false)
    (sym c.is_met_by_chunks.ensures ∙ c.if-not-is_met_by_chunks.false)
    (ap not c.if-not-self.true ∙ sym (ap (λ (b : Bool). not b || wrong) c.if-not-self.true))

pub returns-else-not-self : goal.returns-else-not-self
returns-else-not-self c =
    let wrong = has_wrong_checksum c.args.word (part_of c.args.packet) in
    the_checksum _ _ _ _ (sym c.is_met_by_headers.ensures ∙ c.if-not-is_met_by_headers.false)
    (sym c.is_met_by_chunks.ensures ∙ c.if-not-is_met_by_chunks.false)
    (c.has_wrong_checksum.ensures ∙ sym (ap (λ (b : Bool). not b || wrong) c.if-not-self.false))
