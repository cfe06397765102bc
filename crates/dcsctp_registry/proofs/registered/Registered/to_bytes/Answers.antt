use Rattle.std.{proofs.Common.{rules, ◌≡◌, ◌+◌, ◌++◌, ◌∙◌, ℕ, [], List, sym, ap, append_assoc, arith, drop, length, length-append, take, take_at, replicate}, specs.Option.{option_copied, unwrap_or}}
use Rattle.dcsctp_tlv.specs.Image.{put}
use Rattle.dcsctp_buffer.proofs.Extended.{then_put}
use Rattle.dcsctp_registry.{specs.Layout.{Registered, with_numbers, address_bytes, front_bytes, value_of}, proofs.ReadBack.{parts, front_sized}}
use Rattle.dcsctp_registry.proofs.registered.Registered.to_bytes.Goals as goal

pub returns : goal.returns
returns c =
    let i = c.self.inside in
    let r : Registered = with_numbers i.layout i.numbers i.short_numbers (option_copied i.address)
    (option_copied i.rest) in
    let front : List ℕ = front_bytes r in
    let a : List ℕ = address_bytes r.layout.address r.address in
    let rest : List ℕ = unwrap_or r.rest [] in
    let zeros : List ℕ = replicate 36 0 in
    let size = c.front_size-place.ensures.size ∙ sym (front_sized r (parts r c.self.invariant)) in
    let all = length-append front a in
    let out = then_put zeros c.put_front.new.output c.put-front_size.new.output 0
    c.front_size-place.result front a (omega arith)
    (c.put_front.ensures ∙ ap (λ (x : Registered). put zeros 0 (front_bytes x)) (sym c.self.view_is))
    c.put-front_size.ensures.written (omega (arith, size)) in
    let is_rest : c.unwrap_or-rest.result.now ≡ rest = search rules in
    ap (λ (xs : List ℕ). xs ++ c.unwrap_or-rest.result.now) (
    ap (take c.put-front_size.result) out
    ∙ take_at (front ++ a) (drop (0 + length (front ++ a)) zeros) _ (omega (arith, size, all, c.put-front_size.ensures.end)))
    ∙ ap (λ (xs : List ℕ). (front ++ a) ++ xs) is_rest ∙ append_assoc front a rest ∙ ap value_of c.self.view_is
