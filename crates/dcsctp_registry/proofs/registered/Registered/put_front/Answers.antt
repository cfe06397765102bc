use Rattle.std.{proofs.Common.{◌≡◌, ◌+◌, ◌*◌, ◌∙◌, ℕ, List, ◌++◌, ◌≤◌, append_assoc, arith, ap, length, length-append, map-id, refl, replicate}, specs.Int.{w16, w32, to_be_bytes}, specs.List.{flat_map}, specs.Option.{option_copied}}
use Rattle.dcsctp_tlv.{specs.Image.{put}, specs.Number.{numbers}, proofs.Lengths.{length-numbers}}
use Rattle.dcsctp_buffer.proofs.Extended.{then_put}
use Rattle.dcsctp_registry.{specs.Layout.{Registered, with_numbers}, proofs.ReadBack.{few_reserved, front_length, zeros as zeros_are}}
use Rattle.dcsctp_registry.proofs.registered.Registered.put_front.Goals as goal

pub returns : goal.returns
returns c =
    let r = c.args.self.now in
    let old = c.args.output.now in
    let one = c.put_fields.new.output in
    let two = c.put_fields-2.new.output in
    let second : ℕ = 4 * length c.numbers-numbers.result.now in
    let third : ℕ = second + 2 * length c.short_numbers-short_numbers.result.now in
    let ns : List ℕ = numbers w32 r.numbers in
    let ss : List ℕ = numbers w16 r.short_numbers in
    let zeros : List ℕ = replicate r.layout.reserved 0 in
    let i = c.self.inside in
    let few = few_reserved (with_numbers i.layout i.numbers i.short_numbers (option_copied i.address)
    (option_copied i.rest)) c.self.invariant in
    let reserved = c.from.ensures ∙ ap (λ (x : Registered). x.layout.reserved) c.self.view_is in
    let all = front_length r in
    let le : 0 ≤ length old = omega arith in
    let n_len = length-numbers w32 4 r.numbers (λ n. refl) in
    let s_len = length-numbers w16 2 r.short_numbers (λ n. refl) in
    let is_one : one ≡ put old 0 ns =
    c.put_fields.ensures ∙ ap (λ (xs : List ℕ). put old 0 (flat_map (to_be_bytes w32) xs))
    (map-id c.numbers-numbers.result.now ∙ c.numbers-numbers.ensures) in
    let is_two : two ≡ put one second ss =
    c.put_fields-2.ensures ∙ ap (λ (xs : List ℕ). put one second (flat_map (to_be_bytes w16) xs))
    (map-id c.short_numbers-short_numbers.result.now ∙ c.short_numbers-short_numbers.ensures) in
    let is_three : c.put_bytes.new.output ≡ put two third zeros =
    c.put_bytes.ensures
    ∙ ap (put two third) (zeros_are c.from.result (omega (arith, c.from.ensures, few))
    ∙ ap (λ (k : ℕ). replicate k 0) reserved) in
    then_put old two c.put_bytes.new.output 0 third (ns ++ ss) zeros le
    (then_put old one two 0 second ns ss le is_one is_two
    (omega (arith, n_len, ap length c.numbers-numbers.ensures)))
    is_three
    (omega (
      arith,
      n_len,
      s_len,
      length-append ns ss,
      ap length c.numbers-numbers.ensures,
      ap length c.short_numbers-short_numbers.ensures,
    ))
    ∙ ap (put old 0) (append_assoc ns ss zeros)
