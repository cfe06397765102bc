-- The size that is counted over the fields is the size of their bytes.
use Rattle.std.{proofs.Common.{arith, refl, ap, ◌∙◌, ◌≡◌, ◌+◌, ◌*◌, ◌++◌, ℕ, List, length, map, map-id}, specs.Int.{w32, to_be_bytes}, specs.List.{flat_map}, proofs.lemmas.List.{length-map}}
use Rattle.dcsctp_tlv.{specs.Format.{flagged_tlv}, specs.Image.{put, image_of, written}, specs.Number.{numbers}, proofs.Puts.{length-value, length-numbers, put-put, written_value}}
use Rattle.dcsctp_tlv.proofs.fields.put_numbers_and_fields.Goals as goal
use Rattle.dcsctp_tlv.proofs.fields.put_numbers_and_fields.Given as given

-- the fields of the list are those of its trees, and each has its size
counted : (g : given.Over) (size : ℕ) (xs : List g.row.F-Value.Denot) → size ≡ g.F.Field.SIZE
    → size * length xs ≡ g.F.Field.SIZE * length (map g.F.Field.view xs)
counted g size xs e = rw (e, length-map xs g.F.Field.view) refl

pub returns : goal.returns
returns g c =
    let ns = c.args.leading.now in
    let xs = c.args.list.now in
    let old = c.args.output.now in
    let headed = c.put_header.new.output in
    let front = numbers w32 ns in
    let back = flat_map g.F.Field.field_bytes (map g.F.Field.view xs) in
    let size =
    length-value g.F.Field.view g.F.Field.field_bytes g.F.Field.SIZE g.F.Field.is_writable ns xs
    g.met.F.Field.field_length c.requires.writable in
    let fields = counted g c.SIZE.result xs c.SIZE.ensures in
    let leading = length-numbers w32 4 ns (λ k. refl) in
    let put_leading : c.put_fields.new.output ≡ put headed 4 front =
    c.put_fields.ensures
    ∙ ap (λ (ys : List ℕ). put headed 4 (flat_map (to_be_bytes w32) ys)) (map-id ns) in
    c.put_fields-2.ensures
    ∙ ap (λ (out : List ℕ). put out (4 + 4 * length ns) back) put_leading
    ∙ put-put headed 4 (4 + 4 * length ns) front back
    (omega (arith, c.put_header.auto.output, c.requires.room)) (omega (arith, leading))
    ∙ written_value c.args.first c.args.second (4 * length ns + c.SIZE.result * length xs)
    (front ++ back) old headed (omega (arith, size, fields)) (omega (arith, size, c.requires.room))
    c.put_header.ensures
    ∙ ap (λ (n : ℕ). written (image_of (flagged_tlv c.args.first c.args.second n (front ++ back)))
    old)
    size
