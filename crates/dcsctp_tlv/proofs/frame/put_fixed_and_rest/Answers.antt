use Rattle.std.proofs.Common.{arith, refl, ap, ◌∙◌, ◌+◌, ◌++◌, ℕ, List, length, length-append}
use Rattle.dcsctp_tlv.{specs.Format.{flagged_tlv}, specs.Image.{put, image_of, written}, proofs.Puts.{put-put, written_value}}
use Rattle.dcsctp_tlv.proofs.frame.put_fixed_and_rest.Goals as goal

pub returns : goal.returns
returns c =
    let fixed = c.args.fixed.now in
    let rest = c.args.rest.now in
    let headed = c.put_header.new.output in
    let len = length-append fixed rest in
    c.put_bytes-2.ensures
    ∙ ap (λ (bytes : List ℕ). put bytes (4 + length fixed) rest) c.put_bytes.ensures
    ∙ put-put headed 4 (4 + length fixed) fixed rest
    (omega (arith, c.put_header.auto.output, c.requires.room)) refl
    ∙ written_value c.args.first c.args.second (length fixed + length rest) (fixed ++ rest)
    c.args.output.now headed (omega (arith, len)) (omega (arith, len, c.requires.room))
    c.put_header.ensures
    ∙ ap (λ (k : ℕ). written (image_of (flagged_tlv c.args.first c.args.second k (fixed ++ rest)))
    c.args.output.now) len
