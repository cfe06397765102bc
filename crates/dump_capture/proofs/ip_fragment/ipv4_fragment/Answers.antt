use Rattle.std.proofs.Common.{◌≡◌, false, nat_lt, length, drop, ap, ◌∙◌, arith}
use Rattle.std.proofs.lemmas.Bool.Decides.{nat_tests}
use Rattle.dump_capture.specs.Number.{number16}
use Rattle.dump_capture.specs.Frame.{ipv4_length}
use Rattle.dump_capture.specs.Found.{payload_of}
use Rattle.dump_capture.specs.IpFragment.{ipv4_fragment}
use Rattle.dump_capture.proofs.Records.{whole_rest}
use Rattle.dump_capture.proofs.ip_fragment.ipv4_fragment.Goals as goal

pub returns : goal.returns
unfolding ipv4_fragment
returns c =
    let bytes = c.args.packet.bytes.now in
    let field : c.number16-field.result ≡ number16 (drop 6 bytes) = c.number16-field.ensures
    ∙ ap number16 (whole_rest 6 bytes) in
    let id : c.number16.result ≡ number16 (drop 4 bytes) = c.number16.ensures
    ∙ ap number16 (whole_rest 4 bytes) in
    let enough : nat_lt (length bytes) 20 ≡ false = grind (arith, nat_tests) in
    let whole : nat_lt (length bytes) (ipv4_length (payload_of c.args.packet)) ≡ false =
    rw (← c.ipv4_length-total.ensures) (grind (arith, nat_tests)) in
    rw (
      enough,
      whole,
      ← field,
      ← id,
      ← c.ipv4_length-total.ensures,
      ← c.ipv4_header_size-header.ensures,
      ← c.front.ensures,
      ← c.after.ensures,
      ← c.ipv4_addresses.ensures,
    )
    c.well_formed-2.ensures
