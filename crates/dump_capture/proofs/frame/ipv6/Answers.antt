use Rattle.std.proofs.Common.{◌≡◌, ◌==◌, false, true, nat_lt, length, drop, refl, ap, ◌∙◌, arith}
use Rattle.std.proofs.lemmas.Bool.Decides.{nat_tests}
use Rattle.dump_capture.specs.Number.{number16}
use Rattle.dump_capture.specs.Frame.{ip_version, ipv6}
use Rattle.dump_capture.proofs.Records.{whole_rest}
use Rattle.dump_capture.proofs.frame.ipv6.Goals as goal

pub returns : goal.returns
unfolding ipv6
returns c =
    let bytes = c.args.packet.bytes.now in
    let size : c.number16.result ≡ number16 (drop 4 bytes) = c.number16.ensures
    ∙ ap number16 (whole_rest 4 bytes) in
    let enough : nat_lt (length bytes) 40 ≡ false = grind (arith, nat_tests) in
    let version : (ip_version bytes == 6) ≡ true = grind (arith, nat_tests) in
    rw (enough, version, c.ipv6_addresses.ensures, size, whole_rest 40 bytes) refl
