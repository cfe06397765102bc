use Rattle.std.proofs.Common.{◌≡◌, ◌∙◌, ◌+◌, ◌*◌, ◌/◌, length, take, ap, arith}
use Rattle.dcsctp_crc32c.specs.Checksum.{after_bytes}
use Rattle.dcsctp_crc32c.proofs.Pieces.{after_bytes-next, after_bytes-last}
use Rattle.dcsctp_crc32c.proofs.after_short.Goals as goal

pub loop-k-preserved : goal.loop-k-preserved
loop-k-preserved c =
    let k = c.loop-k.k in
    c.after_word-after.ensures
    ∙ after_bytes-next c.args.register (4 * k) 4 (4 * (k + 1)) c.loop-k.after c.args.bytes.now
    (omega arith) c.loop-k.invariant

pub returns : goal.returns
returns c =
    let bytes = c.args.bytes.now in
    let all : c.loop-k.k ≡ length bytes / 4 = omega (arith, c.loop-k.auto, c.loop-k-test.false) in
    c.after_each.ensures
    ∙ after_bytes-last c.args.register (4 * (length bytes / 4)) c.loop-k.after bytes
    (c.loop-k.invariant ∙ ap (λ k. after_bytes c.args.register (take (4 * k) bytes)) all)
