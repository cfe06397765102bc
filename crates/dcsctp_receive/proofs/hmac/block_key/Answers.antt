use Rattle.std.proofs.Common.{◌≡◌, ℕ, ◌+◌, length, arith}
use Rattle.std.proofs.lemmas.List.{drop-replicate}
use Rattle.std.proofs.lemmas.Grind.{common_steps}
use Rattle.dcsctp_receive.specs.Hmac.{hashed_key}
use Rattle.dcsctp_receive.proofs.hmac.block_key.Goals as goal

pub returns-else-key-gt-BLOCK_SIZE : goal.returns-else-key-gt-BLOCK_SIZE
returns-else-key-gt-BLOCK_SIZE c =
    let key = c.args.key.now in
    let short : hashed_key c.args.function key ≡ key = grind (arith, common_steps) in
    let at_front : 0 + length key ≡ length key = omega arith in
    rw (short, ← drop-replicate {X = ℕ} (length key) 64 0, ← at_front)
    c.put_bytes-else-key-gt-BLOCK_SIZE.ensures
