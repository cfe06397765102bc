-- The search alone finds these: they are said so that a wrong edit is refused soon.
use Rattle.std.proofs.Common.{rules}
use Rattle.dcsctp_receive.proofs.parameters.has_no_cookie.Goals as goal

pub returns-then-chunk-eq-CHUNK_TYPE : goal.returns-then-chunk-eq-CHUNK_TYPE
returns-then-chunk-eq-CHUNK_TYPE c = search rules
