use Rattle.std.{proofs.Common.{Option, Some, None}, specs.Option.{IfSome}}
use Rattle.dcsctp_c.{specs.Parameter.{IsListedIn, IsParameterAt}, specs.declared.structs.DcsctpParameter.{DcsctpParameter}, proofs.Places.{from_to, in_chunk}}
use Rattle.dcsctp_c.proofs.parameters.parameter_at.Goals as goal

if_found : (P Q : DcsctpParameter → Type 0) → ((p : DcsctpParameter) → P p → Q p)
    → (o : Option DcsctpParameter) → IfSome o P → IfSome o Q
if_found P Q f (Some p) h = f p h
if_found P Q f None h = h

pub returns-clause-there : goal.returns-clause-there
returns-clause-there c =
    rw (from_to c.args.bytes.now c.in_ok-list.list.now c.args.chunk.now c.in_ok-list.ensures
    c.args.offset c.if-offset-chunk.false) c.item_at.ensures.there

pub returns-clause-read : goal.returns-clause-read
returns-clause-read c =
    if_found (IsListedIn c.in_ok-list.list.now c.args.offset)
    (IsParameterAt c.args.bytes.now c.args.chunk.now c.args.offset)
    (λ p here. in_chunk c.args.bytes.now c.in_ok-list.list.now c.args.chunk.now
    c.in_ok-list.ensures c.args.offset p c.if-offset-chunk.false here) c.item_at.result
    c.item_at.ensures.read
