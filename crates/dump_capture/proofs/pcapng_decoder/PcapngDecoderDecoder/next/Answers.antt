use Rattle.std.proofs.Common.{[], sym, subst, append-nil, ◌∙◌, arith, rules}
use Rattle.dump_capture.specs.PcapngState.{state_of}
use Rattle.dump_capture.proofs.PcapngItems.{End-otherwise, End-block}
use Rattle.dump_capture.proofs.pcapng_decoder.PcapngDecoderDecoder.next.Goals as goal
use Rattle.dump_capture.proofs.pcapng_decoder.PcapngDecoderDecoder.next.Goals.{else-held-lt-LEAST_BLOCK_SIZE-via-then-held-lt-LEAST_BLOCK_SIZE+else-not-at_end, else-held-lt-LEAST_BLOCK_SIZE-via-else-held-lt-LEAST_BLOCK_SIZE}

pub returns-then-begins_otherwise : goal.returns-then-begins_otherwise
returns-then-begins_otherwise g c = (
  [],
  λ xs has. subst (g.S.Sink.handed c.args.sink.now) (sym (append-nil xs)) has,
  λ rest end. End-otherwise (state_of c.args.self.now) c.args.held.now rest
      (elim c.else-held-lt-LEAST_BLOCK_SIZE.branch [
        | else-held-lt-LEAST_BLOCK_SIZE-via-then-held-lt-LEAST_BLOCK_SIZE+else-not-at_end w ↦
            λ short. end (search rules)
        | else-held-lt-LEAST_BLOCK_SIZE-via-else-held-lt-LEAST_BLOCK_SIZE w ↦
            λ short. absurd (omega arith)
      ])
      (sym c.begins_otherwise.ensures ∙ c.if-begins_otherwise.true),
)

pub returns-in_default : goal.returns-in_default
returns-in_default g c = (
  [],
  λ xs has. subst (g.S.Sink.handed c.args.sink.now) (sym (append-nil xs)) has,
  λ rest end. End-block (state_of c.args.self.now) c.args.held.now rest (omega arith)
      (sym c.begins_otherwise.ensures ∙ c.if-begins_otherwise.false)
      (search rules),
)
