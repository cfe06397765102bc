use Rattle.std.proofs.Common.{ℕ, List, ap, ◌∙◌, arith}
use Rattle.dump_capture.specs.Pcapng.{body_of}
use Rattle.dump_capture.specs.PcapngEvents.{block_events, long_events, after_block}
use Rattle.dump_capture.specs.PcapngState.{state_of}
use Rattle.dump_capture.proofs.PcapngItems.{Item-held, Passes-long}
use Rattle.dump_capture.proofs.pcapng_decoder.PcapngDecoder.take_block.Goals as goal

pub returns-then-size-held : goal.returns-then-size-held
returns-then-size-held g c =
    let s = state_of c.args.self.now in
    let h = c.args.header.now in
    let held = c.args.held.now in (
      block_events s.interfaces s.number h (body_of h held),
      rw (← c.body_of-body.ensures, ← c.as_slice.ensures.value) c.hand_block.ensures,
      (
        omega arith,
        Item-held s (state_of c.note_block.new.self) h held c.requires.size c.requires.least
            c.requires.header (omega arith)
            (c.note_block.ensures ∙ ap (λ (x : List ℕ). after_block s h x) c.body_of-body.ensures),
      ),
    )

pub returns-then-size-gt-MOST_KEPT : goal.returns-then-size-gt-MOST_KEPT
returns-then-size-gt-MOST_KEPT g c =
    let s = state_of c.args.self.now in
    let h = c.args.header.now in (
      long_events s.number,
      c.hand_long.ensures,
      Passes-long s (state_of c.note_block-then-size-gt-MOST_KEPT.new.self) h c.args.held.now
          c.requires.size c.requires.header (omega arith) (omega arith)
          c.note_block-then-size-gt-MOST_KEPT.ensures,
    )
