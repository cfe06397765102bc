use Rattle.dump_capture.proofs.text.skip_at.Goals as goal

pub returns : goal.returns
returns g c = record { event = _; is = tt; hands = c.skipped.ensures }
