use Rattle.std.proofs.Common.{◌≡◌, ◌+◌, ◌-◌, ℕ, [], ◌∷◌, take, drop, refl, ap, arith, rules}
use Rattle.dump_capture.specs.Event.{Skip}
use Rattle.dump_capture.specs.Pcap.{record_of}
use Rattle.dump_capture.specs.PcapEvents.{frame_event}
use Rattle.dump_capture.specs.declared.event.Part.TheVariants as part
use Rattle.dump_capture.specs.declared.event.Skipped.TheVariants.{TooLong}
use Rattle.dump_capture.proofs.PcapItems.{HasHeader, Item-kept, Item-long, Passes-long}
use Rattle.dump_capture.proofs.pcap_decoder.PcapDecoder.take_record.Goals as goal

pub returns-then-held-size : goal.returns-then-held-size
returns-then-held-size g c =
    let h = c.read_record_header-record.result in
    let has : HasHeader c.args.header.format.order h c.args.held.now = record {
      size = omega arith;
      value = c.read_record_header-record.ensures.value;
      begins = c.read_record_header-record.ensures.begins;
      fits = c.read_record_header-record.ensures.fits;
    } in (
      Skip part.Record c.args.number TooLong ∷ [],
      c.skipped-then-captured-gt-MOST_KEPT.ensures,
      Passes-long c.args.header c.args.number c.saturating_add.result
          (16 + h.captured_length) h c.args.held.now has refl (omega arith) (omega arith)
          (search rules),
    )

pub returns-then-captured-gt-MOST_KEPT : goal.returns-then-captured-gt-MOST_KEPT
returns-then-captured-gt-MOST_KEPT g c =
    let h = c.read_record_header-record.result in
    let has : HasHeader c.args.header.format.order h c.args.held.now = record {
      size = omega arith;
      value = c.read_record_header-record.ensures.value;
      begins = c.read_record_header-record.ensures.begins;
      fits = c.read_record_header-record.ensures.fits;
    } in (
      Skip part.Record c.args.number TooLong ∷ [],
      c.skipped-then-captured-gt-MOST_KEPT.ensures,
      (
        omega arith,
        Item-long c.args.header c.args.number c.saturating_add.result
            (16 + h.captured_length) h c.args.held.now has refl (omega arith) (omega arith)
            (search rules),
      ),
    )

pub returns : goal.returns
returns g c =
    let h = c.read_record_header-record.result in
    let n = h.captured_length in
    let held = c.args.held.now in
    let has : HasHeader c.args.header.format.order h held = record {
      size = omega arith;
      value = c.read_record_header-record.ensures.value;
      begins = c.read_record_header-record.ensures.begins;
      fits = c.read_record_header-record.ensures.fits;
    } in
    let frame = take (16 + n - 16) (drop 16 held) in
    let same : 16 + n - 16 ≡ n = omega arith in (
      frame_event c.args.header c.args.number (record_of h frame) ∷ [],
      c.frame.ensures,
      (
        omega arith,
        Item-kept c.args.header c.args.number c.saturating_add.result (16 + n) h held frame has refl
            (omega arith) (omega arith) (ap (λ (k : ℕ). take k (drop 16 held)) same)
            (search rules),
      ),
    )
