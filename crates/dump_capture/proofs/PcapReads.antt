-- A file of records has their events.
use Rattle.std.proofs.Common.{◌≡◌, ℕ, true, List, [], ◌∷◌, ◌++◌, None, Some, length, refl, sym, subst, append_assoc, arith}
use Rattle.std.specs.List.{flat_map, AllByRecursion}
use Rattle.dump_capture.specs.Number.{one_more}
use Rattle.dump_capture.specs.Pcap.{Record, Fits, file_header, record_bytes, BeginsWithRecord, AreRecords}
use Rattle.dump_capture.specs.Frame.{is_known_link}
use Rattle.dump_capture.specs.Decoding.{Reads}
use Rattle.dump_capture.specs.PcapEvents.{record_event, events_from, Item, End}
use Rattle.dump_capture.specs.declared.pcap.FileHeader.{FileHeader}
use Rattle.dump_capture.specs.declared.pcap_decoder.PcapDecoder.TheVariants as before
use Rattle.dump_capture.proofs.Items.{Reads-cons, Reads-end}
use Rattle.dump_capture.proofs.PcapItems.{fault_known}

pub records_read : (header : FileHeader) (number : ℕ) (records : List Record) (cut : List ℕ)
    → AllByRecursion Fits records → (BeginsWithRecord header.format.order cut → ⊥)
    → Reads Item End (before.Record header number)
    (flat_map (record_bytes header.format.order) records ++ cut)
    (events_from header number records cut) None
records_read header number [] cut fit end =
    Reads-end Item End (before.Record header number) cut (events_from header number [] cut) None
    (end, refl, refl)
records_read header number (r ∷ records) cut fit end =
    let order = header.format.order in
    let past = flat_map (record_bytes order) records ++ cut in
    subst (λ (b : List ℕ). Reads Item End (before.Record header number) b
    (events_from header number (r ∷ records) cut) None)
    (sym (append_assoc (record_bytes order r) (flat_map (record_bytes order) records) cut))
    (Reads-cons Item End (before.Record header number) (before.Record header (one_more number))
    (record_bytes order r) past (record_event header number r ∷ [])
    (events_from header (one_more number) records cut) None
    (r, fit.0, refl, refl, refl)
    (records_read header (one_more number) records cut fit.1 end))

pub pcap_events_are : (header : FileHeader) (front bytes cut : List ℕ) (records : List Record)
    → length front ≡ 24 → file_header front ≡ Some header → is_known_link header.link_type ≡ true
    → AreRecords header.format.order bytes records cut
    → Reads Item End before.FileHeader (front ++ bytes) (events_from header 1 records cut) None
pcap_events_are header front bytes cut records size read known are =
    Reads-cons Item End before.FileHeader (before.Record header 1) front bytes []
    (events_from header 1 records cut) None
    (size, fault_known header front (omega arith) read known, refl, (header, read, refl))
    (subst (λ (b : List ℕ). Reads Item End (before.Record header 1) b
    (events_from header 1 records cut) None) (sym are.split)
    (records_read header 1 records cut are.fit are.end))
