-- What was read of a packet, where rows are written after its own.
use Rattle.std.proofs.{Common.{◌≡◌, ◌∙◌, ◌+◌, ◌-◌, ◌≤◌, ◌<◌, ℕ, List, [], ◌∷◌, ◌++◌, length, take, drop, set, get_or, min, sym, ap, subst, inl, inr, arith, le_refl, take_all, drop-drop, length-take, get_or-drop, add-zero}, lemmas.Bool.{cases_lt}, lemmas.List.{drop-take, take-take, take_more, take_more_set}, Math.Seq.{drop-append-add}}
use Rattle.dcsctp_wire.specs.declared.packet.sctp_packet.ChecksumPolicy.{ChecksumPolicy}
use Rattle.dcsctp_c.specs.{Row.{AreRows, MeanChunks, IsReading}, PlacedPacket.{IsPacketAt, rows_end, IsAsked}, Walk.{AreFrom, end_of, MeanEach}}
use Rattle.dcsctp_c.specs.declared.structs.{DcsctpPacket.{DcsctpPacket}, DcsctpPlacedPacket.{DcsctpPlacedPacket}, DcsctpRow.{DcsctpRow}}
use Rattle.dcsctp_c.proofs.Walks.{last_means}

-- ---- where the first rows stay

rows_stay : {X : Type 0} (old new : List X) (used first count : ℕ) → length new ≡ length old
    → take used new ≡ take used old → min (first + count) (length old) ≤ used
    → take count (drop first new) ≡ take count (drop first old)
rows_stay {X} old new used first count size same few = elim (cases_lt used (length old)) [
  | inl lt ↦ (let within : first + count ≤ used = omega (arith, few, lt) in
      sym (drop-take first count new)
      ∙ ap (drop first) (sym (take-take (first + count) used new within)
      ∙ ap (take (first + count)) same ∙ take-take (first + count) used old within)
      ∙ drop-take first count old)
  | inr le ↦ ap (λ (xs : List X). take count (drop first xs))
      (sym (take_all used new (omega (arith, le, size))) ∙ same ∙ take_all used old le)
]

reading_stays : (bytes : List ℕ) (word : ℕ) (policy : ChecksumPolicy) (packet : DcsctpPacket)
    (old new : List DcsctpRow) → take packet.chunk_count new ≡ take packet.chunk_count old
    → IsReading bytes word policy packet old → IsReading bytes word policy packet new
reading_stays bytes word policy packet old new same r = record {
  code = r.code;
  read = λ p answer.
      (let found = r.read p answer in record {
        header = found.header;
        count = found.count;
        means = subst (λ (rows : List DcsctpRow). MeanChunks bytes rows p.meaning.chunks) (sym same)
            found.means;
        end = found.end;
      });
  are_rows = subst (AreRows bytes) (sym same) r.are_rows;
  place = r.place;
  within = r.within;
}

module _ (block : List ℕ) (policy : ChecksumPolicy) (old new : List DcsctpRow) (used : ℕ)
    (size : length new ≡ length old) (same : take used new ≡ take used old) where
  packet_stays : (index : ℕ) (p : DcsctpPlacedPacket) → rows_end old p ≤ used
      → IsPacketAt block policy old index p → IsPacketAt block policy new index p
  packet_stays index p few at =
      let place = at.first in
      let room : min (index + p.packet.chunk_count) (length old) ≤ used =
      omega (arith, few, place) in
      record {
        first = place;
        reading = record {
          within = λ bytes there.
              reading_stays bytes p.word policy p.packet (drop index old)
              (drop index new) (rows_stay old new used index p.packet.chunk_count size same room)
              (at.reading.within bytes there);
          outside = at.reading.outside;
        };
      }

  -- ---- packet after packet

  -- their rows don't end before they begin
  end_grows : (index : ℕ) (ps : List DcsctpPlacedPacket) → index ≤ length old
      → AreFrom (IsPacketAt block policy old) (rows_end old) index ps
      → index ≤ end_of (rows_end old) index ps
  end_grows index [] low are = le_refl index
  end_grows index (p ∷ ps) low are =
      let place = are.0.first in
      let further = end_grows (rows_end old p) ps (omega arith) are.1 in
      omega (arith, place, low, further)

  pub packets_stay : (index : ℕ) (ps : List DcsctpPlacedPacket) → index ≤ length old
      → end_of (rows_end old) index ps ≤ used
      → AreFrom (IsPacketAt block policy old) (rows_end old) index ps
      → AreFrom (IsPacketAt block policy new) (rows_end new) index ps
  packets_stay index [] low few are = tt
  packets_stay index (p ∷ ps) low few are =
      let next : rows_end old p ≤ length old = omega arith in
      let further = end_grows (rows_end old p) ps next are.1 in (
        packet_stays index p (omega (arith, few, further)) are.0,
        subst (λ (n : ℕ). AreFrom (IsPacketAt block policy new) (rows_end new) n ps)
            (ap (λ (n : ℕ). min (p.first_row + p.packet.chunk_count) n) (sym size))
            (packets_stay (rows_end old p) ps next few are.1),
      )

  pub ends_stay : (index : ℕ) (ps : List DcsctpPlacedPacket)
      → end_of (rows_end new) index ps ≡ end_of (rows_end old) index ps
  ends_stay index ps =
      ap (λ (n : ℕ).
      end_of (λ (p : DcsctpPlacedPacket). min (p.first_row + p.packet.chunk_count) n) index ps)
      size

-- ---- the rows after those that were written

-- written past a front
pub rest_stays : {X : Type 0} (used n : ℕ) (front back new rows : List X) → length front ≡ used
    → front ++ back ≡ rows → drop n new ≡ drop n back
    → drop (used + n) (front ++ new) ≡ drop (used + n) rows
rest_stays {X} used n front back new rows size whole same =
    ap (λ (k : ℕ). drop (k + n) (front ++ new)) (sym size) ∙ drop-append-add front new n ∙ same
    ∙ sym (drop-append-add front back n) ∙ ap (λ (k : ℕ). drop (k + n) (front ++ back)) size
    ∙ ap (drop (used + n)) whole

-- further on
pub later_stay : {X : Type 0} (m n : ℕ) (xs ys : List X) → m ≤ n → drop m xs ≡ drop m ys
    → drop n xs ≡ drop n ys
later_stay {X} m n xs ys le same =
    let sum : m + (n - m) ≡ n = omega (arith, le) in
    subst (λ (k : ℕ). drop k xs ≡ drop k ys) sum
    (sym (drop-drop (n - m) m xs) ∙ ap (drop (n - m)) same ∙ drop-drop (n - m) m ys)

-- ---- what was asked

-- of one packet more
pub asked_more : (packets old : List DcsctpPlacedPacket) (index : ℕ) (new none : DcsctpPlacedPacket)
    → length packets ≡ length old → index < length old → drop index packets ≡ drop index old
    → MeanEach IsAsked (take index packets) (take index old)
    → IsAsked new (get_or packets index none)
    → MeanEach IsAsked (take (index + 1) (set packets index new)) (take (index + 1) old)
asked_more packets old index new none size lt rest before here =
    subst (λ (ps : List DcsctpPlacedPacket). MeanEach IsAsked ps (take (index + 1) old))
    (sym (take_more_set packets index new (omega (arith, lt, size))))
    (subst (MeanEach IsAsked (take index packets ++ new ∷ [])) (sym (take_more old index none lt))
    (last_means IsAsked (take index packets) (take index old) new (get_or old index none) before
    (omega (arith, size, length-take index packets, length-take index old))
    (subst (IsAsked new) same here)))
  where
    at : (ps : List DcsctpPlacedPacket) → get_or ps index none ≡ get_or (drop index ps) 0 none
    at ps =
        ap (λ (k : ℕ). get_or ps k none) (sym (add-zero index)) ∙ sym (get_or-drop index ps 0 none)

    same : get_or packets index none ≡ get_or old index none
    same = at packets ∙ ap (λ (ps : List DcsctpPlacedPacket). get_or ps 0 none) rest ∙ sym (at old)
