-- What isn't a sample adds nothing.
use Rattle.std.proofs.Common.{◌≡◌, ◌∷◌, ◌<◌, ℕ, Bool, List, false, true, not, slice_index_or, length, refl, subst, arith}
use Rattle.std.proofs.lemmas.List.{get_or_default}
use Rattle.dump_associations.specs.RoundTrips.{AddsEach, sample, other}
use Rattle.dump_packet.specs.declared.acknowledgement.Acknowledgement.{Acknowledgement}
use Rattle.dump_packet.specs.declared.delays.Delays.{Delays}
use Rattle.dump_packet.specs.declared.packet_number.PacketNumber.{PacketNumber}
use Rattle.dump_associations.specs.declared.associations.round_trips.Sent.{Sent}
use Rattle.dump_associations.proofs.associations.round_trips.RoundTrips.end_at.Goals as goal

is_true : (b : Bool) → not b ≡ false → b ≡ true
is_true true h = refl
is_true false h = cc

-- the element of a list, whatever its default
at : (by : Acknowledgement) (nanoseconds : ℕ) (packet : PacketNumber) (sents : List Sent) (place : ℕ)
    (d e : Sent) (rest : List Sent) (before after : Delays) → place < length sents
    → AddsEach by nanoseconds packet (slice_index_or sents place e ∷ rest) before after
    → AddsEach by nanoseconds packet (slice_index_or sents place d ∷ rest) before after
at by nanoseconds packet sents place d e rest before after within adds =
    subst (λ (s : Sent). AddsEach by nanoseconds packet (s ∷ rest) before after)
    (get_or_default sents place e d within) adds

pub returns-then-not-sent-clause-added : goal.returns-then-not-sent-clause-added
returns-then-not-sent-clause-added c d rest after adds =
    let sents = c.args.self.now.waiting in
    let e : Sent = record { tsn = 0; is_waiting = false; nanoseconds = 0 } in
    let h = c.if-not-sent.true in
    at c.args.acknowledged c.args.nanoseconds c.args.packet sents c.args.place d e rest
    c.args.self.now.delays after (omega arith)
    (other (slice_index_or sents c.args.place e) rest c.args.self.now.delays after
    (λ s. let waiting = s.waiting in let h' = rw waiting at h in cc) adds)

pub returns-then-not-has-clause-added : goal.returns-then-not-has-clause-added
returns-then-not-has-clause-added c d rest after adds =
    let sents = c.args.self.now.waiting in
    let e : Sent = record { tsn = 0; is_waiting = false; nanoseconds = 0 } in
    at c.args.acknowledged c.args.nanoseconds c.args.packet sents c.args.place d e rest
    c.args.self.now.delays after (omega arith)
    (other (slice_index_or sents c.args.place e) rest c.args.self.now.delays after
    (λ s. let has = c.has.ensures.1 s.acknowledged in let not_has = c.if-not-has.true in cc) adds)

pub returns-then-sent-nanoseconds-clause-added : goal.returns-then-sent-nanoseconds-clause-added
returns-then-sent-nanoseconds-clause-added c d rest after adds =
    let sents = c.args.self.now.waiting in
    let e : Sent = record { tsn = 0; is_waiting = false; nanoseconds = 0 } in
    let late = c.if-sent-nanoseconds.true in
    at c.args.acknowledged c.args.nanoseconds c.args.packet sents c.args.place d e rest
    c.args.self.now.delays after (omega arith)
    (other (slice_index_or sents c.args.place e) rest c.args.self.now.delays after
    (λ s. let earlier = s.earlier in omega (arith, earlier, late)) adds)

pub returns-clause-added : goal.returns-clause-added
returns-clause-added c d rest after adds =
    let sents = c.args.self.now.waiting in
    let e : Sent = record { tsn = 0; is_waiting = false; nanoseconds = 0 } in
    let sent = slice_index_or sents c.args.place e in
    at c.args.acknowledged c.args.nanoseconds c.args.packet sents c.args.place d e rest
    c.args.self.now.delays after (omega arith)
    (sample sent rest c.args.self.now.delays c.add.new.self after
    (record {
      waiting = is_true sent.is_waiting c.if-not-sent.false;
      acknowledged = c.has.ensures.0 c.if-not-has.false;
      earlier = c.if-sent-nanoseconds.false;
    })
    (record {
      count = c.add.ensures.count;
      least = c.add.ensures.least;
      greatest = c.add.ensures.greatest;
      bucket = c.add.ensures.bucket;
    })
    adds)
