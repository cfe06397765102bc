use Rattle.std.proofs.Common.{◌+◌, take, drop, slice_index_or, false, true}
use Rattle.std.proofs.lemmas.List.{get_or_default}
use Rattle.dump_packet.proofs.Questions.{split, split_set}
use Rattle.dump_associations.specs.declared.associations.round_trips.Sent.{Sent}
use Rattle.dump_associations.proofs.associations.round_trips.RoundTrips.wait.Goals as goal

pub returns-in-Some-clause-free : goal.returns-in-Some-clause-free
returns-in-Some-clause-free c _ _ =
    let sents = c.args.self.now.waiting in
    let place = c.in-Some.place in
    let is = c.in-Some.ensures.some in
    let d : Sent = record { tsn = 0; is_waiting = false; nanoseconds = 0 } in (
      take place sents,
      slice_index_or sents place d,
      drop (place + 1) sents,
      split sents place d is.0,
      is.1,
      is.2 d,
      split_set sents place (record { tsn = c.args.tsn; is_waiting = true; nanoseconds = c.args.nanoseconds }) is.0,
    )

pub returns-in-Some-clause-full : goal.returns-in-Some-clause-full
returns-in-Some-clause-full c none =
    let sents = c.args.self.now.waiting in
    let place = c.in-Some.place in
    let is = c.in-Some.ensures.some in
    let d : Sent = record { tsn = 0; is_waiting = false; nanoseconds = 0 } in
    let sent = slice_index_or sents place d in
    absurd (none (place, sent, is.0, get_or_default sents place sent d is.0, is.2 d))
