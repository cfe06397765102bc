use Rattle.std.proofs.Common.{ℕ, List, refl, sym, subst, arith}
use Rattle.std.proofs.lemmas.Bool.{false≢true}
use Rattle.dcsctp_borrowed.specs.Part.{part_of}
use Rattle.dcsctp_receive.specs.{Chunks.{items_of}, Unrecognized.{wholes, AreAdded, HasRoomForAll}, Handling.{action_by}}
use Rattle.dcsctp_receive.proofs.AddedItems.{first_has_room, others_have_room}
use Rattle.dcsctp_receive.proofs.reported.add_all.Goals as goal

pub loop-item-init : goal.loop-item-init
loop-item-init c = record { room = c.requires; added = λ new end all. all }

pub loop-item-preserved : goal.loop-item-preserved
loop-item-preserved c =
    let action = action_by c.args.handling in
    let item = c.in-Some.item in
    let values = wholes action (items_of (part_of item.left)) in
    let room = subst (HasRoomForAll c.loop-item.buffer c.loop-item.size c.args.start)
    c.in-Some.ensures.found c.loop-item.invariant.room in
    record {
      room = others_have_room c.loop-item.buffer c.add_written.new.buffer c.loop-item.size
          c.add_written.new.size c.args.start c.args.typ item.whole.bytes.now values room
          (omega (arith, c.add_written.auto.buffer)) (c.in_ok-add_written.ensures.added refl);
      added = λ new end rest. c.loop-item.invariant.added new end
          (subst (λ (all : List (List ℕ)). AreAdded c.args.typ c.args.start all
          c.loop-item.buffer c.loop-item.size new end) (sym c.in-Some.ensures.found) (
            c.add_written.new.buffer,
            (c.add_written.new.size, (c.in_ok-add_written.ensures.added refl, rest)),
          ));
    }

pub returns-in_err-add_written-clause-done : goal.returns-in_err-add_written-clause-done
returns-in_err-add_written-clause-done c =
    absurd (false≢true (c.in_err-add_written.ensures.room.1
    (first_has_room c.loop-item.buffer c.loop-item.size c.args.start
    c.in-Some.item.whole.bytes.now
    (wholes (action_by c.args.handling) (items_of (part_of c.in-Some.item.left)))
    (subst (HasRoomForAll c.loop-item.buffer c.loop-item.size c.args.start)
    c.in-Some.ensures.found c.loop-item.invariant.room))))

pub returns-in_err-add_written-clause-added : goal.returns-in_err-add_written-clause-added
returns-in_err-add_written-clause-added c =
    absurd (false≢true (c.in_err-add_written.ensures.room.1
    (first_has_room c.loop-item.buffer c.loop-item.size c.args.start
    c.in-Some.item.whole.bytes.now
    (wholes (action_by c.args.handling) (items_of (part_of c.in-Some.item.left)))
    (subst (HasRoomForAll c.loop-item.buffer c.loop-item.size c.args.start)
    c.in-Some.ensures.found c.loop-item.invariant.room))))

pub returns-clause-added : goal.returns-clause-added
returns-clause-added c =
    c.loop-item.invariant.added c.loop-item.buffer c.loop-item.size
    (subst (λ (all : List (List ℕ)). AreAdded c.args.typ c.args.start all
    c.loop-item.buffer c.loop-item.size c.loop-item.buffer c.loop-item.size)
    (sym c.in_default.ensures.none) (refl, refl))
