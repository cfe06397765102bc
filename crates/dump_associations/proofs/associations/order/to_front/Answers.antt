use Rattle.std.proofs.Common.{ap, ◌∙◌, arith, ◌<◌, length}
use Rattle.dump_associations.proofs.Slots.{front}
use Rattle.dump_associations.proofs.associations.order.to_front.Goals as goal

pub returns-in-Ok : goal.returns-in-Ok
returns-in-Ok c =
    let new = c.in-Ok.ensures.entries in
    let len = c.len-length.ensures.len in
    let fits = c.len-length.ensures.fits in
    let room : length c.args.list.now.entries < c.args.list.now.cap = omega (arith, len, fits, c.requires) in
    record {
      entries = ap (λ l. l.entries) new ∙ front c.args.list.now c.args.slot room;
      cap = ap (λ l. l.cap) new;
    }
