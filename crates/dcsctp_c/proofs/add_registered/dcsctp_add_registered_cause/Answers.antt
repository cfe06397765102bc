use Rattle.dcsctp_registry.specs.{CauseLayouts.{cause_rows}, Layout.{value_of}, Registered.{layout_in}}
use Rattle.dcsctp_c.{specs.AddRegistered.{value_by}, proofs.RegisteredPlaces.{made_of, read_again}, proofs.Writings.{not_writable}}
use Rattle.dcsctp_c.proofs.add_registered.dcsctp_add_registered_cause.Goals as goal

pub returns-in-Some-clause-added : goal.returns-in-Some-clause-added
returns-in-Some-clause-added c =
    rw (
      ← made_of value_of (value_by c.args.bytes.now c.args.registered.now)
          (layout_in cause_rows c.args.code),
      ← c.cause_by_type.ensures,
      c.in-Some.is,
    ) c.add_item.ensures

pub returns-in-None-clause-added : goal.returns-in-None-clause-added
returns-in-None-clause-added c =
    rw (
      ← made_of value_of (value_by c.args.bytes.now c.args.registered.now)
          (layout_in cause_rows c.args.code),
      ← c.cause_by_type.ensures,
      c.in-None.is,
    )
    (not_writable _ c.is_last_chunk.result _ c.unwritable.result c.is_last_chunk.ensures c.unwritable.ensures)

pub returns-in-Some-clause-reads : goal.returns-in-Some-clause-reads
returns-in-Some-clause-reads c v is =
    read_again cause_rows c.args.code c.args.bytes.now c.args.registered.now v c.reads_back.ensures is

pub returns-in-None-clause-reads : goal.returns-in-None-clause-reads
returns-in-None-clause-reads c v is =
    read_again cause_rows c.args.code c.args.bytes.now c.args.registered.now v c.reads_back.ensures is
