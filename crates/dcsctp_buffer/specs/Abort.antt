-- ABORT (RFC 9260 section 3.3.7) with a User-Initiated Abort (section 3.3.10.12) as its one cause.
use Rattle.std.specs.Prelude.{[], ◌∷◌}
use Rattle.dcsctp_cause.specs.Cause.{UserInitiatedAbort}
use Rattle.dcsctp_wire.specs.Abort.{Tree}
use Rattle.dcsctp_buffer.specs.declared.abort.BorrowedAbort.{BorrowedAbort}

abbrev pub view : BorrowedAbort → Tree
view a = record {
  tag_reflected = a.tag_reflected;
  causes = UserInitiatedAbort a.reason.now ∷ [];
}
