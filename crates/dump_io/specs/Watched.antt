-- What a clause reads of a `Watched`, the device that remembers whether it failed, and
-- whether it was flushed.
use Rattle.std.specs.Prelude.{ℕ, Bool, true, false, ◌&&◌, ◌==◌, not, List, length}
use Rattle.std.specs.Prelude.{Option, Result, Ok, Err}
use Rattle.dump_io.specs.declared.watched.Watched.{Watched}

-- `w.into_device()`
abbrev pub device_of : {D : Type 0} → Watched D → D
device_of w = w.device

-- `w.failed()`
abbrev pub has_failed : {D : Type 0} → Watched D → Bool
has_failed w = w.failed

-- `w.is_flushed()`
abbrev pub is_flushed : {D : Type 0} → Watched D → Bool
is_flushed w = w.flushed

-- the write took none of at least one byte
abbrev pub took_none : {E : Type 0} → Result ℕ E → List ℕ → Bool
took_none (Ok n) bytes = n == 0 && not (length bytes == 0)
took_none (Err e) bytes = false

-- the write wrote no byte
abbrev pub wrote_none : {E : Type 0} → Result ℕ E → Bool
wrote_none (Ok n) = n == 0
wrote_none (Err e) = true

-- a device before and after a run: whether it had failed, whether all that was written to it is
-- flushed, and what is known of its bytes
pub record Change : Type 0 where
  pub began_failed : Bool
  pub failed : Bool
  pub flushed : Bool
  pub old : Option (List ℕ)
  pub new : Option (List ℕ)

-- a device before and after a run, where `known` is what its type says of its bytes
abbrev pub change : {D : Type 0} → (D → Option (List ℕ)) → Watched D → Watched D → Change
change known old new = record {
  began_failed = has_failed old;
  failed = has_failed new;
  flushed = is_flushed new;
  old = known (device_of old);
  new = known (device_of new);
}
