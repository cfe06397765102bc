-- Which failures end a run.
use Rattle.std.specs.Prelude.{Bool, true, false, Result, Ok, Err}
use Rattle.dump_command.specs.declared.failure.Failure.{Failure}
use Rattle.dump_command.specs.declared.failure.Failure.TheVariants.{OutOfMemory, Write, ClosedPipe, MessageFile}

-- A failure of the output, of a message's file or of memory ends the run; after another one, which
-- is reported, or after none the next input is begun. This says whether the input failed.
abbrev pub after_input : {T : Type 0} → Result T Failure → Result Bool Failure
after_input (Ok x) = Ok false
after_input (Err OutOfMemory) = Err OutOfMemory
after_input (Err Write) = Err Write
after_input (Err ClosedPipe) = Err ClosedPipe
after_input (Err MessageFile) = Err MessageFile
after_input (Err _) = Ok true
