-- What is known of an output and of the text that it holds back.
use Rattle.std.specs.Prelude.{ℕ, List, Option, string_bytes}
use Rattle.std.specs.Io.KnownBytes.{append_known}
use Rattle.dump_io.specs.Watched.{device_of}
use Rattle.dump_io.specs.declared.watched.Watched.{Watched}
use Rattle.dump_io.specs.declared.output.Output.{Output}

-- the writer
abbrev pub writer_of : {W : Type 0} → Output W → Watched W
writer_of o = o.writer

-- the text that the writer hasn't got yet
abbrev pub pending : {W : Type 0} → Output W → List ℕ
pending o = string_bytes o.text

-- the bytes of the writer and then the text, where `contents` is what the writer's type says
abbrev pub total : {W : Type 0} → (W → Option (List ℕ)) → Output W → Option (List ℕ)
total contents o = append_known (contents (device_of (writer_of o))) (pending o)
