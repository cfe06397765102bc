use Rattle.std.proofs.lemmas.{Str.{IsUtf8-from_ascii}, Str.Ascii.{IsAscii-from_all}}
use Rattle.dcsctp_report.proofs.hexadecimal.write_ascii.Goals as goal

pub write_text-requires : goal.write_text-requires
write_text-requires g c =
    IsUtf8-from_ascii c.args.bytes.now (IsAscii-from_all c.args.bytes.now c.requires)
