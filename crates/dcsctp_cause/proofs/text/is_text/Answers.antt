use Rattle.std.proofs.{Common.{rules}, lemmas.Str.{IsUtf8-string_bytes}}
use Rattle.dcsctp_cause.proofs.text.is_text.Goals as goal

pub returns : goal.returns
returns c = record { fits = search rules; utf8 = IsUtf8-string_bytes c.args.text.now }
