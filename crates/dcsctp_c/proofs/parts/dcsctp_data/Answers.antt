use Rattle.std.{proofs.Common.{◌∙◌, refl, sym, ap}, specs.Option.{option_and_then}}
use Rattle.dcsctp_borrowed.{specs.UserData.{read_user_data}, proofs.DataRows.{reads_alike}}
use Rattle.dcsctp_c.{specs.Part.{HoldsData, data_at}, proofs.Rows.{nothing}}
use Rattle.dcsctp_c.proofs.parts.dcsctp_data.Goals as goal

pub returns-in_default-clause-means : goal.returns-in_default-clause-means
returns-in_default-clause-means c tree m =
    let bytes = c.args.bytes.now in
    let chunk = c.args.chunk.now in
    let none = nothing (HoldsData bytes chunk) (data_at bytes chunk) c.in_default.ensures in
    let same = ap (option_and_then (read_user_data chunk.typ chunk.flags)) m.1
    ∙ reads_alike chunk.typ chunk.flags m.0 tree m.2 in
    rw (sym same ∙ none) (refl, refl)
