use Rattle.std.proofs.Common.{refl}
use Rattle.dcsctp_report.proofs.ReadBack.{is_printed, plain_text, one_reading}
use Rattle.dcsctp_report.proofs.laws.printed_text.Goals as goal

pub returns-clause-printed : goal.returns-clause-printed
returns-clause-printed c = is_printed

pub returns-clause-plain : goal.returns-clause-plain
returns-clause-plain c = plain_text

pub returns-clause-one : goal.returns-clause-one
returns-clause-one c = λ is_word bytes others text fits fits_too of of_too.
    one_reading is_word bytes others text text of of_too fits fits_too refl
