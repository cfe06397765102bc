use Rattle.std.{proofs.Common.{◌≡◌, ◌∙◌, refl, ap}, specs.Option.{option_and_then}}
use Rattle.dcsctp_tlv.specs.Parameter.{ParameterTree, OutgoingSsnResetRequest}
use Rattle.dcsctp_borrowed.specs.ReConfig.{re_config_of}
use Rattle.dcsctp_c.specs.ReConfig.{reset_streams}
use Rattle.dcsctp_c.proofs.re_config.reset_streams.Goals as goal

-- only requests and the response have streams
resets : (tree : ParameterTree) → option_and_then reset_streams (re_config_of tree)
    ≡ reset_streams tree
resets (OutgoingSsnResetRequest r) = refl
resets tree = refl

pub returns-in-OutgoingSsnResetRequest-clause-means
    : goal.returns-in-OutgoingSsnResetRequest-clause-means
returns-in-OutgoingSsnResetRequest-clause-means c tree m =
    ap (option_and_then reset_streams) (c.re_config_ref.ensures.means tree m) ∙ resets tree

pub returns-in_err-streams-clause-means : goal.returns-in_err-streams-clause-means
returns-in_err-streams-clause-means c tree m =
    ap (option_and_then reset_streams) (c.re_config_ref.ensures.means tree m) ∙ resets tree

pub returns-in_default-clause-means : goal.returns-in_default-clause-means
returns-in_default-clause-means c tree m =
    ap (option_and_then reset_streams) (c.re_config_ref.ensures.means tree m) ∙ resets tree
