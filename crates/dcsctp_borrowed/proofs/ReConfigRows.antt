-- What `ReConfigRef` reads of a parameter is what the parameter's row of the table means.
use Rattle.std.{proofs.Common.{◌≡◌, ℕ, List, Some, Result, Ok, ap, rules, ne_eqb, option_map}, specs.Result.{result_ok}}
use Rattle.dcsctp_tlv.specs.{Fault.{Fault}, Parameter.{ParameterTree, OutgoingSsnResetRequest, IncomingSsnResetRequest, SsnTsnResetRequest, ReconfigurationResponse, AddOutgoingStreamsRequest, AddIncomingStreamsRequest, Unknown, members, row}}
use Rattle.dcsctp_tlv.specs.OutgoingSsnResetRequest as outgoing_kind
use Rattle.dcsctp_tlv.specs.IncomingSsnResetRequest as incoming_kind
use Rattle.dcsctp_tlv.specs.SsnTsnResetRequest as ssn_tsn_kind
use Rattle.dcsctp_tlv.specs.ReconfigurationResponse as response_kind
use Rattle.dcsctp_tlv.specs.AddStreamsRequest as add_kind
use Rattle.dcsctp_borrowed.{specs.ReConfig.{re_config_of, read_re_config}, proofs.TreeRows.{of_typed}}

abbrev ReadsAs : ℕ → List ℕ → ParameterTree → Type 0
ReadsAs typ value t = read_re_config typ value ≡ re_config_of t

-- what a kind of request reads
own : {X : Type 0} (tree : X → ParameterTree) (read : List ℕ → Result X Fault) (value : List ℕ)
    (x : X) → read value ≡ Ok x → option_map tree (result_ok (read value)) ≡ Some (tree x)
own {X} tree read value x e = ap (λ (r : Result X Fault). option_map tree (result_ok r)) e

pub requests_alike : (typ : ℕ) (value : List ℕ) (t : ParameterTree) → (row typ).means value t
    → read_re_config typ value ≡ re_config_of t
requests_alike typ = of_typed ReadsAs typ members Unknown
    (assumption (
      own OutgoingSsnResetRequest outgoing_kind.read,
      own IncomingSsnResetRequest incoming_kind.read,
      own SsnTsnResetRequest ssn_tsn_kind.read,
      own ReconfigurationResponse response_kind.read,
      own AddOutgoingStreamsRequest add_kind.read,
      own AddIncomingStreamsRequest add_kind.read,
    ))
    (λ isnt value u. search (rules, ne_eqb))
