use Rattle.std.proofs.Common.{◌∙◌, ap}
use Rattle.std.proofs.lemmas.List.{take_rest}
use Rattle.dcsctp_tlv.specs.Number.{number16, number32, number64}
use Rattle.dcsctp_receive.proofs.cookie.read_body.Goals as goal

pub returns-clause-value : goal.returns-clause-value
returns-clause-value c =
    let rest = take_rest c.args.body.now in
    λ i. record {
      created = c.read_u64_be.ensures i;
      lifespan = (c.read_u64_be-2.ensures ∙ ap number64 (rest 8)) i;
      local_tag = (c.read_u32_be.ensures ∙ ap number32 (rest 16)) i;
      peer_tag = (c.read_u32_be-2.ensures ∙ ap number32 (rest 20)) i;
      local_tie_tag = (c.read_u32_be-3.ensures ∙ ap number32 (rest 24)) i;
      peer_tie_tag = (c.read_u32_be-4.ensures ∙ ap number32 (rest 28)) i;
      local_initial_tsn = (c.read_u32_be-5.ensures ∙ ap number32 (rest 32)) i;
      peer_initial_tsn = (c.read_u32_be-6.ensures ∙ ap number32 (rest 36)) i;
      local_port = (c.read_u16_be.ensures ∙ ap number16 (rest 40)) i;
      peer_port = (c.read_u16_be-2.ensures ∙ ap number16 (rest 42)) i;
      outbound_streams = (c.read_u16_be-3.ensures ∙ ap number16 (rest 44)) i;
      inbound_streams = (c.read_u16_be-4.ensures ∙ ap number16 (rest 46)) i;
      extra = rest 48 i;
    }
