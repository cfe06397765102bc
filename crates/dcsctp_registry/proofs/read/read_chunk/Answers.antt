use Rattle.std.{proofs.Common.{◌∙◌, ap}, specs.Option.{option_and_then}}
use Rattle.dcsctp_registry.specs.Layout.{read}
use Rattle.dcsctp_registry.proofs.Kept.{chunks_kept}
use Rattle.dcsctp_registry.specs.declared.layout.Layout.{Layout}
use Rattle.dcsctp_registry.proofs.read.read_chunk.Goals as goal

pub returns-clause-kept : goal.returns-clause-kept
returns-clause-kept c tree means =
    let value = c.args.raw.now.value.now in
    c.read_by.ensures ∙ ap (option_and_then (λ (l : Layout). read l value)) c.chunk_layout.ensures
    ∙ chunks_kept c.args.raw.now.typ c.args.raw.now.flags value tree means
