-- The free places end last, so that they change nothing for the search.
use Rattle.std.proofs.{Common.{◌≤◌, ltb, rules, arith, length-take-le, get_or-take}, lemmas.Bool.Decides.{nat_tests}, lemmas.List.Sorted.{IsPartitionPoint-from_clause}}
use Rattle.dcsctp_chunk.{specs.declared.sack_chunk.GapAckBlock.{GapAckBlock}, proofs.Covers.{zero_block}, proofs.Placed.{free_end, parted_kept}}
use Rattle.dcsctp_chunk.proofs.chunk_validators.runs.first_reaching.Goals as goal

pub returns : goal.returns
returns c =
    let runs = c.args.runs.now in
    let kept = c.args.kept in
    let offset = c.saturating_sub-offset.result in
    let parted = parted_kept runs kept offset (omega arith) c.requires.room c.requires.apart
    c.requires.free in
    let point = IsPartitionPoint-from_clause (λ (b : GapAckBlock). ltb b.end offset) _ _
    c.partition_point.ensures.partitioned parted (λ a r q k. search rules) in
    let free = free_end runs kept kept zero_block in
    let bound : c.partition_point.result ≤ kept =
    grind (arith, nat_tests, point.0 kept zero_block, free) in
    let long = length-take-le kept runs c.requires.room in
    record {
      bound = bound;
      point = (
        (λ k d l m. grind (arith, nat_tests, point.0 k d, get_or-take kept runs k d)),
        (λ k d l m. grind (arith, nat_tests, point.1 k d, get_or-take kept runs k d)),
      );
    }
