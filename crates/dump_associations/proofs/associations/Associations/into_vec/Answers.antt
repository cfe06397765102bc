-- The numbers rise after a sort by them.
use Rattle.std.proofs.Common.{rules}
use Rattle.std.proofs.lemmas.List.Sorted.{IsNonDecreasingBy-from_sort_by_key}
use Rattle.dump_associations.proofs.associations.Associations.into_vec.Goals as goal

pub returns-clause-ordered : goal.returns-clause-ordered
returns-clause-ordered c =
    IsNonDecreasingBy-from_sort_by_key (λ a. a.value.number) _ c.sort_unstable_by_key.ensures.sorted
    (λ a r q k. search rules)
