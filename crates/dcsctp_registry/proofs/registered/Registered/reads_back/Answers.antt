use Rattle.std.proofs.Common.{◌≡◌, ◌<◌, ◌^◌, true, subst}
use Rattle.std.specs.List.{AllByRecursion}
use Rattle.dcsctp_registry.specs.Layout.{Registered, is_laid_out}
use Rattle.dcsctp_registry.proofs.ReadBack.{reads_back}
use Rattle.dcsctp_registry.proofs.registered.Registered.reads_back.Goals as goal

pub returns : goal.returns
returns c = reads_back c.args.self.now
    (subst (λ (r : Registered). is_laid_out r ≡ true) c.self.view_is c.self.invariant)
    (subst (AllByRecursion (λ n. n < 2 ^ 32)) c.numbers.ensures c.are_words.ensures)
    (subst (AllByRecursion (λ n. n < 2 ^ 16)) c.short_numbers.ensures c.are_numbers.ensures)
