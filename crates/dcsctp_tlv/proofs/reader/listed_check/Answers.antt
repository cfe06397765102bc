use Rattle.std.proofs.{Common.{ℕ, ◌+◌, List, Err, drop, refl, subst}, lemmas.List.{take_rest}}
use Rattle.dcsctp_tlv.{specs.declared.reader.Counts.{Counts}, specs.Reading.{Answers, locating, ListAnswer, Counted, counts, ListedAnswer}, proofs.Places.{moved}}
use Rattle.dcsctp_tlv.proofs.reader.listed_check.Goals as goal

pub returns-in-Err-clause-found : goal.returns-in-Err-clause-found
returns-in-Err-clause-found g c =
    let level = g.T.ReadableTlv.level c.args.strict in
    let parts = g.T.ReadableTlv.parts in
    let place = c.args.place in
    let value = c.args.value.now in
    let found = subst (λ (b : List ℕ). Answers locating (λ (n : Counts). n)
    (Counted (counts parts) (ListAnswer level b)) (Err c.in-Err.found)) (take_rest value place)
    c.in-Err.ensures.found in
    moved (λ k. 4 + (place + k)) (Counted (counts parts) (ListAnswer level (drop place value)))
    (ListedAnswer level place value) (λ f h. (f, h, refl)) c.in-Err.found found
