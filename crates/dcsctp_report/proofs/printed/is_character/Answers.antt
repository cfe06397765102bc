use Rattle.std.proofs.Common.{rules, ◌≡◌, ℕ, ◌++◌, ap, ◌∙◌}
use lib.Utf8.{encode}
use Rattle.dcsctp_report.specs.Printed.{is_shown}
use Rattle.dcsctp_report.proofs.Characters.{no_character, first_character, ascii_character}
use Rattle.dcsctp_report.proofs.printed.is_character.Goals as goal

pub returns-then-bytes-lt128 : goal.returns-then-bytes-lt128
returns-then-bytes-lt128 c =
    c.is_shown.ensures ∙ ap (λ (n : ℕ). is_shown c.args.is_word n) c.from.ensures
    ∙ ascii_character _ c.args.bytes.now (search rules) (search rules)

pub returns-in-Some : goal.returns-in-Some
returns-in-Some c =
    let steps = c.in-Some.ensures.steps in
    let cases = c.in-Ok.ensures.cases in
    let front : c.args.bytes.now ≡ encode c.in-Some.character ++ c.next.new.self.rest.now =
    cc (steps.0, cases.0, c.chars.ensures.rest) in
    c.is_shown-in-Some.ensures ∙ first_character _ _ _ _ cases.1 front

pub returns-in-Err : goal.returns-in-Err
returns-in-Err c = no_character _ _ (search rules)

pub returns-then-begins_none : goal.returns-then-begins_none
returns-then-begins_none c = no_character _ _ (c.begins_none.ensures c.if-begins_none.true)
