use Rattle.std.proofs.Common.{◌≡◌, ◌≤◌, ◌+◌, ◌-◌, ◌∙◌, take, drop, length, length-take, length-drop, refl, arith}
use Rattle.std.proofs.lemmas.{List.{take_rest}, Str.{IsUtf8-nil}}
use Rattle.dcsctp_report.proofs.PrintedTexts.{more_shown, more_escaped, more_text, shown_text}
use Rattle.dcsctp_report.proofs.printed.fill_block.Goals as goal

pub loop-at-init : goal.loop-at-init
loop-at-init c = record {
  size = c.requires.room;
  within = omega arith;
  room = omega arith;
  begun = λ _. refl;
  utf8 = IsUtf8-nil;
  so_far = refl;
}

pub loop-at-preserved-then-size-gt0 : goal.loop-at-preserved-then-size-gt0
loop-at-preserved-then-size-gt0 c =
    let now = c.loop-at.invariant in
    let size = c.shown_size-size.result in
    let left = drop c.loop-at.at c.args.bytes.now in
    let value = rw take_rest at c.shown_size-size.ensures.value in
    let inside : size ≤ length left = rw take_rest at c.shown_size-size.ensures.within in
    let same : c.loop-at.at + size - c.loop-at.at ≡ size = omega arith in
    let all : length (take size left) ≡ size = omega (arith, length-take size left, inside) in
    let front = rw same at c.put_character.ensures.front in
    let put = rw all at front in
    record {
      size = c.put_character.ensures.size ∙ now.size;
      within = omega (arith, inside, length-drop c.loop-at.at c.args.bytes.now);
      room = omega (arith, c.shown_size-size.ensures.most, now.size);
      begun = λ none. absurd (omega (arith, none));
      utf8 = more_text _ _ _ _ _ put now.utf8 (shown_text _ _ _ value (omega arith));
      so_far = more_shown _ _ _ _ _ _ _ _ value (omega arith) inside put now.so_far;
    }

pub loop-at-preserved : goal.loop-at-preserved
loop-at-preserved c =
    let now = c.loop-at.invariant in
    let value = rw take_rest at c.shown_size-size.ensures.value in
    let none : c.shown_size-size.result ≡ 0 = omega arith in
    record {
      size = c.put_escape.ensures.size ∙ now.size;
      within = omega arith;
      room = omega (arith, now.size);
      begun = λ none. absurd (omega (arith, none));
      utf8 = more_text _ _ _ _ _ c.put_escape.ensures.front now.utf8 c.put_escape.ensures.utf8;
      so_far = more_escaped c.args.is_word c.args.bytes.now c.loop-at.block c.put_escape.new.text _
          c.loop-at.at
          c.loop-at.filled (rw none at value) (omega arith) c.put_escape.ensures.front now.so_far;
    }
