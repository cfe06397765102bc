-- What a sink was handed, one call after the other.
use Rattle.std.proofs.Common.{ℕ, ◌≡◌, List, [], ◌++◌, refl, sym, subst, ◌∙◌, append-nil, append_assoc}
use Rattle.dump_capture.specs.Event.{Event, Saw, Skip, Hands}
use Rattle.dump_capture.specs.HexBytes.{Says, AreAppended}
use Rattle.dump_capture.specs.Text.{HandsSome, HandsOne, Carries, IsSkip, IsSaidBy}

pub Hands-none : {S : Type 0} (handed : S → List Event → Type 0) (s : S) → Hands handed s s []
Hands-none handed s = λ xs h. subst (λ (l : List Event). handed s l) (sym (append-nil xs)) h

pub Hands-trans : {S : Type 0} (handed : S → List Event → Type 0) (old mid new : S)
    (first second : List Event)
    → Hands handed old mid first → Hands handed mid new second
    → Hands handed old new (first ++ second)
Hands-trans handed old mid new first second before after =
    λ xs h. subst (λ (l : List Event). handed new l) (append_assoc xs first second)
    (after (xs ++ first) (before xs h))

pub some_then_some : {S : Type 0} (handed : S → List Event → Type 0) (old mid new : S)
    → HandsSome handed old mid → HandsSome handed mid new → HandsSome handed old new
some_then_some handed old mid new before after = record {
  events = before.events ++ after.events;
  hands = Hands-trans handed old mid new before.events after.events before.hands after.hands;
}

pub one_some : {S : Type 0} (handed : S → List Event → Type 0) (old new : S) (Is : Event → Type 0)
    → HandsOne handed old new Is → HandsSome handed old new
one_some handed old new Is one = record { events = _; hands = one.hands }

-- a line that holds no packet
pub skip_said : {S : Type 0} (handed : S → List Event → Type 0) (old new : S) (text : List ℕ)
    → HandsOne handed old new IsSkip → HandsOne handed old new (IsSaidBy text)
skip_said handed old new text one = record {
  event = one.event;
  is = any one.event one.is;
  hands = one.hands;
} where
  any : (event : Event) → IsSkip event → IsSaidBy text event
  any (Saw seen link length bytes) is = absurd is
  any (Skip part number why) is = tt

-- a frame with bytes that a text says
pub carries_said : {S : Type 0} (handed : S → List Event → Type 0) (old new : S)
    (text bytes : List ℕ)
    → AreAppended text [] bytes → HandsOne handed old new (Carries bytes)
    → HandsOne handed old new (IsSaidBy text)
carries_said handed old new text bytes appended one = record {
  event = one.event;
  is = any one.event one.is;
  hands = one.hands;
} where
  any : (event : Event) → Carries bytes event → IsSaidBy text event
  any (Saw seen link length captured) is =
      subst (λ (b : List ℕ). Says text b) (sym (is ∙ appended.appended)) appended.says
  any (Skip part number why) is = absurd is
