-- What a sink is handed of events, and of packets that are put together between them.
use Rattle.std.proofs.Common.{◌≡◌, ℕ, List, [], ◌∷◌, ◌++◌, length, Option, Some, refl, ap, sym, subst, ◌∙◌}
use Rattle.std.specs.List.{Contains, cons_option}
use Rattle.std.proofs.lemmas.List.Elements.{All-weaker, Contains-append_left, Contains-push, filter_map-append}
use Rattle.dump_capture.specs.Event.{Event, Saw}
use Rattle.dump_capture.specs.IpFragment.{Fragment, fragment_in}
use Rattle.dump_capture.specs.Reassembly.{kept, AreKept, AreAllKept, IsJoined, fragment_of_event, fragments_in}
use Rattle.dump_capture.specs.Expanded.{Expands, IsExpanded, as_joined}
use Rattle.dump_capture.specs.declared.event.Seen.{Seen}
use Rattle.dump_capture.specs.declared.reassembly.PartialPacket.{PartialPacket}

-- what is of some fragments is of these and others
all_kept-more : (fs gs : List Fragment) (ps : List PartialPacket) → AreAllKept fs ps
    → AreAllKept (fs ++ gs) ps
all_kept-more fs gs ps all = record {
  each = All-weaker (AreKept fs) (AreKept (fs ++ gs)) (λ p one. record {
    known = All-weaker (λ k. Contains fs (kept p.key k)) (λ k. Contains (fs ++ gs) (kept p.key k))
        (λ k has. Contains-append_left fs gs (kept p.key k) has) p.fragments.items one.known;
    few = one.few;
    size = one.size;
    small = one.small;
  }) ps all.each;
  few = all.few;
}

pub expand-event : {S : Type 0} (handed : S → List Event → Type 0) (port : ℕ) (old new : S)
    (ps : List PartialPacket) (xs : List Event) (e : Event)
    → ((all : List Event) → handed old all → handed new (all ++ e ∷ []))
    → IsExpanded handed port old ps xs → IsExpanded handed port new ps (xs ++ e ∷ [])
expand-event handed port old new ps xs e gives was = (
  was.0 ++ e ∷ [],
  gives was.0 was.1,
  Expands.event (xs ++ e ∷ []) xs (was.0 ++ e ∷ []) was.0 e was.2 refl refl,
  subst (λ (fs : List Fragment). AreAllKept fs ps)
      (sym (filter_map-append (fragment_of_event port) xs (e ∷ [])))
      (all_kept-more (fragments_in port xs) (fragments_in port (e ∷ [])) ps was.3),
)

pub expand-packet : {S : Type 0} (handed : S → List Event → Type 0) (port : ℕ) (old new : S)
    (ps : List PartialPacket) (events first : List Event) (seen : Seen) (link size count : ℕ)
    (frame bytes : List ℕ)
    → ((all : List Event) → handed old all
    → handed new (all ++ Saw (as_joined seen count) 101 (length bytes) bytes ∷ []))
    → events ≡ first ++ Saw seen link size frame ∷ [] → IsJoined (fragments_in port events) bytes count
    → IsExpanded handed port old ps events → IsExpanded handed port new ps events
expand-packet handed port old new ps events first seen link size count frame bytes gives last made
    was = (
      was.0 ++ Saw (as_joined seen count) 101 (length bytes) bytes ∷ [],
      gives was.0 was.1,
      Expands.packet events first (was.0 ++ Saw (as_joined seen count) 101 (length bytes) bytes ∷ [])
          was.0 seen link size count frame bytes was.2 last made refl,
      was.3,
    )

-- a frame's fragment is among those of the events up to it
pub fragment-last : (port : ℕ) (xs : List Event) (seen : Seen) (link size : ℕ) (bytes : List ℕ)
    (f : Fragment) → fragment_in port link size bytes ≡ Some f
    → Contains (fragments_in port (xs ++ Saw seen link size bytes ∷ [])) f
fragment-last port xs seen link size bytes f is = subst (λ (fs : List Fragment). Contains fs f)
    (sym (filter_map-append (fragment_of_event port) xs (Saw seen link size bytes ∷ [])
    ∙ ap (λ (o : Option Fragment). fragments_in port xs ++ cons_option o []) is))
    (Contains-push (fragments_in port xs) f)

-- of a table that is the same but for what it keeps
pub expand-kept : {S : Type 0} (handed : S → List Event → Type 0) (port : ℕ) (sink : S)
    (ps qs : List PartialPacket) (events : List Event)
    → (AreAllKept (fragments_in port events) ps → AreAllKept (fragments_in port events) qs)
    → IsExpanded handed port sink ps events → IsExpanded handed port sink qs events
expand-kept handed port sink ps qs events keeps was = (was.0, was.1, was.2, keeps was.3)
