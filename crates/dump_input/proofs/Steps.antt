-- What a step of a run took from an input, and handed to the printer; and what all steps did.
use Rattle.std.proofs.Common.{◌≡◌, ◌⊎◌, inl, inr, Bool, true, ℕ, List, [], ◌++◌, length, take, drop, Option, None, Some, IfSome, Result, Ok, Err, IfErr, IsErrAnd, refl, sym, ap, subst, ◌∙◌, append_assoc, append-nil, take-append-drop}
use Rattle.std.proofs.lemmas.List.{take_at}
use Rattle.std.specs.Io.{StartsWith}
use Rattle.std.specs.Io.KnownBytes.{Keeps, Consumes, IsAtEnd, prepend_known}
use Rattle.std.proofs.KnownBytes.{Consumes-nil, Consumes-trans, Consumes-kept}
use Rattle.dump_io.proofs.Streams.{Consumes-dropped}
use Rattle.dump_capture.specs.Event.{Event, Hands}
use Rattle.dump_capture.specs.Decoding.{Items, none, more, Passes}
use Rattle.dump_capture.specs.declared.decoder.Extent.{Extent}
use Rattle.dump_capture.specs.declared.decoder.Fault.{Fault}
use Rattle.dump_input.specs.declared.stop.Stop.{Stop}
use Rattle.dump_input.specs.declared.stop.Stop.TheVariants as stop
use Rattle.dump_input.specs.Handed.{HandsAll, HandsFront, Stops, Takes, Reaches, FallsShort, IsNoFault}
use Rattle.dump_capture.proofs.Handed.{Hands-none, Hands-trans}
use Rattle.dump_input.proofs.Passed.{Passed, Passed-short, Passed-partly}

-- ---- results

pub IfErr-residual : {T E : Type 0} (r : Result T E) (failure : E) (Q : E → Type 0)
    → IsErrAnd r (λ e. e ≡ failure)
    → Q failure → IfErr r Q
IfErr-residual (Ok x) failure Q is q = absurd is
IfErr-residual (Err e) failure Q is q = subst Q (sym is) q

-- ---- beginnings

pub starts_nil : (all : Option (List ℕ)) → IfSome all (λ l. StartsWith l [])
starts_nil None = tt
starts_nil (Some x) = refl

-- what was taken is a beginning, and what the rest begins with goes on with it
starts_after : (all left : Option (List ℕ)) (taken bytes : List ℕ) → Consumes all left taken
    → IfSome left (λ l. StartsWith l bytes) → IfSome all (λ l. StartsWith l (taken ++ bytes))
starts_after None left taken bytes consumes is = tt
starts_after (Some x) None taken bytes consumes is = absurd consumes
starts_after (Some x) (Some y) taken bytes consumes is =
    let rest = drop (length bytes) y in
    let split : y ≡ bytes ++ rest = sym (take-append-drop (length bytes) y)
    ∙ ap (λ (l : List ℕ). l ++ rest) is in
    let whole : x ≡ (taken ++ bytes) ++ rest = consumes ∙ ap (λ (l : List ℕ). taken ++ l) split
    ∙ sym (append_assoc taken bytes rest) in
    ap (take (length (taken ++ bytes))) whole
    ∙ take_at (taken ++ bytes) rest (length (taken ++ bytes)) refl

all_after : (all left : Option (List ℕ)) (taken bytes : List ℕ) → Consumes all left taken
    → IfSome left (λ l. l ≡ bytes) → IfSome all (λ l. l ≡ taken ++ bytes)
all_after None left taken bytes consumes is = tt
all_after (Some x) None taken bytes consumes is = absurd consumes
all_after (Some x) (Some y) taken bytes consumes is = consumes ∙ ap (λ l. taken ++ l) is

-- at the end of the reader, all that is left is in memory
all_held : (held : List ℕ) (remaining : Option (List ℕ)) → IsAtEnd remaining
    → IfSome (prepend_known held remaining) (λ l. l ≡ held)
all_held held None end = tt
all_held held (Some x) end = ap (λ l. held ++ l) end ∙ append-nil held

module _ {S P : Type 0} (Item : S → List ℕ → List Event → S → Type 0)
    (End : S → List ℕ → List Event → Option Fault → Type 0) (handed : P → List Event → Type 0)
  where
    -- ---- items

    one_item : (s t : S) (bytes : List ℕ) (events : List Event) → Item s bytes events t
        → Items Item s bytes events t
    one_item s t bytes events item =
        more s s t bytes [] bytes events [] events (none s s [] [] refl refl refl) item refl refl

    Items-append : (s t u : S) (front back : List ℕ) (first last : List Event)
        → Items Item s front first t → Items Item t back last u
        → Items Item s (front ++ back) (first ++ last) u
    Items-append s t u front back first last items (none _ _ _ _ no_bytes no_events same) =
        subst (λ v. Items Item s (front ++ back) (first ++ last) v) (sym same)
        (subst (λ l. Items Item s l (first ++ last) t)
        (sym (ap (λ l. front ++ l) no_bytes ∙ append-nil front))
        (subst (λ l. Items Item s front l t)
        (sym (ap (λ l. first ++ l) no_events ∙ append-nil first)) items))
    Items-append s t u front back first last items
        (more _ before _ _ some item _ early late others one bytes_are events_are) =
        more s before u (front ++ back) (front ++ some) item (first ++ last) (first ++ early) late
        (Items-append s t before front some first early items others) one
        (ap (λ l. front ++ l) bytes_are ∙ sym (append_assoc front some item))
        (ap (λ l. first ++ l) events_are ∙ sym (append_assoc first early late))

    -- ---- a step

    -- more was read
    pub Takes-more : (s t : S) (before after : Option (List ℕ)) (old mid new : P)
        (events : List Event) → events ≡ [] → t ≡ s → Keeps before after
        → Hands handed old mid events → Hands handed mid new []
        → Takes Item handed s t before after old new
    Takes-more s t before after old mid new events no_events same kept first last = record {
      bytes = [];
      events = [];
      consumes = Consumes-kept before before after [] (Consumes-nil before) kept;
      items = none s t [] [] refl refl same;
      hands = Hands-trans handed old mid new [] []
          (subst (Hands handed old mid) no_events first) last;
    }

    -- an item in memory was taken
    pub Takes-item : (s t : S) (held rest : List ℕ) (remaining : Option (List ℕ)) (n : ℕ)
        (old new : P) (events : List Event)
        → Item s (take n held) events t → rest ≡ drop n held → Hands handed old new events
        → Takes Item handed s t (prepend_known held remaining) (prepend_known rest remaining) old new
    Takes-item s t held rest remaining n old new events item is hands = record {
      bytes = take n held;
      events = events;
      consumes = Consumes-dropped remaining held rest (take n held)
          (sym (take-append-drop n held) ∙ ap (λ l. take n held ++ l) (sym is));
      items = one_item s t (take n held) events item;
      hands = hands;
    }

    joined : (old mid new : P) (events : List Event) → Hands handed old mid events
        → Hands handed mid new [] → Hands handed old new events
    joined old mid new events first last =
        subst (Hands handed old new) (append-nil events)
        (Hands-trans handed old mid new events [] first last)

    -- an item that is too long was dropped
    pub Takes-long : (s t : S) (reach : Extent) (held : List ℕ) (remaining after : Option (List ℕ))
        (old mid new : P) (events : List Event)
        → Passes Item End s held reach events t
        → (bytes : List ℕ) × Reaches reach bytes
        × Consumes (prepend_known held remaining) after bytes
        → Hands handed old mid events → Hands handed mid new []
        → Takes Item handed s t (prepend_known held remaining) after old new
    Takes-long s t reach held remaining after old mid new events passes dropped first last =
        let passed = Passed Item End s t events reach held remaining after passes dropped in record {
          bytes = passed.0;
          events = events;
          consumes = passed.2;
          items = one_item s t passed.0 events passed.1;
          hands = joined old mid new events first last;
        }

    -- ---- the end

    ends : (s : S) (left : Option (List ℕ)) (old new : P) (bytes : List ℕ) (events : List Event)
        (fault : Option Fault) → IfSome left (λ l. l ≡ bytes) → End s bytes events fault
        → Hands handed old new events → HandsAll Item End handed s left old new fault
    ends s left old new bytes events fault all end hands = record {
      bytes = bytes;
      events = events;
      all = all;
      reads = record {
        front = [];
        rest = bytes;
        first = [];
        last = events;
        after = s;
        items = none s s [] [] refl refl refl;
        end = end;
        split = refl;
        whole = refl;
      };
      hands = hands;
    }

    pub HandsAll-end : (s : S) (held : List ℕ) (remaining : Option (List ℕ)) (old new : P)
        (events : List Event) → End s held events None → IsAtEnd remaining
        → Hands handed old new events
        → HandsAll Item End handed s (prepend_known held remaining) old new None
    HandsAll-end s held remaining old new events end at_end hands =
        ends s (prepend_known held remaining) old new held events None
        (all_held held remaining at_end) end hands

    pub HandsAll-short : (s t : S) (reach : Extent) (held : List ℕ) (remaining : Option (List ℕ))
        (old mid new : P) (events : List Event)
        → Passes Item End s held reach events t
        → IfSome (prepend_known held remaining) (FallsShort reach)
        → Hands handed old mid events → Hands handed mid new []
        → HandsAll Item End handed s (prepend_known held remaining) old new None
    HandsAll-short s t reach held remaining old mid new events passes short first last =
        let passed = Passed-short Item End s t events reach held remaining passes short in
        ends s (prepend_known held remaining) old new passed.0 events None passed.2 passed.1
        (joined old mid new events first last)

    -- ---- a stop

    pub Stops-no_fault : (s : S) (left : Option (List ℕ)) (old new : P) (why : Stop) → IsNoFault why
        → HandsFront Item handed s left old new ⊎ HandsAll Item End handed s left old new None
        → Stops Item End handed s left old new why
    Stops-no_fault s left old new (stop.Fault fault) no_fault either = absurd no_fault
    Stops-no_fault s left old new stop.Read no_fault either = either
    Stops-no_fault s left old new stop.Printer no_fault either = either
    Stops-no_fault s left old new stop.Endless no_fault either = either
    Stops-no_fault s left old new stop.OutOfMemory no_fault either = either
    Stops-no_fault s left old new stop.Compressed no_fault either = either

    pub HandsFront-none : (s : S) (left : Option (List ℕ)) (old mid new : P) (events : List Event)
        → events ≡ [] → Hands handed old mid events → Hands handed mid new []
        → HandsFront Item handed s left old new
    HandsFront-none s left old mid new events no_events first last = record {
      bytes = [];
      events = [];
      after = s;
      front = starts_nil left;
      items = none s s [] [] refl refl refl;
      hands = Hands-trans handed old mid new [] []
          (subst (Hands handed old mid) no_events first) last;
    }

    pub Partly-long : (s t : S) (reach : Extent) (held : List ℕ) (remaining : Option (List ℕ))
        (old mid new : P) (events : List Event)
        → Passes Item End s held reach events t
        → Hands handed old mid events → Hands handed mid new []
        → HandsFront Item handed s (prepend_known held remaining) old new
        ⊎ HandsAll Item End handed s (prepend_known held remaining) old new None
    Partly-long s t reach held remaining old mid new events passes first last =
        by_end (Passed-partly Item End s t events reach held remaining passes) where
          hands : Hands handed old new events
          hands = joined old mid new events first last

          by_end : ((bytes : List ℕ) × Item s bytes events t
              × IfSome (prepend_known held remaining) (λ l. StartsWith l bytes))
              ⊎ ((bytes : List ℕ) × End s bytes events None
              × IfSome (prepend_known held remaining) (λ l. l ≡ bytes))
              → HandsFront Item handed s (prepend_known held remaining) old new
              ⊎ HandsAll Item End handed s (prepend_known held remaining) old new None
          by_end (inl (bytes, item, starts)) = inl (record {
            bytes = bytes;
            events = events;
            after = t;
            front = starts;
            items = one_item s t bytes events item;
            hands = hands;
          })
          by_end (inr (bytes, end, all)) =
              inr (ends s (prepend_known held remaining) old new bytes events None all end hands)

    pub HandsAll-fault : (s : S) (held : List ℕ) (remaining : Option (List ℕ)) (at_end : Bool)
        (old new : P) (events : List Event) (fault : Fault)
        → ((rest : List ℕ) → (at_end ≡ true → rest ≡ []) → End s (held ++ rest) events (Some fault))
        → (at_end ≡ true → IsAtEnd remaining) → Hands handed old new events
        → HandsAll Item End handed s (prepend_known held remaining) old new (Some fault)
    HandsAll-fault s held None at_end old new events fault end at hands =
        ends s None old new (held ++ []) events (Some fault) tt (end [] (λ _. refl)) hands
    HandsAll-fault s held (Some rest) at_end old new events fault end at hands =
        ends s (Some (held ++ rest)) old new (held ++ rest) events (Some fault) refl
        (end rest at) hands

    -- ---- a run

    pub Takes-none : (s : S) (left : Option (List ℕ)) (old : P)
        → Takes Item handed s s left left old old
    Takes-none s left old = record {
      bytes = [];
      events = [];
      consumes = Consumes-nil left;
      items = none s s [] [] refl refl refl;
      hands = Hands-none handed old;
    }

    pub Takes-trans : (s t u : S) (before mid after : Option (List ℕ)) (old now new : P)
        → Takes Item handed s t before mid old now → Takes Item handed t u mid after now new
        → Takes Item handed s u before after old new
    Takes-trans s t u before mid after old now new first last = record {
      bytes = first.bytes ++ last.bytes;
      events = first.events ++ last.events;
      consumes = Consumes-trans before mid after first.bytes last.bytes first.consumes last.consumes;
      items = Items-append s t u first.bytes last.bytes first.events last.events first.items
          last.items;
      hands = Hands-trans handed old now new first.events last.events first.hands last.hands;
    }

    pub HandsAll-after : (s t : S) (before left : Option (List ℕ)) (old now new : P)
        (fault : Option Fault) → Takes Item handed s t before left old now
        → HandsAll Item End handed t left now new fault
        → HandsAll Item End handed s before old new fault
    HandsAll-after s t before left old now new fault first last =
        let reads = last.reads in record {
          bytes = first.bytes ++ last.bytes;
          events = first.events ++ last.events;
          all = all_after before left first.bytes last.bytes first.consumes last.all;
          reads = record {
            front = first.bytes ++ reads.front;
            rest = reads.rest;
            first = first.events ++ reads.first;
            last = reads.last;
            after = reads.after;
            items = Items-append s t reads.after first.bytes reads.front first.events reads.first
                first.items reads.items;
            end = reads.end;
            split = ap (λ l. first.bytes ++ l) reads.split
                ∙ sym (append_assoc first.bytes reads.front reads.rest);
            whole = ap (λ l. first.events ++ l) reads.whole
                ∙ sym (append_assoc first.events reads.first reads.last);
          };
          hands = Hands-trans handed old now new first.events last.events first.hands last.hands;
        }

    HandsFront-after : (s t : S) (before left : Option (List ℕ)) (old now new : P)
        → Takes Item handed s t before left old now → HandsFront Item handed t left now new
        → HandsFront Item handed s before old new
    HandsFront-after s t before left old now new first last = record {
      bytes = first.bytes ++ last.bytes;
      events = first.events ++ last.events;
      after = last.after;
      front = starts_after before left first.bytes last.bytes first.consumes last.front;
      items = Items-append s t last.after first.bytes last.bytes first.events last.events first.items
          last.items;
      hands = Hands-trans handed old now new first.events last.events first.hands last.hands;
    }

    either : (s t : S) (before left : Option (List ℕ)) (old now new : P)
        → Takes Item handed s t before left old now
        → HandsFront Item handed t left now new ⊎ HandsAll Item End handed t left now new None
        → HandsFront Item handed s before old new ⊎ HandsAll Item End handed s before old new None
    either s t before left old now new first (inl last) =
        inl (HandsFront-after s t before left old now new first last)
    either s t before left old now new first (inr last) =
        inr (HandsAll-after s t before left old now new None first last)

    pub Stops-after : (s t : S) (before left : Option (List ℕ)) (old now new : P) (why : Stop)
        → Takes Item handed s t before left old now → Stops Item End handed t left now new why
        → Stops Item End handed s before old new why
    Stops-after s t before left old now new (stop.Fault fault) first last =
        HandsAll-after s t before left old now new (Some fault) first last
    Stops-after s t before left old now new stop.Read first last =
        either s t before left old now new first last
    Stops-after s t before left old now new stop.Printer first last =
        either s t before left old now new first last
    Stops-after s t before left old now new stop.Endless first last =
        either s t before left old now new first last
    Stops-after s t before left old now new stop.OutOfMemory first last =
        either s t before left old now new first last
    Stops-after s t before left old now new stop.Compressed first last =
        either s t before left old now new first last
