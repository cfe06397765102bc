-- Items before other items.
use Rattle.std.proofs.Common.{ℕ, List, [], ◌++◌, Option, refl, sym, ap, subst, ◌∙◌, append_assoc, append-nil}
use Rattle.dump_capture.specs.Event.{Event}
use Rattle.dump_capture.specs.Decoding.{Items, none, more, Reads}
use Rattle.dump_capture.specs.declared.decoder.Fault.{Fault}

pub Items-cons : {S : Type 0} (Item : S → List ℕ → List Event → S → Type 0) (s t u : S)
    (bytes past : List ℕ) (events others : List Event)
    → Item s bytes events t → Items Item t past others u
    → Items Item s (bytes ++ past) (events ++ others) u
Items-cons Item s t u bytes past events others item (none _ _ _ _ no_bytes no_events same) =
    more s s u (bytes ++ past) [] bytes (events ++ others) [] events
    (none s s [] [] refl refl refl)
    (subst (λ x. Item s bytes events x) (sym same) item)
    (ap (λ (x : List ℕ). bytes ++ x) no_bytes ∙ append-nil bytes)
    (ap (λ (x : List Event). events ++ x) no_events ∙ append-nil events)
Items-cons Item s t u bytes past events others item
    (more _ before _ _ front last _ first final items one split whole) =
    more s before u (bytes ++ past) (bytes ++ front) last (events ++ others) (events ++ first)
    final
    (Items-cons Item s t before bytes front events first item items)
    one
    (ap (λ (x : List ℕ). bytes ++ x) split ∙ sym (append_assoc bytes front last))
    (ap (λ (x : List Event). events ++ x) whole ∙ sym (append_assoc events first final))

pub Reads-cons : {S : Type 0} (Item : S → List ℕ → List Event → S → Type 0)
    (End : S → List ℕ → List Event → Option Fault → Type 0) (s t : S)
    (bytes past : List ℕ) (events others : List Event) (fault : Option Fault)
    → Item s bytes events t → Reads Item End t past others fault
    → Reads Item End s (bytes ++ past) (events ++ others) fault
Reads-cons Item End s t bytes past events others fault item r = record {
  front = bytes ++ r.front;
  rest = r.rest;
  first = events ++ r.first;
  last = r.last;
  after = r.after;
  items = Items-cons Item s t r.after bytes r.front events r.first item r.items;
  end = r.end;
  split = ap (λ (x : List ℕ). bytes ++ x) r.split ∙ sym (append_assoc bytes r.front r.rest);
  whole = ap (λ (x : List Event). events ++ x) r.whole ∙ sym (append_assoc events r.first r.last);
}

-- all that is left
pub Reads-end : {S : Type 0} (Item : S → List ℕ → List Event → S → Type 0)
    (End : S → List ℕ → List Event → Option Fault → Type 0) (s : S)
    (bytes : List ℕ) (events : List Event) (fault : Option Fault)
    → End s bytes events fault → Reads Item End s bytes events fault
Reads-end Item End s bytes events fault end = record {
  front = [];
  rest = bytes;
  first = [];
  last = events;
  after = s;
  items = none s s [] [] refl refl refl;
  end = end;
  split = refl;
  whole = refl;
}
