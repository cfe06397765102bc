-- Where an item can't be another, or an end, bytes are read in one way.
use Rattle.std.proofs.Common.{◌≡◌, ℕ, List, ◌++◌, Option, length, drop, refl, sym, ap, subst, ◌∙◌, append_assoc}
use Rattle.std.proofs.lemmas.List.{drop_at}
use Rattle.dump_capture.specs.Event.{Event}
use Rattle.dump_capture.specs.Decoding.{Items, none, more, Reads}
use Rattle.dump_capture.specs.declared.decoder.Fault.{Fault}

pub record IsOne {S : Type 0} (Item : S → List ℕ → List Event → S → Type 0)
    (End : S → List ℕ → List Event → Option Fault → Type 0) : Type 0 where
  pub one : (s t u : S) (x y a b : List ℕ) (events others : List Event)
      → Item s x events t → Item s y others u → x ++ a ≡ y ++ b
      → (x ≡ y) × (events ≡ others) × (t ≡ u)
  pub stops : (s t : S) (x a : List ℕ) (events others : List Event) (fault : Option Fault)
      → Item s x events t → End s (x ++ a) others fault → ⊥
  pub ends : (s : S) (x : List ℕ) (events others : List Event) (fault other : Option Fault)
      → End s x events fault → End s x others other → (events ≡ others) × (fault ≡ other)

-- the same reading, from the front
data Run {S : Type 0} (Item : S → List ℕ → List Event → S → Type 0)
    (End : S → List ℕ → List Event → Option Fault → Type 0) (fault : Option Fault)
    : S → List ℕ → List Event → Type 0 where
  stop : (s : S) (bytes : List ℕ) (events : List Event) → End s bytes events fault
      → Run Item End fault s bytes events
  step : (s t : S) (bytes x rest : List ℕ) (events first others : List Event)
      → Item s x first t → Run Item End fault t rest others
      → bytes ≡ x ++ rest → events ≡ first ++ others
      → Run Item End fault s bytes events

run_after : {S : Type 0} (Item : S → List ℕ → List Event → S → Type 0)
    (End : S → List ℕ → List Event → Option Fault → Type 0) (fault : Option Fault) (s t : S)
    (front rest : List ℕ) (first last : List Event)
    → Items Item s front first t → Run Item End fault t rest last
    → Run Item End fault s (front ++ rest) (first ++ last)
run_after Item End fault s t front rest first last (none _ _ _ _ no_bytes no_events same) run =
    subst (λ (x : List ℕ). Run Item End fault s (x ++ rest) (first ++ last)) (sym no_bytes)
    (subst (λ (x : List Event). Run Item End fault s rest (x ++ last)) (sym no_events)
    (subst (λ x. Run Item End fault x rest last) same run))
run_after Item End fault s t front rest first last
    (more _ before _ _ begin item _ events final items one split whole) run =
    subst (λ (x : List ℕ). Run Item End fault s (x ++ rest) (first ++ last)) (sym split)
    (subst (λ (x : List Event). Run Item End fault s ((begin ++ item) ++ rest) (x ++ last))
    (sym whole)
    (subst (λ (x : List ℕ). Run Item End fault s x ((events ++ final) ++ last))
    (sym (append_assoc begin item rest))
    (subst (λ (x : List Event). Run Item End fault s (begin ++ (item ++ rest)) x)
    (sym (append_assoc events final last))
    (run_after Item End fault s before begin (item ++ rest) events (final ++ last) items
    (step before t (item ++ rest) item rest (final ++ last) final last one run refl refl)))))

run_of : {S : Type 0} (Item : S → List ℕ → List Event → S → Type 0)
    (End : S → List ℕ → List Event → Option Fault → Type 0) (s : S)
    (bytes : List ℕ) (events : List Event) (fault : Option Fault)
    → Reads Item End s bytes events fault → Run Item End fault s bytes events
run_of Item End s bytes events fault r =
    subst (λ (x : List ℕ). Run Item End fault s x events) (sym r.split)
    (subst (λ (x : List Event). Run Item End fault s (r.front ++ r.rest) x) (sym r.whole)
    (run_after Item End fault s r.after r.front r.rest r.first r.last r.items
    (stop r.after r.rest r.last r.end)))

run_one : {S : Type 0} (Item : S → List ℕ → List Event → S → Type 0)
    (End : S → List ℕ → List Event → Option Fault → Type 0) (is : IsOne Item End)
    (fault other : Option Fault) (s : S) (bytes same : List ℕ) (events others : List Event)
    → Run Item End fault s bytes events → Run Item End other s same others → bytes ≡ same
    → (events ≡ others) × (fault ≡ other)
run_one Item End is fault other s bytes same events others (stop _ _ _ end) (stop _ _ _ last) e =
    is.ends s same events others fault other
    (subst (λ (x : List ℕ). End s x events fault) e end) last
run_one Item End is fault other s bytes same events others (stop _ _ _ end)
    (step _ t _ x rest _ first final item run split whole) e =
    absurd (is.stops s t x rest first events fault item
    (subst (λ (b : List ℕ). End s b events fault) (e ∙ split) end))
run_one Item End is fault other s bytes same events others
    (step _ t _ x rest _ first final item run split whole) (stop _ _ _ end) e =
    absurd (is.stops s t x rest first others other item
    (subst (λ (b : List ℕ). End s b others other) (sym e ∙ split) end))
run_one Item End is fault other s bytes same events others
    (step _ t _ x rest _ first final item run split whole)
    (step _ u _ y left _ begin last piece next parts all) e =
    let joined : x ++ rest ≡ y ++ left = sym split ∙ e ∙ parts in
    let one = is.one s t u x y rest left first begin item piece joined in
    let past : rest ≡ left = sym (drop_at x rest (length x) refl)
    ∙ ap (drop (length x)) (joined ∙ ap (λ (b : List ℕ). b ++ left) (sym one.0))
    ∙ drop_at x left (length x) refl in
    let later = run_one Item End is fault other t rest left final last run
    (subst (λ v. Run Item End other v left last) (sym one.2) next) past in (
      whole ∙ ap (λ (f : List Event). f ++ final) one.1
          ∙ ap (λ (f : List Event). begin ++ f) later.0 ∙ sym all,
      later.1,
    )

pub reading_one : {S : Type 0} (Item : S → List ℕ → List Event → S → Type 0)
    (End : S → List ℕ → List Event → Option Fault → Type 0) (is : IsOne Item End)
    (s : S) (bytes : List ℕ) (events others : List Event) (fault other : Option Fault)
    → Reads Item End s bytes events fault → Reads Item End s bytes others other
    → (events ≡ others) × (fault ≡ other)
reading_one Item End is s bytes events others fault other first second =
    run_one Item End is fault other s bytes bytes events others
    (run_of Item End s bytes events fault first) (run_of Item End s bytes others other second) refl
