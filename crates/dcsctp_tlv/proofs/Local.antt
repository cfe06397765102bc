-- Reading is local: after items that fill words, a list goes on as if it began there.
use Rattle.std.{proofs.Common.{◌≡◌, ℕ, ◌+◌, ◌%◌, List, [], ◌∷◌, ◌++◌, length, sym, ap, subst, ◌∙◌, append_assoc, arith, append-nil, length-append}, specs.List.{flat_map, AllByRecursion}, proofs.lemmas.List.Concat.{flat_map-append}}
use Rattle.dcsctp_tlv.{specs.Fault.{Fault}, specs.Frame.{Item, item_bytes, PaddingRule, IsWhole, IsLastForm, AreFormed}, specs.Level.{Level, ItemsMean, MeansTrees, HasFault, shifted_by}, proofs.Accounts.{length-item}}

-- ---- items that fill words are whole, the last too

whole_last : (rule : PaddingRule) (i : Item) → IsLastForm rule i → length (item_bytes i) % 4 ≡ 0
    → IsWhole rule i
whole_last rule i p words =
    let len = length-item i in
    record { fits = p.fits; padded = omega (arith, p.padded, words, len); accepted = p.accepted }

after_words : (m n : ℕ) → m % 4 ≡ 0 → (m + n) % 4 ≡ 0 → n % 4 ≡ 0
after_words m n h k = omega (arith, h, k)

whole_words : (rule : PaddingRule) (i : Item) → IsWhole rule i → length (item_bytes i) % 4 ≡ 0
whole_words rule i p = let len = length-item i in omega (arith, p.padded, len)

pub all_whole : (rule : PaddingRule) (is : List Item) → AreFormed rule is
    → length (flat_map item_bytes is) % 4 ≡ 0 → AllByRecursion (IsWhole rule) is
all_whole rule [] p words = tt
all_whole rule (i ∷ []) p words = (
  whole_last rule i p (subst (λ (xs : List ℕ). length xs % 4 ≡ 0)
      (append-nil (item_bytes i)) words),
  tt,
)
all_whole rule (i ∷ j ∷ is) p words =
    let len = length-append (item_bytes i) (flat_map item_bytes (j ∷ is)) in (
      p.0,
      all_whole rule (j ∷ is) p.1 (after_words (length (item_bytes i))
          (length (flat_map item_bytes (j ∷ is))) (whole_words rule i p.0)
          (ap (λ (n : ℕ). n % 4) (sym len) ∙ words)),
    )

-- ---- one list after another

formed_after : (rule : PaddingRule) (is js : List Item) → AllByRecursion (IsWhole rule) is
    → AreFormed rule is → AreFormed rule js → AreFormed rule (is ++ js)
formed_after rule [] js whole p q = q
formed_after rule (i ∷ []) [] whole p q = p
formed_after rule (i ∷ []) (j ∷ js) whole p q = (whole.0, q)
formed_after rule (i ∷ k ∷ is) js whole p q = (whole.0, formed_after rule (k ∷ is) js whole.1 p.1 q)

whole_after : (rule : PaddingRule) (is js : List Item) → AllByRecursion (IsWhole rule) is
    → AllByRecursion (IsWhole rule) js → AllByRecursion (IsWhole rule) (is ++ js)
whole_after rule [] js p q = q
whole_after rule (i ∷ is) js p q = (p.0, whole_after rule is js p.1 q)

module _ {T : Type 0} (level : Level T) where
  mean_after : (is js : List Item) (ts us : List T) → ItemsMean level is ts → ItemsMean level js us
      → ItemsMean level (is ++ js) (ts ++ us)
  mean_after [] js [] us m n = n
  mean_after (i ∷ is) js (t ∷ ts) us m n = (m.0, mean_after is js ts us m.1 n)
  mean_after is js ts us m n = absurd m

  whole_items : (front : List ℕ) (ts : List T) (m : MeansTrees level front ts)
      → length front % 4 ≡ 0 → AllByRecursion (IsWhole level.padding) m.items
  whole_items front ts m words = all_whole level.padding m.items m.are.formed
      (subst (λ (xs : List ℕ). length xs % 4 ≡ 0) m.are.split words)

  -- the trees of both, one list after the other
  pub local_means : (front end : List ℕ) (ts us : List T) → length front % 4 ≡ 0
      → MeansTrees level front ts → MeansTrees level end us
      → MeansTrees level (front ++ end) (ts ++ us)
  local_means front end ts us words m n = record {
    items = m.items ++ n.items;
    are = record {
      split = rw (m.are.split, n.are.split) (sym (flat_map-append item_bytes m.items n.items));
      formed = formed_after level.padding m.items n.items (whole_items front ts m words)
          m.are.formed n.are.formed;
    };
    mean = mean_after m.items n.items ts us m.mean n.mean;
  }

  -- the fault of the second, after the bytes of the first
  pub local_fault : (front end : List ℕ) (ts : List T) (e : Fault × ℕ) → length front % 4 ≡ 0
      → MeansTrees level front ts → HasFault level end e
      → HasFault level (front ++ end) (shifted_by (length front) e)
  local_fault front end ts e words m f =
      let both = ap length (flat_map-append item_bytes m.items f.items)
      ∙ length-append (flat_map item_bytes m.items) (flat_map item_bytes f.items) in
      let ahead : length front + (length (flat_map item_bytes f.items) + f.first.1)
      ≡ length (flat_map item_bytes (m.items ++ f.items)) + f.first.1 =
      omega (arith, both, ap length m.are.split) in
      record {
        items = m.items ++ f.items;
        trees = ts ++ f.trees;
        rest = f.rest;
        split = rw (m.are.split, f.split) (simp (flat_map-append, append_assoc));
        whole = whole_after level.padding m.items f.items (whole_items front ts m words) f.whole;
        mean = mean_after m.items f.items ts f.trees m.mean f.mean;
        first = f.first;
        fault = f.fault;
        place = ap (shifted_by (length front)) f.place ∙ ap (λ (n : ℕ). (f.first.0, n)) ahead;
      }
