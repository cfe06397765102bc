-- Lists of items: one loop over frames gives the one answer.
use Rattle.std.{proofs.Common.{◌≡◌, ◌≢◌, ℕ, ◌+◌, ◌-◌, Bool, true, false, List, [], ◌∷◌, ◌++◌, length, refl, sym, ap, subst, ◌∙◌, arith, eqb-true, append-nil, get_or-drop, length-append, ◌==◌}, specs.List.{flat_map}, proofs.lemmas.List.{nil_from_length}}
use Rattle.dcsctp_tlv.{specs.Fault.{Fault}, specs.Number.{AreBytes}, specs.Frame.{round_up_to_4, padding_size, Item, item_bytes, frame_length, BeginsWithFrame, frame_value, frame_padding, frame_rest}, specs.Level.{Level, ItemsMean, MeansTrees, HasFault, shifted_by, BeginsWithFault, no_frame, value, padding, front_row}, proofs.Items.{AreBefore, front_item, front_split, front_next, with_last, before_push, before_end, before_rest}}

-- what a loop over the frames has read
pub record Progress {T : Type 0} (level : Level T) (bytes : List ℕ) (trees : List T)
    (rest : List ℕ) : Type 0 where
  pub items : List Item
  pub split : bytes ≡ flat_map item_bytes items ++ rest
  pub before : AreBefore level.padding items rest
  pub mean : ItemsMean level items trees
  pub fits : AreBytes rest

pub begin : {T : Type 0} (level : Level T) (bytes : List ℕ) → AreBytes bytes
    → Progress level bytes [] bytes
begin level bytes fits = record { items = []; split = refl; before = tt; mean = tt; fits = fits }

mean_push : {T : Type 0} (level : Level T) (is : List Item) (ts : List T) (i : Item) (t : T)
    → ItemsMean level is ts → (level.row i.first i.second).means i.value t
    → ItemsMean level (is ++ i ∷ []) (ts ++ t ∷ [])
mean_push level [] [] i t p q = (q, tt)
mean_push level (j ∷ is) (u ∷ ts) i t p q = (p.0, mean_push level is ts i t p.1 q)
mean_push level is ts i t p q = absurd p

pub step : {T : Type 0} (level : Level T) (bytes : List ℕ) (trees : List T) (rest : List ℕ) (t : T)
    → Progress level bytes trees rest → BeginsWithFrame rest
    → (front_row level rest).means (frame_value rest) t
    → level.padding (padding_size (length (frame_value rest))) (frame_padding rest) ≡ true
    → Progress level bytes (trees ++ t ∷ []) (frame_rest rest)
step level bytes trees rest t p frame means accepted =
    let i = front_item rest in
    let cut = front_split rest p.fits frame in
    let next = front_next level.padding rest p.fits frame accepted in
    record {
      items = p.items ++ i ∷ [];
      split = p.split ∙ ap (λ (x : List ℕ). flat_map item_bytes p.items ++ x) cut
          ∙ with_last p.items i (frame_rest rest);
      before = before_push level.padding p.items i (frame_rest rest)
          (subst (AreBefore level.padding p.items) cut p.before) next;
      mean = mean_push level p.items trees i t p.mean means;
      fits = λ k. rw get_or-drop (p.fits (round_up_to_4 (frame_length rest) + k));
    }

pub finish : {T : Type 0} (level : Level T) (bytes : List ℕ) (trees : List T) (rest : List ℕ)
    → Progress level bytes trees rest → rest ≡ [] → MeansTrees level bytes trees
finish level bytes trees rest p e = record {
  items = p.items;
  are = record {
    split = p.split ∙ ap (λ (x : List ℕ). flat_map item_bytes p.items ++ x) e
        ∙ append-nil (flat_map item_bytes p.items);
    formed = before_end level.padding p.items (subst (AreBefore level.padding p.items) e p.before);
  };
  mean = p.mean;
}

pub not_nil : {T : Type 0} (level : Level T) (rest : List ℕ) (e : Fault × ℕ)
    → BeginsWithFault level rest e → rest ≢ []
not_nil level [] e (no_frame h _ _) = h
not_nil level [] e (value h _) = absurd (omega (arith, h.header))
not_nil level [] e (padding _ h _ _ _) = absurd (omega (arith, h.header))
not_nil level (b ∷ rest) e f = λ c. cc

-- what is wrong at the front of what is left is the fault, after the bytes that were gone over
pub fault : {T : Type 0} (level : Level T) (bytes : List ℕ) (trees : List T) (rest : List ℕ)
    (f : Fault × ℕ) (n : ℕ) → Progress level bytes trees rest → n ≡ length bytes - length rest
    → BeginsWithFault level rest f → HasFault level bytes (shifted_by n f)
fault level bytes trees rest f n p h first =
    let ahead : n ≡ length (flat_map item_bytes p.items) = omega (
      arith,
      h,
      ap length p.split ∙ length-append (flat_map item_bytes p.items) rest,
    ) in
    record {
      items = p.items;
      trees = trees;
      rest = rest;
      split = p.split;
      whole = before_rest level.padding p.items rest (not_nil level rest f first) p.before;
      mean = p.mean;
      first = f;
      fault = first;
      place = ap (λ (k : ℕ). shifted_by k f) ahead;
    }

-- what is_empty says
pub is_nil : (xs : List ℕ) (b : Bool) → b ≡ (length xs == 0) → b ≡ true → xs ≡ []
is_nil [] b e h = refl
is_nil (x ∷ xs) b e h = nil_from_length (x ∷ xs) (eqb-true (length (x ∷ xs)) 0 (sym e ∙ h))

pub is_cons : (xs : List ℕ) (b : Bool) → b ≡ (length xs == 0) → b ≡ false → xs ≢ []
is_cons [] b e h = absurd (let p : false ≡ true = sym h ∙ e in cc)
is_cons (x ∷ xs) b e h = λ c. cc
