-- A check of a list, and the build after it: what both have gone over, and what is left.
use Rattle.std.{proofs.Common.{◌≡◌, ◌≢◌, ℕ, suc, ◌+◌, ◌*◌, ◌≤◌, Bool, true, false, Ok, List, [], ◌∷◌, ◌++◌, length, refl, sym, ap, subst, ◌∙◌, arith, ◌==◌, append-nil, get_or-drop, length-append, length-drop}, specs.List.{flat_map}}
use Rattle.dcsctp_tlv.{specs.Number.{AreBytes}, specs.Count.{total}, specs.Frame.{padding_size, round_up_to_4, Item, item_bytes, PaddingRule, AreFormed, AreItems, frame_length, BeginsWithFrame, frame_value, frame_padding, frame_rest}, specs.Level.{Level, ItemsMean, MeansTrees, front_row}, specs.Reading.{ListAnswer, Counted, counts}, proofs.Items.{front_item, front_length, items_before}, proofs.Forms.{means_nil}, proofs.Lists.{Progress, step, finish, is_cons}, proofs.Laws.{front_is}}

-- ---- the check

-- what a check has gone over
pub record Checked {T : Type 0} (level : Level T) (parts : T → ℕ) (bytes rest : List ℕ)
    (n all : ℕ) : Type 0 where
  pub trees : List T
  pub progress : Progress level bytes trees rest
  pub item_count : n ≡ length trees
  pub part_count : all ≡ total parts trees
  pub few_items : 4 * n + length rest ≤ length bytes
  pub few_parts : 4 * all + length rest ≤ length bytes

total-append : {T : Type 0} (parts : T → ℕ) (ts : List T) (t : T) → total parts (ts ++ t ∷ [])
    ≡ total parts ts + parts t
total-append parts [] t = omega arith
total-append parts (u ∷ ts) t = let h = total-append parts ts t in omega (arith, h)

pub rest_bytes : (rest : List ℕ) → AreBytes rest → AreBytes (frame_rest rest)
rest_bytes rest fits = λ k. rw get_or-drop (fits (round_up_to_4 (frame_length rest) + k))

-- a frame takes its length from what is left
pub frame_shrinks : (rest : List ℕ) → BeginsWithFrame rest → length (frame_rest rest)
    + frame_length rest ≤ length rest
frame_shrinks rest frame = omega (
  arith,
  frame.header,
  frame.low,
  frame.high,
  length-drop
      (round_up_to_4 (frame_length rest)) rest,
)

pub check_step : {T : Type 0} (level : Level T) (parts : T → ℕ) (bytes rest : List ℕ) (n all : ℕ)
    (t : T) → Checked level parts bytes rest n all → BeginsWithFrame rest
    → (front_row level rest).means (frame_value rest) t
    → level.padding (padding_size (length (frame_value rest))) (frame_padding rest) ≡ true
    → 4 * parts t ≤ 4 + length (frame_value rest)
    → Checked level parts bytes (frame_rest rest) (n + 1) (all + parts t)
check_step level parts bytes rest n all t c frame means accepted few =
    let shrinks = frame_shrinks rest frame in
    let len = front_length rest frame in
    let long = length-append c.trees (t ∷ []) in
    record {
      trees = c.trees ++ t ∷ [];
      progress = step level bytes c.trees rest t c.progress frame means accepted;
      item_count = omega (arith, c.item_count, long);
      part_count = ap (λ (k : ℕ). k + parts t) c.part_count ∙ sym (total-append parts c.trees t);
      few_items = omega (arith, c.few_items, shrinks, frame.low);
      few_parts = omega (arith, c.few_parts, shrinks, len, few);
    }

pub check_finish : {T : Type 0} (level : Level T) (parts : T → ℕ) (bytes rest : List ℕ) (n all : ℕ)
    → Checked level parts bytes rest n all → rest ≡ []
    → Counted (counts parts) (ListAnswer level bytes) (Ok (record { items = n; parts = all }))
check_finish level parts bytes rest n all c e = (
  c.trees,
  finish level bytes c.trees rest c.progress e,
  (λ k. record { items = c.item_count k; parts = c.part_count k }),
)

-- ---- the build

head_accepted : (rule : PaddingRule) (i : Item) (is : List Item) → AreFormed rule (i ∷ is)
    → rule (padding_size (length i.value)) i.padding ≡ true
head_accepted rule i [] p = p.accepted
head_accepted rule i (j ∷ is) p = p.0.accepted

tail_formed : (rule : PaddingRule) (i : Item) (is : List Item) → AreFormed rule (i ∷ is)
    → AreFormed rule is
tail_formed rule i [] p = tt
tail_formed rule i (j ∷ is) p = p.1

at_first : (bytes : List ℕ) (i : Item) (is : List Item) → bytes ≡ flat_map item_bytes (i ∷ is)
    → bytes ≡ item_bytes i ++ (flat_map item_bytes is ++ [])
at_first bytes i is e =
    e ∙ ap (λ (x : List ℕ). item_bytes i ++ x) (sym (append-nil (flat_map item_bytes is)))

-- items begin with a frame, and after it are the others
pub record FirstItem (rule : PaddingRule) (bytes : List ℕ) (items : List Item) : Type 0 where
  pub frame : BeginsWithFrame bytes
  pub accepted : rule (padding_size (length (frame_value bytes))) (frame_padding bytes) ≡ true
  pub others : List Item
  pub split : items ≡ front_item bytes ∷ others
  pub are : AreItems rule (frame_rest bytes) others

pub first_item : (rule : PaddingRule) (bytes : List ℕ) (items : List Item) → AreBytes bytes
    → bytes ≢ [] → AreItems rule bytes items → FirstItem rule bytes items
first_item rule bytes [] fits h are = absurd (h are.split)
first_item rule bytes (i ∷ is) fits h are =
    let e = at_first bytes i is are.split in
    let next = (items_before rule (i ∷ is) are.formed).0 in
    let front = front_is rule i (flat_map item_bytes is ++ []) bytes fits e next in
    record {
      frame = front.0;
      accepted = subst (λ (j : Item). rule (padding_size (length j.value)) j.padding ≡ true) front.1
          (head_accepted rule i is are.formed);
      others = is;
      split = ap (λ (j : Item). j ∷ is) front.1;
      are = record {
        split = sym front.2 ∙ append-nil (flat_map item_bytes is);
        formed = tail_formed rule i is are.formed;
      };
    }

-- the front means the first tree, and what is after it the others
pub record FirstTree {T : Type 0} (level : Level T) (bytes : List ℕ) (trees : List T) : Type 0 where
  pub frame : BeginsWithFrame bytes
  pub accepted : level.padding (padding_size (length (frame_value bytes))) (frame_padding bytes)
      ≡ true
  pub first : T
  pub others : List T
  pub count : length trees ≡ suc (length others)
  pub means : (front_row level bytes).means (frame_value bytes) first
  pub mean : MeansTrees level (frame_rest bytes) others

first_means : {T : Type 0} (level : Level T) (bytes : List ℕ) (items others : List Item)
    (trees : List T) → items ≡ front_item bytes ∷ others → BeginsWithFrame bytes
    → level.padding (padding_size (length (frame_value bytes))) (frame_padding bytes) ≡ true
    → AreItems level.padding (frame_rest bytes) others
    → ItemsMean level (front_item bytes ∷ others) trees → FirstTree level bytes trees
first_means level bytes items others [] e frame accepted are mean = absurd mean
first_means level bytes items others (t ∷ ts) e frame accepted are mean =
    record {
      frame = frame;
      accepted = accepted;
      first = t;
      others = ts;
      count = refl;
      means = mean.0;
      mean = record { items = others; are = are; mean = mean.1 };
    }

pub first_tree : {T : Type 0} (level : Level T) (bytes : List ℕ) (trees : List T) → AreBytes bytes
    → bytes ≢ [] → MeansTrees level bytes trees → FirstTree level bytes trees
first_tree level bytes trees fits h m =
    let f = first_item level.padding bytes m.items fits h m.are in
    first_means level bytes m.items f.others trees f.split f.frame f.accepted f.are
    (subst (λ (is : List Item). ItemsMean level is trees) f.split m.mean)

-- what is built, and what is left
pub record Building {T : Type 0} (level : Level T) (bytes rest : List ℕ) (built : List T)
    (len capacity : ℕ) : Type 0 where
  pub progress : Progress level bytes built rest
  pub left : List T
  pub mean : MeansTrees level rest left
  pub room : len + length left ≡ capacity

-- before the end something is left, and so a first tree
pub left_tree : {T : Type 0} {level : Level T} {bytes rest : List ℕ} {built : List T}
    {len capacity : ℕ} {none : Bool} (b : Building level bytes rest built len capacity)
    → none ≡ (length rest == 0) → none ≡ false → FirstTree level rest b.left
left_tree {T} {level} {bytes} {rest} {built} {len} {capacity} {none} b e h =
    first_tree level rest b.left b.progress.fits (is_cons rest none e h) b.mean

pub build_step : {T : Type 0} (level : Level T) (bytes rest : List ℕ) (built : List T) (t : T)
    (len capacity : ℕ) (b : Building level bytes rest built len capacity)
    → (f : FirstTree level rest b.left)
    → (front_row level rest).means (frame_value rest) t → Building level bytes (frame_rest rest)
    (built ++ t ∷ []) (len + 1) capacity
build_step level bytes rest built t len capacity b f means = record {
  progress = step level bytes built rest t b.progress f.frame means f.accepted;
  left = f.others;
  mean = f.mean;
  room = omega (arith, b.room, f.count);
}

-- ---- the count

pub one_counted : (rule : PaddingRule) (rest : List ℕ) (items : List Item) (count all : ℕ)
    → AreBytes rest → rest ≢ [] → AreItems rule rest items → count + length items ≡ all
    → (left : List Item) × (AreItems rule (frame_rest rest) left × (count + 1 + length left ≡ all))
one_counted rule rest items count all fits h are e =
    let f = first_item rule rest items fits h are in
    let long : length items ≡ suc (length f.others) = ap length f.split in
    (f.others, (f.are, omega (arith, long, e)))

nothing_left : (rule : PaddingRule) (items : List Item) → AreItems rule [] items → length items ≡ 0
nothing_left rule [] are = refl
nothing_left rule (i ∷ is) are = absurd (let e = are.split in cc)

pub none_left : (rule : PaddingRule) (rest : List ℕ) (items : List Item) (count all : ℕ) → rest ≡ []
    → AreItems rule rest items → count + length items ≡ all → count ≡ all
none_left rule rest items count all e are h =
    let none = nothing_left rule items (subst (λ (r : List ℕ). AreItems rule r items) e are) in
    omega (arith, none, h)

-- no bytes mean no trees
pub no_trees : {T : Type 0} (level : Level T) (bytes : List ℕ) (trees : List T) → bytes ≡ []
    → MeansTrees level bytes trees → length trees ≡ 0
no_trees level bytes trees e m =
    ap length (means_nil level trees (subst (λ (r : List ℕ). MeansTrees level r trees) e m))

-- as many items as trees
pub as_many : {T : Type 0} (level : Level T) (items : List Item) (trees : List T)
    → ItemsMean level items trees → length items ≡ length trees
as_many level [] [] m = refl
as_many level (i ∷ is) (t ∷ ts) m = ap suc (as_many level is ts m.1)
as_many level is ts m = absurd m
