-- What is kept of packets of which not all fragments were seen.
use Rattle.std.proofs.Common.{◌≡◌, ◌+◌, ◌<◌, ℕ, suc, true, List, [], ◌∷◌, ◌++◌, length, map, take, drop, get_or, refl, ap, sym, ◌∙◌, subst, append-nil, length-append, take-append-drop, arith}
use Rattle.std.specs.List.{All, Contains, concat, insert, remove}
use Rattle.std.proofs.lemmas.List.{map-append, take_more, length-map}
use Rattle.std.proofs.lemmas.List.Folds.{concat-append}
use Rattle.std.proofs.lemmas.List.Elements.{All-take, All-drop, All-append, All-cons, All-map}
use Rattle.dump_capture.specs.IpFragment.{Fragment}
use Rattle.dump_capture.specs.Reassembly.{joined, AreFront, AreWhole, kept, ip_header, IsJoined}
use Rattle.dump_capture.specs.declared.ip_fragment.FragmentKey.{FragmentKey}
use Rattle.dump_capture.specs.declared.reassembly.KeptFragment.{KeptFragment}

pub All-remove : {X : Type 0} (P : X → Type 0) (xs : List X) (i : ℕ) → All P xs → All P
    (remove xs i)
All-remove P xs i all = All-append P (take i xs) (drop (suc i) xs) (All-take P i xs all)
    (All-drop P (suc i) xs all)

pub All-insert : {X : Type 0} (P : X → Type 0) (xs : List X) (i : ℕ) (x : X) → P x → All P xs
    → All P (insert xs i x)
All-insert P xs i x here all =
    All-append P (take i xs) (x ∷ drop i xs) (All-take P i xs all)
    (All-cons P x (drop i xs) here (All-drop P i xs all))

-- ---- the data of fragments, and of one more

joined-append : (fs gs : List Fragment) → joined (fs ++ gs) ≡ joined fs ++ joined gs
joined-append fs gs = ap concat (map-append (λ (f : Fragment). f.bytes) fs gs)
    ∙ concat-append (map (λ (f : Fragment). f.bytes) fs) (map (λ (f : Fragment). f.bytes) gs)

joined-push : (first : List Fragment) (last : Fragment) → joined (first ++ last ∷ [])
    ≡ joined first ++ last.bytes
joined-push first last = joined-append first (last ∷ []) ∙ ap (λ (x : List ℕ). joined first ++ x)
    (append-nil last.bytes)

kept-more : (key : FragmentKey) (xs : List KeptFragment) (i : ℕ) (x : KeptFragment)
    → i < length xs → x ≡ get_or xs i x
    → map (kept key) (take (i + 1) xs) ≡ map (kept key) (take i xs) ++ kept key x ∷ []
kept-more key xs i x below is = ap (map (kept key)) (take_more xs i x below)
    ∙ map-append (kept key) (take i xs) (get_or xs i x ∷ [])
    ∙ ap (λ (y : KeptFragment). map (kept key) (take i xs) ++ kept key y ∷ []) (sym is)

pub joined-more : (key : FragmentKey) (xs : List KeptFragment) (i : ℕ) (x : KeptFragment)
    → i < length xs → x ≡ get_or xs i x
    → joined (map (kept key) (take (i + 1) xs))
    ≡ joined (map (kept key) (take i xs)) ++ x.bytes.items
joined-more key xs i x below is = ap joined (kept-more key xs i x below is)
    ∙ joined-push (map (kept key) (take i xs)) (kept key x)

pub size-more : (key : FragmentKey) (xs : List KeptFragment) (i : ℕ) (x : KeptFragment)
    → i < length xs → x ≡ get_or xs i x
    → length (joined (map (kept key) (take (i + 1) xs)))
    ≡ length (joined (map (kept key) (take i xs))) + length x.bytes.items
size-more key xs i x below is = ap length (joined-more key xs i x below is)
    ∙ length-append (joined (map (kept key) (take i xs))) x.bytes.items

pub front-more : (key : FragmentKey) (xs : List KeptFragment) (i : ℕ) (x : KeptFragment)
    → i < length xs → x ≡ get_or xs i x → AreFront (map (kept key) (take i xs)) true
    → x.offset ≡ length (joined (map (kept key) (take i xs)))
    → AreFront (map (kept key) (take (i + 1) xs)) x.more
front-more key xs i x below is front begins =
    AreFront.next (map (kept key) (take (i + 1) xs)) (map (kept key) (take i xs)) (kept key x)
    x.more
    front begins (kept-more key xs i x below is) refl

-- one fragment more among them
pub size-insert : (key : FragmentKey) (xs : List KeptFragment) (i : ℕ) (x : KeptFragment)
    → length (joined (map (kept key) (insert xs i x)))
    ≡ length (joined (map (kept key) xs)) + length x.bytes.items
size-insert key xs i x =
    let m = map (kept key) in
    let front = joined (m (take i xs)) in
    let rest = joined (m (drop i xs)) in
    let with : joined (m (insert xs i x)) ≡ front ++ (x.bytes.items ++ rest) =
    ap joined (map-append (kept key) (take i xs) (x ∷ drop i xs))
    ∙ joined-append (m (take i xs)) (kept key x ∷ m (drop i xs)) in
    let without : front ++ rest ≡ joined (m xs) = sym (joined-append (m (take i xs))
    (m (drop i xs)))
    ∙ ap joined (sym (map-append (kept key) (take i xs) (drop i xs)))
    ∙ ap (λ (ys : List KeptFragment). joined (m ys)) (take-append-drop i xs) in
    let size : length (joined (m xs)) ≡ length front + length rest = ap length (sym without)
    ∙ length-append front rest in
    ap length with ∙ length-append front (x.bytes.items ++ rest)
    ∙ ap (λ (n : ℕ). length front + n) (length-append x.bytes.items rest)
    ∙ omega (arith, size)

-- ---- all of a packet

pub is_joined : (fs : List Fragment) (key : FragmentKey) (xs : List KeptFragment) (x : KeptFragment)
    (checksum count : ℕ) (bytes : List ℕ)
    → All (λ k. Contains fs (kept key k)) xs → AreWhole (map (kept key) xs)
    → 0 < length xs → x ≡ get_or xs 0 x → count ≡ length xs
    → bytes ≡ ip_header key.addresses x.protocol (length (joined (map (kept key) xs))) checksum
    ++ joined (map (kept key) xs)
    → IsJoined fs bytes count
is_joined fs key [] x checksum count bytes all whole some first number is = absurd (omega arith)
is_joined fs key (y ∷ ys) x checksum count bytes all whole some first number is = record {
  first = kept key y;
  others = map (kept key) ys;
  known = All-map (Contains fs) (kept key) (y ∷ ys) all;
  number = number ∙ sym (length-map (y ∷ ys) (kept key));
  one = All-map (λ f. f.key ≡ key) (kept key) (y ∷ ys) (λ k d below. refl);
  whole = whole;
  checksum = checksum;
  is = subst (λ (z : KeptFragment). bytes ≡ ip_header key.addresses z.protocol
      (length (joined (map (kept key) (y ∷ ys)))) checksum ++ joined (map (kept key) (y ∷ ys)))
      first is;
}
