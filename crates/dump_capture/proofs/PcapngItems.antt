-- The items of a pcapng file, by the bytes in memory.
use Rattle.std.proofs.Common.{◌≡◌, ◌-◌, ◌≤◌, ◌<◌, ◌==◌, ◌⊎◌, inl, inr, ℕ, Bool, true, false, not, if◌then◌else◌, List, [], ◌++◌, Option, None, Some, length, take, drop, nat_eq, nat_lt, refl, sym, ap, ◌∙◌, append-nil, take-append-drop, arith}
use Rattle.std.proofs.lemmas.Bool.{cases_lt}
use Rattle.std.proofs.lemmas.Bool.Decides.{nat_tests}
use Rattle.std.proofs.lemmas.List.{length-append, length-take, length-take-le, length-drop, take-append-le}
use Rattle.std.specs.Int.{w32}
use Rattle.std.specs.List.{starts_with}
use Rattle.std.specs.Io.{StartsWith}
use Rattle.dump_capture.specs.Pcap.{section_header}
use Rattle.dump_capture.specs.Pcapng.{magic_order, block_order, header_by, block_header, body_of}
use Rattle.dump_capture.specs.Decoding.{Passes}
use Rattle.dump_capture.specs.PcapngEvents.{State, long_events, block_events, after_block, begins_otherwise, end_fault, end_events, Item, End}
use Rattle.dump_capture.specs.declared.pcap.ByteOrder.{ByteOrder}
use Rattle.dump_capture.specs.declared.pcapng.BlockHeader.{BlockHeader}
use Rattle.dump_capture.specs.declared.decoder.Extent.TheVariants as extent
use Rattle.dump_capture.specs.declared.decoder.Fault.TheVariants.{NotCapture, Block}
use Rattle.dump_capture.proofs.Fronts.{part_front, number_front, begun}

-- ---- the first bytes

section_front : (x y : List ℕ) → 4 ≤ length x → starts_with nat_eq (x ++ y) section_header
    ≡ starts_with nat_eq x section_header
section_front x y size = let front : take 4 (x ++ y)
    ≡ take 4 x = take-append-le 4 x y size in rw front refl

magic_front : (x y : List ℕ) → 12 ≤ length x → magic_order (drop 8 (x ++ y))
    ≡ magic_order (drop 8 x)
magic_front x y size = let front : take 4 (drop 8 (x ++ y))
    ≡ take 4 (drop 8 x) = part_front 8 4 x y (omega arith) in rw front refl

header_front : (order : Option ByteOrder) (x y : List ℕ) → 12 ≤ length x
    → header_by order (x ++ y) ≡ header_by order x
header_front None x y size = refl
header_front (Some order) x y size =
    let type = number_front order w32 0 x y (omega arith) in
    let total = number_front order w32 4 x y (omega arith) in rw (type, total) refl

order_front : (order : Option ByteOrder) (x y : List ℕ) → 12 ≤ length x
    → block_order order (x ++ y) ≡ block_order order x
order_front order x y size =
    ap (λ (b : Bool). if b then magic_order (drop 8 (x ++ y)) else order)
    (section_front x y (omega arith))
    ∙ ap (λ (m : Option ByteOrder). if starts_with nat_eq x section_header then m else order)
    (magic_front x y size)

-- the first 12 bytes say the same as all
pub block_front : (order : Option ByteOrder) (x y : List ℕ) → 12 ≤ length x
    → block_header order (x ++ y) ≡ block_header order x
block_front order x y size =
    ap (λ (o : Option ByteOrder). header_by o (x ++ y)) (order_front order x y size)
    ∙ header_front (block_order order x) x y size

block_taken : (order : Option ByteOrder) (n : ℕ) (held : List ℕ) → 12 ≤ n → n ≤ length held
    → block_header order (take n held) ≡ block_header order held
block_taken order n held least size =
    sym (block_front order (take n held) (drop n held) (omega (arith, length-take-le n held size)))
    ∙ ap (λ (x : List ℕ). block_header order x) (take-append-drop n held)

block_begun : (order : Option ByteOrder) (bytes held : List ℕ) → StartsWith bytes held
    → 12 ≤ length held → block_header order bytes ≡ block_header order held
block_begun order bytes held starts size =
    ap (λ (x : List ℕ). block_header order x) (sym (begun bytes held starts))
    ∙ block_front order held (drop (length held) bytes) size

body_taken : (h : BlockHeader) (held : List ℕ) → 12 ≤ h.total_length → h.total_length ≤ length held
    → body_of h (take h.total_length held) ≡ body_of h held
body_taken h held least size =
    let n = h.total_length in
    sym (part_front 8 (n - 12) (take n held) (drop n held)
    (omega (arith, length-take-le n held size)))
    ∙ ap (λ (x : List ℕ). body_of h x) (take-append-drop n held)

-- ---- no block

no_header : (order : Option ByteOrder) (bytes : List ℕ) → begins_otherwise order bytes ≡ true
    → block_header order bytes ≡ None
no_header None bytes is = by_test (starts_with nat_eq bytes section_header) is where
  by_test : (b : Bool) → not b ≡ true
      → header_by (if b then magic_order (drop 8 bytes) else None) bytes ≡ None
  by_test false is = refl
  by_test true is = cc
no_header (Some order) bytes is = cc

-- with a header it is no other beginning
begins_so : (order : Option ByteOrder) (bytes : List ℕ) (h : BlockHeader)
    → block_header order bytes ≡ Some h → begins_otherwise order bytes ≡ false
begins_so order bytes h is = by_test (begins_otherwise order bytes) refl where
  by_test : (b : Bool) → begins_otherwise order bytes ≡ b → begins_otherwise order bytes ≡ false
  by_test false same = same
  by_test true same =
      absurd (let none : block_header order bytes ≡ None = no_header order bytes same in cc)

otherwise_front : (order : Option ByteOrder) (held rest : List ℕ)
    → (length held < 12 → rest ≡ [])
    → begins_otherwise order (held ++ rest) ≡ begins_otherwise order held
otherwise_front order held rest all = by_size order (cases_lt (length held) 12) where
  by_size : (o : Option ByteOrder) → (length held < 12) ⊎ (12 ≤ length held)
      → begins_otherwise o (held ++ rest) ≡ begins_otherwise o held
  by_size o (inl short) =
      ap (λ (x : List ℕ). begins_otherwise o (held ++ x)) (all short)
      ∙ ap (λ (x : List ℕ). begins_otherwise o x) (append-nil held)
  by_size None (inr long) = ap not (section_front held rest (omega arith))
  by_size (Some order) (inr long) = refl

pub End-otherwise : (s : State) (held rest : List ℕ) → (length held < 12 → rest ≡ [])
    → begins_otherwise s.order held ≡ true
    → End s (held ++ rest) [] (Some NotCapture)
End-otherwise s held rest all is =
    let same : begins_otherwise s.order (held ++ rest) ≡ true =
    otherwise_front s.order held rest all ∙ is in
    let none : block_header s.order (held ++ rest) ≡ None =
    no_header s.order (held ++ rest) same in (
      λ h begins. (let some = begins.header in cc),
      rw same refl,
      rw same refl,
    )

pub End-block : (s : State) (held rest : List ℕ) → 12 ≤ length held
    → begins_otherwise s.order held ≡ false → block_header s.order held ≡ None
    → End s (held ++ rest) [] (Some Block)
End-block s held rest size is none =
    let bytes = held ++ rest in
    let same : begins_otherwise s.order bytes ≡ false =
    otherwise_front s.order held rest (λ short. absurd (omega arith)) ∙ is in
    let no : block_header s.order bytes ≡ None = block_front s.order held rest size ∙ none in
    let long : (length bytes == 0) ≡ false =
    grind (arith, nat_tests, length-append held rest) in
    let enough : nat_lt (length bytes) 12 ≡ false =
    grind (arith, nat_tests, length-append held rest) in (
      λ h begins. (let some = begins.header in cc),
      rw (same, long, enough, no) refl,
      rw (same, enough, no) refl,
    )

-- ---- a block

-- a whole block is in memory
pub Item-held : (s t : State) (h : BlockHeader) (held : List ℕ) → 12 ≤ length held
    → 12 ≤ h.total_length → block_header s.order held ≡ Some h → h.total_length ≤ length held
    → t ≡ after_block s h (body_of h held)
    → Item s (take h.total_length held)
    (block_events s.interfaces s.number h (body_of h held)) t
Item-held s t h held size least is enough after =
    let n = h.total_length in
    let taken : length (take n held) ≡ n = length-take-le n held enough in
    let same = body_taken h held least enough in (
      h,
      record {
        size = omega arith;
        header = block_taken s.order n held least enough ∙ is;
        whole = omega arith;
      },
      taken,
      ap (λ (x : List ℕ). block_events s.interfaces s.number h x) (sym same),
      after ∙ ap (λ (x : List ℕ). after_block s h x) (sym same),
    )

long_block : (s : State) (h : BlockHeader) (body : List ℕ) → 262144 < length body
    → long_events s.number ≡ block_events s.interfaces s.number h body
long_block s h body long =
    let past : nat_lt 262144 (length body) ≡ true = grind (arith, nat_tests) in rw past refl

long_after : (s : State) (h : BlockHeader) (body : List ℕ) → 262144 < length body
    → after_block s h [] ≡ after_block s h body
long_after s h body long =
    let past : nat_lt 262144 (length body) ≡ true = grind (arith, nat_tests) in
    let some : nat_lt (length body) 8 ≡ false = grind (arith, nat_tests) in rw (some, past) refl

-- a block begins in memory that is too long, and goes on after it
pub Passes-long : (s t : State) (h : BlockHeader) (held : List ℕ) → 12 ≤ length held
    → block_header s.order held ≡ Some h → length held < h.total_length
    → 262144 < h.total_length - 12 → t ≡ after_block s h []
    → Passes Item End s held (extent.Bytes h.total_length) (long_events s.number) t
Passes-long s t h held size is short long after = (
  short,
  λ bytes all starts. (
      let room : length (body_of h bytes) ≡ h.total_length - 12 =
      omega (arith, length-take (h.total_length - 12) (drop 8 bytes), length-drop 8 bytes) in (
        h,
        record {
          size = omega arith;
          header = header_of bytes starts;
          whole = omega arith;
        },
        all,
        long_block s h (body_of h bytes) (omega arith),
        after ∙ long_after s h (body_of h bytes) (omega arith),
      )
      ),
  λ bytes cut starts. (
    λ other begins. (let some = begins.header in let whole = begins.whole in
        let same = header_of bytes starts in
        let equal : other ≡ h = cc in
        omega (arith, whole, ap (λ (x : BlockHeader). x.total_length) equal)),
    cut_events bytes starts,
    cut_fault bytes starts,
  ),
) where
  header_of : (bytes : List ℕ) → StartsWith bytes held → block_header s.order bytes ≡ Some h
  header_of bytes starts = block_begun s.order bytes held starts size ∙ is

  at_least : (bytes : List ℕ) → StartsWith bytes held → 12 ≤ length bytes
  at_least bytes starts = omega (arith, ap length starts, length-take (length held) bytes)

  cut_events : (bytes : List ℕ) → StartsWith bytes held
      → long_events s.number ≡ end_events s bytes
  cut_events bytes starts =
      let least = at_least bytes starts in
      let so = begins_so s.order bytes h (header_of bytes starts) in
      let some : (length bytes == 0) ≡ false = grind (arith, nat_tests) in
      let enough : nat_lt (length bytes) 12 ≡ false = grind (arith, nat_tests) in
      let past : nat_lt 262144 (h.total_length - 12) ≡ true = grind (arith, nat_tests) in
      let same = header_of bytes starts in
      rw (so, some, enough, same, past) refl

  cut_fault : (bytes : List ℕ) → StartsWith bytes held → None ≡ end_fault s.order bytes
  cut_fault bytes starts =
      let least = at_least bytes starts in
      let so = begins_so s.order bytes h (header_of bytes starts) in
      let enough : nat_lt (length bytes) 12 ≡ false = grind (arith, nat_tests) in
      let same = header_of bytes starts in
      rw (so, enough, same) refl
