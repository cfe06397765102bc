-- What the first bytes say doesn't change with those that follow.
use Rattle.std.proofs.Common.{◌≡◌, ◌+◌, ◌≤◌, ◌%◌, ◌^◌, ℕ, List, ◌++◌, length, take, drop, Option, None, Some, option_map, refl, sym, ap, ◌∙◌, take-append-drop, arith}
use Rattle.std.proofs.lemmas.List.{take-append-le, drop-take, length-take-le}
use Rattle.std.specs.Int.{Width, w16, w32, byte_len, from_be_bytes, from_le_bytes}
use Rattle.std.specs.Io.{StartsWith}
use Rattle.dump_capture.specs.Number.{number_in}
use Rattle.dump_capture.specs.Pcap.{magic_format, header_of, file_header, captured_length}
use Rattle.dump_capture.specs.declared.pcap.ByteOrder.{ByteOrder}
use Rattle.dump_capture.specs.declared.pcap.ByteOrder.TheVariants.{BigEndian, LittleEndian}
use Rattle.dump_capture.specs.declared.pcap.PcapFormat.{PcapFormat}
use Rattle.dump_capture.specs.declared.pcap.FileHeader.{FileHeader}

pub part_front : (n m : ℕ) (x y : List ℕ) → n + m ≤ length x → take m (drop n (x ++ y))
    ≡ take m (drop n x)
part_front n m x y fits =
    sym (drop-take n m (x ++ y)) ∙ ap (drop n) (take-append-le (n + m) x y fits) ∙ drop-take n m x

pub number_front : (order : ByteOrder) (width : Width) (n : ℕ) (x y : List ℕ)
    → n + byte_len width ≤ length x
    → number_in order width (drop n (x ++ y)) ≡ number_in order width (drop n x)
number_front BigEndian width n x y fits =
    ap (from_be_bytes width) (part_front n (byte_len width) x y fits)
number_front LittleEndian width n x y fits =
    ap (from_le_bytes width) (part_front n (byte_len width) x y fits)

-- bytes that begin so
pub begun : (bytes held : List ℕ) → StartsWith bytes held
    → held ++ drop (length held) bytes ≡ bytes
begun bytes held starts = ap (λ (x : List ℕ). x ++ drop (length held) bytes) (sym starts)
    ∙ take-append-drop (length held) bytes

-- begin with the same
pub begun_take : (n : ℕ) (bytes held : List ℕ) → StartsWith bytes held → n ≤ length held
    → take n bytes ≡ take n held
begun_take n bytes held starts size = ap (take n) (sym (begun bytes held starts))
    ∙ take-append-le n held (drop (length held) bytes) size

-- ---- of pcap

pub captured_begun : (order : ByteOrder) (bytes held : List ℕ) → StartsWith bytes held
    → 16 ≤ length held → captured_length order bytes ≡ captured_length order held
captured_begun order bytes held starts size =
    ap (captured_length order) (sym (begun bytes held starts))
    ∙ number_front order w32 8 held (drop (length held) bytes) (omega arith)

pub magic_front : (x y : List ℕ) → 4 ≤ length x → magic_format (x ++ y) ≡ magic_format x
magic_front x y size = let front : take 4 (x ++ y)
    ≡ take 4 x = take-append-le 4 x y size in rw front refl

header_front : (f : PcapFormat) (x y : List ℕ) → 24 ≤ length x → header_of (x ++ y) f
    ≡ header_of x f
header_front f x y size =
    let major = number_front f.order w16 4 x y (omega arith) in
    let minor = number_front f.order w16 6 x y (omega arith) in
    let snapshot = number_front f.order w32 16 x y (omega arith) in
    let link = ap (λ (n : ℕ). n % 2 ^ 16) (number_front f.order w32 20 x y (omega arith)) in
    λ k. record {
      format = f;
      major_version = major k;
      minor_version = minor k;
      snapshot_length = snapshot k;
      link_type = link k;
    }

pub file_header_front : (x y : List ℕ) → 24 ≤ length x → file_header (x ++ y) ≡ file_header x
file_header_front x y size =
    ap (λ (m : Option PcapFormat). option_map (header_of (x ++ y)) m)
    (magic_front x y (omega arith)) ∙ by_format (magic_format x) where
      by_format : (m : Option PcapFormat) → option_map (header_of (x ++ y)) m
          ≡ option_map (header_of x) m
      by_format None = refl
      by_format (Some f) = ap (λ (h : FileHeader). Some h) (header_front f x y size)

-- the first 24 bytes say the same as all
pub file_header_taken : (x : List ℕ) → 24 ≤ length x → file_header (take 24 x) ≡ file_header x
file_header_taken x size =
    sym (file_header_front (take 24 x) (drop 24 x) (omega (arith, length-take-le 24 x size)))
    ∙ ap file_header (take-append-drop 24 x)
