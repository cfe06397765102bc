-- The blocks that are written, as bytes that one call after the other added, and as items that are
-- read.
use Rattle.std.proofs.Common.{◌≡◌, ◌+◌, ◌-◌, ◌*◌, ◌/◌, ◌%◌, ◌^◌, ◌<◌, ◌≤◌, ◌==◌, ℕ, pos, Bool, true, false, if◌then◌else◌, List, [], ◌∷◌, ◌++◌, Option, None, Some, length, take, drop, map, replicate, nat_lt, nat_le, refl, sym, ap, subst, ◌∙◌, append_assoc, append-nil, arith}
use Rattle.std.specs.Prelude.{slice_get, option_map}
use Rattle.std.specs.Int.{w16, w32}
use Rattle.std.proofs.Math.Nat.{div-add-mod}
use Rattle.std.proofs.lemmas.Bool.Decides.{nat_tests}
use Rattle.std.proofs.lemmas.List.{length-append, length-map, length-replicate, map-append, take_at, drop_at}
use Rattle.std.proofs.lemmas.Nat.{from_le_bytes-to_le_bytes_2, from_le_bytes-to_le_bytes_4}
use Rattle.std.proofs.lemmas.Option.{slice_get-map}
use Rattle.dump_capture.specs.Number.{number_in, one_more}
use Rattle.dump_capture.specs.Pcapng.{body_of, is_length, option_in}
use Rattle.dump_capture.specs.PcapngEvents.{State, before_blocks, interface_at, captured_event, packet_event, block_events, Item, End}
use Rattle.dump_capture.specs.PcapngFile.{Frame, words, block, section_block, interface_block, padded, direction_options, packet_body, packet_block, Fits, IsFile, nothing, section, interface, packet, frame_seen, frames_seen, flags_in, flags_of, links_of}
use Rattle.dump_capture.specs.Event.{Event, Saw}
use Rattle.dump_capture.specs.Decoding.{Items, none, more, Reads}
use Rattle.dump_capture.specs.declared.event.Part.TheVariants as part
use Rattle.dump_capture.specs.declared.event.Time.TheVariants.{Ticks}
use Rattle.dump_capture.specs.declared.line.Direction.{Direction}
use Rattle.dump_capture.specs.declared.line.Direction.TheVariants.{Incoming, Outgoing}
use Rattle.dump_capture.specs.declared.pcap.ByteOrder.{ByteOrder}
use Rattle.dump_capture.specs.declared.pcap.ByteOrder.TheVariants.{LittleEndian}
use Rattle.dump_capture.specs.declared.pcapng.BlockHeader.{BlockHeader}
use Rattle.dump_capture.specs.declared.pcapng.Interface.{Interface}
use Rattle.dump_capture.proofs.Options.{Option-short, Option-found}

-- ---- sizes

-- numbers of four bytes
words_size : (numbers : List ℕ) → length (words numbers) ≡ length numbers * 4
words_size [] = refl
words_size (n ∷ numbers) = let rest = words_size numbers in omega (arith, rest)

options_few : (d : Option Direction) → length (direction_options d) ≤ 3
options_few None = omega arith
options_few (Some Incoming) = omega arith
options_few (Some Outgoing) = omega arith

pad_whole : (n k : ℕ) → (32 + (n + (4 - n % 4) % 4) + k * 4) % 4 ≡ 0
pad_whole n k = omega arith

pad_fits : (n : ℕ) → n ≤ 262112 → n + (4 - n % 4) % 4 ≤ 262112
pad_fits n fits = omega arith

-- ---- bytes that were added

chain : (a b c d e s : List ℕ) → ((((a ++ b) ++ c) ++ d) ++ e) ++ s
    ≡ a ++ (b ++ (((c ++ d) ++ e) ++ s))
chain a b c d e s = simp append_assoc refl

pub packet_written : (old padding options : List ℕ) (i size : ℕ) (f : Frame)
    → padding ≡ replicate ((4 - length f.bytes % 4) % 4) 0
    → options ≡ direction_options f.direction
    → size ≡ length f.bytes + length padding + length options * 4 + 32
    → ((((old ++ words (6 ∷ size ∷ i ∷ (f.time / 2 ^ 32) ∷ (f.time % 2 ^ 32) ∷ length f.bytes
    ∷ f.original_length ∷ [])) ++ f.bytes) ++ padding) ++ words options) ++ words (size ∷ [])
    ≡ old ++ packet_block i f
packet_written old padding options i size f is are counts =
    chain old (words (6 ∷ size ∷ i ∷ (f.time / 2 ^ 32) ∷ (f.time % 2 ^ 32) ∷ length f.bytes
    ∷ f.original_length ∷ [])) f.bytes padding (words options) (words (size ∷ []))
    ∙ with_parts padding options is are counts where
      with_parts : (padding options : List ℕ)
          → padding ≡ replicate ((4 - length f.bytes % 4) % 4) 0
          → options ≡ direction_options f.direction
          → size ≡ length f.bytes + length padding + length options * 4 + 32
          → old ++ (words (6 ∷ size ∷ i ∷ (f.time / 2 ^ 32) ∷ (f.time % 2 ^ 32) ∷ length f.bytes
          ∷ f.original_length ∷ []) ++ (((f.bytes ++ padding) ++ words options)
          ++ words (size ∷ []))) ≡ old ++ packet_block i f
      with_parts padding options is are counts =
          let body = words (i ∷ (f.time / 2 ^ 32) ∷ (f.time % 2 ^ 32) ∷ length f.bytes
          ∷ f.original_length ∷ []) ++ ((f.bytes ++ padding) ++ words options) in
          let total : size ≡ 12 + length body =
          omega (
            arith,
            counts,
            length-append (f.bytes ++ padding) (words options),
            length-append f.bytes padding,
            words_size options,
          ) in
          ap (λ (k : ℕ). old ++ (words (6 ∷ k ∷ []) ++ (body ++ words (k ∷ [])))) total
          ∙ ap (λ (p : List ℕ). old ++ block 6 (words (i ∷ (f.time / 2 ^ 32) ∷ (f.time % 2 ^ 32)
          ∷ length f.bytes ∷ f.original_length ∷ []) ++ ((f.bytes ++ p) ++ words options))) is
          ∙ ap (λ (o : List ℕ). old ++ block 6 (words (i ∷ (f.time / 2 ^ 32) ∷ (f.time % 2 ^ 32)
          ∷ length f.bytes ∷ f.original_length ∷ []) ++ (padded f.bytes ++ words o))) are

-- ---- a section and an interface

abbrev interface_to : ℕ → Option Interface
interface_to link =
    Some (record { link_type = link; snapshot_length = 0; resolution = 9; offset = pos 0 })

-- what the decoder knows after a file whose next packet has this number
abbrev order_of : Option (List ℕ) → Option ByteOrder
order_of None = None
order_of (Some links) = Some LittleEndian

abbrev interfaces_of : Option (List ℕ) → List (Option Interface)
interfaces_of None = []
interfaces_of (Some links) = map interface_to links

abbrev known : Option (List ℕ) → ℕ → State
known links number =
    record { order = order_of links; interfaces = interfaces_of links; number = number }

abbrev header : ℕ → ℕ → BlockHeader
header type total =
    record { order = LittleEndian; block_type = type; total_length = total }

section_item : (s : State) → Item s section_block [] (known (Some []) s.number)
section_item s = (
  header 0x0a0d0d0a 28,
  record { size = omega arith; header = refl; whole = omega arith },
  refl,
  refl,
  refl,
)

link_again : (link : ℕ) → link < 2 ^ 16
    → number_in LittleEndian w16 (drop 8 (interface_block link)) ≡ link
link_again link fits = from_le_bytes-to_le_bytes_2 link fits

interface_item : (links : List ℕ) (link number : ℕ) → length links < 1024 → link < 2 ^ 16
    → Item (known (Some links) number) (interface_block link) []
    (known (Some (links ++ link ∷ [])) number)
unfolding option_in
interface_item links link number room fits =
    let again = link_again link fits in
    let few : nat_lt (length (map interface_to links)) 1024 ≡ true =
    grind (arith, nat_tests, length-map links interface_to) in
    let more : map interface_to (links ++ link ∷ [])
    ≡ map interface_to links ++ interface_to link ∷ [] = map-append interface_to links (link ∷ []) in (
      header 1 32,
      record { size = omega arith; header = refl; whole = omega arith },
      refl,
      refl,
      rw (few, again, more) refl,
    )

-- ---- a packet

total_again : (body : List ℕ) → 12 + length body < 2 ^ 32
    → number_in LittleEndian w32 (drop 4 (block 6 body)) ≡ 12 + length body
total_again body fits = from_le_bytes-to_le_bytes_4 (12 + length body) fits

header_again : (n total : ℕ) → total ≡ n → 12 ≤ n → n % 4 ≡ 0
    → (if is_length total then Some (header 6 total) else None) ≡ Some (header 6 n)
header_again n total is least whole =
    ap (λ (k : ℕ). if is_length k then Some (header 6 k) else None) is
    ∙ (let enough : nat_le 12 n ≡ true = grind (arith, nat_tests) in
    let words : (n % 4 == 0) ≡ true = grind (arith, nat_tests) in rw (enough, words) refl)

block_size : (body : List ℕ) → length (block 6 body) ≡ 12 + length body
block_size body =
    omega (arith, length-append body (words ((12 + length body) ∷ [])))

body_again : (body : List ℕ) → body_of (header 6 (12 + length body)) (block 6 body) ≡ body
body_again body =
    take_at body (words ((12 + length body) ∷ [])) (12 + length body - 12) (omega arith)

packet_events : (interfaces : List (Option Interface)) (number : ℕ) (body : List ℕ) (e : Event)
    → length body ≤ 262144
    → packet_event number LittleEndian body
    (interface_at interfaces (number_in LittleEndian w32 body)) ≡ e
    → e ∷ [] ≡ block_events interfaces number (header 6 (12 + length body)) body
packet_events interfaces number body e few is =
    let short : nat_lt 262144 (length body) ≡ false = grind (arith, nat_tests) in
    rw short (ap (λ (x : Event). x ∷ []) (sym is))

packet_item : (links : List ℕ) (number : ℕ) (body : List ℕ) (e : Event)
    → (12 + length body) % 4 ≡ 0 → length body ≤ 262144
    → packet_event number LittleEndian body
    (interface_at (map interface_to links) (number_in LittleEndian w32 body)) ≡ e
    → Item (known (Some links) number) (block 6 body) (e ∷ [])
    (known (Some links) (one_more number))
packet_item links number body e whole few is =
    let n = 12 + length body in
    let size = block_size body in (
      header 6 n,
      record {
        size = omega (arith, size);
        header = header_again n _ (total_again body (omega arith)) (omega arith) whole;
        whole = omega (arith, size);
      },
      size,
      packet_events (map interface_to links) number body e few is
          ∙ ap (λ (x : List ℕ). block_events (map interface_to links) number (header 6 n) x)
          (sym (body_again body)),
      refl,
    )

-- what is read of the body
fields_read : (number : ℕ) (body : List ℕ) (i : Option Interface) → 20 ≤ length body
    → number_in LittleEndian w32 (drop 12 body) ≤ length (drop 20 body)
    → packet_event number LittleEndian body i ≡ captured_event number LittleEndian body i
fields_read number body i size whole =
    let long : nat_lt (length body) 20 ≡ false = grind (arith, nat_tests) in
    let enough : nat_lt (length (drop 20 body)) (number_in LittleEndian w32 (drop 12 body))
    ≡ false = grind (arith, nat_tests) in rw (long, enough) refl

event_is : (number link t u o p : ℕ) (b c : List ℕ) → t ≡ u → o ≡ p → b ≡ c
    → Saw (record {
      number = number;
      time = Ticks t 9 (pos 0);
      part = part.Record;
      place = number;
    }) link o b
    ≡ Saw (record {
      number = number;
      time = Ticks u 9 (pos 0);
      part = part.Record;
      place = number;
    }) link p c
event_is number link t u o p b c times originals bytes = λ k. Saw (record {
  number = number;
  time = Ticks (times k) 9 (pos 0);
  part = part.Record;
  place = number;
}) link (originals k) (bytes k)

abbrev body : ℕ → ℕ → ℕ → ℕ → List ℕ → List ℕ → List ℕ
body i high low original bytes rest =
    words (i ∷ high ∷ low ∷ length bytes ∷ original ∷ []) ++ (bytes ++ rest)

interface_found : (links : List ℕ) (i link : ℕ) → slice_get links i ≡ Some link
    → interface_at (map interface_to links) i ≡ interface_to link
interface_found links i link is =
    let found : slice_get (map interface_to links) i ≡ Some (interface_to link) =
    slice_get-map interface_to links i ∙ ap (λ (x : Option ℕ). option_map interface_to x) is in
    rw found refl

packet_read : (links : List ℕ) (number i time original link : ℕ) (bytes rest : List ℕ)
    → slice_get links i ≡ Some link → i < 2 ^ 32 → time < 2 ^ 64 → original < 2 ^ 32
    → length bytes < 2 ^ 32
    → packet_event number LittleEndian
    (body i (time / 2 ^ 32) (time % 2 ^ 32) original bytes rest)
    (interface_at (map interface_to links) (number_in LittleEndian w32
    (body i (time / 2 ^ 32) (time % 2 ^ 32) original bytes rest)))
    ≡ Saw (record {
      number = number;
      time = Ticks time 9 (pos 0);
      part = part.Record;
      place = number;
    }) link original bytes
packet_read links number i time original link bytes rest is is_i is_time is_original few =
    let high = time / 2 ^ 32 in
    let low = time % 2 ^ 32 in
    let all = body i high low original bytes rest in
    let interface : number_in LittleEndian w32 all ≡ i = from_le_bytes-to_le_bytes_4 i is_i in
    let first : number_in LittleEndian w32 (drop 4 all) ≡ high =
    from_le_bytes-to_le_bytes_4 high (omega arith) in
    let second : number_in LittleEndian w32 (drop 8 all) ≡ low =
    from_le_bytes-to_le_bytes_4 low (omega arith) in
    let captured : number_in LittleEndian w32 (drop 12 all) ≡ length bytes =
    from_le_bytes-to_le_bytes_4 (length bytes) few in
    let whole : number_in LittleEndian w32 (drop 16 all) ≡ original =
    from_le_bytes-to_le_bytes_4 original is_original in
    let size = length-append bytes rest in
    ap (λ (k : ℕ). packet_event number LittleEndian all (interface_at (map interface_to links) k))
    interface
    ∙ ap (λ (x : Option Interface). packet_event number LittleEndian all x)
    (interface_found links i link is)
    ∙ fields_read number all (interface_to link) (omega arith) (omega (arith, captured, size))
    ∙ event_is number link _ time _ original _ bytes
    (ap (λ (k : ℕ). k * 2 ^ 32 + number_in LittleEndian w32 (drop 8 all)) first
    ∙ ap (λ (k : ℕ). high * 2 ^ 32 + k) second
    ∙ omega (arith, div-add-mod time (2 ^ 32)))
    whole
    (ap (λ (k : ℕ). take k (bytes ++ rest)) captured ∙ take_at bytes rest (length bytes) refl)

frame_item : (links : List ℕ) (number i : ℕ) (f : Frame) → slice_get links i ≡ Some f.link_type
    → i < 2 ^ 32 → Fits f
    → Item (known (Some links) number) (packet_block i f) (frame_seen number f ∷ [])
    (known (Some links) (one_more number))
frame_item links number i f is is_i fits =
    let captured = fits.captured in
    let zeros : List ℕ = replicate ((4 - length f.bytes % 4) % 4) 0 in
    let options = words (direction_options f.direction) in
    let parts : body i (f.time / 2 ^ 32) (f.time % 2 ^ 32) f.original_length f.bytes
    (zeros ++ options) ≡ words (i ∷ (f.time / 2 ^ 32) ∷ (f.time % 2 ^ 32) ∷ length f.bytes
    ∷ f.original_length ∷ []) ++ (padded f.bytes ++ options) =
    ap (λ (x : List ℕ). words (i ∷ (f.time / 2 ^ 32) ∷ (f.time % 2 ^ 32) ∷ length f.bytes
    ∷ f.original_length ∷ []) ++ x) (sym (append_assoc f.bytes zeros options)) in
    let size : length (zeros ++ options)
    ≡ (4 - length f.bytes % 4) % 4 + length (direction_options f.direction) * 4 =
    omega (
      arith,
      length-append zeros options,
      words_size (direction_options f.direction),
      length-replicate {A = ℕ} ((4 - length f.bytes % 4) % 4) 0,
    ) in
    let long = length-append f.bytes (zeros ++ options) in
    subst (λ (b : List ℕ). Item (known (Some links) number) (block 6 b)
    (frame_seen number f ∷ []) (known (Some links) (one_more number))) parts
    (packet_item links number (body i (f.time / 2 ^ 32) (f.time % 2 ^ 32) f.original_length f.bytes
    (zeros ++ options)) (frame_seen number f)
    (omega (
      arith,
      size,
      long,
      pad_whole (length f.bytes) (length (direction_options f.direction)),
    ))
    (omega (
      arith,
      size,
      long,
      pad_fits (length f.bytes) captured,
      options_few f.direction,
    ))
    (packet_read links number i f.time f.original_length f.link_type f.bytes (zeros ++ options)
    is is_i fits.time fits.original (omega (arith, captured))))

-- ---- a file

abbrev number_after : ℕ → List Frame → ℕ
number_after number [] = number
number_after number (f ∷ frames) = number_after (one_more number) frames

number_next : (number : ℕ) (frames : List Frame) (f : Frame)
    → number_after number (frames ++ f ∷ []) ≡ one_more (number_after number frames)
number_next number [] f = refl
number_next number (g ∷ frames) f = number_next (one_more number) frames f

seen_next : (number : ℕ) (frames : List Frame) (f : Frame)
    → frames_seen number (frames ++ f ∷ [])
    ≡ frames_seen number frames ++ frame_seen (number_after number frames) f ∷ []
seen_next number [] f = refl
seen_next number (g ∷ frames) f =
    ap (λ (x : List Event). frame_seen number g ∷ x) (seen_next (one_more number) frames f)

items_of : (bytes : List ℕ) (frames : List Frame) (links : Option (List ℕ))
    → IsFile bytes frames links
    → Items Item before_blocks bytes (frames_seen 1 frames)
    (known links (number_after 1 frames))
items_of _ _ _ (nothing bytes frames no_bytes no_frames) =
    none before_blocks (known None (number_after 1 frames)) bytes (frames_seen 1 frames) no_bytes
    (ap (frames_seen 1) no_frames)
    (ap (λ (x : List Frame). known None (number_after 1 x)) no_frames)
items_of _ _ _ (section bytes front frames before file is) =
    more before_blocks (known before (number_after 1 frames))
    (known (Some []) (number_after 1 frames)) bytes front section_block (frames_seen 1 frames)
    (frames_seen 1 frames) [] (items_of front frames before file)
    (section_item (known before (number_after 1 frames))) is
    (sym (append-nil (frames_seen 1 frames)))
items_of _ _ _ (interface bytes front links frames link file room fits is) =
    more before_blocks (known (Some links) (number_after 1 frames))
    (known (Some (links ++ link ∷ [])) (number_after 1 frames)) bytes front (interface_block link)
    (frames_seen 1 frames) (frames_seen 1 frames) []
    (items_of front frames (Some links) file)
    (interface_item links link (number_after 1 frames) room fits) is
    (sym (append-nil (frames_seen 1 frames)))
items_of _ _ _ (packet bytes front links frames first f i file place is_i fits is are) =
    let number = number_after 1 first in
    more before_blocks (known (Some links) number) (known (Some links) (number_after 1 frames))
    bytes front (packet_block i f) (frames_seen 1 frames) (frames_seen 1 first)
    (frame_seen number f ∷ []) (items_of front first (Some links) file)
    (subst (λ (k : ℕ). Item (known (Some links) number) (packet_block i f)
    (frame_seen number f ∷ []) (known (Some links) k))
    (sym (ap (number_after 1) are ∙ number_next 1 first f))
    (frame_item links number i f place is_i fits)) is
    (ap (frames_seen 1) are ∙ seen_next 1 first f)

pub file_reads : (bytes links : List ℕ) (frames : List Frame) → IsFile bytes frames (Some links)
    → Reads Item End before_blocks bytes (frames_seen 1 frames) None
file_reads bytes links frames file = record {
  front = bytes;
  rest = [];
  first = frames_seen 1 frames;
  last = [];
  after = known (Some links) (number_after 1 frames);
  items = items_of bytes frames (Some links) file;
  end = (λ h begins. (let size = begins.size in omega (arith, size)), refl, refl);
  split = sym (append-nil bytes);
  whole = sym (append-nil (frames_seen 1 frames));
}

-- ---- directions

flags_found : (d : Option Direction) (m : ℕ) → 1 ≤ m
    → option_in m LittleEndian 2 4 (words (direction_options d)) ≡ flags_of d
flags_found None m some = Option-short m LittleEndian 2 4 [] (omega arith)
flags_found (Some Incoming) m some =
    Option-found m (m - 1) LittleEndian 2 4 (words (direction_options (Some Incoming)))
    (omega arith) (omega arith) (λ e. omega (arith, e)) refl
flags_found (Some Outgoing) m some =
    Option-found m (m - 1) LittleEndian 2 4 (words (direction_options (Some Outgoing)))
    (omega arith) (omega arith) (λ e. omega (arith, e)) refl

pad_ends : (n : ℕ) → (n + 3) / 4 * 4 ≡ n + (4 - n % 4) % 4
pad_ends n = omega arith

pub direction_read : (i : ℕ) (f : Frame) → Fits f
    → flags_in LittleEndian (packet_body i f) ≡ flags_of f.direction
direction_read i f fits =
    let captured = fits.captured in
    let zeros : List ℕ = replicate ((4 - length f.bytes % 4) % 4) 0 in
    let options = words (direction_options f.direction) in
    let front = words (i ∷ (f.time / 2 ^ 32) ∷ (f.time % 2 ^ 32) ∷ length f.bytes
    ∷ f.original_length ∷ []) ++ padded f.bytes in
    let all = packet_body i f in
    let again : number_in LittleEndian w32 (drop 12 all) ≡ length f.bytes =
    from_le_bytes-to_le_bytes_4 (length f.bytes) (omega (arith, captured)) in
    let ends : length front ≡ 20 + (length f.bytes + 3) / 4 * 4 =
    omega (
      arith,
      length-append f.bytes zeros,
      pad_ends (length f.bytes),
      length-replicate {A = ℕ} ((4 - length f.bytes % 4) % 4) 0,
    ) in
    ap (λ (k : ℕ). option_in (length all) LittleEndian 2 4 (drop (20 + (k + 3) / 4 * 4) all)) again
    ∙ ap (λ (x : List ℕ). option_in (length all) LittleEndian 2 4 x)
    (drop_at front options (20 + (length f.bytes + 3) / 4 * 4) ends)
    ∙ flags_found f.direction (length all) (omega arith)

-- ---- what is added to a file

pub same_file : (bytes : List ℕ) (frames : List Frame) (links : Option (List ℕ))
    → IsFile bytes frames links → IsFile bytes (frames ++ []) links
same_file bytes frames links file =
    subst (λ (x : List Frame). IsFile bytes x links) (sym (append-nil frames)) file

pub plain_file : (bytes : List ℕ) (frames : List Frame) (links : Option (List ℕ))
    → IsFile bytes (frames ++ []) links → IsFile bytes frames links
plain_file bytes frames links file =
    subst (λ (x : List Frame). IsFile bytes x links) (append-nil frames) file

after_bytes : (before old new last : List ℕ) → new ≡ old ++ last
    → before ++ new ≡ (before ++ old) ++ last
after_bytes before old new last are =
    ap (λ (x : List ℕ). before ++ x) are ∙ sym (append_assoc before old last)

begun_links : (begun : Bool) (links : List ℕ) → begun ≡ true → links_of begun links ≡ Some links
begun_links begun links is = ap (λ (b : Bool). links_of b links) is

pub added_section : (before old new links : List ℕ) (frames : List Frame)
    (was : Option (List ℕ)) (begun : Bool)
    → IsFile (before ++ old) frames was → new ≡ old ++ section_block → begun ≡ true → links ≡ []
    → IsFile (before ++ new) (frames ++ []) (links_of begun links)
added_section before old new links frames was begun file are is no_links =
    same_file (before ++ new) frames (links_of begun links)
    (subst (λ (x : Option (List ℕ)). IsFile (before ++ new) frames x)
    (sym (begun_links begun links is ∙ ap (λ (x : List ℕ). Some x) no_links))
    (section (before ++ new) (before ++ old) frames was file
    (after_bytes before old new section_block are)))

pub added_interface : (before old new links now : List ℕ) (frames : List Frame) (link : ℕ)
    (begun still : Bool) → IsFile (before ++ old) frames (links_of begun links) → begun ≡ true
    → still ≡ true → length links < 1024 → link < 2 ^ 16 → now ≡ links ++ link ∷ []
    → new ≡ old ++ interface_block link
    → IsFile (before ++ new) (frames ++ []) (links_of still now)
added_interface before old new links now frames link begun still file is stays room fits is_now
    are =
    same_file (before ++ new) frames (links_of still now)
    (subst (λ (x : Option (List ℕ)). IsFile (before ++ new) frames x)
    (sym (begun_links still now stays ∙ ap (λ (x : List ℕ). Some x) is_now))
    (interface (before ++ new) (before ++ old) links frames link
    (subst (λ (x : Option (List ℕ)). IsFile (before ++ old) frames x) (begun_links begun links is)
    file) room fits (after_bytes before old new (interface_block link) are)))

pub added_packet : (before old new links : List ℕ) (frames : List Frame) (f : Frame) (i : ℕ)
    (begun : Bool) → IsFile (before ++ old) frames (links_of begun links) → begun ≡ true
    → slice_get links i ≡ Some f.link_type → i < 2 ^ 32 → Fits f → new ≡ old ++ packet_block i f
    → IsFile (before ++ new) (frames ++ f ∷ []) (links_of begun links)
added_packet before old new links frames f i begun file is place is_i fits are =
    let as_begun = begun_links begun links is in
    subst (λ (x : Option (List ℕ)). IsFile (before ++ new) (frames ++ f ∷ []) x) (sym as_begun)
    (packet (before ++ new) (before ++ old) links (frames ++ f ∷ []) frames f i
    (subst (λ (x : Option (List ℕ)). IsFile (before ++ old) frames x) as_begun file) place is_i
    fits (after_bytes before old new (packet_block i f) are) refl)
