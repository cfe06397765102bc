-- What holds of every packet that is read, and of what is read after others.
use Rattle.std.{proofs.Common.{◌≡◌, ℕ, ◌+◌, ◌-◌, ◌/◌, ◌%◌, ◌≤◌, List, [], ◌∷◌, ◌++◌, length, Result, Ok, Err, refl, sym, ap, subst, ◌∙◌, arith, IfOk, length-drop, inl, inr}, specs.List.{AllByRecursion}, proofs.lemmas.List.{drop-append-le}}
use Rattle.dcsctp_tlv.{specs.Fault.{Fault}, specs.Frame.{Item, lenient, any_padding, round_up_to_4}, specs.Level.{MeansTrees, HasFault}, specs.Image.{IsEncodable, list_size}, proofs.ReadsBack.{each_encodable}, proofs.Forms.{list_formed, nil_means}, proofs.Accounts.{SameSpace, list_account, items_kept}, proofs.Decided.{splits_one_way}, proofs.Counts.{list_count}, proofs.Local.{local_means, local_fault}, specs.Reading.{Answers}}
use Rattle.dcsctp_cause.{specs.Cause.{HasOwnText}, proofs.CauseLaws.{texts_kept}}
use Rattle.dcsctp_wire.{specs.declared.packet.sctp_packet.ChecksumPolicy.{ChecksumPolicy}, specs.declared.packet.sctp_packet.PacketParseError.{PacketParseError}, specs.declared.packet.sctp_packet.SctpPacket.{SctpPacket}, specs.Chunk.{ChunkTree, Abort, Error, ForwardTsn, IForwardTsn, chunks, chunk_row, tlv as chunk_tlv, IsPlaced, IsChunkEncodable, IsWellFormed as IsChunkWellFormed, parts as chunk_parts}, specs.Packet.{PacketTree, HasPacketSize, body, IsOpened, MeansPacket, Chunk, packet_with, Placed, Answer, packet_view, packet_reading}, specs.Canonical.{padded_size}, specs.WellFormed.{IsWellFormed}, specs.Abort.{Tree as AbortTree}, specs.Account.{AreTextsKept, HasOwnTexts, KeepsTexts, KeepsSize, node_count}, proofs.ChunkRows.{chunks_form, chunks_account, chunks_count}, proofs.Canonicals.{padded_size-is}, proofs.Lenient.{lenient_packet}}

length-body : (bytes : List ℕ) → length (body bytes) ≡ length bytes - 12
length-body bytes = length-drop 12 bytes

-- ---- what was read is well-formed

pub packet_formed : (bytes : List ℕ) (p : PacketTree) → HasPacketSize bytes
    → MeansPacket lenient bytes p → IsWellFormed p.meaning
packet_formed bytes p size m = record {
  each = list_formed (chunks lenient) IsChunkWellFormed chunks_form (body bytes) p.meaning.chunks
      m.chunks;
  some = λ none.
      (let nil = ap length (nil_means (chunks lenient) (body bytes)
      (subst (MeansTrees (chunks lenient) (body bytes)) none m.chunks)) in
      let len = length-body bytes in
      omega (arith, nil, len, size.low));
}

-- ---- the size account

placed : (t : ChunkTree) → IsChunkWellFormed t → IsPlaced t
placed (ForwardTsn f) formed = formed
placed (IForwardTsn f) formed = formed
placed t formed = tt

each_chunk : (ts : List ChunkTree) → AllByRecursion IsChunkWellFormed ts
    → AllByRecursion (λ t. IsEncodable (chunk_tlv t)) ts → AllByRecursion IsChunkEncodable ts
each_chunk [] formed fits = tt
each_chunk (t ∷ ts) formed fits = ((placed t formed.0, fits.0), each_chunk ts formed.1 fits.1)

whole_size : (written read all : ℕ) → SameSpace written read → read ≡ all - 12 → 16 ≤ all
    → 12 + round_up_to_4 written ≡ round_up_to_4 all
whole_size written read all same e low = omega (arith, same.up, e, low)

-- a chunk keeps its texts if each was read as its own
chunk_texts : (i : Item) (t : ChunkTree) → ((chunks lenient).row i.first i.second).means i.value t
    → HasOwnTexts t → AreTextsKept i
chunk_texts i t m own (inl is) causes are =
    let m = subst (λ (typ : ℕ). (chunk_row lenient typ i.second).means i.value t) is m in
    let own : HasOwnTexts (Abort m.0) = subst HasOwnTexts m.2 own in
    texts_kept i.value _ m.1.1.1
    (subst (λ (a : AbortTree). AllByRecursion HasOwnText a.causes) m.1.1.2 own) causes are
chunk_texts i t m own (inr is) causes are =
    let m = subst (λ (typ : ℕ). (chunk_row lenient typ i.second).means i.value t) is m in
    let own : HasOwnTexts (Error m.0) = subst HasOwnTexts m.2 own in
    texts_kept i.value _ m.1.1.1 (subst (AllByRecursion HasOwnText) m.1.1.2 own) causes are

pub packet_texts : (bytes : List ℕ) (p : PacketTree) → MeansPacket lenient bytes p
    → AllByRecursion HasOwnTexts p.meaning.chunks → KeepsTexts bytes
packet_texts bytes p m own items are = subst (AllByRecursion AreTextsKept)
    (splits_one_way any_padding (body bytes) m.chunks.items items m.chunks.are are)
    (items_kept (chunks lenient) HasOwnTexts AreTextsKept chunk_texts m.chunks.items
    p.meaning.chunks m.chunks.mean own)

pub packet_size : (bytes : List ℕ) (p : PacketTree) → HasPacketSize bytes
    → MeansPacket lenient bytes p → KeepsTexts bytes → KeepsSize bytes p.meaning
packet_size bytes p size m kept =
    let ts = p.meaning.chunks in
    let same = list_account (chunks lenient) chunk_tlv AreTextsKept chunks_account (body bytes) ts
    m.chunks (kept m.chunks.items m.chunks.are) in
    let len = length-body bytes in
    let whole : 12 + padded_size ts ≡ round_up_to_4 (length bytes) = ap (λ (n : ℕ). 12 + n)
    (padded_size-is ts) ∙ whole_size (list_size chunk_tlv ts) (length (body bytes))
    (length bytes) same len size.low in
    let each : AllByRecursion IsChunkEncodable ts = each_chunk ts
    (packet_formed bytes p size m).each (each_encodable chunk_tlv ts
    (omega (arith, same.at_most, len, size.high))) in
    record {
      whole = whole;
      each = each;
      fits = λ short. record {
        each = each;
        whole = omega (arith, whole, short);
      };
    }

-- ---- the number of its parts

pub packet_parts : (bytes : List ℕ) (p : PacketTree) → MeansPacket lenient bytes p
    → node_count p.meaning ≤ (length bytes - 12) / 4
packet_parts bytes p m =
    let count = list_count (chunks lenient) chunk_parts chunks_count (body bytes) p.meaning.chunks
    m.chunks in
    let len = length-body bytes in
    omega (arith, count, len)

-- ---- what the code reads

-- what holds of each packet that the bytes mean holds of the one that was read
pub reads_only : (Q : PacketTree → Type 0) (bytes : List ℕ) (word : ℕ) (policy : ChecksumPolicy)
    (result : Result SctpPacket PacketParseError)
    → ((p : PacketTree) → HasPacketSize bytes → MeansPacket lenient bytes p → Q p)
    → Answers packet_reading packet_view (Answer bytes word policy) result
    → IfOk result (λ p. Q (packet_view p))
reads_only Q bytes word policy (Ok p) law reads = law (packet_view p) reads.0.size
    (lenient_packet policy.strict_padding bytes (packet_view p) reads.1)
reads_only Q bytes word policy (Err e) law reads = tt

-- ---- reading is local

body_after : (front end : List ℕ) → 16 ≤ length front → body (front ++ end) ≡ body front ++ end
body_after front end low = drop-append-le 12 front end (omega (arith, low))

body_words : (front : List ℕ) → 16 ≤ length front → length front % 4 ≡ 0 → length (body front) % 4
    ≡ 0
body_words front low words = let len = length-body front in omega (arith, len, low, words)

pub packet_after : (front end : List ℕ) (word : ℕ) (policy : ChecksumPolicy)
    (ts us : List ChunkTree) → 16 ≤ length front → length front % 4 ≡ 0
    → IsOpened (front ++ end) word policy
    → MeansTrees (chunks policy.strict_padding) (body front) ts
    → MeansTrees (chunks policy.strict_padding) end us
    → Answer (front ++ end) word policy (Ok (packet_with (front ++ end) (ts ++ us)))
packet_after front end word policy ts us low words opened m n = (
  opened,
  record {
    header = refl;
    chunks = subst (λ (bytes : List ℕ). MeansTrees (chunks policy.strict_padding) bytes (ts ++ us))
        (sym (body_after front end low)) (local_means (chunks policy.strict_padding) (body front)
        end ts us (body_words front low words) m n);
  },
)

pub fault_after : (front end : List ℕ) (word : ℕ) (policy : ChecksumPolicy) (ts : List ChunkTree)
    (f : Fault × ℕ) → 16 ≤ length front → length front % 4 ≡ 0
    → IsOpened (front ++ end) word policy
    → MeansTrees (chunks policy.strict_padding) (body front) ts
    → HasFault (chunks policy.strict_padding) end f
    → Placed (front ++ end) word policy (Err (Chunk f.0, length front + f.1))
fault_after front end word policy ts f low words opened m h = (
  opened,
  (
    length (body front) + f.1,
    subst (λ (bytes : List ℕ). HasFault (chunks policy.strict_padding) bytes
        (f.0, length (body front) + f.1)) (sym (body_after front end low))
        (local_fault (chunks policy.strict_padding) (body front) end ts f
        (body_words front low words) m h),
    omega (arith, length-body front, low),
  ),
)
