-- What a packet is answered with: there is at most one reply.
use Rattle.std.proofs.Common.{◌≡◌, ◌∙◌, ℕ, List, [], ◌∷◌, Option, Some, None, Ok, IfSome, IfNone, sym, ap, subst}
use Rattle.std.proofs.Common.{Vec, Global}
use Rattle.dcsctp_wire.specs.Caller.{Meaning, PacketTree, DataChunkTree}
use Rattle.dcsctp_wire.specs.Chunk as tree
use Rattle.dcsctp_wire.specs.InitFields.{Tree as InitFieldsTree}
use Rattle.test_callers.specs.Sealed.{Verified}
use Rattle.test_callers.specs.Reply.{IsReply, to_init, to_data, IsSealed, HasRoom, back, sack_of}

-- ---- one reply

pub one_reply : (own : InitFieldsTree) (peer_tag : ℕ) (m a b : Meaning) → IsReply own peer_tag m a
    → IsReply own peer_tag m b → a ≡ b
one_reply own peer_tag m a b (to_init i zero only is) (to_init j zero2 only2 is2) =
    let same : tree.Init i ∷ [] ≡ tree.Init j ∷ [] = sym only ∙ only2 in
    let inits : i ≡ j = cc in
    is ∙ ap (λ (k : InitFieldsTree). back m k.tag (tree.InitAck own)) inits ∙ sym is2
one_reply own peer_tag m a b (to_init i zero only is) (to_data c others tag some is2) =
    absurd (let no : tree.Init i ∷ [] ≡ tree.Data c ∷ others = sym only ∙ some in cc)
one_reply own peer_tag m a b (to_data c others tag some is) (to_init i zero only is2) =
    absurd (let no : tree.Init i ∷ [] ≡ tree.Data c ∷ others = sym only ∙ some in cc)
one_reply own peer_tag m a b (to_data c others tag some is) (to_data d others2 tag2 some2 is2) =
    let same : tree.Data c ∷ others ≡ tree.Data d ∷ others2 = sym some ∙ some2 in
    let both : c ≡ d = cc in
    is ∙ ap (λ (k : DataChunkTree). back m peer_tag (sack_of k.tsn own.window)) both ∙ sym is2

-- ---- what the program returns, where it has a reply

pub replied : (made : Option (Vec ℕ Global)) (bytes : List ℕ) (own : InitFieldsTree) (peer_tag : ℕ)
    (packet : PacketTree) (m : Meaning)
    → ((p : PacketTree) → Verified bytes (Ok p) → packet ≡ p)
    → IsReply own peer_tag packet.meaning m
    → IfSome made (λ reply. IsSealed m reply.items)
    → IfSome made (λ reply. (p : PacketTree) → Verified bytes (Ok p) → (x : Meaning)
    × IsReply own peer_tag p.meaning x × IsSealed x reply.items)
replied (Some v) bytes own peer_tag packet m same is sealed =
    λ p read. (
      m,
      subst (λ (q : PacketTree). IsReply own peer_tag q.meaning m) (same p read) is,
      sealed,
    )
replied None bytes own peer_tag packet m same is sealed = tt

pub without_room : (made : Option (Vec ℕ Global)) (bytes : List ℕ) (own : InitFieldsTree)
    (peer_tag limit : ℕ) (packet : PacketTree) (m : Meaning)
    → ((p : PacketTree) → Verified bytes (Ok p) → packet ≡ p)
    → IsReply own peer_tag packet.meaning m
    → IfNone made (¬ HasRoom limit m)
    → IfNone made ((p : PacketTree) (x : Meaning) → Verified bytes (Ok p)
    → IsReply own peer_tag p.meaning x → ¬ HasRoom limit x)
without_room (Some v) bytes own peer_tag limit packet m same is none = tt
without_room None bytes own peer_tag limit packet m same is none =
    λ p x read other room. none (subst (λ (y : Meaning). HasRoom limit y)
    (one_reply own peer_tag packet.meaning x m
    (subst (λ (q : PacketTree). IsReply own peer_tag q.meaning x) (sym (same p read)) other) is)
    room)
