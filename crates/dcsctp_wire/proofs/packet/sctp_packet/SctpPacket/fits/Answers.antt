use Rattle.std.proofs.Common.{refl, arith, ap, ◌∙◌, ◌≡◌, leb-true, le-leb}
use Rattle.dcsctp_tlv.specs.{Frame.{round_up_to_4}, Image.{list_size, IsListEncodable}}
use Rattle.dcsctp_wire.{specs.Chunk.{tlv as chunk_tlv, IsPlaced, view}, specs.Packet.{meaning_view}, proofs.Canonicals.{fits_from, fits_to}}
use Rattle.dcsctp_wire.proofs.packet.sctp_packet.SctpPacket.fits.Goals as goal

pub returns-in-None : goal.returns-in-None
returns-in-None c = (
  λ e. absurd cc,
  λ f. absurd
      (c.in-None.ensures (rw c.deref.ensures.value (fits_to (meaning_view c.args.self.now)
      c.args.self.now.chunks.items refl f).0)),
)

pub returns-in-Some : goal.returns-in-Some
returns-in-Some c =
    let cs = c.args.self.now.chunks.items in
    let h : IsListEncodable (λ x. chunk_tlv (view x)) (λ x. IsPlaced (view x)) cs =
    rw c.deref.ensures.value at c.in-Some.ensures.0 in
    let s : c.round_up_to_4.result ≡ round_up_to_4 (list_size (λ x. chunk_tlv (view x)) cs) =
    c.round_up_to_4.ensures ∙ ap round_up_to_4 (c.in-Some.ensures.1
    ∙ ap (list_size (λ x. chunk_tlv (view x))) c.deref.ensures.value) in (
      λ t. fits_from (meaning_view c.args.self.now) cs refl h (let le = leb-true _ _ t in
          omega (arith, le, s)),
      λ f. le-leb _ _ (let le = (fits_to (meaning_view c.args.self.now) cs refl f).1 in
          omega (arith, le, s)),
    )
