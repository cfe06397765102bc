use Rattle.std.proofs.Common.{◌≡◌, [], Some, None, length, length-drop, refl, ap, ◌∙◌, arith}
use Rattle.dcsctp_wire.specs.Packet.{body}
use Rattle.dcsctp_borrowed.specs.PacketRef.{reference}
use Rattle.dcsctp_borrowed.specs.UserData.{user_data_view}
use Rattle.dcsctp_borrowed.specs.declared.packet_ref.SctpPacketRef.{SctpPacketRef}
use Rattle.test_callers.specs.Payload.{payload_sizes}
use Rattle.test_callers.proofs.Chunks.{next_sized}
use Rattle.test_callers.proofs.in_place.payload_size.Goals as goal

pub returns-in_err-packet-clause-size : goal.returns-in_err-packet-clause-size
returns-in_err-packet-clause-size c p answer =
    absurd (c.in_err-packet.ensures.answer.value (reference c.args.bytes.now) ((p, answer), refl))

pub loop-raw-init : goal.loop-raw-init
loop-raw-init c =
    let all : c.into_iter-raw-iterator.result ≡ body c.args.bytes.now =
    c.into_iter-raw-iterator.ensures.into_iter_gives ∙ ap (λ (r : SctpPacketRef). r.chunks)
    c.in_ok-packet.ensures.answer.answers.1 in
    record {
      small = rw all (omega (arith, length-drop 12 c.args.bytes.now));
      sized = λ p answer. (
        p.meaning.chunks,
        rw c.into_iter-raw-iterator.ensures.into_iter_gives
            (c.in_ok-packet.ensures.refers p answer).chunks,
        omega arith,
      );
    }

pub loop-raw-preserved-in-Some-from_raw : goal.loop-raw-preserved-in-Some-from_raw
loop-raw-preserved-in-Some-from_raw c = record {
  small = omega (
    arith,
    c.loop-raw.invariant.small,
    c.in-Some.ensures.steps.2.size,
    c.in-Some-from_raw.ensures.size,
  );
  sized = λ p answer. next_sized c.in-Some.raw c.loop-raw.raw-iterator c.next.new.self
      c.loop-raw.size (length c.in-Some-from_raw.data.payload.now) (payload_sizes p.meaning.chunks)
      (Some (user_data_view c.in-Some-from_raw.data)) c.in-Some.ensures.steps.2.means
      c.in-Some-from_raw.ensures.means refl (c.loop-raw.invariant.sized p answer);
}

pub loop-raw-preserved : goal.loop-raw-preserved
loop-raw-preserved c = record {
  small = omega (arith, c.loop-raw.invariant.small, c.in-Some.ensures.steps.2.size);
  sized = λ p answer. (let next = next_sized c.in-Some.raw c.loop-raw.raw-iterator c.next.new.self
      c.loop-raw.size 0 (payload_sizes p.meaning.chunks)
      None c.in-Some.ensures.steps.2.means c.in_default.ensures.means refl
      (c.loop-raw.invariant.sized p answer) in
      (next.0, next.1, omega (arith, next.2)));
}

pub returns-clause-size : goal.returns-clause-size
returns-clause-size c p answer =
    let old = c.loop-raw.invariant.sized p answer in
    let none : old.0 ≡ [] = c.in-None.ensures.steps.means old.0 old.1 in
    let zero : payload_sizes old.0 ≡ 0 = ap payload_sizes none in
    let all : c.loop-raw.size ≡ payload_sizes p.meaning.chunks = omega (arith, zero, old.2) in
    cc
