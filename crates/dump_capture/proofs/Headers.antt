-- The headers of a frame, one after the other, and the tunnels.
use Rattle.std.proofs.Common.{◌≡◌, ◌+◌, ◌-◌, ◌<◌, ◌≤◌, ℕ, Bool, suc, true, false, cond, List, Result, Ok, refl, ap, ◌∙◌, arith}
use Rattle.dump_capture.specs.Payload.{Payload, ◌>>=◌, after_steps}
use Rattle.dump_capture.specs.Tunnel.{is_tunnel}
use Rattle.dump_capture.specs.Frame.{begins_with_header, past_header, past_headers, past_tunnels, through_tunnel, is_header, on_link, in_frame, carried, packet_in}
use Rattle.dump_capture.specs.declared.frame.NoPacket.{NoPacket}

-- what is left to do is a step, and what is left to do then
one_step : (has_step : Payload → Bool) (step : Payload → Result Payload NoPacket) (n k : ℕ)
    (p : Payload) → k < n → after_steps has_step step (n - k) p
    ≡ cond (has_step p) (step p >>= after_steps has_step step (n - (k + 1))) (Ok p)
unfolding after_steps
one_step has_step step n k p below =
    let left : n - k ≡ suc (n - (k + 1)) = omega arith in rw left refl

pub at_last : (has_step : Payload → Bool) (step : Payload → Result Payload NoPacket) (n k : ℕ)
    (p : Payload) → k < n → has_step p ≡ false → after_steps has_step step (n - k) p ≡ Ok p
at_last has_step step n k p below last = one_step has_step step n k p below ∙ rw last refl

pub at_step : (has_step : Payload → Bool) (step : Payload → Result Payload NoPacket) (n k : ℕ)
    (p : Payload) → k < n → has_step p ≡ true → after_steps has_step step (n - k) p
    ≡ (step p >>= after_steps has_step step (n - (k + 1)))
at_step has_step step n k p below is = one_step has_step step n k p below ∙ rw is refl

pub at_most : (has_step : Payload → Bool) (step : Payload → Result Payload NoPacket) (n k : ℕ)
    (p : Payload) → n ≤ k → after_steps has_step step (n - k) p ≡ Ok p
unfolding after_steps
at_most has_step step n k p end = let none : n - k ≡ 0 = omega arith in rw none refl

-- the packet after one header, without a tunnel
pub past_one : (port link size : ℕ) (frame : List ℕ) (q : Payload)
    → on_link link (in_frame link size frame) ≡ Ok q → is_header q.protocol ≡ false
    → is_tunnel port q ≡ false
    → packet_in port link size frame ≡ carried port q
unfolding packet_in
past_one port link size frame q one last alone =
    let first = at_step begins_with_header past_header 65536 0 (in_frame link size frame)
    (omega arith) refl in
    let second = at_last begins_with_header past_header 65536 1 q (omega arith) last in
    let third = at_last (is_tunnel port) through_tunnel 4 0 q (omega arith) alone in
    ap (λ r. r >>= past_tunnels 4 port >>= carried port)
    (first ∙ ap (λ r. r >>= past_headers 65535) one ∙ second)
    ∙ ap (λ r. r >>= carried port) third
