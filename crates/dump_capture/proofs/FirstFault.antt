-- Where the first of several steps fails.
use Rattle.std.proofs.Common.{◌≡◌, ◌+◌, ◌-◌, ◌<◌, ◌≤◌, ◌^◌, ℕ, Bool, zero, suc, true, false, cond, List, Option, None, Some, Result, Ok, Err, refl, ap, sym, ◌∙◌, arith}
use Rattle.dump_capture.specs.Payload.{Payload, ◌>>=◌, after_steps}
use Rattle.dump_capture.specs.Tunnel.{is_tunnel, past_tunnel}
use Rattle.dump_capture.specs.Frame.{begins_with_header, past_header, past_headers, past_tunnels, through_tunnel, in_frame, carried, packet_in}
use Rattle.dump_capture.specs.IpFragment.{Fragment, at_fault, first_fault, fragment_at, in_headers, in_carried, in_tunnel, in_tunnels, in_outer, fragment_in}
use Rattle.dump_capture.specs.declared.frame.NoPacket.{NoPacket}
use Rattle.dump_capture.specs.declared.frame.NoPacket.TheVariants.{Fragment as IsFragment, LinkType, Cut, Malformed, Other}

-- what is left to do is a step, and what is left to do then
one_fault : {A : Type 0} (found : Payload → NoPacket → Option A) (has_step : Payload → Bool)
    (step : Payload → Result Payload NoPacket) (n k : ℕ) (p : Payload) → k < n
    → first_fault found has_step step (n - k) p
    ≡ cond (has_step p) (at_fault found p (step p) (first_fault found has_step step
    (n - (k + 1)))) None
unfolding first_fault
one_fault found has_step step n k p below =
    let left : n - k ≡ suc (n - (k + 1)) = omega arith in rw left refl

pub no_fault : {A : Type 0} (found : Payload → NoPacket → Option A) (has_step : Payload → Bool)
    (step : Payload → Result Payload NoPacket) (n k : ℕ) (p : Payload) → k < n → has_step p ≡ false
    → first_fault found has_step step (n - k) p ≡ None
no_fault found has_step step n k p below last = one_fault found has_step step n k p below
    ∙ rw last refl

pub step_fault : {A : Type 0} (found : Payload → NoPacket → Option A) (has_step : Payload → Bool)
    (step : Payload → Result Payload NoPacket) (n k : ℕ) (p : Payload) → k < n → has_step p ≡ true
    → first_fault found has_step step (n - k) p
    ≡ at_fault found p (step p) (first_fault found has_step step (n - (k + 1)))
step_fault found has_step step n k p below is = one_fault found has_step step n k p below
    ∙ rw is refl

pub end_fault : {A : Type 0} (found : Payload → NoPacket → Option A) (has_step : Payload → Bool)
    (step : Payload → Result Payload NoPacket) (n k : ℕ) (p : Payload) → n ≤ k
    → first_fault found has_step step (n - k) p ≡ None
unfolding first_fault
end_fault found has_step step n k p end = let none : n - k ≡ 0 = omega arith in rw none refl

-- ---- `packet_in` ends there

-- where the first step fails, and why
record FaultOf {A : Type 0} (found : Payload → NoPacket → Option A)
    (step : Payload → Result Payload NoPacket)
    (all : Result Payload NoPacket) (x : A) : Type 0 where
  pub at : Payload
  pub why : NoPacket
  pub fails : step at ≡ Err why
  pub ends : all ≡ Err why
  pub is : found at why ≡ Some x

fault_of : {A : Type 0} (found : Payload → NoPacket → Option A) (has_step : Payload → Bool)
    (step : Payload → Result Payload NoPacket) (n : ℕ) (p : Payload) (x : A)
    → first_fault found has_step step n p ≡ Some x
    → FaultOf found step (after_steps has_step step n p) x
unfolding first_fault after_steps
fault_of found has_step step zero p x is = absurd (cc)
fault_of found has_step step (suc n) p x is =
    by_test (λ q h. fault_of found has_step step n q x h) (has_step p) is where
      by_result : ((q : Payload) → first_fault found has_step step n q ≡ Some x
          → FaultOf found step (after_steps has_step step n q) x)
          → (r : Result Payload NoPacket) → step p ≡ r
          → at_fault found p r (first_fault found has_step step n) ≡ Some x
          → FaultOf found step (r >>= after_steps has_step step n) x
      by_result again (Ok q) e h = again q h
      by_result again (Err why) e h = record { at = p; why = why; fails = e; ends = refl; is = h }

      by_test : ((q : Payload) → first_fault found has_step step n q ≡ Some x
          → FaultOf found step (after_steps has_step step n q) x)
          → (b : Bool)
          → cond b (at_fault found p (step p) (first_fault found has_step step n)) None ≡ Some x
          → FaultOf found step (cond b (step p >>= after_steps has_step step n) (Ok p)) x
      by_test again true h = by_result again (step p) refl h
      by_test again false h = absurd (cc)

fragment_why : (p : Payload) (why : NoPacket) (f : Fragment) → fragment_at p why ≡ Some f
    → why ≡ IsFragment
fragment_why p IsFragment f h = refl
fragment_why p LinkType f h = absurd (cc)
fragment_why p Cut f h = absurd (cc)
fragment_why p Malformed f h = absurd (cc)
fragment_why p Other f h = absurd (cc)

headers_end : (p : Payload) (f : Fragment) → in_headers (2 ^ 16) p ≡ Some f
    → past_headers (2 ^ 16) p ≡ Err IsFragment
headers_end p f h =
    let it = fault_of fragment_at begins_with_header past_header (2 ^ 16) p f h in
    it.ends ∙ ap (λ (w : NoPacket). Err w) (fragment_why it.at it.why f it.is)

tunnel_ends : (r : Result Payload NoPacket) (f : Fragment) → in_carried r ≡ Some f
    → (r >>= past_headers (2 ^ 16)) ≡ Err IsFragment
tunnel_ends (Ok q) f h = headers_end q f h
tunnel_ends (Err why) f h = absurd (cc)

tunnels_end : (port : ℕ) (p : Payload) (f : Fragment) → in_tunnels 4 port p ≡ Some f
    → past_tunnels 4 port p ≡ Err IsFragment
tunnels_end port p f h =
    let it = fault_of in_tunnel (is_tunnel port) through_tunnel 4 p f h in
    it.ends ∙ (sym it.fails ∙ tunnel_ends (past_tunnel it.at) f it.is)

outer_ends : (port : ℕ) (p : Payload) (r : Result Payload NoPacket) (f : Fragment)
    → past_headers (2 ^ 16) p ≡ r → in_outer port p r ≡ Some f
    → (r >>= past_tunnels 4 port >>= carried port) ≡ Err IsFragment
outer_ends port p (Ok outer) f e h = ap (λ (r : Result Payload NoPacket). r >>= carried port)
    (tunnels_end port outer f h)
outer_ends port p (Err why) f e h = ap (λ (r : Result Payload NoPacket). r >>= past_tunnels 4
    port >>= carried port)
    (sym e ∙ headers_end p f h)

pub is_no_packet : (port link original_length : ℕ) (frame : List ℕ) (f : Fragment)
    → fragment_in port link original_length frame ≡ Some f
    → packet_in port link original_length frame ≡ Err IsFragment
unfolding fragment_in packet_in
is_no_packet port link original_length frame f h =
    let p = in_frame link original_length frame in
    outer_ends port p (past_headers (2 ^ 16) p) f refl h
