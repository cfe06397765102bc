-- The tunnels that are left, after the first one.
use Rattle.std.proofs.Common.{◌≡◌, ◌≢◌, ◌-◌, ℕ, zero, suc, [], ◌∷◌, Some, None, refl, arith}
use Rattle.dump_capture.specs.Payload.{Payload}
use Rattle.dump_capture.specs.Tunnels.{first_tunnel, tunnels}
use Rattle.dump_capture.specs.declared.tunnels.Tunnel.{Tunnel}

pub none_first : (n port : ℕ) (p : Payload) → first_tunnel port p ≡ None → tunnels n port p ≡ []
unfolding tunnels
none_first zero port p none = refl
none_first (suc n) port p none = rw none refl

pub one_first : (n port : ℕ) (p q : Payload) (t : Tunnel) → n ≢ 0 → first_tunnel port p ≡ Some (t, q)
    → tunnels n port p ≡ t ∷ tunnels (n - 1) port q
unfolding tunnels
one_first zero port p q t some found = absurd (some refl)
one_first (suc n) port p q t some found =
    let left : suc n - 1 ≡ n = omega arith in rw (left, found) refl
