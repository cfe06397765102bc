-- The least delay, and the greatest; of equal ones the first.
use Rattle.std.specs.Prelude.{◌≡◌, ◌==◌, ◌||◌, ℕ, nat_lt, if◌then◌else◌, Some}
use Rattle.dump_packet.specs.declared.packet_number.PacketNumber.{PacketNumber}
use Rattle.dump_packet.specs.declared.delays.Delays.{Delays}

abbrev pub least_with : Delays → ℕ → ℕ
least_with old delay = if (old.count == 0) || nat_lt delay old.least then delay else old.least

abbrev pub IsGreatest : Delays → ℕ → ℕ → PacketNumber → Delays → Type 0
IsGreatest old delay tsn packet new =
    let is_greater = (old.count == 0) || nat_lt old.greatest delay in
    (new.greatest ≡ (if is_greater then delay else old.greatest))
    × (new.greatest_tsn ≡ (if is_greater then tsn else old.greatest_tsn))
    × (new.greatest_packet ≡ (if is_greater then Some packet else old.greatest_packet))
