-- What follows a header in a frame, and what is left of it after the next one.
use Rattle.std.specs.Prelude.{◌-◌, ℕ, zero, suc, Bool, if◌then◌else◌, List, Option, Result, Ok, Err, take, drop}
use Rattle.dump_capture.specs.declared.frame.Addresses.{Addresses}
use Rattle.dump_capture.specs.declared.frame.NoPacket.{NoPacket}
use Rattle.dump_capture.specs.declared.payload.Protocol.{Protocol}

-- What it is, its size as the headers say it, and the bytes from its first on. They may be fewer;
-- they may be more, by what follows it in the frame. The addresses are those of the last IP header.
pub record Payload : Type 0 where
  pub addresses : Option Addresses
  pub protocol : Protocol
  pub size : ℕ
  pub bytes : List ℕ

infixl 10 ◌>>=◌
abbrev pub ◌>>=◌ : {A B : Type 0} → Result A NoPacket → (A → Result B NoPacket) → Result B NoPacket
(Ok x) >>= f = f x
(Err e) >>= f = Err e

-- what follows the first n bytes
abbrev pub past : ℕ → Protocol → Payload → Payload
past n protocol p = record p { protocol = protocol; size = p.size - n; bytes = drop n p.bytes }

-- its first n bytes, without what follows them in the frame
abbrev pub cut_to : ℕ → Payload → Payload
cut_to n p = record p { size = n; bytes = take n p.bytes }

-- what is left after as many steps as there is one for, and n at most
unfoldable pub after_steps : (Payload → Bool) → (Payload → Result Payload NoPacket) → ℕ → Payload
    → Result Payload NoPacket
after_steps has_step step zero p = Ok p
after_steps has_step step (suc n) p =
    if has_step p then step p >>= after_steps has_step step n else
    Ok p
