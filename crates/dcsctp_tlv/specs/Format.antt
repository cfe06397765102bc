-- What the tables of chunks, parameters and error causes (RFC 9260 sections 3.2, 3.2.1 and 3.3.10)
-- say of a tree, each kind for its own trees: all but how it is read.
use Rattle.std.specs.Prelude.{◌≡◌, ℕ, ◌/◌, ◌%◌, List, length}
use Rattle.dcsctp_tlv.specs.Image.{solid, Tlv}

pub record Format : Type 1 where
  -- how it is written (RFC 9260 sections 3.2, 3.2.1 and 3.3.10), and that its value has the size
  -- that is counted
  pub tlv : Tlv
  pub sized : length tlv.value ≡ tlv.value_size
  -- how it is printed
  pub text : List ℕ
  -- every number lies in its field's width, and a text is one
  pub IsInWidth : Type 0
  -- the table can mean it
  pub IsWellFormed : Type 0

-- how the values of a type are written, each as its format says
abbrev pub tlv_by : {T : Type 0} → (T → Format) → T → Tlv
tlv_by format x = (format x).tlv

-- a chunk: its type, its flags, the size of its value, and the value (RFC 9260 section 3.2)
abbrev pub flagged_tlv : ℕ → ℕ → ℕ → List ℕ → Tlv
flagged_tlv typ flags size bytes =
    record { first = typ; second = flags; value = solid bytes; value_size = size }

-- a parameter or a cause: its type in both bytes, the size of its value, and the value
abbrev pub sized_tlv : ℕ → ℕ → List ℕ → Tlv
sized_tlv typ size bytes = flagged_tlv (typ / 256) (typ % 256) size bytes
