-- What `UserData` reads of a chunk is what the chunk's row of the table means.
use Rattle.std.{proofs.Common.{◌≡◌, ℕ, List, Some, Result, Ok, ap, rules, ne_eqb}, specs.Result.{result_ok}}
use Rattle.dcsctp_tlv.specs.{Fault.{Fault}, Frame.{lenient}}
use Rattle.dcsctp_chunk.specs.{Data.{Tree}, DataChunk.{read as data_at}, IDataChunk.{read as idata_at}}
use Rattle.dcsctp_wire.specs.Chunk.{ChunkTree, chunk_row}
use Rattle.dcsctp_borrowed.{specs.UserData.{data_of, read_user_data}, proofs.TreeRows.{of_chunk}}

abbrev ReadsAs : ℕ → ℕ → List ℕ → ChunkTree → Type 0
ReadsAs flags typ value t = read_user_data typ flags value ≡ data_of t

-- what a kind of user data reads
own : (read : List ℕ → Result Tree Fault) (value : List ℕ) (c : Tree) → read value ≡ Ok c
    → result_ok (read value) ≡ Some c
own read value c e = ap result_ok e

pub reads_alike : (typ flags : ℕ) (value : List ℕ) (t : ChunkTree)
    → (chunk_row lenient typ flags).means value t → read_user_data typ flags value ≡ data_of t
reads_alike typ flags =
    of_chunk (ReadsAs flags) typ flags (assumption (own (data_at flags), own (idata_at flags)))
    (λ isnt value u. search (rules, ne_eqb))
