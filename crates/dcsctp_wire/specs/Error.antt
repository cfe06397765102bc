-- ERROR (RFC 9260 section 3.3.10): type 9, flags ignored; the value is a list of error causes, one
-- at least.
use Rattle.std.specs.{Prelude.{◌≢◌, ◌+◌, Bool, List, [], nat_lt, length, codes}, List.{AllByRecursion}}
use Rattle.dcsctp_tlv.{specs.Format.{Format}, specs.Level.{Row, listed}, specs.Image.{listed_tlv}, specs.Table.{Causes}, proofs.Listed.{listed_sized}, specs.Kinds.{Kind, Nested}}
use Rattle.dcsctp_cause.specs.Cause as cause
use Rattle.dcsctp_cause.proofs.CauseLaws.{length-cause}
use Rattle.dcsctp_wire.specs.declared.packet.error_chunk.ErrorChunk.{ErrorChunk}

-- No bytes are the empty list: it is refused.
abbrev pub row : Bool → Row (List cause.CauseTree)
row strict =
    listed (λ value. nat_lt 0 (length value)) 0 (cause.causes strict) (λ value cs. cs)

abbrev pub format : List cause.CauseTree → Format
format cs = record {
  tlv = listed_tlv 9 0 [] cause.tlv cs;
  sized = listed_sized cause.tlv length-cause 9 0 [] cs;
  text = codes "ERROR";
  IsInWidth = AllByRecursion cause.IsInWidth cs;
  IsWellFormed = (cs ≢ []) × AllByRecursion cause.IsWellFormed cs;
}

abbrev pub kind : Kind
kind = record {
  typ = 9;
  content = Causes 0;
  Tree = List cause.CauseTree;
  reader = Nested (λ strict flags. row strict);
  format = format;
  kept = λ cs. cs;
  parts = λ cs. 1 + length cs;
}

abbrev pub view : ErrorChunk → List cause.CauseTree
view c = cause.views c.error_causes.items
