-- ABORT (RFC 9260 section 3.3.7): type 6; flag bit 0 says that the tag is reflected, and the others
-- are ignored. The value is a list of error causes: any list, the empty one too.
use Rattle.std.specs.{Prelude.{ℕ, ◌+◌, Bool, true, List, [], ◌∷◌, ◌++◌, if◌then◌else◌, length, codes}, List.{AllByRecursion}}
use Rattle.dcsctp_tlv.{specs.Format.{Format}, specs.Level.{Row, listed}, specs.Image.{listed_tlv}, specs.Table.{Causes}, proofs.Listed.{listed_sized}, specs.Kinds.{Kind, Nested}}
use Rattle.dcsctp_cause.specs.Cause as cause
use Rattle.dcsctp_cause.proofs.CauseLaws.{length-cause}
use Rattle.dcsctp_chunk.specs.Flags.{is_set, flag_byte}
use Rattle.dcsctp_wire.specs.declared.packet.abort_chunk.AbortChunk.{AbortChunk}

pub record Tree : Type 0 where
  pub tag_reflected : Bool
  pub causes : List cause.CauseTree

-- the flags, with these causes
abbrev pub tree_of : ℕ → List cause.CauseTree → Tree
tree_of flags cs = record { tag_reflected = is_set flags 0; causes = cs }

abbrev pub row : Bool → ℕ → Row Tree
row strict flags =
    listed (λ value. true) 0 (cause.causes strict) (λ value cs. tree_of flags cs)

abbrev pub flags_of : Tree → ℕ
flags_of a = flag_byte (a.tag_reflected ∷ [])

abbrev pub format : Tree → Format
format a = record {
  tlv = listed_tlv 6 (flags_of a) [] cause.tlv a.causes;
  sized = listed_sized cause.tlv length-cause 6 (flags_of a) [] a.causes;
  text =
      codes "ABORT, tag_reflected=" ++ (if a.tag_reflected then codes "true" else codes "false");
  IsInWidth = AllByRecursion cause.IsInWidth a.causes;
  IsWellFormed = AllByRecursion cause.IsWellFormed a.causes;
}

abbrev pub kind : Kind
kind = record {
  typ = 6;
  content = Causes 0;
  Tree = Tree;
  reader = Nested (λ strict flags. row strict flags);
  format = format;
  kept = λ a. a;
  parts = λ a. 1 + length a.causes;
}

abbrev pub view : AbortChunk → Tree
view c = record { tag_reflected = c.tag_reflected; causes = cause.views c.error_causes.items }
