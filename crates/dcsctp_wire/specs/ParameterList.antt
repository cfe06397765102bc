-- What the chunks have in common whose value is a list of parameters, and nothing else (RFC 9260
-- sections 3.3.5 and 3.3.6, RFC 6525 section 3.1): flags are ignored, and any list is read, the
-- empty one too.
use Rattle.std.specs.{Prelude.{ℕ, ◌+◌, Bool, true, List, [], length}, List.{AllByRecursion}}
use Rattle.dcsctp_tlv.{specs.Format.{Format}, specs.Level.{Row, listed}, specs.Image.{listed_tlv}, specs.Table.{Parameters}, proofs.Listed.{listed_sized}, proofs.ParameterLaws.{length-parameter}, specs.Kinds.{Kind, Nested}}
use Rattle.dcsctp_tlv.specs.Parameter as parameter

abbrev pub row : Bool → Row (List parameter.ParameterTree)
row strict = listed (λ value. true) 0 (parameter.parameters strict) (λ value ps. ps)

-- what is said of such a chunk, by its type and its name
abbrev pub format : ℕ → List ℕ → List parameter.ParameterTree → Format
format typ name ps = record {
  tlv = listed_tlv typ 0 [] parameter.tlv ps;
  sized = listed_sized parameter.tlv length-parameter typ 0 [] ps;
  text = name;
  IsInWidth = AllByRecursion parameter.IsInWidth ps;
  IsWellFormed = AllByRecursion parameter.IsWellFormed ps;
}

abbrev pub kind_of : ℕ → (List parameter.ParameterTree → Format) → Kind
kind_of typ format = record {
  typ = typ;
  content = Parameters 0;
  Tree = List parameter.ParameterTree;
  reader = Nested (λ strict flags. row strict);
  format = format;
  kept = parameter.all_kept;
  parts = λ ps. 1 + length ps;
}
