-- What INIT and INIT ACK have in common (RFC 9260 sections 3.3.2 and 3.3.3): flags ignored; sixteen
-- bytes of numbers, and after them parameters.
use Rattle.std.specs.{Prelude.{ℕ, Bool, ◌+◌, ◌<◌, ◌^◌, List, [], ◌++◌, length, drop, codes, nat_le}, List.{AllByRecursion}, Fmt.{decimal}, Int.{w16, w32, to_be_bytes}}
use Rattle.dcsctp_tlv.{specs.Number.{number16, number32}, specs.Format.{Format}, specs.Level.{Row, listed}, specs.Image.{listed_tlv}, specs.Table.{Parameters}, proofs.Listed.{listed_sized}, proofs.ParameterLaws.{length-parameter}, specs.Kinds.{Kind, Nested}}
use Rattle.dcsctp_tlv.specs.Parameter as parameter
use Rattle.dcsctp_wire.specs.declared.packet.init_chunk.InitNumbers.{InitNumbers}

pub record Tree : Type 0 where
  pub tag : ℕ
  pub window : ℕ
  pub outbound : ℕ
  pub inbound : ℕ
  pub tsn : ℕ
  pub parameters : List parameter.ParameterTree

-- the numbers of a value, with these parameters
abbrev pub tree_of : List ℕ → List parameter.ParameterTree → Tree
tree_of value ps = record {
  tag = number32 value;
  window = number32 (drop 4 value);
  outbound = number16 (drop 8 value);
  inbound = number16 (drop 10 value);
  tsn = number32 (drop 12 value);
  parameters = ps;
}

abbrev pub row : Bool → Row Tree
row strict = listed (λ value. nat_le 16 (length value)) 16 (parameter.parameters strict) tree_of

-- the chunk and its parameters
abbrev pub parts : Tree → ℕ
parts i = 1 + length i.parameters

-- the numbers before the parameters, as they are written
abbrev pub leading : Tree → List ℕ
leading i =
    to_be_bytes w32 i.tag ++ (to_be_bytes w32 i.window ++ (to_be_bytes w16 i.outbound
    ++ (to_be_bytes w16 i.inbound ++ to_be_bytes w32 i.tsn)))

-- every number lies in its field's width
pub record IsInWidth (i : Tree) : Type 0 where
  pub tag : i.tag < 2 ^ 32
  pub window : i.window < 2 ^ 32
  pub outbound : i.outbound < 2 ^ 16
  pub inbound : i.inbound < 2 ^ 16
  pub tsn : i.tsn < 2 ^ 32
  pub each : AllByRecursion parameter.IsInWidth i.parameters

-- what is said of such a chunk, by its type and its name
abbrev pub format : ℕ → List ℕ → Tree → Format
format typ name i = record {
  tlv = listed_tlv typ 0 (leading i) parameter.tlv i.parameters;
  sized = listed_sized parameter.tlv length-parameter typ 0 (leading i) i.parameters;
  text =
      name ++ (codes ", initiate_tag=" ++ (decimal i.tag
      ++ (codes ", initial_tsn=" ++ decimal i.tsn)));
  IsInWidth = IsInWidth i;
  IsWellFormed = AllByRecursion parameter.IsWellFormed i.parameters;
}

abbrev pub kind_of : ℕ → (Tree → Format) → Kind
kind_of typ format = record {
  typ = typ;
  content = Parameters 16;
  Tree = Tree;
  reader = Nested (λ strict flags. row strict);
  format = format;
  kept = λ i. record i { parameters = parameter.all_kept i.parameters };
  parts = parts;
}

-- ---- the numbers of the code

-- what they mean, with these parameters
abbrev pub view : InitNumbers → List parameter.ParameterTree → Tree
view n ps = record {
  tag = n.initiate_tag;
  window = n.a_rwnd;
  outbound = n.nbr_outbound_streams;
  inbound = n.nbr_inbound_streams;
  tsn = n.initial_tsn.0;
  parameters = ps;
}

-- as they are read and written
abbrev pub numbers_at : List ℕ → InitNumbers
numbers_at value = record {
  initiate_tag = number32 value;
  a_rwnd = number32 (drop 4 value);
  nbr_outbound_streams = number16 (drop 8 value);
  nbr_inbound_streams = number16 (drop 10 value);
  initial_tsn = record { 0 = number32 (drop 12 value) };
}

abbrev pub number_bytes : InitNumbers → List ℕ
number_bytes n = leading (view n [])
