-- The words that the definitions of a kind of item are written with; it defines none.
pub use Rattle.dcsctp_tlv.specs.Fault.{Fault, Length, Padding, Value}
pub use Rattle.dcsctp_tlv.specs.Fields.{fields, stream_numbers}
pub use Rattle.dcsctp_tlv.specs.Number.{AreBytes, number16, number32, numbers}
pub use Rattle.dcsctp_tlv.specs.Text.{joined}
pub use Rattle.dcsctp_tlv.specs.Table.{Fixed, Varied, Text, Parameters, Causes}
pub use Rattle.dcsctp_tlv.specs.Kinds.{Kind, Reader, AtFixed, Nested, plain_kind, kept_kind}
pub use Rattle.dcsctp_tlv.specs.Format.{Format, flagged_tlv, sized_tlv}
pub use Rattle.dcsctp_tlv.specs.Length.{length-solid, length-two_lists, length-fields, length-words}
