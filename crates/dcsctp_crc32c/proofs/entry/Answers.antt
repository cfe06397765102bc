use Rattle.dcsctp_crc32c.proofs.Rows.{table_entry}
use Rattle.dcsctp_crc32c.proofs.entry.Goals as goal

pub returns : goal.returns
returns c = table_entry c.args.k c.args.byte _ c.requires c.ranges.byte.fits
