use Rattle.std.proofs.Common.{◌≡◌, ◌∙◌, ℕ, List, ap, sym, subst, refl, arith, set}
use Rattle.dcsctp_c.{specs.Row.{IsRow}, specs.declared.structs.{DcsctpChunk.{DcsctpChunk}, DcsctpRow.{DcsctpRow}}, proofs.Rows.{of_plain, of_data, of_sack, of_init, of_forward, of_shutdown, of_other}}
use Rattle.dcsctp_c.proofs.read.put_row.Goals as goal

-- a row that is the kind's was written
puts : (bytes : List ℕ) (c : DcsctpChunk) (index : ℕ) (old new : List DcsctpRow)
    (row kinds : DcsctpRow) → row ≡ kinds → kinds.chunk ≡ c → IsRow bytes c kinds
    → new ≡ set old index row
    → (r : DcsctpRow) × (r.chunk ≡ c) × IsRow bytes c r × (new ≡ set old index r)
puts bytes c index old new row kinds is chunk holds put = (
  row,
  ap (λ (r : DcsctpRow). r.chunk) is ∙ chunk,
  subst (IsRow bytes c) (sym is) holds,
  put,
)

pub row_after-requires : goal.row_after-requires
row_after-requires c = omega (arith, c.requires.size, c.requires.fits)

pub returns-then-not-has_numbers : goal.returns-then-not-has_numbers
returns-then-not-has_numbers c bytes there =
    let chunk = c.args.chunk.now in
    let value = c.args.value.now in
    let none = c.has_numbers.ensures in
    let no = c.if-not-has_numbers.true in
    puts bytes chunk c.args.index c.args.rows.now _ c.row_after.result _ c.row_after.ensures refl
    (of_plain bytes chunk value there (none.data no chunk.flags value) (none.sack no value)
    (none.init no value) (none.forward no value) (none.shutdown no value)) c.put_item-then-not-has_numbers.ensures

pub data_in-requires : goal.data_in-requires
data_in-requires c = c.requires.fits

pub data_row-requires : goal.data_row-requires
data_row-requires c = omega (arith, c.requires.size, c.requires.fits)

pub returns-in-Some : goal.returns-in-Some
returns-in-Some c bytes there =
    puts bytes c.args.chunk.now c.args.index c.args.rows.now _ c.data_row.result _
    c.data_row.ensures refl
    (of_data bytes c.args.chunk.now c.args.value.now there c.in-Some.found
    (c.in-Some.ensures bytes there)) c.put_item.ensures

pub sack_row-requires : goal.sack_row-requires
sack_row-requires c = omega (arith, c.requires.size, c.requires.fits)

pub returns-in-Some-from_raw : goal.returns-in-Some-from_raw
returns-in-Some-from_raw c bytes there =
    puts bytes c.args.chunk.now c.args.index c.args.rows.now _ c.sack_row.result _
    c.sack_row.ensures refl
    (of_sack bytes c.args.chunk.now c.args.value.now there c.in-Some-from_raw.found
    c.sack_struct.result c.in-Some-from_raw.ensures.read c.sack_struct.ensures) c.put_item-in-Some-from_raw.ensures

pub init_row-requires : goal.init_row-requires
init_row-requires c = omega (arith, c.requires.size, c.requires.fits)

pub returns-in-Some-init_in : goal.returns-in-Some-init_in
returns-in-Some-init_in c bytes there =
    puts bytes c.args.chunk.now c.args.index c.args.rows.now _ c.init_row.result _
    c.init_row.ensures refl
    (of_init bytes c.args.chunk.now c.args.value.now there c.in-Some-init_in.found
    c.in-Some-init_in.ensures) c.put_item-in-Some-init_in.ensures

pub forward_row-requires : goal.forward_row-requires
forward_row-requires c = omega (arith, c.requires.size, c.requires.fits)

pub returns-in-Some-from_raw-2 : goal.returns-in-Some-from_raw-2
returns-in-Some-from_raw-2 c bytes there =
    puts bytes c.args.chunk.now c.args.index c.args.rows.now _ c.forward_row.result _
    c.forward_row.ensures refl
    (of_forward bytes c.args.chunk.now c.args.value.now there c.in-Some-from_raw-2.found
    c.forward_struct.result c.in-Some-from_raw-2.ensures.read c.forward_struct.ensures) c.put_item-in-Some-from_raw-2.ensures

pub shutdown_row-requires : goal.shutdown_row-requires
shutdown_row-requires c = omega (arith, c.requires.size, c.requires.fits)

pub returns-in-Some-shutdown_in : goal.returns-in-Some-shutdown_in
returns-in-Some-shutdown_in c bytes there =
    puts bytes c.args.chunk.now c.args.index c.args.rows.now _ c.shutdown_row.result _
    c.shutdown_row.ensures refl
    (of_shutdown bytes c.args.chunk.now c.args.value.now there c.in-Some-shutdown_in.tsn
    c.in-Some-shutdown_in.ensures) c.put_item-in-Some-shutdown_in.ensures

pub returns-in-None : goal.returns-in-None
returns-in-None c bytes there =
    puts bytes c.args.chunk.now c.args.index c.args.rows.now _ c.row_after-in-None.result _
    c.row_after-in-None.ensures refl
    (of_other bytes c.args.chunk.now c.args.value.now there (c.in_default.ensures bytes there)
    c.in_default-from_raw.ensures.read c.in_default-init_in.ensures
    c.in_default-from_raw-2.ensures.read c.in-None.ensures) c.put_item-in-None.ensures
