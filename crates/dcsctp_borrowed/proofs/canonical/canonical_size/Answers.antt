use Rattle.std.proofs.Common.{arith, refl, subst, sym, List, ℕ}
use Rattle.dcsctp_wire.{proofs.Canonicals.{length-canonical}}
use Rattle.dcsctp_borrowed.{specs.RawChunks.{MeanChunks}, proofs.CanonicalRewritten.{size_is, fits_if, size_fits}}
use Rattle.dcsctp_borrowed.proofs.canonical.canonical_size.Goals as goal

pub returns-in_default : goal.returns-in_default
returns-in_default c = λ p r f.
    let mean : MeanChunks c.bytes.result.now p.meaning.chunks =
    subst (λ (b : List ℕ). MeanChunks b p.meaning.chunks) (sym c.bytes.ensures.value) r.chunks in
    let small = size_fits c.bytes.result.now p.meaning.chunks c.bytes.ensures.fits mean p.meaning
    refl f in
    c.in_default.ensures (omega (arith, small))

pub returns-then-size : goal.returns-then-size
returns-then-size c = λ p r f.
    let mean : MeanChunks c.bytes.result.now p.meaning.chunks =
    subst (λ (b : List ℕ). MeanChunks b p.meaning.chunks) (sym c.bytes.ensures.value) r.chunks in
    let small = size_fits c.bytes.result.now p.meaning.chunks c.bytes.ensures.fits mean p.meaning
    refl f in
    omega (arith, small, c.in-Some.ensures.1, c.if-size.true)

pub returns : goal.returns
returns c = λ p r.
    let mean : MeanChunks c.bytes.result.now p.meaning.chunks =
    subst (λ (b : List ℕ). MeanChunks b p.meaning.chunks) (sym c.bytes.ensures.value) r.chunks in
    let padded = size_is c.bytes.result.now p.meaning.chunks c.bytes.ensures.fits mean in
    let whole = length-canonical p.meaning in (
      fits_if c.bytes.result.now p.meaning.chunks c.bytes.ensures.fits mean p.meaning refl
          (omega (arith, padded, c.in-Some.ensures.1, c.if-size.false)),
      omega (arith, padded, whole, c.in-Some.ensures.1, c.round_up_to_4.ensures),
    )
