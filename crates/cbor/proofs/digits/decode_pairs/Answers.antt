use Rattle.std.proofs.Common.{◌+◌, ◌*◌, arith, slice_index}
use Rattle.hex.proofs.Pairs.{decode_done, decode_err, decode_step}
use Rattle.cbor.proofs.DigitPairs.{error-of, first-bad, is-error, pair-read, second-bad}
use Rattle.cbor.proofs.digits.decode_pairs.Goals.{then-high-eq-NO_DIGIT-via-then-high-eq-NO_DIGIT}
use Rattle.cbor.proofs.digits.decode_pairs.Goals.{then-high-eq-NO_DIGIT-via-else-high-eq-NO_DIGIT+then-low-eq-NO_DIGIT}
use Rattle.cbor.proofs.digits.decode_pairs.Goals as goal

pub returns-then-high-eq-NO_DIGIT : goal.returns-then-high-eq-NO_DIGIT
returns-then-high-eq-NO_DIGIT c =
    elim c.then-high-eq-NO_DIGIT.branch [
      | then-high-eq-NO_DIGIT-via-then-high-eq-NO_DIGIT w ↦
          let bad = error-of _ (first-bad (slice_index c.args.digits.now (2 * c.bytes.index))
          (slice_index c.args.digits.now (2 * c.bytes.index + 1)) (2 * c.bytes.index) _
          c.digit_value-high.ensures.value w.if-high-eq-NO_DIGIT.true) in
          is-error _ bad.0 (decode_err _ c.bytes.bytes c.bytes.index bad.0 (omega arith) bad.1 c.bytes.invariant)
      | then-high-eq-NO_DIGIT-via-else-high-eq-NO_DIGIT+then-low-eq-NO_DIGIT w ↦
          let bad = error-of _ (second-bad (slice_index c.args.digits.now (2 * c.bytes.index))
          (slice_index c.args.digits.now (2 * c.bytes.index + 1)) (2 * c.bytes.index) _
          c.digit_value-low.ensures.value w.if-low-eq-NO_DIGIT.true) in
          is-error _ bad.0 (decode_err _ c.bytes.bytes c.bytes.index bad.0 (omega arith) bad.1 c.bytes.invariant)
    ]

pub bytes-preserved : goal.bytes-preserved
bytes-preserved c = decode_step _ _ c.bytes.index _ (omega arith) (omega arith)
    (pair-read (slice_index c.args.digits.now (2 * c.bytes.index))
    (slice_index c.args.digits.now (2 * c.bytes.index + 1)) (2 * c.bytes.index) _ _ c.digit_value-high.ensures.value
    c.digit_value-low.ensures.value c.if-high-eq-NO_DIGIT.false c.if-low-eq-NO_DIGIT.false) c.bytes.invariant

pub returns : goal.returns
returns c = decode_done _ c.bytes.bytes c.bytes.index (omega arith) (omega arith) c.bytes.invariant
