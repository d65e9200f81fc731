-- Leading zeros hold nothing.
use Rattle.std.proofs.Common.{◌≤◌, Ok, Err, length, le-leb, cond, ap, ◌∙◌, subst, sym, arith}
use Rattle.ciborium_value.specs.{Meaning.{big_endian, without_zeros}, lemmas.ReadsBackBignums.zeros_hold_nothing}
use Rattle.ciborium_ll.specs.declared.kind.Kind.TheVariants as kinds
use Rattle.ciborium_value.proofs.bignum.find_magnitude.Goals as goal

pub returns : goal.returns
returns c =
    let short : length (without_zeros c.args.bytes.now) ≤ 16 =
    subst (λ b. length b ≤ 16) c.without_leading_zeros-significant.ensures
    (omega (arith, c.if-significant-gt-GREATEST_FOLDED_SIZE.false)) in
    ap (λ v. cond v (Ok (big_endian c.args.bytes.now)) (Err kinds.TooLarge))
    (le-leb (length (without_zeros c.args.bytes.now)) 16 short) ∙
    ap Ok (sym (zeros_hold_nothing c.args.bytes.now) ∙
    (sym (ap big_endian c.without_leading_zeros-significant.ensures) ∙ sym c.read_number.ensures))
