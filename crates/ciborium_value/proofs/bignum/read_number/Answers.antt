use Rattle.std.proofs.Common.{◌≡◌, ◌+◌, ◌*◌, ◌<◌, take, get_or, sym, ap, ◌∙◌, arith, lit<, subst, add-zero, Fits}
use Rattle.std.{proofs.lemmas.List.take_more, specs.Int.w128}
use Rattle.ciborium_value.proofs.FoldedTrees.BigEndian.{big_endian_behind-more, big_endian-none, bound-more, bound-fits}
use Rattle.ciborium_value.specs.Meaning.{big_endian}
use Rattle.ciborium_value.proofs.bignum.read_number.Goals as goal

pub loop-byte-init : goal.loop-byte-init
loop-byte-init c = record { bound = lit< tt; value = sym big_endian-none }

byte : (c : goal.After-from) → c.from.result < 256
byte c = let f = c.type_inv.bytes c.loop-byte.byte-index in let e = c.from.ensures in omega (arith, f)

pub overflow_mul-number : goal.overflow_mul-number
overflow_mul-number c = let i = bound-fits c.loop-byte.number 0 c.loop-byte.byte-index c.loop-byte.invariant.bound
    (omega arith) (lit< tt) in subst (λ n. Fits w128 n) (add-zero (c.loop-byte.number * 256)) i

pub overflow_add-number : goal.overflow_add-number
overflow_add-number c = bound-fits c.loop-byte.number c.from.result c.loop-byte.byte-index c.loop-byte.invariant.bound
    (omega arith) (byte c)

pub loop-byte-preserved : goal.loop-byte-preserved
loop-byte-preserved c = record {
  bound = bound-more c.loop-byte.number c.from.result c.loop-byte.byte-index c.loop-byte.invariant.bound (byte c);
  value = (
      let xs = c.args.bytes.now in
      let i = c.loop-byte.byte-index in
      let x = c.loop-byte.invariant.value in
      let sum : c.loop-byte.number * 256 + c.from.result ≡ 256 * c.loop-byte.number + c.from.result = omega arith in
      sum ∙ ap (λ n. 256 * n + c.from.result) x ∙ ap (λ b. 256 * big_endian (take i xs) + b) c.from.ensures ∙
      sym (big_endian_behind-more 0 (take i xs) (get_or xs i 0)) ∙
      ap big_endian (sym (take_more xs i 0 c.loop-byte-test.true))
      );
}
