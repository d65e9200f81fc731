use Rattle.std.proofs.Common.{rules, ◌≡◌, [], ◌++◌, codes, length, refl, sym, ap, ◌∙◌, append_assoc}
use Rattle.hex.specs.Hex.{encode_lower}
use Rattle.ciborium_value.proofs.Trees.Notations.{then, as_bytes, all_shown, encode_lower-append, encode_lower-nil}
use Rattle.ciborium_value.proofs.notation.write_bytes.Goals as goal

pub loop-rest-init : goal.loop-rest-init
loop-rest-init g c = (
  [],
  refl,
  λ flush. as_bytes (ap (λ l. codes "h'" ++ l) encode_lower-nil)
      (c.in_ok-write_str.ensures.styled flush refl),
)

pub loop-rest-preserved : goal.loop-rest-preserved
loop-rest-preserved g c =
    let before = c.loop-rest.invariant in
    let run = c.split_at.result.0.now in (
      before.0 ++ run,
      before.1 ∙ ap (λ l. before.0 ++ l) c.split_at.ensures.by_index.0 ∙
          sym (append_assoc before.0 run c.split_at.result.1.now),
      λ flush. as_bytes (ap (λ l. codes "h'" ++ l) (sym (encode_lower-append before.0 run)))
          (then (before.2 flush) (λ f. c.in_ok-write_digits.ensures f refl)),
    )

pub returns : goal.returns
returns g c = λ flush ok.
    let before = c.loop-rest.invariant in
    let none : length c.loop-rest.rest.now ≡ 0 = search rules in
    let all = all_shown c.args.bytes.now before.0 c.loop-rest.rest.now before.1 none in
    as_bytes (ap (λ l. codes "h'" ++ (encode_lower l ++ codes "'")) (sym all))
    (then (before.2 flush) (λ f. c.write_str-2.ensures.styled f ok))
