use Rattle.std.proofs.Common.{rules, ◌≡◌, ◌<◌, ◌+◌, ◌∷◌, [], ◌++◌, codes, length, take, drop, get_or, true, refl, sym}
use Rattle.std.proofs.{Common.{ap, subst, ◌∙◌, append_assoc}, lemmas.Str.IsCharBoundary-after_ascii}
use Rattle.ciborium_value.proofs.Trees.Notations.{then, as_bytes, around_byte, escaped_is_ascii, escaped-last}
use Rattle.ciborium_value.{proofs.Trees.Notations.escaped-more, specs.Notation.{IsPlain, escape, needs_escape}}
use Rattle.ciborium_value.proofs.notation.write_text.Goals as goal

pub range_from-rest-requires : goal.range_from-rest-requires
range_from-rest-requires g c = λ _.
    let same : c.as_bytes.result.now ≡ c.loop-end.rest.now = c.as_bytes.ensures.value in
    let within = subst (λ l. c.in-Some.end < length l) same c.in-Some.ensures.within in
    let found = subst (λ l. needs_escape (get_or l c.in-Some.end 0) ≡ true) same c.in-Some.ensures.found in
    IsCharBoundary-after_ascii c.loop-end.rest.now c.in-Some.end c.loop-end.invariant.0 within
    (escaped_is_ascii _ found)

pub loop-end-preserved : goal.loop-end-preserved
loop-end-preserved g c =
    let before = c.loop-end.invariant in
    let rest = c.loop-end.rest.now in
    let end = c.in-Some.end in
    let same : c.as_bytes.result.now ≡ rest = c.as_bytes.ensures.value in
    let within = subst (λ l. end < length l) same c.in-Some.ensures.within in
    let found = subst (λ l. needs_escape (get_or l end 0) ≡ true) same c.in-Some.ensures.found in
    let plain = subst (λ l. IsPlain (take end l)) same c.in-Some.ensures.before in
    let run : c.range.result.now ≡ take end rest = search rules in
    let byte : get_or c.as_bytes-in-Some.result.now end 0 ≡ get_or rest end 0 =
    ap (λ l. get_or l end 0) c.as_bytes-in-Some.ensures.value in
    let behind : c.range_from-rest.result.now ≡ drop (end + 1) rest = search rules in (
      c.range_from-rest.utf8,
      before.1 ++ (take end rest ++ (get_or rest end 0 ∷ [])),
      before.2 ∙ ap (λ l. before.1 ++ l) (around_byte end rest within ∙
          ap (λ l. (take end rest ++ (get_or rest end 0 ∷ [])) ++ l) (sym behind)) ∙ sym (append_assoc before.1 _ _),
      λ flush.
          as_bytes (ap (λ l. codes "\"" ++ l) (escaped-more before.1 (take end rest) (get_or rest end 0) plain found))
          (then (then (before.3 flush) (λ f. as_bytes run (c.in_ok-write_str-2.ensures.styled f refl)))
          (λ f. as_bytes (ap escape byte) (c.in_ok-write_escape.ensures f refl))),
    )

pub returns : goal.returns
returns g c = λ flush ok.
    let before = c.loop-end.invariant in
    let plain = subst IsPlain c.as_bytes.ensures.value (c.in_default.ensures.absent (search rules)) in
    as_bytes (ap (λ l. codes "\"" ++ (l ++ codes "\""))
    (escaped-last c.args.text.now before.1 c.loop-end.rest.now before.2 plain))
    (then (then (before.3 flush) (λ f. c.in_ok-write_str-3.ensures.styled f refl))
    (λ f. c.write_str-3.ensures.styled f ok))
