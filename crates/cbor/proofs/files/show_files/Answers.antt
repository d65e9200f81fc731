use Rattle.std.proofs.Common.{◌≡◌, ℕ, List, get_or, length, map, string_bytes, take, sym, subst, ap, ◌∙◌, arith}
use Rattle.std.proofs.lemmas.List.{get_or-map, take_all}
use Rattle.ciborium_value.proofs.Writing.Progress.{length-map}
use Rattle.cbor.{proofs.ShownFiles.{none-shown, one-more}, specs.Files.{AreInputsShown, Input}}
use Rattle.cbor.proofs.files.show_files.Goals as goal

-- as many inputs as names
as-many : {S : Type 0} (f : S → List ℕ) (names : List S) (inputs : List Input) →
    map f names ≡ map (λ (i : Input). i.0) inputs → length names ≡ length inputs
as-many f names inputs e =
    sym (length-map f names) ∙ (ap (λ (ns : List (List ℕ)). length ns) e ∙ length-map (λ (i : Input). i.0) inputs)

pub files-init : goal.files-init
files-init g c inputs w e h f = none-shown c.args.command (g.O.Opener.contents c.args.opener.now) inputs w _ _ h f

pub files-preserved : goal.files-preserved
files-preserved g c inputs w e h f =
    let size = as-many string_bytes c.args.names.now inputs e in
    let name : c.as_str.result.now ≡ get_or (map (λ (i : Input). i.0) inputs) c.files.name-index c.as_str.result.now =
    c.as_str.ensures.value ∙ (ap string_bytes c.name-item.is ∙
    (sym (get_or-map string_bytes c.args.names.now c.files.name-index c.name-item.result c.as_str.result.now
    c.files-test.true) ∙
    ap (λ (ns : List (List ℕ)). get_or ns c.files.name-index c.as_str.result.now) e)) in
    one-more c.args.command (g.O.Opener.contents c.args.opener.now) inputs c.files.name-index w c.files.all c.in-Ok.one
    _ _ _ _ c.as_str.result.now (omega (arith, size, c.files-test.true)) name (c.files.invariant inputs w e h f)
    c.in-Ok.ensures.kept (λ b v p q. c.in-Ok.ensures.shown b v p q)

pub returns : goal.returns
returns g c inputs w e h f =
    let size = as-many string_bytes c.args.names.now inputs e in
    let ((v, shown, same), left) = c.files.invariant inputs w e h f in
    let all_of : take c.files.name-index inputs ≡ inputs =
    take_all c.files.name-index inputs (omega (arith, size, c.files-test.false)) in
    (v, subst (λ (is : List Input). AreInputsShown c.args.command w is c.files.all v) all_of shown, same)
