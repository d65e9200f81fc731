use Rattle.std.proofs.Common.{Some, refl, sym, ap, ◌∙◌}
use Rattle.cbor.proofs.ReadBytes.{front-refused, named-anyway, nothing-left}
use Rattle.cbor.proofs.items.read_front.Goals as goal

pub name_refusal-requires : goal.name_refusal-requires
name_refusal-requires c = named-anyway (Some c.read_spelled.new.reader.now) c.in-Err.error _
    (c.in-Err.ensures.refused c.args.rest.now.now refl)

pub returns-in-Err-clause-refused : goal.returns-in-Err-clause-refused
returns-in-Err-clause-refused c =
    let rest = c.read_spelled.new.reader.now in
    front-refused c.name_refusal.result _ c.in-Err.error c.is_empty.result c.args.spelling c.args.rest.now.now
    c.args.limit (Some rest) c.unwrap_or.ensures c.name_refusal.ensures.refused
    (λ ends. ap Some (nothing-left rest (sym c.is_empty.ensures ∙ ends)))
    (c.in-Err.ensures.refused c.args.rest.now.now refl)
