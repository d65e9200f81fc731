use Rattle.std.proofs.Common.{rules, arith, sym, ap, ◌∙◌, ◌<◌, length, Some}
use Rattle.ciborium_ll.proofs.KeptLevels.{complete-gone, top-within}
use Rattle.ciborium_ll.proofs.levels.Levels.drop_complete.Goals as goal

pub loop-self-smaller : goal.loop-self-smaller
loop-self-smaller c =
    let top = sym c.top.ensures.top ∙ c.in-Some-Items-eq0.is in
    let less : c.loop-self.self.free < length c.loop-self.self.kept =
    top-within c.loop-self.self.free c.loop-self.self.kept
    c.in-Some-Items-eq0.field-0 top in omega (arith, less)

pub loop-self-preserved : goal.loop-self-preserved
loop-self-preserved c = record {
  same = complete-gone c.loop-self.self.free c.loop-self.self.kept c.in-Some-Items-eq0.field-0-0
      (sym c.top.ensures.top ∙ c.in-Some-Items-eq0.is ∙ ap Some c.in-Some-Items-eq0.field-0-is)
      (search rules) ∙ c.loop-self.invariant.same;
}
