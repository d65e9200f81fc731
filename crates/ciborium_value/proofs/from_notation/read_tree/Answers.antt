use Rattle.std.proofs.Common.{rules, ◌≤◌, ◌∙◌, arith, length, sym, subst}
use Rattle.ciborium_value.specs.inner.ReadTokens.{IsMisplaced, IsReached, await_of, item, around_in, token_read}
use Rattle.ciborium_value.proofs.Denoting.BegunLevels.{room_next}
use Rattle.ciborium_value.proofs.Denoting.Reached.{blanks_end, end_ok, end_only, end_refused, no-blanks, reached-first}
use Rattle.ciborium_value.proofs.Denoting.Reached.{reached-misplaced, reached-next, reached-wrong, token_refused}
use Rattle.ciborium_value.proofs.from_notation.read_tree.Goals as goal

pub tokens-init : goal.tokens-init
tokens-init c = (
  subst (λ o. IsReached c.args.text.now c.args.limit o item c.args.text.now)
      (sym c.new-levels.ensures.levels) (reached-first c.args.text.now c.args.limit),
  c.new-levels.ensures.limit,
  subst (λ o. length o ≤ c.args.limit) (sym c.new-levels.ensures.levels) (omega arith),
)

pub returns-in_default-clause-refused : goal.returns-in_default-clause-refused
returns-in_default-clause-refused c = reached-wrong c.args.text.now c.args.limit (around_in c.tokens.levels)
    (await_of c.tokens.due) c.tokens.rest.now c.tokens.invariant.0
    (no-blanks (around_in c.tokens.levels) (await_of c.tokens.due) c.tokens.rest.now (search rules))

pub returns-then-is_empty-clause-ok : goal.returns-then-is_empty-clause-ok
returns-then-is_empty-clause-ok c = end_ok c.args.text.now c.args.limit (around_in c.tokens.levels)
    (await_of c.tokens.due) c.tokens.rest.now c.end.result c.tokens.invariant.0
    (blanks_end c.tokens.rest.now c.in-Some.front.now c.in-Some.ensures.blanks (search rules)) c.end.ensures.ok

pub returns-then-is_empty-clause-only : goal.returns-then-is_empty-clause-only
returns-then-is_empty-clause-only c = end_only c.args.text.now c.args.limit (around_in c.tokens.levels)
    (await_of c.tokens.due) c.tokens.rest.now c.end.result c.tokens.invariant.0 c.end.ensures.ok

pub returns-then-is_empty-clause-refused : goal.returns-then-is_empty-clause-refused
returns-then-is_empty-clause-refused c = end_refused c.args.text.now c.args.limit (around_in c.tokens.levels)
    (await_of c.tokens.due) c.tokens.rest.now c.end.result c.tokens.invariant.0
    (blanks_end c.tokens.rest.now c.in-Some.front.now c.in-Some.ensures.blanks (search rules)) c.end.ensures.refused

pub returns-in-Err-clause-refused : goal.returns-in-Err-clause-refused
returns-in-Err-clause-refused c = token_refused c.args.text.now c.args.limit (around_in c.tokens.levels)
    (await_of c.tokens.due) c.tokens.rest.now c.in-Some.front.now c.in-Err.error c.tokens.invariant.0
    c.in-Some.ensures.blanks (search rules) c.in-Err.ensures.refused

pub returns-in-Err-take-clause-refused : goal.returns-in-Err-take-clause-refused
returns-in-Err-take-clause-refused c = reached-misplaced c.args.text.now c.args.limit (around_in c.tokens.levels)
    (await_of c.tokens.due) c.tokens.rest.now c.in-Some.front.now c.in-Ok.read.1.now (token_read c.in-Ok.read.0)
    c.in-Err-take.error c.tokens.invariant.0 c.in-Some.ensures.blanks c.in-Ok.ensures.found
    (subst (λ l. IsMisplaced (around_in c.tokens.levels) (await_of c.tokens.due) (token_read c.in-Ok.read.0) l
    c.in-Err-take.error) c.tokens.invariant.1 c.in-Err-take.ensures.taken)

pub tokens-preserved : goal.tokens-preserved
tokens-preserved c = (
  reached-next c.args.text.now c.args.limit (around_in c.tokens.levels) (around_in c.take.new.self)
      (await_of c.tokens.due) (await_of c.in-Ok-take.due) c.tokens.rest.now c.in-Some.front.now c.in-Ok.read.1.now
      (token_read c.in-Ok.read.0) c.tokens.invariant.0 c.tokens.invariant.2 c.in-Some.ensures.blanks
      c.in-Ok.ensures.found c.in-Ok-take.ensures.taken.0,
  c.take.ensures.limit ∙ c.tokens.invariant.1,
  room_next c.tokens.levels.limit c.args.limit c.tokens.levels.levels.items c.take.new.self.levels.items
      (await_of c.tokens.due) (await_of c.in-Ok-take.due) c.tokens.invariant.1
      c.in-Ok-take.ensures.taken.1 c.tokens.invariant.2,
)
