-- What the first head and what follows it took was taken from the reader that was lent.
use Rattle.std.{proofs.Common.{None, arith, rules, sym, ◌∙◌}, specs.declared.io.Error.Error}
use Rattle.ciborium.proofs.{Exits.passed_on, Readers.NextReaders.{reads-next, refuses-first, refuses-full}}
use Rattle.ciborium.proofs.de.read_next_at.Goals as goal

pub returns-then-begin-clause-next : goal.returns-then-begin-clause-next
returns-then-begin-clause-next g c =
    refuses-full Error g.A.Access.can_fail _ c.args.limit g.T.Deserialize.reading _ c.if-begin.true

pub returns-in_err-first-clause-next : goal.returns-in_err-first-clause-next
returns-in_err-first-clause-next g c =
    rw (passed_on c.from_residual.result _ c.from_residual.ensures.1)
    (refuses-first Error g.A.Access.can_fail g.A.Access.remaining c.begin.result
    c.pull_first.new.self c.args.reader.now _
    c.begin.ensures.begins c.pull_first.ensures.same_reader c.in_err-first.field-0.0 c.in_err-first.ensures.ended
    c.in_err-first.ensures.taken
    c.args.limit g.T.Deserialize.reading _ c.in_err-first.ensures.empty
    (let name = sym c.begin.ensures.same_reader ∙
    sym c.pull_first.ensures.same_reader in search rules) (omega arith))

pub returns : goal.returns
returns g c =
    let both = reads-next Error g.A.Access.can_fail g.A.Access.remaining g.T.Deserialize.reading c.begin.result
    (record {
      decoder = c.pull_first.new.self;
      pending = None;
      levels = c.args.limit;
      scratch = c.read_item.new.source.scratch;
      failure = None;
      unpushed = c.pull_first.ensures.none_pushed;
    })
    c.read_item.new.source c.args.reader.now _ _ c.begin.ensures.begins c.pull_first.ensures.same_reader
    (λ same. let name = sym c.begin.ensures.same_reader ∙
    (sym c.pull_first.ensures.same_reader ∙ same) in search rules)
    (omega arith) c.read_item.ensures.only c.in_ok-first.first c.read_item.result _ c.read_item.ensures.counted
    c.in_ok-first.ensures.taken c.in_ok-first.ensures.end c.in_ok-first.ensures.empty c.read_item.ensures.end
    c.read_item.ensures.item in record { next = both.0; moved = both.1 }
