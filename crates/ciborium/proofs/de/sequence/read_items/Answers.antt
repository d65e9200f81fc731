-- A sequence is read item by item.
use Rattle.std.proofs.{Common.{◌∷◌, [], Some, map, sym, ap, ◌∙◌, subst}, lemmas.List.map-append}
use Rattle.ciborium_ll.specs.Accesses.{left_at_failure}
use Rattle.ciborium.proofs.{Exits.passed_on, Readers.ReadSequences.{HasRead, more-taken, no-memory-behind, none-read}}
use Rattle.ciborium.proofs.Readers.ReadSequences.{none-taken, one-more-read, refused-behind}
use Rattle.std.specs.declared.io.Error.{Error as IoError}
use Rattle.ciborium.proofs.de.sequence.read_items.Goals as goal

pub loop-init : goal.loop-init
loop-init g c = record {
  read = let before = g.A.Access.remaining c.args.reader.now in
      subst (HasRead (Some 256) g.T.Deserialize.reading.taken before before)
      (sym (ap (map g.T.Deserialize.reading.content) c.new-items.ensures.items))
      (none-read (Some 256) g.T.Deserialize.reading.taken before);
  only = none-taken (g.A.Access.remaining c.args.reader.now);
}

pub loop-preserved : goal.loop-preserved
loop-preserved g c = record {
  read = let before = g.A.Access.remaining c.args.reader.now in
      let content = g.T.Deserialize.reading.content in
      subst (HasRead (Some 256) g.T.Deserialize.reading.taken before (g.A.Access.remaining c.read_next-next.new.reader))
      (sym (ap (map content) c.in_ok-push.ensures.items ∙
      map-append content c.loop.items.items (c.in-Some.item ∷ [])))
      (one-more-read (Some 256) g.T.Deserialize.reading.taken before IoError _ _ (map content c.loop.items.items)
      (content c.in-Some.item) c.loop.invariant.read (rw c.in-Some.is at c.in_ok-item.ensures.ok));
  only = more-taken _ _ _ c.loop.invariant.only c.read_next-next.ensures.taken;
}

pub returns-in_err-item-clause-refused : goal.returns-in_err-item-clause-refused
returns-in_err-item-clause-refused g c =
    rw (passed_on c.from_residual.result _ c.from_residual.ensures.1)
    (refused-behind (Some 256) g.T.Deserialize.reading.taken
    (g.A.Access.remaining c.args.reader.now)
    g.row.T.Denot IoError _ (left_at_failure g.A.Access.can_fail (g.A.Access.remaining c.read_next-next.new.reader))
    (map g.T.Deserialize.reading.content c.loop.items.items) c.in_err-item.field-0.0 c.loop.invariant.read
    c.in_err-item.ensures.refused c.in_err-item.ensures.end)

pub returns-in_err-item-clause-taken : goal.returns-in_err-item-clause-taken
returns-in_err-item-clause-taken g c = more-taken _ _ _ c.loop.invariant.only c.read_next-next.ensures.taken

pub returns-in_err-push-clause-refused : goal.returns-in_err-push-clause-refused
returns-in_err-push-clause-refused g c =
    let before = g.A.Access.remaining c.args.reader.now in
    let content = g.T.Deserialize.reading.content in
    rw (passed_on c.from_residual-in_err-push.result _ c.from_residual-in_err-push.ensures.1)
    (no-memory-behind (Some 256) g.T.Deserialize.reading.taken before IoError _ _
    (one-more-read (Some 256) g.T.Deserialize.reading.taken before IoError _
    (g.A.Access.remaining c.read_next-next.new.reader) (map content c.loop.items.items) (content c.in-Some.item)
    c.loop.invariant.read (rw c.in-Some.is at c.in_ok-item.ensures.ok)))

pub returns-in_err-push-clause-taken : goal.returns-in_err-push-clause-taken
returns-in_err-push-clause-taken g c = more-taken _ _ _ c.loop.invariant.only c.read_next-next.ensures.taken

pub returns-clause-refused : goal.returns-clause-refused
returns-clause-refused g c = no-memory-behind (Some 256) g.T.Deserialize.reading.taken
    (g.A.Access.remaining c.args.reader.now) IoError _ _ c.loop.invariant.read
