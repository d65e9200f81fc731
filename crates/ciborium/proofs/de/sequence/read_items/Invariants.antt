use Rattle.std.proofs.Common.{Some, map}
use Rattle.ciborium.{proofs.Readers.ReadSequences.HasRead, specs.TypedAnswers.TakesBeginning}
use Rattle.ciborium.proofs.de.sequence.read_items.Given as goal

-- the items that were read are the first, and nothing else was taken
abbrev pub invariant-loop : goal.invariant-loop
invariant-loop g l = record {
  read : HasRead (Some 256) g.T.Deserialize.reading.taken (g.A.Access.remaining l.fn.reader)
      (g.A.Access.remaining l.reader)
      (map g.T.Deserialize.reading.content l.items.items);
  only : TakesBeginning (g.A.Access.remaining l.fn.reader) (g.A.Access.remaining l.reader);
}
