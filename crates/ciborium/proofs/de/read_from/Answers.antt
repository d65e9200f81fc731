-- The reader's error is put back behind a value that was refused.
use Rattle.std.proofs.Common.{◌≡◌, Err, sym, ap, ◌∙◌, subst}
use Rattle.ciborium_ll.specs.Accesses.{left_at_failure}
use Rattle.ciborium_value.specs.Sources.{IsGrantedFault, RefusesAhead}
use Rattle.ciborium.specs.{inner.ByteSources.{HasTaken, ReadsValue, StandsBefore, fault_at}, Errors.fault_of}
use Rattle.ciborium.proofs.{Readers.HandedReaders.some-map, Readers.PutAside.{back-reads, same-cause, same-decoder}}
use Rattle.ciborium.proofs.de.read_from.Goals as goal

pub returns-in-Err : goal.returns-in-Err
returns-in-Err g c =
    let source = c.deserialize.new.source in
    let same : fault_at g.A.Access.can_fail g.A.Access.remaining source c.in-Err.refusal ≡
    fault_at g.A.Access.can_fail g.A.Access.remaining c.put_back.new.self c.put_back.result =
    ap (fault_at g.A.Access.can_fail g.A.Access.remaining source) c.put_back.ensures.refusal ∙
    same-cause (left_at_failure g.A.Access.can_fail (g.A.Access.remaining source.decoder.reader.now))
    c.put_back.result ∙
    ap (λ d. fault_of (left_at_failure g.A.Access.can_fail (g.A.Access.remaining d.reader.now)) c.put_back.result)
    (sym c.put_back.ensures.decoder) in record {
      ok = tt;
      took = tt;
      only = λ first h. subst (HasTaken g.A.Access.remaining first.decoder) (sym c.put_back.ensures.decoder)
          (c.in-Err.ensures.takes.only first h);
      refused = subst (RefusesAhead (StandsBefore g.A.Access.remaining) c.args.source.now g.T.Deserialize.reading.taken)
          same c.in-Err.ensures.takes.refused;
      memory = subst (λ f. IsGrantedFault f g.T.Deserialize.reading.needs_memory) same c.in-Err.ensures.memory;
      whole = some-map g.T.Deserialize.reading.whole c.in-Err.ensures.whole
          (λ tree reads. same-decoder g.A.Access.can_fail g.A.Access.remaining c.args.source.now source
          c.put_back.new.self
          (Err c.put_back.result) c.put_back.ensures.decoder
          (back-reads g.A.Access.can_fail g.A.Access.remaining c.args.source.now source c.put_back.result
          (subst (λ r. ReadsValue {E = Unit} g.A.Access.can_fail g.A.Access.remaining c.args.source.now source (Err r))
          c.put_back.ensures.refusal reads)));
    }
