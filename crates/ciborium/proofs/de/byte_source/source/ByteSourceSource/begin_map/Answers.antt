use Rattle.std.proofs.{Common.{Some, rules}, lemmas.Result.{IfErr-weaker, IfOk-weaker}}
use Rattle.ciborium_value.specs.{Ahead.takes_level, Given.{given_pairs, give}}
use Rattle.ciborium.proofs.Containers.ByteItems.{head-refuses, nested-refuses, other-refuses}
use Rattle.ciborium.proofs.Containers.EnteredContainers.{map-nests, map-other}
use Rattle.ciborium.proofs.{Containers.EnteredContainers.{pairs-given}, Exits.{both, both-err, passed_on}}
use Rattle.ciborium.proofs.Containers.EnteredContainers.{entered, map-container, parts-owed, parts-stand}
use Rattle.ciborium_ll.specs.declared.header.Header.TheVariants as header
use Rattle.ciborium.proofs.de.byte_source.source.ByteSourceSource.begin_map.Goals as goal

pub returns-in_err-header-clause-refused : goal.returns-in_err-header-clause-refused
returns-in_err-header-clause-refused g c =
    rw (passed_on c.from_residual.result _ c.from_residual.ensures.1)
    (head-refuses given_pairs c.in_err-header.ensures.reads c.in_err-header.ensures.denied)

pub returns-in_default-clause-refused : goal.returns-in_default-clause-refused
returns-in_default-clause-refused g c =
    other-refuses given_pairs c.in_ok-header.ensures.reads c.in_ok-header.ensures.head
    (map-other (Some c.args.self.now.levels) c.in_ok-header.header
    c.in_ok-header.ensures.reads.bare c.in_default.not-Map)

pub returns : goal.returns
returns g c =
    let enter = c.enter.ensures in
    let all = IfOk-weaker c.enter.result _ _ (λ q t. let (some, (levels, (left, back))) = t in
    entered map-container c.enter.new.self c.in-Map.count q c.in_ok-header.ensures.reads c.in_ok-header.ensures.head
    (enter.decoder, enter.pending, some, levels, left) back given_pairs
    (λ span ps. give (takes_level span, ps)) c.in-Map.is (pairs-given c.in-Map.count))
    (both _ _ _ enter.some (both _ _ _ enter.levels (both _ _ _ enter.left enter.back))) in record {
      ok = IfOk-weaker c.enter.result _ _ (λ q a. parts-stand a) all;
      refused = IfErr-weaker c.enter.result _ _ (λ e t. nested-refuses given_pairs c.in_ok-header.ensures.reads
          c.in_ok-header.ensures.head c.enter.new.self (header.Map c.in-Map.count) c.in-Map.is t.0 t.1
          (map-nests c.in-Map.count)) (both-err _ _ _ enter.none enter.err);
      memory = search rules;
      took = IfOk-weaker c.enter.result _ _ (λ q a. parts-owed a) all;
      only = search rules;
      less = IfOk-weaker c.enter.result _ _ (λ q a. a.fewer) all;
      no_more = search rules;
    }
