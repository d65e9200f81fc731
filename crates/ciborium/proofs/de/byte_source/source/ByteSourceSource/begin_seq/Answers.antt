use Rattle.std.proofs.{Common.{refl, rules, Some}, lemmas.Result.{IfErr-weaker, IfOk-weaker}}
use Rattle.ciborium_ll.specs.declared.strings.StringType.{StringType}
use Rattle.ciborium_value.specs.{Ahead.takes_level, Given.{bare_seq, given_seq, give}}
use Rattle.ciborium.proofs.Containers.ByteItems.{head-refuses, nested-refuses, other-refuses, string-refuses}
use Rattle.ciborium.proofs.Containers.EnteredContainers.{array-nests, bytes-entered, seq-given, seq-other}
use Rattle.ciborium_ll.specs.declared.header.Header.TheVariants as header
use Rattle.ciborium.proofs.Exits.{both, both-err, passed_on}
use Rattle.ciborium.proofs.Containers.EnteredContainers.{array-container, entered, parts-owed, parts-stand}
use Rattle.ciborium.proofs.de.byte_source.source.ByteSourceSource.begin_seq.Goals as goal

pub returns-in_err-header-clause-refused : goal.returns-in_err-header-clause-refused
returns-in_err-header-clause-refused g c =
    rw (passed_on c.from_residual.result _ c.from_residual.ensures.1)
    (head-refuses given_seq c.in_err-header.ensures.reads c.in_err-header.ensures.denied)

pub returns-in-Array : goal.returns-in-Array
returns-in-Array g c =
    let enter = c.enter.ensures in
    let all = IfOk-weaker c.enter.result _ _ (λ q t. let (some, (levels, (left, back))) = t in
    entered array-container c.enter.new.self c.in-Array.count q c.in_ok-header.ensures.reads
    c.in_ok-header.ensures.head (enter.decoder, enter.pending, some, levels, left) back given_seq
    (λ span is. give (takes_level span, is)) c.in-Array.is (seq-given c.in-Array.count))
    (both _ _ _ enter.some (both _ _ _ enter.levels (both _ _ _ enter.left enter.back))) in record {
      ok = IfOk-weaker c.enter.result _ _ (λ q a. parts-stand a) all;
      refused = IfErr-weaker c.enter.result _ _ (λ e t. nested-refuses given_seq c.in_ok-header.ensures.reads
          c.in_ok-header.ensures.head c.enter.new.self (header.Array c.in-Array.count) c.in-Array.is t.0 t.1
          (array-nests bare_seq (λ o is. refl) c.in-Array.count)) (both-err _ _ _ enter.none enter.err);
      took = IfOk-weaker c.enter.result _ _ (λ q a. parts-owed a) all;
      only = search rules;
      less = IfOk-weaker c.enter.result _ _ (λ q a. a.fewer) all;
      no_more = search rules;
    }

pub returns-in-Bytes : goal.returns-in-Bytes
returns-in-Bytes g c =
    let read = c.enter_bytes.ensures in
    let all = IfOk-weaker c.enter_bytes.result _ _ (λ q t. let (back, (fewer, ok)) = t in
    bytes-entered c.enter_bytes.new.self c.in-Bytes.len q c.in_ok-header.ensures.reads
    c.in_ok-header.ensures.head c.in-Bytes.is read.keeps back fewer ok)
    (both _ _ _ read.back (both _ _ _ read.fewer read.ok)) in record {
      ok = IfOk-weaker c.enter_bytes.result _ _ (λ q a. parts-stand a) all;
      refused = IfErr-weaker c.enter_bytes.result _ _ (λ e. string-refuses given_seq c.in_ok-header.ensures.reads
          c.in_ok-header.ensures.head _ StringType.Bytes c.in-Bytes.len c.in-Bytes.is) read.denied;
      took = IfOk-weaker c.enter_bytes.result _ _ (λ q a. parts-owed a) all;
      only = search rules;
      less = IfOk-weaker c.enter_bytes.result _ _ (λ q a. a.fewer) all;
      no_more = search rules;
    }

pub returns-in_default-clause-refused : goal.returns-in_default-clause-refused
returns-in_default-clause-refused g c = other-refuses given_seq c.in_ok-header.ensures.reads c.in_ok-header.ensures.head
    (seq-other (Some c.args.self.now.levels) c.in_ok-header.header
    c.in_ok-header.ensures.reads.bare c.in_default.not-Array c.in_default.not-Bytes)
