-- A value is written level by level.
use Rattle.std.proofs.{Common.subst, lemmas.Result.{on_ok_weaker, on_err_weaker}}
use Rattle.ciborium_value.specs.Sinks.{AddsNamed, BreaksNamed, named_value, tag_of}
use Rattle.ciborium_value.proofs.Writing.WrittenValues.{named-Tag, named-Array, named-Map}
use Rattle.ciborium_value.proofs.serialize.values.ValueSerialize.+serialize.Goals as goal

pub returns-in-Tag-clause-ok : goal.returns-in-Tag-clause-ok
returns-in-Tag-clause-ok g t c = on_ok_weaker _ (λ h. subst
    (AddsNamed g.S.Sink.stands_at c.args.sink.now c.serialize_tagged.new.sink) (named-Tag _ _ _ c.in-Tag.is)
    (subst (λ v. AddsNamed g.S.Sink.stands_at c.args.sink.now c.serialize_tagged.new.sink
    (tag_of c.in-Tag.tag (named_value v))) c.deref-in-Tag.ensures h)) c.serialize_tagged.ensures.ok

pub returns-in-Tag-clause-cause : goal.returns-in-Tag-clause-cause
returns-in-Tag-clause-cause g t c =
    rw (c.deref-in-Tag.ensures, named-Tag _ _ _ c.in-Tag.is) at c.serialize_tagged.ensures.cause

pub returns-in-Tag-clause-err : goal.returns-in-Tag-clause-err
returns-in-Tag-clause-err g t c = on_err_weaker _ (λ h. subst
    (BreaksNamed g.S.Sink.stands_at g.S.Sink.out c.args.sink.now c.serialize_tagged.new.sink)
    (named-Tag _ _ _ c.in-Tag.is)
    (subst (λ v. BreaksNamed g.S.Sink.stands_at g.S.Sink.out c.args.sink.now c.serialize_tagged.new.sink
    (tag_of c.in-Tag.tag (named_value v))) c.deref-in-Tag.ensures h)) c.serialize_tagged.ensures.err

pub returns-in-Array-clause-ok : goal.returns-in-Array-clause-ok
returns-in-Array-clause-ok g t c = rw (named-Array _ _ c.in-Array.is) at c.serialize.ensures.ok

pub returns-in-Array-clause-cause : goal.returns-in-Array-clause-cause
returns-in-Array-clause-cause g t c = rw (named-Array _ _ c.in-Array.is) at c.serialize.ensures.cause

pub returns-in-Array-clause-err : goal.returns-in-Array-clause-err
returns-in-Array-clause-err g t c = rw (named-Array _ _ c.in-Array.is) at c.serialize.ensures.err

pub returns-in-Map-clause-ok : goal.returns-in-Map-clause-ok
returns-in-Map-clause-ok g t c = rw (named-Map _ _ c.in-Map.is) at c.serialize_pairs.ensures.ok

pub returns-in-Map-clause-cause : goal.returns-in-Map-clause-cause
returns-in-Map-clause-cause g t c = rw (named-Map _ _ c.in-Map.is) at c.serialize_pairs.ensures.cause

pub returns-in-Map-clause-err : goal.returns-in-Map-clause-err
returns-in-Map-clause-err g t c = rw (named-Map _ _ c.in-Map.is) at c.serialize_pairs.ensures.err
