-- What the decoder took was taken from the reader that it was lent.
use Rattle.std.{proofs.Common.{Err, Ok, rules, sym, subst, ◌∙◌}, specs.declared.io.Error.Error}
use Rattle.ciborium_ll.specs.Decoding.{TakesBeforeAny}
use Rattle.ciborium_value.specs.View.{tree_of}
use Rattle.ciborium.proofs.Readers.{KnownReaders.whole-of, PutAside.back-tree, WhateverFollows.{TreeSo, taken-lent}}
use Rattle.ciborium.proofs.de.deterministic.read_by.Goals as goal

pub returns-in-Ok : goal.returns-in-Ok
returns-in-Ok g c =
    whole-of {E = Error} g.S.Rules.spelling c.args.limit (g.A.Access.remaining c.args.reader.now) _
    (Ok (tree_of c.in-Ok.value))
    (taken-lent Error g.S.Rules.spelling g.A.Access.remaining c.begin-decoder.result c.read_value.new.decoder
    c.args.reader.now _ c.args.limit (Ok (tree_of c.in-Ok.value)) c.begin-decoder.ensures.begins
    c.read_value.ensures.rests
    (let name = sym c.begin-decoder.ensures.same_reader ∙ sym c.read_value.ensures.same_reader in search rules)
    c.in-Ok.ensures.value)

pub returns-in-Err : goal.returns-in-Err
returns-in-Err g c =
    whole-of {E = Error} g.S.Rules.spelling c.args.limit (g.A.Access.remaining c.args.reader.now) _
    (Err c.put_back.result)
    (taken-lent Error g.S.Rules.spelling g.A.Access.remaining c.begin-decoder.result c.read_value.new.decoder
    c.args.reader.now _ c.args.limit (Err c.put_back.result) c.begin-decoder.ensures.begins tt
    (let name = sym c.begin-decoder.ensures.same_reader ∙ sym c.read_value.ensures.same_reader in search rules)
    (back-tree g.S.Rules.spelling g.A.Access.remaining c.begin-decoder.result c.read_value.new.decoder c.args.limit
    c.put_back.result
    (subst (λ r. TakesBeforeAny g.A.Access.remaining c.begin-decoder.result c.read_value.new.decoder
    (λ d f. TreeSo {E = Unit} g.S.Rules.spelling c.args.limit d f (Err r))) c.put_back.ensures.refusal
    c.in-Err.ensures.value)))
