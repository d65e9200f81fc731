use Rattle.std.proofs.Common.{rules, ◌≡◌, ◌++◌, string_bytes}
use Rattle.ciborium_ll.specs.declared.strings.StringType.{StringType}
use Rattle.ciborium_value.proofs.Trees.Views.{tree_of-Bytes, tree_of-Text}
use Rattle.ciborium.proofs.{Exits.passed_on, Readers.WhateverFollows.{string-refused, string-taken}}
use Rattle.ciborium_value.specs.declared.tree.Value as value
use Rattle.ciborium.proofs.de.parts.append_string.Goals as goal

pub returns-then-is_text-clause-content : goal.returns-then-is_text-clause-content
returns-then-is_text-clause-content g c =
    let out = c.text_into_keeping.new.out in
    rw c.if-is_text.true (string-taken (Unit {0}) g.A.Access.remaining c.args.decoder.now c.text_into_keeping.new.self
    StringType.Text c.args.len (string_bytes c.new-text.result) (string_bytes out) (value.Text out)
    c.new-text.ensures.bytes
    (tree_of-Text out) c.in_ok-text_into_keeping.ensures.taken)

pub returns-in_err-text_into_keeping-clause-content : goal.returns-in_err-text_into_keeping-clause-content
returns-in_err-text_into_keeping-clause-content g c =
    rw (passed_on c.from_residual.result _ c.from_residual.ensures.1)
    (rw c.if-is_text.true (string-refused (Unit {0}) g.A.Access.remaining c.args.decoder.now
    c.text_into_keeping.new.self StringType.Text c.args.len c.in_err-text_into_keeping.field-0.0
    (λ added y. string_bytes c.text_into_keeping.new.out ≡ string_bytes c.new-text.result ++ added)
    c.in_err-text_into_keeping.ensures.taken))

pub returns-in_err-bytes_into_keeping-clause-content : goal.returns-in_err-bytes_into_keeping-clause-content
returns-in_err-bytes_into_keeping-clause-content g c =
    rw (passed_on c.from_residual-in_err-bytes_into_keeping.result _
    c.from_residual-in_err-bytes_into_keeping.ensures.1)
    (rw c.if-is_text.false (string-refused (Unit {0}) g.A.Access.remaining c.args.decoder.now
    c.bytes_into_keeping.new.self StringType.Bytes c.args.len c.in_err-bytes_into_keeping.field-0.0
    (λ added y. c.bytes_into_keeping.new.out.items ≡ c.new-bytes.result.items ++ added)
    c.in_err-bytes_into_keeping.ensures.taken))

pub returns-clause-content : goal.returns-clause-content
returns-clause-content g c =
    let out = c.bytes_into_keeping.new.out in
    rw c.if-is_text.false (string-taken (Unit {0}) g.A.Access.remaining c.args.decoder.now c.bytes_into_keeping.new.self
    StringType.Bytes c.args.len c.new-bytes.result.items out.items (value.Bytes out) (search rules) (tree_of-Bytes out)
    c.in_ok-bytes_into_keeping.ensures.taken)
