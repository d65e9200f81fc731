use Rattle.std.proofs.Common.{length, ap, arith, subst, sym}
use Rattle.ciborium_ll.specs.declared.strings.StringType.{StringType}
use Rattle.ciborium.specs.{inner.ByteSources.IsUnread, inner.StringContents.TakesContent}
use Rattle.ciborium.proofs.de.byte_source.ByteSource.enter_bytes.Goals as goal

pub returns-clause-ok : goal.returns-clause-ok
returns-clause-ok g c = subst (TakesContent (IsUnread g.A.Access.remaining c.args.self.now)
    (IsUnread g.A.Access.remaining c.bytes_content.new.self) StringType.Bytes c.args.len) (sym c.into_iter.ensures.rest)
    c.in_ok-bytes.ensures.ok

pub returns-clause-fewer : goal.returns-clause-fewer
returns-clause-fewer g c = omega (arith, c.in_ok-bytes.ensures.fewer, ap length c.into_iter.ensures.rest)
