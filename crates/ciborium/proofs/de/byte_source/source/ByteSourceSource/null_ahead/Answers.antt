use Rattle.std.proofs.{Common.{◌≡◌, ◌∙◌, ◌++◌, Some, arith}}
use Rattle.ciborium_ll.specs.Header.{SpellsHeader}
use Rattle.ciborium_value.specs.Given.{is_null}
use Rattle.ciborium.proofs.Containers.{NextParts.aside-unread, NullAhead.{null-head, refuses-to-tell, takes-nothing}}
use Rattle.ciborium.{proofs.Containers.NullAhead.tells, specs.inner.ByteSources.{IsUnread, IsUnreadBy, fault_at}}
use Rattle.ciborium.proofs.{Exits.passed_on, Items.TakenOnly.is-kept}
use Rattle.ciborium.proofs.de.byte_source.source.ByteSourceSource.null_ahead.Goals as goal

pub returns-in_err-header-clause-refused : goal.returns-in_err-header-clause-refused
returns-in_err-header-clause-refused g c =
    rw (passed_on c.from_residual.result _ c.from_residual.ensures.1)
    (refuses-to-tell g.A.Access.remaining c.args.self.now
    (fault_at g.A.Access.can_fail g.A.Access.remaining c.next_head.new.self c.in_err-header.field-0.0)
    c.in_err-header.ensures.denied)

pub returns : goal.returns
returns g c =
    let h = c.in_ok-header.header in
    let mid = c.next_head.new.self in
    let head = c.in_ok-header.ensures in
    let aside : (b x y : _) → IsUnread g.A.Access.remaining c.args.self.now b → SpellsHeader x h → b ≡ x ++ y →
    IsUnread g.A.Access.remaining mid y → IsUnreadBy g.A.Access.remaining mid.decoder (Some (h, c.in_ok-header.offset))
    b
    = λ b x y w hd e u. aside-unread g.A.Access.remaining mid.decoder mid.pending h c.in_ok-header.offset b x y
    head.keeps.pending hd e (head.counted b x y w hd e) u in record {
      ok = tells g.A.Access.remaining c.args.self.now mid (record mid { pending = Some (h, c.in_ok-header.offset) }) h
          head.head aside is_null c.is_null_head-answer.result (is-kept head.keeps) head.keeps.levels
          (λ i e. c.is_null_head-answer.ensures ∙ null-head h i e);
      refused = tt;
      memory = tt;
      took = takes-nothing g.A.Access.remaining c.args.self.now mid
          (record mid { pending = Some (h, c.in_ok-header.offset) }) h head.head aside;
      only = λ first. head.keeps.only first.decoder;
      less = omega (arith, head.fewer);
      no_more = tt;
    }
