use Rattle.std.proofs.Common.{rules, length, Some, arith, ◌++◌, ◌-◌, ◌≡◌, ◌∷◌, refl, sym, ap, ◌∙◌, subst}
use Rattle.std.{proofs.lemmas.{List.nil_from_length}, specs.Vec.Iter.into_iter_items}
use Rattle.ciborium_ll.specs.Header.{SpellsHeader}
use Rattle.ciborium.proofs.Containers.NextParts.{aside-unread, goes-bytes, goes-counted, goes-open, leaves-counted}
use Rattle.ciborium.proofs.Containers.NextParts.{leaves-open, less-bytes, less-counted, less-open, is-none, no-next}
use Rattle.ciborium.proofs.Containers.NextParts.{nothing-allowed, nothing-open, wide, wide-head, leaves-bytes}
use Rattle.ciborium.specs.inner.{ByteSources.{IsUnread, IsUnreadBy, fault_at}, FrontItems.TakesHead}
use Rattle.ciborium_ll.specs.declared.header.Header.TheVariants as header
use Rattle.ciborium.specs.declared.de.byte_source.Left.TheVariants as left
use Rattle.ciborium.proofs.{Exits.passed_on, Items.TakenOnly.is-kept}
use Rattle.ciborium.proofs.de.byte_source.source.ByteSourceSource.next.Goals as goal

pub returns-then-n-eq0-clause-ok : goal.returns-then-n-eq0-clause-ok
returns-then-n-eq0-clause-ok g c =
    leaves-counted g.A.Access.remaining c.args.self.now (record c.args.self.now { levels = c.args.seq.now.levels })
    c.args.seq.now (c.in-Counted.is ∙ ap left.Counted c.if-n-eq0.true) refl refl refl

pub returns-then-n-eq0-clause-took : goal.returns-then-n-eq0-clause-took
returns-then-n-eq0-clause-took g c = nothing-allowed (IsUnread g.A.Access.remaining c.args.self.now) c.args.seq.now
    (c.in-Counted.is ∙ ap left.Counted c.if-n-eq0.true)

pub returns-else-n-eq0-clause-ok : goal.returns-else-n-eq0-clause-ok
returns-else-n-eq0-clause-ok g c =
    goes-counted g.A.Access.remaining c.args.self.now c.args.seq.now
    (record c.args.seq.now { left = left.Counted (c.in-Counted.n - 1) }) c.in-Counted.n c.in-Counted.is
    c.if-n-eq0.false refl refl

pub returns-else-n-eq0-clause-took : goal.returns-else-n-eq0-clause-took
returns-else-n-eq0-clause-took g c =
    less-counted (IsUnread g.A.Access.remaining c.args.self.now) c.args.seq.now
    (record c.args.seq.now { left = left.Counted (c.in-Counted.n - 1) }) c.in-Counted.n c.in-Counted.is
    c.if-n-eq0.false refl

pub returns-in_err-header-in-Open-clause-refused : goal.returns-in_err-header-in-Open-clause-refused
returns-in_err-header-in-Open-clause-refused g c =
    rw (passed_on c.from_residual.result _ c.from_residual.ensures.1)
    (no-next g.A.Access.remaining c.args.self.now c.args.seq.now
    (fault_at g.A.Access.can_fail g.A.Access.remaining c.next_head.new.self c.in_err-header-in-Open.field-0.0)
    c.in-Open.is
    c.in_err-header-in-Open.ensures.denied)

pub returns-in-Break-clause-ok : goal.returns-in-Break-clause-ok
returns-in-Break-clause-ok g c =
    leaves-open g.A.Access.remaining c.args.self.now c.next_head.new.self
    (record c.next_head.new.self { levels = c.args.seq.now.levels }) c.args.seq.now c.in-Open.is
    (is-kept c.in_ok-header-in-Open.ensures.keeps)
    (subst (TakesHead (IsUnread g.A.Access.remaining) c.args.self.now
    c.next_head.new.self) c.in-Break.is c.in_ok-header-in-Open.ensures.head) refl
    c.in_ok-header-in-Open.ensures.keeps.pending (λ y u. u)

pub returns-in-Break-clause-took : goal.returns-in-Break-clause-took
returns-in-Break-clause-took g c =
    nothing-open (IsUnread g.A.Access.remaining c.args.self.now) (IsUnread g.A.Access.remaining c.next_head.new.self)
    c.args.seq.now c.in-Open.is
    (λ b u. let (x, y, hd, e, un) = subst (TakesHead (IsUnread g.A.Access.remaining) c.args.self.now
    c.next_head.new.self)
    c.in-Break.is c.in_ok-header-in-Open.ensures.head b u in
    (y, e ∙ ap (λ z. z ++ y) hd, un))

pub returns-in_default : goal.returns-in_default
returns-in_default g c =
    let h = c.in_ok-header-in-Open.header in
    let mid = c.next_head.new.self in
    let none = c.in_ok-header-in-Open.ensures.keeps.pending in
    let aside : (b x y : _) → IsUnread g.A.Access.remaining c.args.self.now b → SpellsHeader x h → b ≡ x ++ y →
    IsUnread g.A.Access.remaining mid y → IsUnreadBy g.A.Access.remaining mid.decoder
    (Some (h, c.in_ok-header-in-Open.offset)) b
    = λ b x y w hd e u. aside-unread g.A.Access.remaining mid.decoder mid.pending h c.in_ok-header-in-Open.offset b x y
    none hd e (c.in_ok-header-in-Open.ensures.counted b x y w hd e) u in record {
      ok = goes-open g.A.Access.remaining c.args.self.now mid
          (record mid { pending = Some (h, c.in_ok-header-in-Open.offset) }) c.args.seq.now c.args.seq.now h
          c.in-Open.is c.in-Open.is refl (is-kept c.in_ok-header-in-Open.ensures.keeps)
          c.in_ok-header-in-Open.ensures.keeps.levels c.in_ok-header-in-Open.ensures.head c.in_default.not-Break aside;
      refused = tt;
      memory = tt;
      took = less-open (IsUnread g.A.Access.remaining c.args.self.now)
          (IsUnreadBy g.A.Access.remaining mid.decoder (Some (h, c.in_ok-header-in-Open.offset))) c.args.seq.now
          c.args.seq.now c.in-Open.is c.in-Open.is
          (λ b u. let (x, y, hd, e, un) = c.in_ok-header-in-Open.ensures.head b u in aside b x y u hd e un);
      only = λ first. c.in_ok-header-in-Open.ensures.keeps.only first.decoder;
      less = omega (arith, c.in_ok-header-in-Open.ensures.fewer);
      no_more = tt;
    }

pub returns-in-Some-clause-ok : goal.returns-in-Some-clause-ok
returns-in-Some-clause-ok g c =
    let n = c.from.result in
    goes-bytes g.A.Access.remaining c.args.self.now (record c.args.self.now
    { pending = Some (header.Positive n, c.args.seq.now.offset) }) c.args.seq.now
    (record c.args.seq.now { left = left.Bytes c.next.new.self }) c.in-Bytes.bytes c.next.new.self n
    c.args.seq.now.offset
    c.in-Bytes.is refl refl (c.in-Some.ensures.cases.0 ∙
    ap (λ m. m ∷ into_iter_items c.next.new.self) (sym c.from.ensures)) c.from.type_inv refl refl refl

pub returns-in-Some-clause-took : goal.returns-in-Some-clause-took
returns-in-Some-clause-took g c =
    let n = c.from.result in
    less-bytes (IsUnread g.A.Access.remaining c.args.self.now)
    (IsUnreadBy g.A.Access.remaining c.args.self.now.decoder (Some (header.Positive n, c.args.seq.now.offset)))
    c.args.seq.now (record c.args.seq.now { left = left.Bytes c.next.new.self })
    c.in-Bytes.bytes c.next.new.self n c.in-Bytes.is refl c.from.type_inv
    (λ b u. aside-unread g.A.Access.remaining c.args.self.now.decoder c.args.self.now.pending (header.Positive n)
    c.args.seq.now.offset (wide n ++ b) (wide n) b
    (is-none c.args.self.now.pending c.is_some.result c.if-is_some.false c.is_some.ensures)
    (wide-head n c.from.type_inv) refl (λ fixed. cc) u)

pub returns-in-None-clause-ok : goal.returns-in-None-clause-ok
returns-in-None-clause-ok g c =
    let size : length (into_iter_items c.next.new.self) ≡ 0 = search rules in
    leaves-bytes g.A.Access.remaining c.args.self.now c.args.seq.now c.in-Bytes.bytes c.in-Bytes.is
    (c.in-None.ensures.items ∙ nil_from_length (into_iter_items c.next.new.self) size)
