use Rattle.std.proofs.Common.{◌≡◌, ◌⊎◌, Bool, Err, IfOk, MatchResult, Ok, Result, ℕ, inl, inr, sym, ap, ◌∙◌, subst}
use Rattle.std.proofs.Common.{Some, true, ◌==◌}
use Rattle.ciborium_ll.specs.{Item.{unsigned, negative}, declared.header.Header.Header}
use Rattle.ciborium_value.specs.{Given.given_integer, Sources.of_kind}
use Rattle.ciborium.proofs.{Exits.passed_on, Items.{BareHeads.head-denied, BareScalars.{integer-gives, integer-other}}}
use Rattle.ciborium.proofs.Items.{BareScalars.{bignum-behind, bignum-denied}, SkippedTags.{denies-bare, reads-bare}}
use Rattle.ciborium.{proofs.Items.{SkippedTags.reads-whole, TakenOnly.same-end}, specs.inner.ByteSources.IsUnread}
use Rattle.ciborium.specs.inner.{ByteSources.{end_at, fault_at}, FrontItems.Reads, Skips.{TakesBare, IsBare}}
use Rattle.ciborium_ll.specs.declared.header.Header.TheVariants as header
use Rattle.ciborium_ll.specs.declared.kind.Kind.TheVariants as kinds
use Rattle.ciborium.proofs.de.byte_source.ByteSource.read_integer.Goals as goal

pub returns-in_err-header-clause-answer : goal.returns-in_err-header-clause-answer
returns-in_err-header-clause-answer g c =
    rw (passed_on c.from_residual.result _ c.from_residual.ensures.1)
    (head-denied g.A.Access.remaining c.args.self.now given_integer
    (fault_at g.A.Access.can_fail g.A.Access.remaining c.bare_head.new.self c.in_err-header.field-0.0)
    c.in_err-header.ensures.denied)

either-sign : (h : Header) (n : ℕ) (P : Type 0) → (h ≡ header.Positive n) ⊎ (h ≡ header.Negative n) →
    (h ≡ header.Positive n → P) → (h ≡ header.Negative n → P) → P
either-sign h n P (inl is) positive below = positive is
either-sign h n P (inr is) positive below = below is

pub returns-in-Positive-clause-answer : goal.returns-in-Positive-clause-answer
returns-in-Positive-clause-answer g c =
    let U = IsUnread g.A.Access.remaining in
    let l = Some c.args.self.now.levels in
    let n = c.in-Positive.n in
    let v : Bool × ℕ = (c.is_negative-negative.result, c.from.result) in
    either-sign c.in_ok-header.header n (Reads U c.args.self.now c.bare_head.new.self l given_integer v)
    c.in-Positive.is
    (λ is. reads-whole U true (header.Positive n) l given_integer c.args.self.now c.bare_head.new.self v (unsigned n)
    (subst (TakesBare U c.args.self.now c.bare_head.new.self true) is c.in_ok-header.ensures.head) (λ x hd. hd)
    (integer-gives l (unsigned n) v (ap (λ s. Ok (s, n)) (sym (c.is_negative-negative.ensures.positive n is)) ∙
    ap (λ m. Ok (c.is_negative-negative.result, m)) (sym c.from.ensures))))
    (λ is. reads-whole U true (header.Negative n) l given_integer c.args.self.now c.bare_head.new.self v (negative n)
    (subst (TakesBare U c.args.self.now c.bare_head.new.self true) is c.in_ok-header.ensures.head) (λ x hd. hd)
    (integer-gives l (negative n) v (ap (λ s. Ok (s, n)) (sym (c.is_negative-negative.ensures.negative n is)) ∙
    ap (λ m. Ok (c.is_negative-negative.result, m)) (sym c.from.ensures))))

-- what holds of a value and of an error, where something else is known of the value
each-way : {T E : Type 0} {K P R : T → Type 0} {D F : E → Type 0} (r : Result T E) →
    ((v : T) → K v → P v → R v) → ((e : E) → D e → F e) → IfOk r K → MatchResult r P D → MatchResult r R F
each-way (Ok v) f h k p = f v k p
each-way (Err e) f h k d = h e d

pub returns-in-Tag-clause-answer : goal.returns-in-Tag-clause-answer
returns-in-Tag-clause-answer g c =
    let U = IsUnread g.A.Access.remaining in
    let l = Some c.args.self.now.levels in
    let t = c.in-Tag.tag in
    let mid = c.bare_head.new.self in
    let new = c.read_tagged.new.self in
    let bare : IsBare true (header.Tag t) = subst (IsBare true) c.in-Tag.is c.in_ok-header.ensures.reads.bare in
    let head = subst (TakesBare U c.args.self.now mid true) c.in-Tag.is c.in_ok-header.ensures.head in
    each-way c.read_tagged.result
    (λ v sign given. subst (λ negative. Reads U c.args.self.now new l given_integer (negative, v.0.1)) (sym sign)
    (reads-bare U true (header.Tag t) l given_integer c.args.self.now mid new (t == 3, v.0.1) head
    (bignum-behind U t l bare.1 mid new v.0.1 given)))
    (λ e. bignum-denied U t l bare.1 (end_at g.A.Access.remaining) c.args.self.now mid
    (fault_at g.A.Access.can_fail g.A.Access.remaining new e)
    (same-end g.A.Access.remaining c.args.self.now mid c.in_ok-header.ensures.reads.kept.only) head)
    c.read_tagged.ensures.sign c.read_tagged.ensures.answer

pub returns-in_default-clause-answer : goal.returns-in_default-clause-answer
returns-in_default-clause-answer g c =
    let l = Some c.args.self.now.levels in
    denies-bare (IsUnread g.A.Access.remaining) true c.in_ok-header.header l given_integer (end_at g.A.Access.remaining)
    c.args.self.now c.bare_head.new.self (of_kind kinds.Integer) c.in_ok-header.ensures.head
    (λ end. integer-other l c.in_ok-header.header c.in_default.not-Positive c.in_default.not-Negative
    c.in_default.not-Tag)
