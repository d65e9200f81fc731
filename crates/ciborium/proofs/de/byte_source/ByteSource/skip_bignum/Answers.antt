use Rattle.std.proofs.Common.{◌≡◌, ℕ, ◌∙◌, ◌++◌, List, Option, Some, None, ap, subst, sym, true, false}
use Rattle.std.{proofs.lemmas.Result.on_ok_weaker, specs.Option.is_some}
use Rattle.ciborium_ll.{proofs.OneHeader.one_header_at_front, specs.{Header.SpellsHeader, Levels.IsPayloadOf}}
use Rattle.ciborium_ll.specs.declared.header.Header.{Header}
use Rattle.ciborium_value.{proofs.Sources.TreeReading.if_err_so, specs.Meaning.is_bignum_tag}
use Rattle.ciborium.proofs.{Exits.passed_on, Items.PassedOver.{TakesFront, content-denied, string-denied}}
use Rattle.ciborium.proofs.Items.TakenOnly.{keeps-then, same-end}
use Rattle.ciborium.specs.inner.ByteSources.{IsUnread, end_at, fault_at}
use Rattle.ciborium.specs.inner.{Parts.IsFolding, PassedOver.{IsBignumBehind, TakesBignum, TakesPayload}}
use Rattle.ciborium_ll.specs.declared.header.Header.TheVariants as heads
use Rattle.ciborium.proofs.de.byte_source.ByteSource.skip_bignum.Goals as goal

-- what folds behind the head of a tag was taken
folded-taken : (P Q R : List ℕ → Type 0) (header content : Header) (t : ℕ) (o : Option ℕ) → header ≡ heads.Tag t →
    IsFolding t content o → is_some o ≡ true → TakesFront P Q content → TakesPayload Q R content →
    TakesBignum P R header
folded-taken P Q R header content t None is none some takes took y p = absurd cc
folded-taken P Q R header content t (Some k) is (same, tag, short) some takes took y p =
    let (x, w, spelled, whole, q) = takes y p in
    let (s, u, payload, rest, r) = took w q in (
      t,
      k,
      x,
      s,
      u,
      is,
      tag,
      subst (SpellsHeader x) same spelled,
      short,
      subst (λ h. IsPayloadOf h s) same payload,
      whole ∙ ap (λ (b : List ℕ). x ++ b) rest,
      r,
    )

-- where what was taken does not fold, no bignum stands behind the head
not-folded : (P Q : List ℕ → Type 0) (header content : Header) (t : ℕ) (o : Option ℕ) → header ≡ heads.Tag t →
    IsFolding t content o → is_some o ≡ false → TakesFront P Q content → (y : List ℕ) → P y → ¬ IsBignumBehind header y
not-folded P Q header content t (Some k) is folds none takes y p behind = absurd cc
not-folded P Q header content t None is folds none takes y p (u, k, x, r, tagged, tag, spelled, short, whole) =
    let (z, w, taken, split, q) = takes y p in
    let one = one_header_at_front z x w r content (heads.Bytes (Some k)) taken spelled (sym split ∙ whole) in
    let same : u ≡ t = cc in
    folds k one.2 (subst (λ n. is_bignum_tag n ≡ true) same tag) short

pub returns-in_err-content-clause-denied : goal.returns-in_err-content-clause-denied
returns-in_err-content-clause-denied g c =
    rw (passed_on c.from_residual.result _ c.from_residual.ensures.1)
    (content-denied (IsUnread g.A.Access.remaining) (end_at g.A.Access.remaining) c.args.self.now
    c.args.header c.in-Tag.tag
    (fault_at g.A.Access.can_fail g.A.Access.remaining c.next_head.new.self c.in_err-content.field-0.0) c.in-Tag.is
    c.in_err-content.ensures.denied)

pub returns-clause-denied : goal.returns-clause-denied
returns-clause-denied g c =
    let old = c.args.self.now in
    let mid = c.next_head.new.self in
    if_err_so c.skip_payload.result (λ e denied.
    string-denied (IsUnread g.A.Access.remaining old) (IsUnread g.A.Access.remaining mid)
    (end_at g.A.Access.remaining old) (end_at g.A.Access.remaining mid) c.args.header c.in_ok-content.content
    c.in-Tag.tag (fault_at g.A.Access.can_fail g.A.Access.remaining c.skip_payload.new.self e) c.in-Tag.is
    c.in_ok-content.ensures.head (same-end g.A.Access.remaining old mid c.in_ok-content.ensures.keeps.only)
    denied) c.skip_payload.ensures.denied

pub returns-then-is_none-clause-denied : goal.returns-then-is_none-clause-denied
returns-then-is_none-clause-denied g c y z end levels p to fits =
    not-folded _ _ _ _ _ _ c.in-Tag.is c.find_folding.ensures c.if-is_none.ensures c.in_ok-content.ensures.head y p

pub returns-clause-ok : goal.returns-clause-ok
returns-clause-ok g c = on_ok_weaker c.skip_payload.result (folded-taken _ _ _ _ _ _ _ c.in-Tag.is
    c.find_folding.ensures c.if-is_none.ensures c.in_ok-content.ensures.head) c.skip_payload.ensures.ok

pub returns-clause-keeps : goal.returns-clause-keeps
returns-clause-keeps g c = keeps-then c.next_head.ensures.keeps c.skip_payload.ensures.keeps
