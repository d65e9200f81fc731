use Rattle.std.proofs.Common.{◌≡◌, ℕ, List, ap, sym, ◌∙◌, Some, Ok, Err, subst, false, true, lt_of_le_of_lt, Bool}
use Rattle.std.proofs.{Common.{IfErr, IfOk, None, OnOk, Option, Result}, lemmas.Result.on_ok_weaker}
use Rattle.ciborium_ll.specs.{Decoding.with_left, Refusal.semantic, declared.header.Header.Header}
use Rattle.ciborium_ll.specs.declared.strings.StringType.{StringType}
use Rattle.ciborium_value.{proofs.Trees.Views.tree_of-Integer}
use Rattle.ciborium.proofs.{Exits.passed_on, Readers.WhateverFollows.PartSo, Turns.Contents.string-part}
use Rattle.ciborium.proofs.Turns.Heads.{PullsAccepted, faulty-head, head-refused}
use Rattle.ciborium.proofs.Turns.{Heads.{part-behind-head, part-of-head}, Leaves.{container-part, float-refuses}}
use Rattle.ciborium.proofs.Turns.Leaves.{got-end, got-negative, got-positive, simple-part}
use Rattle.ciborium.specs.{Errors.HasEndedBy}
use Rattle.ciborium.specs.declared.de.{error.Error.Error, front.Part.{Part, TheVariants.{Begun, Ended, Whole}}}
use Rattle.ciborium.specs.inner.Parts.{IsHeadAccepted, IsPartRead, RefusesPart, IsAtRest}
use Rattle.ciborium.specs.inner.Parts.{IsContainerBegun, IsSimpleRead, IsWhole}
use Rattle.ciborium.specs.inner.Rules.{head_fault}
use Rattle.ciborium_ll.specs.declared.header.Header.TheVariants as header
use Rattle.ciborium_ll.specs.declared.kind.Kind.TheVariants as kinds
use Rattle.ciborium_value.specs.Tree as trees
use Rattle.ciborium.proofs.de.parts.next.{Given.Over, Goals.In_default}
use Rattle.ciborium.proofs.Turns.Heads.{part-of-pull}
use Rattle.ciborium.proofs.de.parts.next.Goals as goal

ok-so : {T E P : Type 0} (r : Result T E) → P → OnOk r P
ok-so (Ok v) p = p
ok-so (Err e) p = tt

-- no head is pushed behind what is whole, and a container that begins has a level
whole-rests : {E : Type 0} (l : ℕ) (pushed : Option (Header × ℕ)) (r : Result Part (Error E)) → pushed ≡ None →
    IfOk r IsWhole → IfOk r (λ part. IsAtRest part l pushed)
whole-rests l pushed (Ok (Whole v)) none h = none
whole-rests l pushed (Ok part) none h = absurd h
whole-rests l pushed (Err e) none h = tt

container-rests : {E : Type 0} {pushed : Option (Header × ℕ)} (is_map : Bool) (count : Option ℕ) (l : ℕ)
    (r : Result Part (Error E)) → pushed ≡ None → IsContainerBegun is_map count l r →
    IfOk r (λ part. IsAtRest part l pushed)
container-rests is_map count l (Ok (Whole v)) none h = none
container-rests is_map count l (Ok (Begun f)) none h = h.0
container-rests is_map count l (Ok Ended) none h = absurd h
container-rests is_map count l (Err e) none h = tt

simple-rests : {E : Type 0} {pushed : Option (Header × ℕ)} (l n p : ℕ) (r : Result Part (Error E)) → pushed ≡ None →
    IsSimpleRead n p r → IfOk r (λ part. IsAtRest part l pushed)
simple-rests l n p (Ok (Whole v)) none h = none
simple-rests l n p (Ok part) none h = absurd h
simple-rests l n p (Err e) none h = tt

-- neither error says that no byte is left
module _ {E : Type 0} (can_fail : Bool) (left : Option (List ℕ)) where
  container-ends : (is_map : Bool) (count : Option ℕ) (l : ℕ) (r : Result Part (Error E)) →
      IsContainerBegun is_map count l r → IfErr r (HasEndedBy can_fail left)
  container-ends is_map count l (Ok part) h = tt
  container-ends is_map count l (Err e) h = subst (HasEndedBy can_fail left) (sym h.1) tt

  simple-ends : (n p : ℕ) (r : Result Part (Error E)) → IsSimpleRead n p r → IfErr r (HasEndedBy can_fail left)
  simple-ends n p (Ok part) h = tt
  simple-ends n p (Err e) h = subst (HasEndedBy can_fail left) (sym h.1) tt

-- the head that was pulled is accepted
accepted : (g : Over) (c : In_default g) → PullsAccepted g.S.Rules.spelling g.A.Access.remaining
    c.args.decoder.now c.pull.new.decoder c.in_ok-header.header
accepted g c = record {
  size = c.in_ok-header.ensures.measured;
  right = sym (c.find_head_fault.ensures ∙ ap (head_fault g.S.Rules.spelling c.in_ok-header.header) c.head_len.ensures)
      ∙ c.in_default.is;
  pull = c.in_ok-header.ensures.head;
}

pub returns-in_err-header-clause-part : goal.returns-in_err-header-clause-part
returns-in_err-header-clause-part g c =
    rw (passed_on c.from_residual.result _ c.from_residual.ensures.1) (part-of-pull g.S.Rules.spelling
    g.A.Access.remaining c.args.decoder.now c.pull.new.decoder (Err c.in_err-header.field-0.0) _
    c.in_err-header.ensures.head
    (λ u z xs p s. head-refused g.S.Rules.spelling (Some z) c.in_err-header.field-0.0 xs p c.args.levels))

pub returns-in_err-header-clause-ended : goal.returns-in_err-header-clause-ended
returns-in_err-header-clause-ended g c =
    rw (passed_on c.from_residual.result _ c.from_residual.ensures.1) c.in_err-header.ensures.ended

pub returns-in-Some : goal.returns-in-Some
returns-in-Some g c = record {
  same_reader = c.pull.ensures.same_reader;
  fewer = tt;
  rests = tt;
  ended = tt;
  part = part-of-pull g.S.Rules.spelling g.A.Access.remaining c.args.decoder.now c.pull.new.decoder
      (Ok c.in_ok-header.header) _ c.in_ok-header.ensures.head (λ u z xs p s. faulty-head g.S.Rules.spelling
      g.A.Access.remaining c.args.decoder.now c.pull.new.decoder u z xs p s c.in_ok-header.ensures.measured Unit
      c.in_ok-header.header c.args.levels c.last_offset.result c.in-Some.kind
      (sym (c.find_head_fault.ensures ∙ ap (head_fault g.S.Rules.spelling c.in_ok-header.header) c.head_len.ensures)
      ∙ c.in-Some.is) c.last_offset.ensures);
}

pub returns-in-Positive : goal.returns-in-Positive
returns-in-Positive g c = record {
  same_reader = c.pull.ensures.same_reader;
  fewer = c.in_ok-header.ensures.fewer;
  rests = c.pull.ensures.pushed;
  ended = tt;
  part = part-of-head (accepted g (goal.at.returns-in-Positive g c).In_default) _ (λ z xs p. got-positive
      c.pull.ensures.pushed (tree_of-Integer c.from.result ∙ ap trees.integer c.from.ensures) c.in-Positive.is);
}

pub returns-in-Negative : goal.returns-in-Negative
returns-in-Negative g c = record {
  same_reader = c.pull.ensures.same_reader;
  fewer = c.in_ok-header.ensures.fewer;
  rests = c.pull.ensures.pushed;
  ended = tt;
  part = part-of-head (accepted g (goal.at.returns-in-Negative g c).In_default) _ (λ z xs p. got-negative
      c.pull.ensures.pushed (tree_of-Integer c.from_head.result ∙ ap trees.integer c.from_head.ensures)
      c.in-Negative.is);
}

pub returns-in-Bytes : goal.returns-in-Bytes
returns-in-Bytes g c = record {
  same_reader = c.read_string.ensures.same_reader ∙ c.pull.ensures.same_reader;
  fewer = on_ok_weaker c.read_string.result (λ most. lt_of_le_of_lt most c.in_ok-header.ensures.fewer)
      c.read_string.ensures.fewer;
  rests = whole-rests c.args.levels _ c.read_string.result c.read_string.ensures.pushed c.read_string.ensures.whole;
  ended = c.read_string.ensures.ended;
  part = part-behind-head (accepted g (goal.at.returns-in-Bytes g c).In_default) c.read_string.new.decoder _
      (λ d e. PartSo {E = Unit} StringType.Bytes c.in-Bytes.len c.pull.new.decoder.last d e c.read_string.result)
      c.read_string.ensures.content (λ m z xs p. string-part (with_left c.read_string.new.decoder z) c.args.levels Unit
      StringType.Bytes c.in-Bytes.len c.in-Bytes.is c.read_string.result c.read_string.ensures.pushed);
}

pub returns-in-Text : goal.returns-in-Text
returns-in-Text g c = record {
  same_reader = c.read_string-in-Text.ensures.same_reader ∙ c.pull.ensures.same_reader;
  fewer = on_ok_weaker c.read_string-in-Text.result (λ most. lt_of_le_of_lt most c.in_ok-header.ensures.fewer)
      c.read_string-in-Text.ensures.fewer;
  rests = whole-rests c.args.levels _ c.read_string-in-Text.result c.read_string-in-Text.ensures.pushed
      c.read_string-in-Text.ensures.whole;
  ended = c.read_string-in-Text.ensures.ended;
  part = part-behind-head (accepted g (goal.at.returns-in-Text g c).In_default)
      c.read_string-in-Text.new.decoder _
      (λ d e. PartSo {E = Unit} StringType.Text c.in-Text.len c.pull.new.decoder.last d e c.read_string-in-Text.result)
      c.read_string-in-Text.ensures.content (λ m z xs p. string-part (with_left c.read_string-in-Text.new.decoder z)
      c.args.levels Unit
      StringType.Text c.in-Text.len c.in-Text.is c.read_string-in-Text.result c.read_string-in-Text.ensures.pushed);
}

pub returns-in-Array : goal.returns-in-Array
returns-in-Array g c = record {
  same_reader = c.pull.ensures.same_reader;
  fewer = ok-so c.begin_container.result c.in_ok-header.ensures.fewer;
  rests = container-rests false c.in-Array.count c.args.levels c.begin_container.result c.pull.ensures.pushed
      c.begin_container.ensures;
  ended = container-ends _ _ false c.in-Array.count c.args.levels c.begin_container.result c.begin_container.ensures;
  part = part-of-head (accepted g (goal.at.returns-in-Array g c).In_default) _
      (λ z xs p a. container-part Some (with_left c.pull.new.decoder z) c.args.levels xs p c.in_ok-header.header
      c.pull.ensures.pushed g.S.Rules.spelling Unit false c.in-Array.count c.begin_container.result c.in-Array.is a
      c.begin_container.ensures);
}

pub returns-in-Map : goal.returns-in-Map
returns-in-Map g c = record {
  same_reader = c.pull.ensures.same_reader;
  fewer = ok-so c.begin_container-in-Map.result c.in_ok-header.ensures.fewer;
  rests = container-rests true c.in-Map.count c.args.levels c.begin_container-in-Map.result c.pull.ensures.pushed
      c.begin_container-in-Map.ensures;
  ended = container-ends _ _ true c.in-Map.count c.args.levels c.begin_container-in-Map.result
      c.begin_container-in-Map.ensures;
  part = part-of-head (accepted g (goal.at.returns-in-Map g c).In_default) _
      (λ z xs p a. container-part Some (with_left c.pull.new.decoder z) c.args.levels xs p c.in_ok-header.header
      c.pull.ensures.pushed g.S.Rules.spelling Unit true c.in-Map.count c.begin_container-in-Map.result c.in-Map.is
      a c.begin_container-in-Map.ensures);
}

pub returns-in-Simple : goal.returns-in-Simple
returns-in-Simple g c = record {
  same_reader = c.pull.ensures.same_reader;
  fewer = ok-so c.read_simple.result c.in_ok-header.ensures.fewer;
  rests = simple-rests c.args.levels c.in-Simple.n _ c.read_simple.result c.pull.ensures.pushed c.read_simple.ensures;
  ended = simple-ends _ _ c.in-Simple.n _ c.read_simple.result c.read_simple.ensures;
  part = part-of-head (accepted g (goal.at.returns-in-Simple g c).In_default) _ (λ z xs p a.
      simple-part c.args.levels c.in-Simple.n c.last_offset-in-Simple.result c.read_simple.result c.pull.ensures.pushed
      c.in-Simple.is
      (c.last_offset-in-Simple.ensures ∙ a.pulled.5) c.read_simple.ensures a);
}

pub returns-in-Float : goal.returns-in-Float
returns-in-Float g c = record {
  same_reader = c.pull.ensures.same_reader;
  fewer = tt;
  rests = tt;
  ended = tt;
  part = part-of-head (accepted g (goal.at.returns-in-Float g c).In_default) _
      (λ z xs p a. subst (λ q. RefusesPart g.S.Rules.spelling xs p c.args.levels (semantic q kinds.Float))
      (sym (c.last_offset-in-Float.ensures ∙ a.pulled.5)) (float-refuses c.in-Float.is a));
}

pub returns-in-Break : goal.returns-in-Break
returns-in-Break g c = record {
  same_reader = c.pull.ensures.same_reader;
  fewer = c.in_ok-header.ensures.fewer;
  rests = c.pull.ensures.pushed;
  ended = tt;
  part = part-of-head (accepted g (goal.at.returns-in-Break g c).In_default) _
      (λ z xs p. got-end c.pull.ensures.pushed c.in-Break.is);
}

pub returns-in-Tag : goal.returns-in-Tag
returns-in-Tag g c = record {
  same_reader = c.read_tag.ensures.same_reader ∙ c.pull.ensures.same_reader;
  fewer = on_ok_weaker c.read_tag.result (λ most. lt_of_le_of_lt most c.in_ok-header.ensures.fewer)
      c.read_tag.ensures.fewer;
  rests = c.read_tag.ensures.rests;
  ended = c.read_tag.ensures.ended;
  part = part-behind-head (accepted g (goal.at.returns-in-Tag g c).In_default) c.read_tag.new.decoder _
      (λ d e. (xs : List ℕ) (p : ℕ) → IsHeadAccepted g.S.Rules.spelling Some d (header.Tag c.in-Tag.tag) xs p →
      c.last_offset-offset.result ≡ p → IsPartRead {E = Unit} g.S.Rules.spelling Some e c.args.levels xs p
      c.read_tag.result) c.read_tag.ensures.part
      (λ m z xs p a read. read xs p (subst (λ h. IsHeadAccepted g.S.Rules.spelling Some
      (with_left c.pull.new.decoder m) h xs p) c.in-Tag.is a) (c.last_offset-offset.ensures ∙ a.pulled.5));
}
