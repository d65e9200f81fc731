use Rattle.std.proofs.Common.{◌≡◌, ◌≤◌, ◌<◌, ◌+◌, ℕ, le_trans, Bool, true, false, MatchBool, Some, sym, subst}
use Rattle.std.proofs.{Common.arith, lemmas.Result.err_from_is_err_and}
use Rattle.ciborium_ll.specs.Accesses.{left_at_failure}
use Rattle.ciborium_value.specs.{Given.{given_byte, given_integer}, Sources.{GoesOn, Leaves, OwesLess, OwesNothing}}
use Rattle.ciborium_value.specs.Sources.{TakesAhead, TakesTo}
use Rattle.ciborium.proofs.Containers.ByteItems.{ReadsPartly, byte-refuses, byte-takes, owes-end, owes-more, owes-none}
use Rattle.ciborium.proofs.Containers.ByteItems.{partly-end, partly-fault, partly-more, partly-next-fault, partly-none}
use Rattle.ciborium.proofs.Containers.ByteItems.{range-refuses, refuses-denied, takes-read, took-read}
use Rattle.ciborium.specs.inner.ByteSources.{IsUnread, SeqOwes, SeqStands, StandsBefore, fault_at}
use Rattle.ciborium.proofs.{Exits.passed_on, Items.TakenOnly.is-kept}
use Rattle.ciborium.proofs.de.byte_source.ByteSource.read_byte_items.Goals as goal

yes : (P Q : Type 0) (t : Bool) → t ≡ true → MatchBool t P Q → P
yes P Q t e h = subst (λ b. MatchBool b P Q) e h

no_more : (P Q : Type 0) (t : Bool) → t ≡ false → MatchBool t P Q → Q
no_more P Q t e h = subst (λ b. MatchBool b P Q) e h

-- what is left without the sequence
alone : (w q mid all : ℕ) → w + q ≤ mid → mid ≤ all → w ≤ all
alone w q mid all fewer most = omega arith

smaller : (w mid q all : ℕ) → w < mid → mid + q ≤ all → w + q < all
smaller w mid q all less most = omega arith

pub items-init : goal.items-init
items-init g c = record {
  only = λ first h. h;
  fewer = omega arith;
  read = subst (λ vs. ReadsPartly g.A.Access.remaining given_byte c.args.self.now c.args.seq.now c.args.self.now
      c.args.seq.now
      vs) (sym c.new-bytes.ensures.items) (partly-none g.A.Access.remaining given_byte c.args.self.now c.args.seq.now);
  owes = owes-none g.A.Access.remaining given_byte c.args.self.now c.args.seq.now;
}

pub returns-in_err-goes_on-clause-refused : goal.returns-in_err-goes_on-clause-refused
returns-in_err-goes_on-clause-refused g c =
    rw (passed_on c.from_residual.result _ c.from_residual.ensures.1)
    (partly-next-fault g.A.Access.remaining given_byte c.args.self.now c.args.seq.now c.items.self
    c.items.seq c.items.bytes.items (fault_at g.A.Access.can_fail g.A.Access.remaining c.next.new.self
    c.in_err-goes_on.field-0.0)
    c.items.invariant.read
    c.in_err-goes_on.ensures.refused)

pub returns-then-not-goes_on-clause-ok : goal.returns-then-not-goes_on-clause-ok
returns-then-not-goes_on-clause-ok g c =
    partly-end g.A.Access.remaining given_byte c.args.self.now c.args.seq.now c.items.self c.next.new.self c.items.seq
    c.items.bytes.items c.items.invariant.read
    (no_more (GoesOn (StandsBefore g.A.Access.remaining) SeqStands c.items.self c.next.new.self c.items.seq
    c.next.new.seq) (Leaves (StandsBefore g.A.Access.remaining) SeqStands c.items.self c.next.new.self c.items.seq)
    c.in_ok-goes_on.goes_on c.if-not-goes_on.true c.in_ok-goes_on.ensures.ok)

pub returns-then-not-goes_on-clause-took : goal.returns-then-not-goes_on-clause-took
returns-then-not-goes_on-clause-took g c =
    owes-end g.A.Access.remaining given_byte c.args.self.now c.args.seq.now c.items.self c.next.new.self c.items.seq
    c.items.invariant.owes (no_more (TakesTo (IsUnread g.A.Access.remaining) c.items.self c.next.new.self
    (OwesLess SeqOwes c.items.seq c.next.new.seq))
    (TakesTo (IsUnread g.A.Access.remaining) c.items.self c.next.new.self (OwesNothing SeqOwes c.items.seq))
    c.in_ok-goes_on.goes_on c.if-not-goes_on.true c.in_ok-goes_on.ensures.took)

pub returns-in_err-number-clause-refused : goal.returns-in_err-number-clause-refused
returns-in_err-number-clause-refused g c =
    let fault = fault_at g.A.Access.can_fail g.A.Access.remaining c.read_integer.new.self c.in_err-number.field-0.0 in
    let goes = yes (GoesOn (StandsBefore g.A.Access.remaining) SeqStands c.items.self c.next.new.self c.items.seq
    c.next.new.seq) (Leaves (StandsBefore g.A.Access.remaining) SeqStands c.items.self c.next.new.self
    c.items.seq)
    c.in_ok-goes_on.goes_on c.if-not-goes_on.false c.in_ok-goes_on.ensures.ok in
    rw (passed_on c.from_residual-in_err-number.result _ c.from_residual-in_err-number.ensures.1)
    (partly-fault g.A.Access.remaining given_byte c.args.self.now c.args.seq.now c.items.self
    c.next.new.self c.items.seq c.next.new.seq c.items.bytes.items fault c.items.invariant.read goes
    (byte-refuses g.A.Access.remaining c.next.new.self fault
    (refuses-denied g.A.Access.remaining c.next.new.self given_integer fault c.in_err-number.ensures.answer)))

pub returns-in_err-byte-clause-refused : goal.returns-in_err-byte-clause-refused
returns-in_err-byte-clause-refused g c =
    let fault = fault_at g.A.Access.can_fail g.A.Access.remaining c.read_integer.new.self c.in_err-byte.field-0.0 in
    let read = c.in_ok-number.ensures in
    let goes = yes (GoesOn (StandsBefore g.A.Access.remaining) SeqStands c.items.self c.next.new.self c.items.seq
    c.next.new.seq) (Leaves (StandsBefore g.A.Access.remaining) SeqStands c.items.self c.next.new.self
    c.items.seq)
    c.in_ok-goes_on.goes_on c.if-not-goes_on.false c.in_ok-goes_on.ensures.ok in
    rw (passed_on c.from_residual-in_err-byte.result _ c.from_residual-in_err-byte.ensures.1)
    (partly-fault g.A.Access.remaining given_byte c.args.self.now c.args.seq.now c.items.self
    c.next.new.self c.items.seq c.next.new.seq c.items.bytes.items fault c.items.invariant.read goes
    (range-refuses g.A.Access.remaining c.next.new.self c.read_integer.new.self c.in_ok-number.number fault
    (c.in_err-byte.ensures.refused
    (left_at_failure g.A.Access.can_fail (g.A.Access.remaining c.read_integer.new.self.decoder.reader.now)))
    (takes-read g.A.Access.remaining c.next.new.self c.read_integer.new.self given_integer c.in_ok-number.number
    (is-kept read.keeps.kept) read.keeps.kept.levels read.keeps.kept.pending read.answer)))

pub items-preserved : goal.items-preserved
items-preserved g c =
    let read = c.in_ok-number.ensures in
    let goes = yes (GoesOn (StandsBefore g.A.Access.remaining) SeqStands c.items.self c.next.new.self c.items.seq
    c.next.new.seq) (Leaves (StandsBefore g.A.Access.remaining) SeqStands c.items.self c.next.new.self
    c.items.seq)
    c.in_ok-goes_on.goes_on c.if-not-goes_on.false c.in_ok-goes_on.ensures.ok in
    let less = yes (TakesTo (IsUnread g.A.Access.remaining) c.items.self c.next.new.self
    (OwesLess SeqOwes c.items.seq c.next.new.seq))
    (TakesTo (IsUnread g.A.Access.remaining) c.items.self c.next.new.self (OwesNothing SeqOwes c.items.seq))
    c.in_ok-goes_on.goes_on c.if-not-goes_on.false c.in_ok-goes_on.ensures.took in
    let takes : TakesAhead (StandsBefore g.A.Access.remaining) c.next.new.self c.read_integer.new.self given_byte
    c.in_ok-byte.byte =
    byte-takes g.A.Access.remaining c.next.new.self c.read_integer.new.self c.in_ok-number.number c.in_ok-byte.byte
    c.in_ok-byte.ensures.ok
    (takes-read g.A.Access.remaining c.next.new.self c.read_integer.new.self given_integer c.in_ok-number.number
    (is-kept read.keeps.kept) read.keeps.kept.levels read.keeps.kept.pending read.answer) in
    record {
      only = λ first h. read.keeps.kept.only first.decoder
          (c.in_ok-goes_on.ensures.only first (c.items.invariant.only first h));
      fewer = omega (arith, read.keeps.fewer, c.in_ok-goes_on.ensures.less, c.items.invariant.fewer);
      read = subst (λ vs. ReadsPartly g.A.Access.remaining given_byte c.args.self.now c.args.seq.now
          c.read_integer.new.self
          c.next.new.seq vs) (sym c.in-Ok.ensures.items)
          (partly-more g.A.Access.remaining given_byte c.args.self.now c.args.seq.now c.items.self c.next.new.self
          c.read_integer.new.self c.items.seq c.next.new.seq c.items.bytes.items c.in_ok-byte.byte
          c.items.invariant.read goes takes);
      owes = owes-more g.A.Access.remaining given_byte c.args.self.now c.args.seq.now c.items.self c.next.new.self
          c.read_integer.new.self c.items.seq c.next.new.seq c.items.invariant.owes less
          (took-read g.A.Access.remaining c.next.new.self c.read_integer.new.self
          (Some c.next.new.self.levels)
          given_integer c.in_ok-number.number read.answer);
    }

pub returns-in_err-goes_on-clause-no_more : goal.returns-in_err-goes_on-clause-no_more
returns-in_err-goes_on-clause-no_more g c =
    let exit = err_from_is_err_and c.from_residual.result c.from_residual.ensures.1 in
    rw exit.1 (alone _ _ _ _ c.in_err-goes_on.ensures.no_more
    c.items.invariant.fewer)

pub returns-then-not-goes_on-clause-fewer : goal.returns-then-not-goes_on-clause-fewer
returns-then-not-goes_on-clause-fewer g c =
    alone _ _ _ _ c.in_ok-goes_on.ensures.less
    c.items.invariant.fewer

pub returns-in_err-number-clause-no_more : goal.returns-in_err-number-clause-no_more
returns-in_err-number-clause-no_more g c =
    let exit = err_from_is_err_and c.from_residual-in_err-number.result c.from_residual-in_err-number.ensures.1 in
    rw exit.1 (le_trans c.in_err-number.ensures.keeps.kept.no_more (alone _ _ _ _ c.in_ok-goes_on.ensures.less
    c.items.invariant.fewer))

pub returns-in_err-byte-clause-no_more : goal.returns-in_err-byte-clause-no_more
returns-in_err-byte-clause-no_more g c =
    let exit = err_from_is_err_and c.from_residual-in_err-byte.result c.from_residual-in_err-byte.ensures.1 in
    rw exit.1 (le_trans c.in_ok-number.ensures.keeps.kept.no_more (alone _ _ _ _ c.in_ok-goes_on.ensures.less
    c.items.invariant.fewer))

pub returns-in-Err-clause-no_more : goal.returns-in-Err-clause-no_more
returns-in-Err-clause-no_more g c = le_trans c.in_ok-number.ensures.keeps.kept.no_more
    (alone _ _ _ _ c.in_ok-goes_on.ensures.less
    c.items.invariant.fewer)

pub items-smaller : goal.items-smaller
items-smaller g c = smaller _ _ _ _ c.in_ok-number.ensures.keeps.fewer c.in_ok-goes_on.ensures.less
