use Rattle.std.proofs.Common.{◌≡◌, ℕ, ◌+◌, ◌-◌, ◌<◌, ◌≤◌, List, [], ◌++◌, rules, arith, length, take, slice_range, sym}
use Rattle.std.proofs.Common.{Option, ap, Err, refl, ◌∙◌, subst, le_refl, drop_at, length-append, length-take-le}
use Rattle.std.proofs.{KnownBytes.Consumes-trans, lemmas.List.{take_all, Elements.All-take}}
use Rattle.std.{proofs.lemmas.{Result.err_from_is_err_and, Slice.take-put_mid_below}, specs.Io.KnownBytes.Consumes}
use Rattle.ciborium_ll.proofs.{Advancing.{Advances-map, Advances-then, Filled}, Cursors.are-bytes}
use Rattle.ciborium_ll.specs.{Bytes.{AreBytes, greatest_offset}, FirstHeads.IsHeadIo, ReaderSteps.Advances}
use Rattle.ciborium_ll.specs.{ReaderSteps.IsFillTaken, declared.header.Error.{Error, TheVariants.Io}}
use borrow.Rule.Slice.PartMut.{put_mid, post_of, same_len_mid}
use lib.Seq.{take-add, take-append-le}
use Rattle.ciborium_ll.proofs.cursor.Cursor.fill_within.Goals as goal

-- a front that stays, with what follows it, is a longer front
take-slice_range : (a b : ℕ) (old new : List ℕ) → a ≤ b → take a new ≡ take a old →
    take a old ++ slice_range new a b ≡ take b new
take-slice_range a b old new h front =
    let same : a + (b - a) ≡ b = omega arith in
    ap (λ l. l ++ slice_range new a b) (sym front) ∙ sym (take-add a (b - a) new) ∙ ap (λ n. take n new) same

slice_range-put_mid : (a k n : ℕ) (xs ys : List ℕ) → a ≤ length xs → n ≤ length ys →
    slice_range (put_mid a k xs ys) a (a + n) ≡ take n ys
slice_range-put_mid a k n xs ys within fits =
    let same : (a + n) - a ≡ n = omega arith in
    let after = post_of a k xs in
    ap (take ((a + n) - a)) (drop_at (take a xs) (ys ++ after) a (length-take-le a xs within)) ∙
    ap (λ m. take m (ys ++ after)) same ∙ take-append-le n ys after fits

filled-so-far : (a b : Option (List ℕ)) (p q n : ℕ) (buffer : List ℕ) → n ≤ length buffer → q ≡ p + n →
    Consumes a b (take n buffer) → AreBytes (take n buffer) → Advances a b p q (λ x. x ≡ take n buffer)
filled-so-far a b p q n buffer within count taken bytes =
    (take n buffer, taken, omega (arith, count, length-take-le n buffer within), refl, bytes)

-- no more came
fill-ends : {E : Type 0} (a b c : Option (List ℕ)) (p q r n : ℕ) (buffer start new : List ℕ) (e : Error E) →
    n < length buffer → length new ≡ length buffer → length buffer ≡ length start →
    p + length start ≤ greatest_offset → IsHeadIo e → Advances a b p q (λ x. x ≡ take n buffer) →
    Advances b c q r (λ x. x ≡ []) → Advances a c p r (λ x. IsFillTaken {E = E} x p new (Err e))
fill-ends {E} a b c p q r n buffer start new (Io e) below len same fits io =
    Advances-then a b c p q r (λ x. x ≡ take n buffer) (λ x. x ≡ []) (λ x. IsFillTaken {E = E} x p new (Err (Io e)))
    (λ x y is none.
    let front = length-take-le n buffer (omega (arith, below)) in
    let taken = length-append x y in
    (omega (arith, taken, ap length is, ap length none, front, len, below), omega (arith, len, same, fits)))
fill-ends a b c p q r n buffer start new u below len same fits io = absurd io

-- all came
fill-whole : (a b : Option (List ℕ)) (p q n : ℕ) (buffer start : List ℕ) → length buffer ≤ n →
    length buffer ≡ length start → p + length start ≤ greatest_offset → Advances a b p q (λ x. x ≡ take n buffer) →
    Advances a b p q (λ x. Filled x p buffer)
fill-whole a b p q n buffer start all same fits =
    Advances-map a b p q (λ x. x ≡ take n buffer) (λ x. Filled x p buffer)
    (λ x is. (is ∙ take_all n buffer all, omega (arith, same, fits)))

pub loop-filled-preserved : goal.loop-filled-preserved
loop-filled-preserved g c =
    let from = c.loop-filled.filled in
    let n = c.in_ok-n.n in
    let room = length c.loop-filled.buffer - from in
    let within = c.loop-filled.invariant.within in
    let (fits, (b, taken, count, is, good), end) = c.in_ok-n.ensures.some in
    let part = slice_range-put_mid from room n c.loop-filled.buffer c.read_some.new.buffer within fits in
    let joined = take-slice_range from (from + n) c.loop-filled.buffer
    (put_mid from room c.loop-filled.buffer c.read_some.new.buffer) (omega arith)
    (take-put_mid_below _ _ _ _ _ (le_refl _) within) in
    record {
      same = search rules;
      within = search rules;
      counted = omega (
        arith,
        c.loop-filled.invariant.counted,
        count,
        ap length is,
        length-take-le n c.read_some.new.buffer fits,
      );
      taken = subst (Consumes _ _) (ap (λ l. take from c.loop-filled.buffer ++ l) (is ∙ sym part) ∙ joined)
          (Consumes-trans _ _ _ _ _ c.loop-filled.invariant.taken taken);
      bytes = All-take (λ x. x < 256) (from + n) _ (are-bytes _ c.type_inv.buffer);
    }

pub returns-in_err-n-clause-taken : goal.returns-in_err-n-clause-taken
returns-in_err-n-clause-taken g c =
    let i = c.loop-filled.invariant in
    let exit = err_from_is_err_and c.from_residual.result c.from_residual.ensures.1 in
    rw (exit.1, exit.2) (fill-ends _ _ _ _ _ _ _ c.loop-filled.buffer c.args.buffer.now _ _ c.loop-filled-test.true
    (same_len_mid _ _ _ _ c.read_some.auto.buffer) c.loop-filled.auto.buffer c.requires c.in_err-n.ensures.some.1
    (filled-so-far _ _ _ _ _ _ i.within i.counted i.taken i.bytes) c.in_err-n.ensures.some.0)

pub returns-then-n-eq0-clause-taken : goal.returns-then-n-eq0-clause-taken
returns-then-n-eq0-clause-taken g c =
    let i = c.loop-filled.invariant in
    fill-ends _ _ _ _ _ _ _ c.loop-filled.buffer c.args.buffer.now _ _ c.loop-filled-test.true
    (same_len_mid _ _ _ _ c.read_some.auto.buffer) c.loop-filled.auto.buffer c.requires c.end_of_bytes.ensures
    (filled-so-far _ _ _ _ _ _ i.within i.counted i.taken i.bytes)
    (rw c.if-n-eq0.true at c.in_ok-n.ensures.some.1)

pub returns-clause-taken : goal.returns-clause-taken
returns-clause-taken g c =
    let i = c.loop-filled.invariant in
    fill-whole _ _ _ _ _ c.loop-filled.buffer c.args.buffer.now c.loop-filled-test.false c.loop-filled.auto.buffer
    c.requires (filled-so-far _ _ _ _ _ _ i.within i.counted i.taken i.bytes)
