-- Bytes that are loaded, and where they differ from the encoding that is due.
use Rattle.std.proofs.Common.{◌≡◌, ℕ, ◌+◌, ◌-◌, ◌<◌, List, [], ◌∷◌, ◌++◌, length, take, drop, Some, true}
use Rattle.std.proofs.Common.{refl, sym, ap, ◌∙◌, subst, arith, eqb, get_or, Result, Ok, Err, IsErrAnd, inl}
use Rattle.std.proofs.{Math.Seq.{take-add, take-length, take-suc}, lemmas.List.{take_all, length-drop}}
use Rattle.std.proofs.{lemmas.Bool.Decides.Decides-eqb, lemmas.Slice.Eq.slice_eq-Decides}
use Rattle.std.specs.{List.{starts_with, slice_range}, Result.is_ok}
use Rattle.ciborium_value.specs.{Encoding.encoding, Given.Outcome, Readings.Reading, Sinks.Named, Tree.Tree}
use Rattle.ciborium_value.specs.declared.key_order.KeyOrder.{KeyOrder}
use Rattle.ciborium.specs.{DeterministicWrites.{HasForm, WritesForm}, LoadedAnswers.{DifferAt, LoadsAll}}
use Rattle.ciborium.specs.{SliceAnswers.ReadsAll, declared.de.error.Error.Error}
use Rattle.ciborium.specs.declared.ser.error.Error.{Error as WriteError}
use lib.Pointwise.{pointwise}

-- ---- where bytes differ

pub differ-byte : (b c : List ℕ) (k : ℕ) → take k b ≡ take k c → k < length b → k < length c →
    (get_or b k 0 ≡ get_or c k 0 → ⊥) → DifferAt b c k
differ-byte b c k same left right other = (
  same,
  λ e. other (last (take k b) (take k c) _ _ same
      (sym (take-suc b k 0 left) ∙ e ∙ take-suc c k 0 right)),
)
  where
    head-same : (x y : ℕ) (ys : List ℕ) → x ∷ [] ≡ y ∷ ys → x ≡ y
    head-same x y ys e = cc

    last : (xs ys : List ℕ) (x y : ℕ) → xs ≡ ys → xs ++ (x ∷ []) ≡ ys ++ (y ∷ []) → x ≡ y
    last [] ys x y e f = head-same x y [] (f ∙ ap (λ (z : List ℕ). z ++ (y ∷ [])) (sym e))
    last (w ∷ xs) [] x y e f = absurd cc
    last (w ∷ xs) (v ∷ ys) x y e f = last xs ys x y (cc) (cc)

-- ---- what was compared

pub written-more : (bytes rest buf : List ℕ) (w : ℕ) → rest ≡ slice_range bytes w (length bytes) →
    true ≡ starts_with eqb rest buf → take (w + length buf) bytes ≡ take w bytes ++ take (length buf) buf
written-more bytes rest buf w is front =
    take-add w (length buf) bytes ∙ ap (λ (c : List ℕ). take w bytes ++ c) (sym same ∙ sym (take-length buf))
  where
    all : rest ≡ drop w bytes
    all = is ∙ take_all (length bytes - w) (drop w bytes)
        (let e = length-drop w bytes in omega (arith, e))

    same : buf ≡ take (length buf) (drop w bytes)
    same = (slice_eq-Decides Decides-eqb buf (take (length buf) rest) true front).0 refl ∙ ap (take (length buf)) all

-- all of the bytes were written
pub written-all : {E : Type 0} (bytes now : List ℕ) (w : ℕ) (r : Result (Unit {0}) (WriteError E))
    (form : Outcome Tree) → WritesForm (Some []) (Some (take w now)) r form →
    true ≡ is_ok r → w ≡ length bytes → true ≡ pointwise eqb now bytes → HasForm form (λ t. bytes ≡ encoding t)
written-all bytes now w (Ok u) form (t, is, written) ok all same =
    let e : now ≡ bytes = (slice_eq-Decides Decides-eqb now bytes true same).0 refl in
    (t, is, sym (ap (take w) e ∙ ap (λ n. take n bytes) all ∙ take-length bytes) ∙ written)
written-all bytes now w (Err e) form h ok all same = absurd cc

-- ---- what is refused

pub loads-refused : {T A E : Type 0} (o : KeyOrder) (l : ℕ) (reading : Reading T A) (written : T → Named) (b : List ℕ)
    (e : Error E) (r : Result T (Error E)) → IsErrAnd r (λ y. y ≡ e) → ReadsAll l reading b (Err e) →
    LoadsAll o l reading written b r
loads-refused o l reading written b e (Ok v) h reads = absurd h
loads-refused o l reading written b e (Err y) h reads = record {
  ok = tt;
  refused = inl (subst (λ x. ReadsAll l reading b (Err x)) (sym h) reads);
}
