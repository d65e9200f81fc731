-- The bytes of an item that are copied out of a reader.
use Rattle.std.proofs.Common.{◌≡◌, ℕ, ◌-◌, ◌≤◌, List, [], ◌++◌, length, take, drop, Option, Some, None, IfSome, Result}
use Rattle.std.proofs.Common.{append_assoc, arith, ap, length-append, sym, subst, take-append-drop, ◌∙◌, refl}
use Rattle.std.proofs.{KnownBytes.Consumes-trans, Math.Seq.take-append-add, lemmas.List.{length-take, nil_from_length}}
use Rattle.std.specs.{Io.KnownBytes.Consumes, Prelude.IsUtf8}
use Rattle.ciborium_ll.{proofs.LevelMisfits.ill-more, specs.ItemBytes.{HasCopied, HasEnded, IsCopyOf}}
use Rattle.ciborium_ll.specs.ItemLengths.{BeginText, IsNoItem, Misfits, StandsInside, ill_formed, misplaced, no_chunk}
use Rattle.ciborium_ll.specs.{ItemLengths.no_text, declared.item_bytes.NotCopied.NotCopied}
use Rattle.ciborium_ll.specs.declared.{item_heads.NoItem.TheVariants.{Malformed, TooDeep}, levels.Level.Level}

-- ---- what was copied

pub more-copied : (before mid after : Option (List ℕ)) (old more new : List ℕ) →
    HasCopied before mid old more (λ _. Unit {0}) → HasCopied mid after more new (λ _. Unit {0}) →
    HasCopied before after old new (λ _. Unit {0})
more-copied before mid after old more new (a, first, is, _) (b, second, also, _) =
    (a ++ b, Consumes-trans before mid after a b first second, also ∙ ap (λ l. l ++ b) is ∙ append_assoc old a b, tt)

pub more-ended : (before mid after : Option (List ℕ)) (c : List ℕ) → Consumes before mid c → HasEnded mid after →
    HasEnded before after
more-ended None mid after c taken ends b e = absurd cc
more-ended (Some xs) None after c taken ends b e = absurd taken
more-ended (Some xs) (Some ys) after c taken ends b e = ends ys refl

-- no byte was held
pub none-held : (before after : Option (List ℕ)) (held c : List ℕ) →
    IfSome before (λ xs. length held ≡ 0 → xs ≡ []) → length held ≡ 0 → Consumes before after c → HasEnded before after
none-held None after held c ends none taken b e = absurd cc
none-held (Some xs) None held c ends none taken b e = absurd taken
none-held (Some xs) (Some ys) held c ends none taken b e =
    let empty : c ++ ys ≡ [] = sym taken ∙ ends none in
    ap Some (nil_from_length ys (omega (arith, ap length empty, length-append c ys)))

-- what is said of bytes, whatever follows them, is so of those that they were taken from
pub taken-judged : (before after : Option (List ℕ)) (copied : List ℕ) (r : Result (Unit {0}) NotCopied) (End : Type 0) →
    Consumes before after copied → (End → HasEnded before after) →
    ((left : List ℕ) → (End → left ≡ []) → IsCopyOf (copied ++ left) copied r) →
    (b : List ℕ) → before ≡ Some b → IsCopyOf b copied r
taken-judged None after copied r End taken ends judged b e = absurd cc
taken-judged (Some xs) None copied r End taken ends judged b e = absurd taken
taken-judged (Some xs) (Some ys) copied r End taken ends judged b e =
    let whole : copied ++ ys ≡ b = cc in
    subst (λ (x : List ℕ). IsCopyOf x copied r) whole (judged ys (λ end. let none = ends end b e in cc))

-- ---- why it is no item

-- where no item stands at the front of b, none does whatever follows
more-misfits : (levels : List Level) (b t : List ℕ) → Misfits levels b → Misfits levels (b ++ t)
more-misfits levels b t (ill_formed ill) = ill_formed (ill-more b t ill)
more-misfits levels b t (misplaced header h r spelled is none) =
    misplaced header h (r ++ t) spelled (ap (λ (x : List ℕ). x ++ t) is ∙ append_assoc h r t) none
more-misfits levels b t (no_chunk x major r is chunks other no_break) =
    no_chunk x major (r ++ t) (ap (λ (l : List ℕ). l ++ t) is) chunks other no_break
more-misfits levels b t (no_text n h r spelled is none) =
    no_text n h (r ++ t) spelled (ap (λ (x : List ℕ). x ++ t) is ∙ append_assoc h r t)
    (λ begins. none (less begins))
  where
    less : BeginText n (take n (r ++ t)) → BeginText n (take n r)
    less (u, size, utf8) =
        let p = take n r in
        let k = n - length p in
        let q = drop n r ++ t in
        let fits : length p ≤ n = omega (arith, length-take n r) in
        let same : take n (r ++ t) ++ u ≡ p ++ (take k q ++ u) =
        ap (λ (x : List ℕ). take n x ++ u) (ap (λ (x : List ℕ). x ++ t) (sym (take-append-drop n r)) ∙
        append_assoc p (drop n r) t) ∙
        ap (λ (m : ℕ). take m (p ++ q) ++ u) (omega (arith, fits)) ∙
        ap (λ (x : List ℕ). x ++ u) (take-append-add p q k) ∙ append_assoc p (take k q) u in
        (take k q ++ u, subst (λ (x : List ℕ). length x ≡ n) same size, subst IsUtf8 same utf8)

stands-more : (b t : List ℕ) (p : ℕ) (levels : List Level) (r : List ℕ) → StandsInside b p levels r →
    StandsInside (b ++ t) p levels (r ++ t)
stands-more b t p levels r stands = record {
  before = stands.before;
  whole = ap (λ (x : List ℕ). x ++ t) stands.whole ∙ append_assoc stands.before r t;
  at = stands.at;
  inside = stands.inside;
}

pub malformed-more : (b t : List ℕ) (p : ℕ) → IsNoItem b (Malformed p) → IsNoItem (b ++ t) (Malformed p)
malformed-more b t p (never, (levels, r, stands, misfits)) = (
  λ (u s z : List ℕ) is. never (t ++ u) s z (sym (append_assoc b t u) ∙ is),
  (levels, r ++ t, stands-more b t p levels r stands, more-misfits levels r t misfits),
)

pub deep-more : (b t : List ℕ) (p : ℕ) → IsNoItem b (TooDeep p) → IsNoItem (b ++ t) (TooDeep p)
deep-more b t p (levels, r, stands, (header, h, s, more, spelled, is, placed, kept, one)) =
    let whole : r ++ t ≡ h ++ (s ++ t) = ap (λ (x : List ℕ). x ++ t) is ∙ append_assoc h s t in
    (levels, r ++ t, stands-more b t p levels r stands, (header, h, s ++ t, more, spelled, whole, placed, kept, one))
