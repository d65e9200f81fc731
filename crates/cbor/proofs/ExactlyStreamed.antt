-- Items of a stream are shown by their very heads, one by one.
use Rattle.std.proofs.Common.{◌≡◌, ℕ, ◌<◌, ◌+◌, ◌-◌, Bool, true, false, List, [], ◌++◌, length, take, drop, Option}
use Rattle.std.proofs.Common.{Some, arith, ap, append_assoc, append-nil, length-append, length-take-le, sym, subst}
use Rattle.std.proofs.{Common.{take-append-drop, ◌∙◌}, lemmas.List.{drop_at, take_at}}
use Rattle.ciborium_ll.{proofs.UniqueSpelling.none_begins_another, specs.{ItemLengths.IsNoItem, Levels.AreItem}}
use Rattle.ciborium_ll.specs.declared.item_heads.NoItem.{NoItem}
use Rattle.cbor.{proofs.StreamedItems.IsKept, specs.{Dumped.reason_text, Exact.{IsExactly, IsFrontPushed}}}
use Rattle.cbor.specs.ExactStreams.{AreExactLines, IsFrontExactly, IsShownExactly, ended, no_item, reason_behind, shown}
use Rattle.cbor.specs.{Lines.text_line, Streams.refused_line}

-- ---- one item

-- what was shown of an empty text is shown by it
pub front-shown : (b text longer : List ℕ) (count : ℕ) → text ≡ [] →
    IsFrontPushed b count text longer → IsFrontExactly b (length b - count) longer
front-shown b text longer count none (s, rest, t, item, all, left, shows, e) =
    let size = length b - count in
    let sum : length b ≡ length s + length rest = ap length all ∙ length-append s rest in
    let long : length s ≡ size = omega (arith, sum, left) in
    let same : s ≡ take size b = sym (take_at s rest size long) ∙ ap (take size) (sym all) in
    let text-is : t ≡ longer = sym (e ∙ ap (λ (x : List ℕ). x ++ t) none) in (
      omega (arith, sum, long),
      subst AreItem same item,
      subst (λ (x : List ℕ). IsExactly x longer) same (subst (IsExactly s) text-is shows),
    )

-- all of an item that was copied is shown
pub copy-shown : (b copied left text : List ℕ) (size : ℕ) → b ≡ copied ++ left → AreItem copied →
    IsFrontExactly copied size text → IsFrontExactly b size text × (left ≡ drop size b)
copy-shown b copied left text size whole item (fits, front, shows) =
    let split : copied ≡ take size copied ++ drop size copied = sym (take-append-drop size copied) in
    let none : drop size copied ≡ [] =
    none_begins_another (take size copied) (drop size copied) front.0 item.0 front.1 (rw split at item.1) in
    let all : copied ≡ take size copied =
    split ∙ (ap (λ (x : List ℕ). take size copied ++ x) none ∙ append-nil (take size copied)) in
    let long : length copied ≡ size = ap length all ∙ length-take-le size copied fits in
    let same : take size copied ≡ take size b =
    sym all ∙ (sym (take_at copied left size long) ∙ ap (take size) (sym whole)) in
    let sum : length b ≡ length copied + length left = ap length whole ∙ length-append copied left in (
      (
        omega (arith, sum, long),
        subst AreItem same front,
        subst (λ (x : List ℕ). IsExactly x text) same shows,
      ),
      sym (ap (drop size) whole ∙ drop_at copied left size long),
    )

-- ---- all items

-- of b this is left, where the next item has this number and begins at this offset: with lines that show what is left,
-- those so far show b behind w
abbrev pub AreLinesSoFar : List ℕ → List ℕ → List ℕ → Option (List ℕ) → Option (List ℕ) → ℕ → ℕ → Type 0
AreLinesSoFar place b w left held number offset = (rest : List ℕ) × (lines : List ℕ) × (left ≡ Some rest) ×
    (held ≡ Some (w ++ lines)) × ((all : Bool) (more : List ℕ) → AreExactLines place number offset rest all more →
    AreExactLines place 1 0 b all (lines ++ more))

-- at first nothing is shown
pub no-lines : (place b w : List ℕ) (left held : Option (List ℕ)) → left ≡ Some b → held ≡ Some w →
    AreLinesSoFar place b w left held 1 0
no-lines place b w left held e f = (b, [], e, f ∙ ap Some (sym (append-nil w)), λ all more h. h)

module _ (place b w : List ℕ) (left held kept : Option (List ℕ)) (number offset : ℕ)
    (so_far : AreLinesSoFar place b w left held number offset) (keeps : IsKept held kept) where
  -- the input ends
  pub all-lines : ((xs : List ℕ) → left ≡ Some xs → xs ≡ []) → IsShownExactly place b w true kept
  all-lines ends =
      let (rest, lines, e, f, so) = so_far in (
        lines ++ [],
        so true [] (subst (λ (r : List ℕ). AreExactLines place number offset r true []) (sym (ends rest e))
            (ended number offset)),
        keeps _ f ∙ ap (λ (l : List ℕ). Some (w ++ l)) (sym (append-nil lines)),
      )

  -- one more item has its line
  pub one-more-line : (next now : Option (List ℕ)) (size behind : ℕ) (text : List ℕ) → behind ≡ offset + size →
      ((xs : List ℕ) → left ≡ Some xs → IsFrontExactly xs size text × (next ≡ Some (drop size xs))) →
      ((ys : List ℕ) → kept ≡ Some ys → now ≡ Some (ys ++ text_line text)) →
      AreLinesSoFar place b w next now (number + 1) behind
  one-more-line next now size behind text moved read written =
      let (rest, lines, e, f, so) = so_far in
      let ((fits, item, shows), after) = read rest e in
      let at : behind ≡ offset + length (take size rest) =
      moved ∙ ap (λ (n : ℕ). offset + n) (sym (length-take-le size rest fits)) in (
        drop size rest,
        lines ++ text_line text,
        after,
        written (w ++ lines) (keeps _ f) ∙ ap Some (append_assoc w lines (text_line text)),
        λ (all : Bool) (more : List ℕ) h.
            subst (λ (l : List ℕ). AreExactLines place 1 0 b all l) (sym (append_assoc lines (text_line text) more))
            (so all (text_line text ++ more)
            (subst (λ (r : List ℕ). AreExactLines place number offset r all (text_line text ++ more))
            (take-append-drop size rest)
            (shown number offset (take size rest) (drop size rest) text all more item shows
            (subst (λ (n : ℕ). AreExactLines place (number + 1) n (drop size rest) all more) at h)))),
      )

  -- no item comes next, and the line says so
  pub last-line : (now : Option (List ℕ)) (why : NoItem) →
      ((xs : List ℕ) → left ≡ Some xs → (0 < length xs) × IsNoItem xs why) → ((ys : List ℕ) → kept ≡ Some ys →
      now ≡ Some (ys ++ refused_line place number (reason_text (reason_behind offset why)))) →
      IsShownExactly place b w false now
  last-line now why read written =
      let (rest, lines, is, f, so) = so_far in
      let (some, none) = read rest is in
      let line = refused_line place number (reason_text (reason_behind offset why)) in (
        lines ++ line,
        so false line (no_item number offset rest why some none),
        written (w ++ lines) (keeps _ f) ∙ ap Some (append_assoc w lines line),
      )

-- what is shown stays so where what waits is sent, or the output is flushed
pub shown-still : (place b w : List ℕ) (held now : Option (List ℕ)) → IsKept held now → (all : Bool) →
    IsShownExactly place b w all held → IsShownExactly place b w all now
shown-still place b w held now keeps all (lines, shows, e) = (lines, shows, keeps (w ++ lines) e)
