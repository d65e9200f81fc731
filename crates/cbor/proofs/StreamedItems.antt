-- Items of a stream are read and shown one by one.
use Rattle.std.proofs.Common.{◌≡◌, ℕ, ◌<◌, ◌+◌, ◌==◌, Bool, ◌&&◌, true, false, List, [], ◌++◌, length, take, drop}
use Rattle.std.proofs.Common.{arith, Option, Some, None, Result, Ok, Err, IfErr, IfOk, OnOk, inl, refl, ap}
use Rattle.std.proofs.Common.{append_assoc, append-nil, length-append, length-take-le, sym, subst, take-append-drop}
use Rattle.std.proofs.{Common.{◌∙◌, ◌-◌, ◌≤◌, if◌then◌else◌}, lemmas.List.{drop_at, take-append-le, take_at}}
use Rattle.std.specs.Io.{BufRead.DropsConsumable, KnownBytes.{Consumes, prepend_known}}
use Rattle.ciborium_ll.{proofs.UniqueSpelling.none_begins_another, specs.Levels.AreItem}
use Rattle.ciborium.specs.NextItems.{TakesTo}
use Rattle.ciborium_value.specs.{Tree.Tree, View.tree_of, declared.tree.Value.Value}
use Rattle.cbor.{proofs.{AnsweredLines.and-true, ReadBytes.nothing-left}, specs.Answer.{IsFrontRefused, refusal_behind}}
use Rattle.cbor.specs.{Answer.{refused_text, wants_memory}, Lines.text_line, Sequence.refused_item_text}
use Rattle.cbor.specs.{Shown.shown_spelling, Spellings.{HasItemBefore, IsItem}, Streams.{AreItemsShown, IsFront}}
use Rattle.cbor.specs.Streams.{IsItemLine, IsJudged, IsStreamShown, IsTaken, ended, no_item, refused, refused_line}
use Rattle.cbor.specs.{Streams.shown, declared.answer.LineRefusal.{LineRefusal, TheVariants.Memory}}
use Rattle.cbor.specs.declared.{reading.{Showing.Showing, Spelling.Spelling}, streams.Next.TheVariants.Item}
use Rattle.cbor.specs.declared.streams.Next.TheVariants.{NoItem as NoNext}

-- ---- one item

-- a reader of known bytes, of which some were taken, has the others left
pub what-is-left : (before after : Option (List ℕ)) (b s : List ℕ) → before ≡ Some b → Consumes before after s →
    (left : List ℕ) × (after ≡ Some left) × (b ≡ s ++ left)
what-is-left None after b s e h = absurd cc
what-is-left (Some xs) None b s e h = absurd h
what-is-left (Some xs) (Some ys) b s e h = (ys, refl, cc)

-- as many were taken as the offset moved by
pub taken-size : (before after : Option (List ℕ)) (b left : List ℕ) (size : ℕ) → before ≡ Some b → after ≡ Some left →
    TakesTo 0 size before after → size + length left ≡ length b
taken-size before after b left size e f (s, taken, count) =
    let split : b ≡ s ++ left = rw (e, f) at taken in
    let sum : length b ≡ length s + length left = ap length split ∙ length-append s left in
    omega (arith, count, sum)

-- where nothing stands before a reader, all that is left is its own
pub nothing-before : (taken : List ℕ) (held : Option (List ℕ)) (left : List ℕ) → (length taken == 0) ≡ true →
    prepend_known taken held ≡ Some left → held ≡ Some left
nothing-before taken None left e h = absurd cc
nothing-before taken (Some xs) left e h = ap (λ (t : List ℕ). Some (t ++ xs)) (sym (nothing-left taken e)) ∙ h

-- what is read at the front of an item is all of it
whole-item : (spelling : Spelling) (s : List ℕ) (limit : ℕ) (v : Tree) (left : List ℕ) → AreItem s →
    HasItemBefore spelling s limit v left → IsItem spelling s limit v
whole-item spelling s limit v left i (t, item, is) =
    let none : left ≡ [] = none_begins_another t left item.0 i.0 item.1 (rw (sym is) i.1) in
    let same : t ≡ s = sym (append-nil t) ∙ ap (λ (x : List ℕ). t ++ x) (sym none) ∙ sym is in
    subst (λ (x : List ℕ). IsItem spelling x limit v) same item

pub item-judged : (spelling : Spelling) (s : List ℕ) (limit : ℕ) (r : Result Value LineRefusal) (left : List ℕ) →
    AreItem s → IfOk r (λ v. HasItemBefore spelling s limit (tree_of v) left) →
    IfErr r (λ e. IsFrontRefused spelling s limit e) → IsJudged spelling s limit r
item-judged spelling s limit (Ok v) left i item refuses = whole-item spelling s limit (tree_of v) left i item
item-judged spelling s limit (Err e) left i item refuses = refuses

-- what is read at the front is there by its size
pub front-read : (spelling : Spelling) (b : List ℕ) (limit : ℕ) (v : Value) (left : List ℕ) (size : ℕ) →
    HasItemBefore spelling b limit (tree_of v) left → size + length left ≡ length b →
    IsFront spelling b limit (Ok v) size × (drop size b ≡ left)
front-read spelling b limit v left size (s, item, is) count =
    let sum : length b ≡ length s + length left = ap length is ∙ length-append s left in
    let long : length s ≡ size = omega (arith, sum, count) in
    let same : s ≡ take size b = sym (take_at s left size long) ∙ ap (take size) (sym is) in (
      (
        omega (arith, count),
        subst AreItem same (item.0, item.1),
        subst (λ (x : List ℕ). IsItem spelling x limit (tree_of v)) same item,
      ),
      ap (drop size) is ∙ drop_at s left size long,
    )

-- and so it is by the count of what is left
pub front-before : (spelling : Spelling) (b : List ℕ) (limit : ℕ) (v : Value) (left : List ℕ) →
    HasItemBefore spelling b limit (tree_of v) left → IsFront spelling b limit (Ok v) (length b - length left)
front-before spelling b limit v left (s, item, is) =
    let sum : length b ≡ length s + length left = ap length is ∙ length-append s left in
    (front-read spelling b limit v left (length b - length left) (s, item, is) (omega (arith, sum))).0

-- an item that a buffer holds whole is at the front of all that is left, and is taken
pub held-taken : (P : List ℕ → Type 0) (empty : Bool) (held : List ℕ) (inner after : Option (List ℕ)) (b : List ℕ)
    (size : ℕ) → (if empty then None else prepend_known held inner) ≡ Some b →
    DropsConsumable (if empty then None else prepend_known held inner) after (Some (length held)) size →
    (size ≤ length held) × AreItem (take size held) × P (take size held) →
    ((size ≤ length b) × AreItem (take size b) × P (take size b)) × (after ≡ Some (drop size b))
held-taken P true held inner after b size e drops h = absurd cc
held-taken P false held None after b size e drops h = absurd cc
held-taken P false held (Some xs) after b size e drops (fits, item, is) =
    let whole : held ++ xs ≡ b = cc in
    let same : take size held ≡ take size b = sym (take-append-le size held xs fits) ∙ ap (take size) whole in (
      (omega (arith, fits, ap length whole, length-append held xs), subst AreItem same item, subst P same is),
      drops fits ∙ ap (λ (x : List ℕ). Some (drop size x)) whole,
    )

-- an item that was copied, the bytes at the front of all that was left, was taken
pub copied-taken : (P : List ℕ → Type 0) (b copied left item : List ℕ) (after : Option (List ℕ)) → b ≡ copied ++ left →
    after ≡ Some left → item ≡ copied → AreItem copied → (AreItem item → P item) →
    ((length item ≤ length b) × AreItem (take (length item) b) × P (take (length item) b)) ×
    (after ≡ Some (drop (length item) b))
copied-taken P b copied left item after whole behind same is holds =
    let split : b ≡ item ++ left = whole ∙ ap (λ (x : List ℕ). x ++ left) (sym same) in
    let front : item ≡ take (length item) b = sym (ap (take (length item)) split ∙ take_at item left _ refl) in
    let here = subst AreItem (sym same) is in (
      (omega (arith, ap length split, length-append item left), subst AreItem front here, subst P front (holds here)),
      behind ∙ ap Some (sym (ap (drop (length item)) split ∙ drop_at item left _ refl)),
    )

-- a refusal is not one for memory where it is none with its offset counted so
memory-behind : (p : ℕ) (e : LineRefusal) → wants_memory (refusal_behind p e) ≡ false → wants_memory e ≡ false
memory-behind p Memory h = h
memory-behind p other h = refl

pub refused-written : (n offset : ℕ) (e f : LineRefusal) (text : List ℕ) → f ≡ refusal_behind offset e →
    (wants_memory f ≡ false) × (text ≡ refused_item_text n (refused_text f)) →
    (wants_memory e ≡ false) × (text ≡ refused_item_text n (refused_text (refusal_behind offset e)))
refused-written n offset e f text is (m, same) = (
  memory-behind offset e (rw is at m),
  same ∙ ap (λ (x : LineRefusal). refused_item_text n (refused_text x)) is,
)

pub refused-shown : {E : Type 0} (place w : List ℕ) (n : ℕ) (e : LineRefusal) (reason text : List ℕ)
    (after : Option (List ℕ)) (r : Result Unit E) → (wants_memory e ≡ false) × (text ≡ refused_item_text n reason) →
    OnOk r (after ≡ Some ((w ++ place) ++ text_line text)) →
    OnOk r ((wants_memory e ≡ false) × (after ≡ Some (w ++ refused_line place n reason)))
refused-shown place w n e reason text after (Ok u) (m, same) h = (
  m,
  h ∙ ap Some (append_assoc w place (text_line text) ∙ ap (λ (t : List ℕ). w ++ (place ++ text_line t)) same),
)
refused-shown place w n e reason text after (Err x) h k = tt

-- ---- all items

-- of b this is left, where the next item has this number and begins at this offset: with lines that show what is left,
-- those so far show b behind w
abbrev pub AreShownSoFar : List ℕ → Showing → ℕ → List ℕ → List ℕ → Option (List ℕ) → Option (List ℕ) → ℕ → ℕ →
    Bool → Type 0
AreShownSoFar place showing limit b w left held number offset whole =
    (rest : List ℕ) × (lines : List ℕ) × (left ≡ Some rest) × (held ≡ Some (w ++ lines)) ×
    ((all : Bool) (more : List ℕ) → AreItemsShown place showing limit number offset rest all more →
    AreItemsShown place showing limit 1 0 b (whole && all) (lines ++ more))

abbrev pub IsKept : Option (List ℕ) → Option (List ℕ) → Type 0
IsKept held kept = (xs : List ℕ) → held ≡ Some xs → kept ≡ Some xs

module _ (place : List ℕ) (showing : Showing) (limit : ℕ) where
  -- at first nothing is shown
  pub none-shown : (b w : List ℕ) (left held : Option (List ℕ)) → left ≡ Some b → held ≡ Some w →
      AreShownSoFar place showing limit b w left held 1 0 true
  none-shown b w left held e f = (b, [], e, f ∙ ap Some (sym (append-nil w)), λ all more h. h)

  -- the line of an item, and those of what follows it
  line-before : (number offset : ℕ) (s left line more : List ℕ) (is_shown all : Bool) → AreItem s →
      IsItemLine place showing limit number offset s is_shown line →
      AreItemsShown place showing limit (number + 1) (offset + length s) left all more →
      AreItemsShown place showing limit number offset (s ++ left) (is_shown && all) (line ++ more)
  line-before number offset s left line more true all i (v, u, item, form, is) h =
      subst (λ (l : List ℕ). AreItemsShown place showing limit number offset (s ++ left) all (l ++ more)) (sym is)
      (shown number offset s left v u all more item form h)
  line-before number offset s left line more false all i (reason, tells, is) h =
      subst (λ (l : List ℕ). AreItemsShown place showing limit number offset (s ++ left) false (l ++ more)) (sym is)
      (refused number offset s left reason all more i tells h)

  module _ (b w : List ℕ) (left held kept : Option (List ℕ)) (number offset : ℕ) (whole : Bool)
      (so_far : AreShownSoFar place showing limit b w left held number offset whole) (keeps : IsKept held kept) where
    -- the input ends
    pub all-shown : ((xs : List ℕ) → left ≡ Some xs → xs ≡ []) → IsStreamShown place showing b limit w whole kept
    all-shown ends =
        let (rest, lines, e, f, so) = so_far in (
          lines ++ [],
          subst (λ (all : Bool). AreItemsShown place showing limit 1 0 b all (lines ++ [])) (and-true whole)
              (so true [] (subst (λ (r : List ℕ). AreItemsShown place showing limit number offset r true [])
              (sym (ends rest e)) (ended number offset))),
          keeps _ f ∙ ap (λ (l : List ℕ). Some (w ++ l)) (sym (append-nil lines)),
        )

    -- one more item has its line
    pub one-more-shown : (next now : Option (List ℕ)) (judged : Result Value LineRefusal) (size behind : ℕ)
        (is_shown : Bool) → behind ≡ offset + size → ((xs : List ℕ) → left ≡ Some xs →
        (0 < length xs) × IsTaken (shown_spelling showing) xs limit next (Item judged size)) →
        ((s ys : List ℕ) → IsJudged (shown_spelling showing) s limit judged → kept ≡ Some ys →
        (line : List ℕ) × IsItemLine place showing limit number offset s is_shown line × (now ≡ Some (ys ++ line))) →
        AreShownSoFar place showing limit b w next now (number + 1) behind (whole && is_shown)
    one-more-shown next now judged size behind is_shown moved read written =
        let (rest, lines, e, f, so) = so_far in
        let (some, ((fits, item, is), after)) = read rest e in
        let (line, tells, same) = written (take size rest) (w ++ lines) is (keeps _ f) in
        let at : behind ≡ offset + length (take size rest) =
        moved ∙ ap (λ (n : ℕ). offset + n) (sym (length-take-le size rest fits)) in (
          drop size rest,
          lines ++ line,
          after,
          same ∙ ap Some (append_assoc w lines line),
          λ (all : Bool) (more : List ℕ) h.
              subst (λ (l : List ℕ). AreItemsShown place showing limit 1 0 b ((whole && is_shown) && all) l)
              (sym (append_assoc lines line more))
              (subst (λ (t : Bool). AreItemsShown place showing limit 1 0 b t (lines ++ (line ++ more)))
              (and-assoc whole is_shown all)
              (so (is_shown && all) (line ++ more)
              (subst
              (λ (r : List ℕ). AreItemsShown place showing limit number offset r (is_shown && all) (line ++ more))
              (take-append-drop size rest)
              (line-before number offset (take size rest) (drop size rest) line more is_shown all item tells
              (subst (λ (n : ℕ). AreItemsShown place showing limit (number + 1) n (drop size rest) all more) at h))))),
        )
      where
        and-assoc : (t u v : Bool) → (t && (u && v)) ≡ ((t && u) && v)
        and-assoc true u v = refl
        and-assoc false u v = refl

    -- no item comes next, and the line says so
    pub none-follows : (now : Option (List ℕ)) (e : LineRefusal) →
        ((xs : List ℕ) → left ≡ Some xs → (0 < length xs) × IsTaken (shown_spelling showing) xs limit None (NoNext e)) →
        ((ys : List ℕ) → kept ≡ Some ys → (wants_memory e ≡ false) ×
        (now ≡ Some (ys ++ refused_line place number (refused_text (refusal_behind offset e))))) →
        IsStreamShown place showing b limit w false now
    none-follows now e read written =
        let (rest, lines, is, f, so) = so_far in
        let (some, (refuses, why, none)) = read rest is in
        let (memory, same) = written (w ++ lines) (keeps _ f) in
        let line = refused_line place number (refused_text (refusal_behind offset e)) in (
          lines ++ line,
          subst (λ (all : Bool). AreItemsShown place showing limit 1 0 b all (lines ++ line)) (and-false whole)
              (so false line
              (no_item number offset rest (refused_text (refusal_behind offset e)) why some none
              (inl (e, refuses, memory, refl)))),
          same ∙ ap Some (append_assoc w lines line),
        )
      where
        and-false : (t : Bool) → (t && false) ≡ false
        and-false true = refl
        and-false false = refl

-- what is shown stays so where what waits is sent, or the output is flushed
pub shown-sent : (place : List ℕ) (showing : Showing) (b : List ℕ) (limit : ℕ) (w : List ℕ)
    (held now : Option (List ℕ)) → IsKept held now →
    (all : Bool) → IsStreamShown place showing b limit w all held → IsStreamShown place showing b limit w all now
shown-sent place showing b limit w held now keeps all (lines, shows, e) = (lines, shows, keeps (w ++ lines) e)
