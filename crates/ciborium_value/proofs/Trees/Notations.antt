-- What was written of a notation so far.
use Rattle.std.proofs.Common.{◌≡◌, ℕ, ◌+◌, ◌/◌, ◌%◌, ◌<◌, true, false, Option, List, [], ◌∷◌, ◌++◌, length, take, drop}
use Rattle.std.proofs.Common.{get_or, slice_index, codes, decimal, refl, sym, ap, subst, ◌∙◌, arith, append-nil}
use Rattle.std.proofs.Common.{append_assoc, add-one, suc, take-append-drop, drop-cons}
use Rattle.std.proofs.{Output.{has_written_styled_append, has_written_styled_of_eq}, lemmas.Bool.Decides.nat_tests}
use Rattle.std.{proofs.lemmas.{Grind.flat_map-append, List.Elements.{All-head, All-tail}}, specs.Fmt.HasWrittenStyled}
use Rattle.std.specs.{Fmt.{IsFlush, WritesInCalls, InlineText.{AppendsIfIntact, IsIntact, inline_text}}, List.FoldsTo}
use Rattle.std.specs.{List.{concat, flat_map}, declared.fmt.{Formatter.Formatter, InlineText.InlineText}}
use Rattle.hex.specs.Hex.{encode_lower, encode_with, lower_digits}
use Rattle.ciborium_value.proofs.Trees.{Elements.{At, here, behind, one_more}, Views.trees_count-trees_of}
use Rattle.ciborium_value.{proofs.Trees.Views.tree_pairs_count-tree_pairs_of, specs.Notation.{IsPlain, comma}}
use Rattle.ciborium_value.specs.Notation.{one_level_more, escape, escaped, last_break, line_break, needs_escape}
use Rattle.ciborium_value.specs.{Notation.{notation_on, notations_on, pair_notations_on}, Tree.{Tree, array, map, tag}}
use Rattle.ciborium_value.specs.{ValueLists.{trees_of, tree_pairs_of}, View.tree_of, declared.tree.Value.Value}

-- ---- one write behind another

module _ {W : Type 0} {took : W → List ℕ → W → Type 0} where
  -- the second write starts where the first left the formatter
  pub then : {f g h : Formatter W} {a b : List ℕ} → HasWrittenStyled took f a g →
      (IsFlush g → HasWrittenStyled took g b h) → HasWrittenStyled took f (a ++ b) h
  then p q = has_written_styled_append _ _ _ _ _ _ p (q p.flush)

  -- the same bytes in another form
  pub as_bytes : {f g : Formatter W} {a b : List ℕ} → a ≡ b → HasWrittenStyled took f a g → HasWrittenStyled took f b g
  as_bytes e p = has_written_styled_of_eq _ _ _ _ _ e p

-- ---- numbers

module _ {n : ℕ} where
  held : (parts : List (List ℕ)) (s t : InlineText n) → FoldsTo AppendsIfIntact s parts t → IsIntact s →
      inline_text t ≡ inline_text s ++ concat parts
  held [] s t e intact = subst (λ u. inline_text u ≡ inline_text s ++ []) e (sym (append-nil (inline_text s)))
  held (x ∷ xs) s t (j, taken, rest) intact = held xs j t rest (taken intact).0 ∙
      (ap (λ l. l ++ concat xs) (taken intact).1 ∙ append_assoc (inline_text s) x (concat xs))

  -- a text that began empty holds what was written to it
  pub digits_held : (s t : InlineText n) (bs : List ℕ) → WritesInCalls AppendsIfIntact s bs t → IsIntact s →
      inline_text s ≡ [] → inline_text t ≡ bs
  digits_held s t bs w intact empty = held w.parts s t w.calls intact ∙ (ap (λ l. l ++ concat w.parts) empty ∙ w.whole)

-- ---- byte strings

encode_with-append : (t xs ys : List ℕ) → encode_with t (xs ++ ys) ≡ encode_with t xs ++ encode_with t ys
unfolding encode_with
encode_with-append t [] ys = refl
encode_with-append t (x ∷ xs) ys = ap (λ l. slice_index t (x / 16) ∷ slice_index t (x % 16) ∷ l)
    (encode_with-append t xs ys)

pub encode_lower-append : (xs ys : List ℕ) → encode_lower (xs ++ ys) ≡ encode_lower xs ++ encode_lower ys
encode_lower-append = encode_with-append lower_digits

pub encode_lower-nil : [] ≡ encode_lower []
unfolding encode_with
encode_lower-nil = refl

-- nothing is left
pub all_shown : (all shown rest : List ℕ) → all ≡ shown ++ rest → length rest ≡ 0 → all ≡ shown
all_shown all shown [] e none = e ∙ append-nil shown
all_shown all shown (x ∷ rest) e none = absurd (omega (arith, none))

-- ---- texts

pub escaped-append : (xs ys : List ℕ) → flat_map escaped (xs ++ ys) ≡ flat_map escaped xs ++ flat_map escaped ys
escaped-append = flat_map-append escaped

-- bytes that need no escape stand as they are
pub escaped-plain : (xs : List ℕ) → IsPlain xs → flat_map escaped xs ≡ xs
escaped-plain [] h = refl
escaped-plain (x ∷ xs) h = rw (All-head (λ b. needs_escape b ≡ false) x xs h)
    (ap (λ l. x ∷ l) (escaped-plain xs (All-tail (λ b. needs_escape b ≡ false) x xs h)))

-- a byte that is escaped is ASCII
pub escaped_is_ascii : (b : ℕ) → needs_escape b ≡ true → b < 128
escaped_is_ascii b h = grind (arith, nat_tests, h)

-- a text round a byte
pub around_byte : (i : ℕ) (t : List ℕ) → i < length t → t ≡ (take i t ++ (get_or t i 0 ∷ [])) ++ drop (i + 1) t
around_byte i t h = sym (take-append-drop i t) ∙ ap (λ l. take i t ++ l) (drop-cons t i 0 h) ∙
    sym (append_assoc (take i t) (get_or t i 0 ∷ []) (drop (suc i) t)) ∙
    ap (λ n. (take i t ++ (get_or t i 0 ∷ [])) ++ drop n t) (sym (add-one i))

-- a run that stands as it is, and the escape behind it
pub escaped-more : (shown run : List ℕ) (b : ℕ) → IsPlain run → needs_escape b ≡ true →
    (flat_map escaped shown ++ run) ++ escape b ≡ flat_map escaped (shown ++ (run ++ (b ∷ [])))
escaped-more shown run b plain found =
    let one : flat_map escaped (b ∷ []) ≡ escape b = append-nil (escaped b) ∙ rw found refl in
    let behind : flat_map escaped (run ++ (b ∷ [])) ≡ run ++ escape b = escaped-append run (b ∷ []) ∙
    ap (λ l. l ++ flat_map escaped (b ∷ [])) (escaped-plain run plain) ∙ ap (λ l. run ++ l) one in
    append_assoc (flat_map escaped shown) run (escape b) ∙
    sym (escaped-append shown (run ++ (b ∷ [])) ∙ ap (λ l. flat_map escaped shown ++ l) behind)

-- the last run
pub escaped-last : (all shown rest : List ℕ) → all ≡ shown ++ rest → IsPlain rest →
    flat_map escaped shown ++ rest ≡ flat_map escaped all
escaped-last all shown rest e plain = sym (ap (flat_map escaped) e ∙ escaped-append shown rest ∙
    ap (λ l. flat_map escaped shown ++ l) (escaped-plain rest plain))

-- ---- lists of values

-- what stands before the part behind these
abbrev pub lead_behind : {A : Type 0} → Option ℕ → List ℕ → List A → List ℕ
lead_behind lines lead [] = lead
lead_behind lines lead (x ∷ xs) = comma lines

lead_behind-comma : {A : Type 0} (lines : Option ℕ) (xs : List A) → lead_behind lines (comma lines) xs ≡ comma lines
lead_behind-comma lines [] = refl
lead_behind-comma lines (x ∷ xs) = refl

pub lead_behind-more : {A : Type 0} (lines : Option ℕ) (lead : List ℕ) {i : ℕ} {xs : List A} {x : A} → At i xs x →
    lead_behind lines lead (take (suc i) xs) ≡ comma lines
lead_behind-more lines lead here = refl
lead_behind-more lines lead (behind a) = refl

notations_on-append : (lines : Option ℕ) (lead : List ℕ) (vs : List Value) (v : Value) →
    notations_on lines lead (trees_of (vs ++ (v ∷ [])))
    ≡ notations_on lines lead (trees_of vs) ++ (lead_behind lines lead vs ++
    (line_break lines ++ notation_on lines (tree_of v)))
notations_on-append lines lead [] v = ap (λ l. lead ++ (line_break lines ++ l)) (append-nil _)
notations_on-append lines lead (x ∷ xs) v =
    rw (notations_on-append lines (comma lines) xs v, lead_behind-comma lines xs) (simp append_assoc)

-- one more item
pub notations_on-more : (lines : Option ℕ) {i : ℕ} {vs : List Value} {v : Value} → At i vs v →
    notations_on lines [] (trees_of (take i vs)) ++ (lead_behind lines [] (take i vs) ++
    (line_break lines ++ notation_on lines (tree_of v))) ≡ notations_on lines [] (trees_of (take (suc i) vs))
notations_on-more lines {i} {vs} {v} a = rw (one_more a) (sym (notations_on-append lines [] (take i vs) v))

pair_notations_on-append : (lines : Option ℕ) (lead : List ℕ) (ps : List (Value × Value)) (p : Value × Value) →
    pair_notations_on lines lead (tree_pairs_of (ps ++ (p ∷ []))) ≡ pair_notations_on lines lead (tree_pairs_of ps) ++
    (lead_behind lines lead ps ++ (line_break lines ++
    (notation_on lines (tree_of p.0) ++ (codes ": " ++ notation_on lines (tree_of p.1)))))
pair_notations_on-append lines lead [] p = ap (λ l. lead ++
    (line_break lines ++ (notation_on lines (tree_of p.0) ++ (codes ": " ++ l)))) (append-nil _)
pair_notations_on-append lines lead (x ∷ xs) p =
    rw (pair_notations_on-append lines (comma lines) xs p, lead_behind-comma lines xs) (simp append_assoc)

-- one more pair
pub pair_notations_on-more : (lines : Option ℕ) {i : ℕ} {ps : List (Value × Value)} {p : Value × Value} → At i ps p →
    pair_notations_on lines [] (tree_pairs_of (take i ps)) ++ (lead_behind lines [] (take i ps) ++ (line_break lines ++
    (notation_on lines (tree_of p.0) ++ (codes ": " ++ notation_on lines (tree_of p.1)))))
    ≡ pair_notations_on lines [] (tree_pairs_of (take (suc i) ps))
pair_notations_on-more lines {i} {ps} {p} a = rw (one_more a) (sym (pair_notations_on-append lines [] (take i ps) p))

-- ---- trees

pub notation_on-tag : (lines : Option ℕ) (n : ℕ) (v : Tree) →
    ((decimal n ++ codes "(") ++ notation_on lines v) ++ codes ")" ≡ notation_on lines (tag n v)
notation_on-tag lines n v = append_assoc (decimal n ++ codes "(") (notation_on lines v) (codes ")") ∙
    append_assoc (decimal n) (codes "(") (notation_on lines v ++ codes ")")

pub notation_on-array : (lines : Option ℕ) {inner : Option ℕ} (vs : List Value) {count : ℕ} →
    inner ≡ one_level_more lines → count ≡ length vs
    → (codes "[" ++ notations_on inner [] (trees_of vs)) ++ (last_break lines count ++ codes "]")
    ≡ notation_on lines (array (trees_of vs))
notation_on-array lines vs e long = rw (e, long, sym (trees_count-trees_of vs)) (append_assoc (codes "[")
    (notations_on (one_level_more lines) [] (trees_of vs)) _)

pub notation_on-map : (lines : Option ℕ) {inner : Option ℕ} (ps : List (Value × Value)) {count : ℕ} →
    inner ≡ one_level_more lines → count ≡ length ps
    → (codes "{" ++ pair_notations_on inner [] (tree_pairs_of ps)) ++ (last_break lines count ++ codes "}")
    ≡ notation_on lines (map (tree_pairs_of ps))
notation_on-map lines ps e long = rw (e, long, sym (tree_pairs_count-tree_pairs_of ps)) (append_assoc (codes "{")
    (pair_notations_on (one_level_more lines) [] (tree_pairs_of ps)) _)
