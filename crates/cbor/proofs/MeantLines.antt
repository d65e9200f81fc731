-- One more line is read, and what it means is kept.
use Rattle.std.proofs.Common.{◌≡◌, ℕ, ◌+◌, List, [], ◌∷◌, ◌++◌, length, map, flat_map, Bool, true, false, Option, Some}
use Rattle.std.proofs.Common.{Result, Ok, Err, is_err, is_ok, refl, ap, subst, sym, ◌∙◌, arith}
use Rattle.std.{proofs.lemmas.List.{length_push, map_push}, specs.{Bool.if◌then◌else◌, Io.BufRead.drop_through}}
use Rattle.std.specs.Io.KnownBytes.{Keeps}
use Rattle.ciborium_value.specs.{Tree.Tree, View.tree_of, declared.{key_order.KeyOrder.KeyOrder, tree.Value.Value}}
use Rattle.cbor.{proofs.AnsweredLines.{LineIsRead, line-ahead, none-ahead, still}, specs.Answer.{IsMeant, IsRefused}}
use Rattle.cbor.specs.{Answer.refused_text, Lines.{AreMeant, text_line}, SortedLines.AreSortedOrRefused}
use Rattle.cbor.specs.SortedLines.{IsFirstRefused, hex_line, refused_line_text}
use Rattle.cbor.specs.declared.{answer.LineRefusal.LineRefusal, reading.Spelling.TheVariants.Any}
use Rattle.cbor.specs.Lines as lines

-- the rest of b is left, the lines before it mean these trees, and the next line has this number
abbrev pub AreRead : List ℕ → ℕ → Option (List ℕ) → List Tree → ℕ → Type 0
AreRead b limit left trees n = (rest : List ℕ) × (left ≡ Some rest) × AreMeant Any b limit rest trees ×
    (n ≡ length trees + 1)

-- no line is read yet
pub none-read : (b : List ℕ) (limit : ℕ) (left : Option (List ℕ)) (values : List Value) → left ≡ Some b → values ≡ [] →
    AreRead b limit left (map tree_of values) 1
none-read b limit left values e f =
    subst (λ (vs : List Value). AreRead b limit left (map tree_of vs) 1) (sym f) (b, e, lines.none, refl)

-- a push that did not fail
pub pushed : {X E : Type 0} (r : Result (Unit {0}) E) (new old : List X) (x : X) →
    new ≡ (if is_ok r then old ++ (x ∷ []) else old) → is_err r ≡ false → new ≡ old ++ (x ∷ [])
pushed (Ok u) new old x e ok = e
pushed (Err y) new old x e ok = absurd cc

-- one more line is an item, and its value is pushed
pub one-more-read : (b : List ℕ) (limit : ℕ) (left next : Option (List ℕ)) (values kept : List Value) (value : Value)
    (line shown : List ℕ) (more : Bool) (n : ℕ) → AreRead b limit left (map tree_of values) n →
    LineIsRead left next line more → more ≡ true → shown ≡ line → IsMeant Any shown limit (tree_of value) →
    kept ≡ values ++ (value ∷ []) → AreRead b limit next (map tree_of kept) (n + 1)
one-more-read b limit left next values kept value line shown more n (rest, e, a, count) read m same means push =
    let h = line-ahead left next line more rest read m e in
    let item = lines.next rest (map tree_of values) (tree_of value) a h.0
    (subst (λ (l : List ℕ). IsMeant Any l limit (tree_of value)) (same ∙ h.1) means) in
    let trees : map tree_of kept ≡ map tree_of values ++ (tree_of value ∷ []) = ap (map tree_of) push ∙
    map_push tree_of values value in
    let size : length (map tree_of kept) ≡ length (map tree_of values) + 1 = ap length trees ∙
    length_push (map tree_of values) (tree_of value) in (
      drop_through 10 rest,
      h.2,
      subst (λ (ts : List Tree). AreMeant Any b limit (drop_through 10 rest) ts) (sym trees)
          item,
      omega (arith, size, count),
    )

-- the next line is no item
pub first-refused : (b : List ℕ) (limit : ℕ) (left next : Option (List ℕ)) (trees : List Tree) (line shown : List ℕ)
    (more : Bool) (n : ℕ) (e : LineRefusal) → AreRead b limit left trees n → LineIsRead left next line more →
    more ≡ true → shown ≡ line → IsRefused Any shown limit e → IsFirstRefused b limit n e
first-refused b limit left next trees line shown more n e (rest, is, a, count) read m same h =
    let ahead = line-ahead left next line more rest read m is in
    (trees, rest, a, ahead.0, subst (λ (l : List ℕ). IsRefused Any l limit e) (same ∙ ahead.1) h, count)

-- no line is left
pub all-read : (b : List ℕ) (limit : ℕ) (left next : Option (List ℕ)) (trees : List Tree) (line : List ℕ) (more : Bool)
    (n : ℕ) → AreRead b limit left trees n →
    LineIsRead left next line more → more ≡ false → AreMeant Any b limit [] trees
all-read b limit left next trees line more n (rest, e, a, count) read m =
    subst (λ (r : List ℕ). AreMeant Any b limit r trees) (none-ahead left next line more rest read m e) a

-- what a flush keeps
pub sorted-still : (order : KeyOrder) (b : List ℕ) (limit : ℕ) (w : List ℕ) (all : Bool) (held now : Option (List ℕ)) →
    Keeps held now → AreSortedOrRefused order b limit w all held → AreSortedOrRefused order b limit w all now
sorted-still order b limit w true held now k (came, sorted, meant, moved, up, e) =
    (came, sorted, meant, moved, up, still held now (w ++ flat_map hex_line sorted) k e)
sorted-still order b limit w false held now k (n, r, first, e) =
    (n, r, first, still held now (w ++ text_line (refused_line_text n (refused_text r))) k e)
