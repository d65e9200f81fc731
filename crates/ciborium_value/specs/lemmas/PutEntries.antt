-- Entries that are put in by their keys, in turn: where no two keys are equal, their order makes no
-- difference.
use Rattle.std.{proofs.Common.{sym, ap, ◌∙◌, append-nil, append_assoc, cond, is_eq, subst}, specs.BTreeMap.insert_entry}
use Rattle.std.specs.{BTreeMap.is_at, Cmp.IsTotalOrder, List.{AllByRecursion, Sorted.IsStrictlySortedBy}, Map.keys_of}
use Rattle.std.specs.{Map.lookup, Option.is_some, Ordering.{match_ordering, ordering_reverse}, Prelude.{◌≡◌, Bool}}
use Rattle.std.specs.Prelude.{true, false, List, [], ◌∷◌, ◌++◌, Option, Some, None, if◌then◌else◌, ◌&&◌, refl}
use Rattle.std.specs.declared.cmp.Ordering.{Ordering, TheVariants.{Less, Equal, Greater}}
use Rattle.ciborium_ll.specs.Item.{Item}
use Rattle.ciborium_value.specs.Given.{Outcome, Given, chosen, gives, outcome, outcome_map, refuse, refuses, take_each}
use Rattle.ciborium_value.specs.{Given.{then_read, then_take}, GivenParts.{has_key, put_all, put_each, take_entry}}
use Rattle.ciborium_value.specs.{Nesting.Limit, WrittenContents.contents, lemmas.GivenOutcomes.mapped_gives}
use Rattle.ciborium_value.specs.lemmas.{GivenOutcomes.{one_given, then_gives}, ReadsBackStructs.nothing-twice}
use Rattle.ciborium_value.specs.lemmas.Reordered.{AreReordered, all-reordered, as_they_are, first_stays, neighbours}
use Rattle.ciborium_value.specs.lemmas.Reordered.{then_again}
use Rattle.ciborium_ll.specs.declared.kind.Kind.TheVariants as kinds

-- ---- keys that rise

module _ {A B : Type 0} (order : A → A → Ordering) where
  -- the key is above those of all entries
  abbrev IsAbove : A → List (A × B) → Type 0
  IsAbove k [] = Unit {0}
  IsAbove k (e ∷ es) = (order k e.0 ≡ Greater) × IsAbove k es

  -- each key of these entries is above those of all the first ones
  abbrev AreAbove : List (A × B) → List (A × B) → Type 0
  AreAbove es [] = Unit {0}
  AreAbove es (p ∷ ps) = IsAbove p.0 es × AreAbove es ps

  -- each key is above those before it
  abbrev AreKeysRising : List (A × B) → Type 0
  AreKeysRising [] = Unit {0}
  AreKeysRising (p ∷ ps) = AreAbove (p ∷ []) ps × AreKeysRising ps

  insert-last : (es : List (A × B)) (k : A) (v : B) → IsAbove k es → insert_entry order es k v ≡ es ++ (k, v) ∷ []
  insert-last [] k v h = refl
  insert-last (e ∷ es) k v h = ap (λ o. match_ordering o ((k, v) ∷ e ∷ es) ((e.0, v) ∷ es)
      (e ∷ insert_entry order es k v)) h.0 ∙ ap (λ xs. e ∷ xs) (insert-last es k v h.1)

  above-both : (k : A) (es : List (A × B)) (p : A × B) → IsAbove k es → IsAbove k (p ∷ []) → IsAbove k (es ++ p ∷ [])
  above-both k [] p h j = j
  above-both k (e ∷ es) p h j = (h.0, above-both k es p h.1 j)

  all_above-both : (es : List (A × B)) (p : A × B) (ps : List (A × B)) → AreAbove es ps →
      AreAbove (p ∷ []) ps → AreAbove (es ++ p ∷ []) ps
  all_above-both es p [] h j = tt
  all_above-both es p (q ∷ qs) h j = (above-both q.0 es p h.0 j.0, all_above-both es p qs h.1 j.1)

  put-behind : (es ps : List (A × B)) → AreAbove es ps → AreKeysRising ps → put_all order es ps ≡ es ++ ps
  put-behind es [] h r = sym (append-nil es)
  put-behind es (p ∷ ps) h r = ap (λ xs. put_all order xs ps) (insert-last es p.0 p.1 h.0) ∙
      put-behind (es ++ p ∷ []) ps (all_above-both es p ps h.1 r.0) r.1 ∙ append_assoc es (p ∷ []) ps

  above_none : (ps : List (A × B)) → AreAbove [] ps
  above_none [] = tt
  above_none (p ∷ ps) = (tt, above_none ps)

  put-rising : (ps : List (A × B)) → AreKeysRising ps → put_all order [] ps ≡ ps
  put-rising ps r = put-behind [] ps (above_none ps) r

module _ {K V : Type 0} (cmp : K → K → Ordering) (total : IsTotalOrder cmp) where
  entries-above : (e : K × V) (es : List (K × V)) →
      AllByRecursion (λ k. cmp e.0 k ≡ Less) (keys_of es) → AreAbove cmp (e ∷ []) es
  entries-above e [] h = tt
  entries-above e (p ∷ ps) h = ((total.antisymm p.0 e.0 ∙ ap ordering_reverse h.0, tt), entries-above e ps h.1)

  entries-rising : (es : List (K × V)) → IsStrictlySortedBy cmp (keys_of es) → AreKeysRising cmp es
  unfolding IsStrictlySortedBy
  entries-rising [] h = tt
  entries-rising (e ∷ es) h = (entries-above e es h.0, entries-rising es h.1)

  put-sorted : (es : List (K × V)) → IsStrictlySortedBy cmp (keys_of es) → put_all cmp [] es ≡ es
  put-sorted es h = put-rising cmp es (entries-rising es h)

-- ---- keys that are apart

pub not-at : (o : Ordering) → (o ≡ Equal → ⊥) → is_eq o ≡ false
not-at Equal h = absurd (h refl)
not-at u h = refl

none-first : {B : Type 0} (t : Bool) (b : B) (x : Option B) → t ≡ false → is_some x ≡ false →
    is_some (cond t (Some b) x) ≡ false
none-first true b x e h = cc
none-first false b x e h = h

none-behind : {B : Type 0} (t : Bool) (b : B) (x : Option B) →
    is_some (cond t (Some b) x) ≡ false → (t ≡ false) × (is_some x ≡ false)
none-behind true b x h = cc
none-behind false b x h = (refl, h)

module _ {A B : Type 0} (order : A → A → Ordering) where
  -- each key is none of those before it
  abbrev pub AreNew : List (A × B) → List (A × B) → Type 0
  AreNew es [] = Unit {0}
  AreNew es (q ∷ qs) = (has_key order es q.0 ≡ false) × AreNew (insert_entry order es q.0 q.1) qs

  -- then it makes no difference whether equal keys are refused
  pub put-new : (once : Bool) (key : Given A) (value : Given B) (l : Limit) (es : List (A × B))
      (ps : List (Item × Item)) (qs : List (A × B)) → AreNew es qs →
      outcome l (take_each (take_entry key value) ps) ≡ gives qs →
      outcome l (put_each once order key value es ps) ≡ gives (put_all order es qs)
  put-new once key value l es [] qs new e = ap gives (ap (put_all order es) (one_given [] qs e))
  put-new once key value l es (p ∷ ps) qs new e =
      let others = outcome l (take_each (take_entry key value) ps) in
      let (w, first, rest) = then_gives (outcome l (take_entry key value p))
      (λ v. outcome_map (λ vs. v ∷ vs) others) qs e in
      let (vs, these, same) = mapped_gives (λ vs. w ∷ vs) others qs rest in
      let (a, is, behind) = then_gives (outcome l (key p.0))
      (λ a. then_take (outcome l (value p.1)) (λ b. gives (a, b))) w first in
      let (b, is', pair) = then_gives (outcome l (value p.1)) (λ b. gives (a, b)) w behind in
      let all : (a, b) ∷ vs ≡ qs = ap (λ w. w ∷ vs) (one_given (a, b) w pair) ∙ same in
      let apart = subst (AreNew es) (sym all) new in
      let next : B → Outcome (List (A × B)) =
      λ b. outcome l (put_each once order key value (insert_entry order es a b) ps) in
      ap (λ o. then_take o (λ a. outcome l (chosen (once && has_key order es a)
      (refuse kinds.DuplicateKey) (then_read (value p.1)
      (λ b. put_each once order key value (insert_entry order es a b) ps))))) is
      ∙ ap (λ t. if t then refuses kinds.DuplicateKey else then_take (outcome l (value p.1)) next)
      (ap (λ t. once && t) apart.0 ∙ nothing-twice once)
      ∙ ap (λ o. then_take o next) is'
      ∙ put-new once key value l (insert_entry order es a b) ps vs apart.1 these
      ∙ ap gives (ap (put_all order es) all)

  -- one that is put in is not this key
  still-new : (k : A) (es : List (A × B)) (e : A × B) → is_eq (order k e.0) ≡ false →
      has_key order es k ≡ false → has_key order (insert_entry order es e.0 e.1) k ≡ false
  still-new k [] e apart h = none-first (is_eq (order k e.0)) e.1 None apart refl
  still-new k (p ∷ es) e apart h =
      let both = none-behind (is_eq (order k p.0)) p.1 (lookup (is_at (order k)) es) h in
      by (order e.0 p.0) both.0 both.1 (still-new k es e apart both.1)
    where
      by : (o : Ordering) → is_eq (order k p.0) ≡ false → has_key order es k ≡ false →
          has_key order (insert_entry order es e.0 e.1) k ≡ false →
          has_key order (match_ordering o ((e.0, e.1) ∷ p ∷ es) ((p.0, e.1) ∷ es)
          (p ∷ insert_entry order es e.0 e.1)) k ≡ false
      by Less one more rest = none-first (is_eq (order k e.0)) e.1 (lookup (is_at (order k)) (p ∷ es)) apart h
      by Equal one more rest = none-first (is_eq (order k p.0)) e.1 (lookup (is_at (order k)) es) one more
      by Greater one more rest = none-first (is_eq (order k p.0)) p.1
          (lookup (is_at (order k)) (insert_entry order es e.0 e.1)) one rest

module _ {K V : Type 0} (cmp : K → K → Ordering) where
  -- neither key is equal to the other
  abbrev pub IsApart : K × V → K × V → Type 0
  IsApart d e = cmp d.0 e.0 ≡ Equal → ⊥

  abbrev pub AreKeysApart : List (K × V) → Type 0
  AreKeysApart [] = Unit {0}
  AreKeysApart (e ∷ es) = AllByRecursion (IsApart e) es × AreKeysApart es

  pub apart-turned : IsTotalOrder cmp → (d e : K × V) → IsApart d e → IsApart e d
  apart-turned total d e h same = h (total.antisymm d.0 e.0 ∙ ap ordering_reverse same)

  above-apart : (e : K × V) (es : List (K × V)) →
      AllByRecursion (λ k. cmp e.0 k ≡ Less) (keys_of es) → AllByRecursion (IsApart e) es
  above-apart e [] h = tt
  above-apart e (p ∷ es) h = (
    (λ same. absurd (let no : Less ≡ Equal = sym h.0 ∙ same in cc)),
    above-apart e es h.1,
  )

  pub sorted-apart : (es : List (K × V)) → IsStrictlySortedBy cmp (keys_of es) → AreKeysApart es
  unfolding IsStrictlySortedBy
  sorted-apart [] h = tt
  sorted-apart (e ∷ es) h = (above-apart e es h.0, sorted-apart es h.1)

  all-still-new : IsTotalOrder cmp → (e : K × V) (xs es : List (K × V)) →
      AllByRecursion (IsApart e) es → AllByRecursion (λ d. has_key cmp xs d.0 ≡ false) es →
      AllByRecursion (λ d. has_key cmp (insert_entry cmp xs e.0 e.1) d.0 ≡ false) es
  all-still-new total e xs [] apart h = tt
  all-still-new total e xs (d ∷ es) apart h = (
    still-new cmp d.0 xs e (not-at (cmp d.0 e.0) (apart-turned total e d apart.0)) h.0,
    all-still-new total e xs es apart.1 h.1,
  )

  apart-new : IsTotalOrder cmp →
      (xs es : List (K × V)) → AllByRecursion (λ d. has_key cmp xs d.0 ≡ false) es → AreKeysApart es → AreNew cmp xs es
  apart-new total xs [] h apart = tt
  apart-new total xs (e ∷ es) h apart = (
    h.0,
    apart-new total (insert_entry cmp xs e.0 e.1) es (all-still-new total e xs es apart.0 h.1)
        apart.1,
  )

  none-there : (es : List (K × V)) → AllByRecursion (λ d. has_key {V = V} cmp [] d.0 ≡ false) es
  none-there [] = tt
  none-there (e ∷ es) = (refl, none-there es)

-- ---- contents, which compare as what they are of

module _ {K V A B : Type 0} (cmp : K → K → Ordering) (order : A → A → Ordering) (key : K → A)
    (value : V → B) (orders : (a b : K) → cmp a b ≡ order (key a) (key b)) where
  matched : (a : Ordering) (e p : K × V) (es : List (K × V)) (cs : List (A × B)) →
      cs ≡ contents key value (insert_entry cmp es e.0 e.1) →
      match_ordering a ((key e.0, value e.1) ∷ contents key value (p ∷ es))
      ((key p.0, value e.1) ∷ contents key value es) ((key p.0, value p.1) ∷ cs) ≡ contents
      key value (match_ordering a ((e.0, e.1) ∷ p ∷ es) ((p.0, e.1) ∷ es) (p ∷ insert_entry cmp es e.0 e.1))
  matched Greater e p es cs h = ap (λ ds. (key p.0, value p.1) ∷ ds) h
  matched u e p es cs h = refl

  pub one-put : (es : List (K × V)) (e : K × V) → insert_entry order (contents key value es)
      (key e.0) (value e.1) ≡ contents key value (insert_entry cmp es e.0 e.1)
  one-put [] e = refl
  one-put (p ∷ es) e =
      let cs = insert_entry order (contents key value es) (key e.0) (value e.1) in
      ap (λ a. match_ordering a ((key e.0, value e.1) ∷ contents key value (p ∷ es))
      ((key p.0, value e.1) ∷ contents key value es) ((key p.0, value p.1) ∷ cs))
      (sym (orders e.0 p.0))
      ∙ matched (cmp e.0 p.0) e p es cs (one-put es e)

  one-there : (t : Bool) (v : V) (x : Option V) (y : Option B) → is_some y ≡ is_some x →
      is_some (cond t (Some (value v)) y) ≡ is_some (cond t (Some v) x)
  one-there true v x y h = refl
  one-there false v x y h = h

  pub one-has : (es : List (K × V)) (k : K) → has_key order (contents key value es) (key k) ≡ has_key cmp es k
  one-has [] k = refl
  one-has (e ∷ es) k =
      ap (λ o. is_some (cond (is_eq o) (Some (value e.1)) (lookup (is_at (order (key k))) (contents key value es))))
      (sym (orders k e.0)) ∙ one-there (is_eq (cmp k e.0)) e.1 (lookup (is_at (cmp k)) es)
      (lookup (is_at (order (key k))) (contents key value es)) (one-has es k)

  contents-new : (xs es : List (K × V)) → AreNew cmp xs es →
      AreNew order (contents key value xs) (contents key value es)
  contents-new xs [] h = tt
  contents-new xs (e ∷ es) h = (
    one-has xs e.0 ∙ h.0,
    subst (λ ys. AreNew order ys (contents key value es)) (sym (one-put xs e))
        (contents-new (insert_entry cmp xs e.0 e.1) es h.1),
  )

  pub contents-apart : IsTotalOrder cmp → (es : List (K × V)) → AreKeysApart cmp es →
      AreNew order [] (contents key value es)
  contents-apart total es apart = contents-new [] es (apart-new cmp total [] es (none-there cmp es) apart)

-- ---- entries whose keys are apart are put in alike, whatever their order

module _ {K : Type 0} {cmp : K → K → Ordering} (total : IsTotalOrder cmp) where
  less_where_greater : (k l : K) → cmp k l ≡ Greater → cmp l k ≡ Less
  less_where_greater k l e = total.antisymm l k ∙ ap ordering_reverse e

  greater_where_less : (k l : K) → cmp k l ≡ Less → cmp l k ≡ Greater
  greater_where_less k l e = total.antisymm l k ∙ ap ordering_reverse e

  equal_where_equal : (k l : K) → cmp k l ≡ Equal → cmp l k ≡ Equal
  equal_where_equal k l e = total.antisymm l k ∙ ap ordering_reverse e

module _ {K V : Type 0} (cmp : K → K → Ordering) (total : IsTotalOrder cmp) where
  abbrev put_entry : List (K × V) → K × V → List (K × V)
  put_entry es e = insert_entry cmp es e.0 e.1

  -- by how the key compares with that of the first entry
  put-Less : (p : K × V) (es : List (K × V)) (e : K × V) → cmp e.0 p.0 ≡ Less →
      put_entry (p ∷ es) e ≡ (e.0, e.1) ∷ p ∷ es
  put-Less p es e h = ap (λ o. match_ordering o ((e.0, e.1) ∷ p ∷ es) ((p.0, e.1) ∷ es) (p ∷ put_entry es e)) h

  put-Equal : (p : K × V) (es : List (K × V)) (e : K × V) → cmp e.0 p.0 ≡ Equal → put_entry (p ∷ es) e ≡ (p.0, e.1) ∷ es
  put-Equal p es e h = ap (λ o. match_ordering o ((e.0, e.1) ∷ p ∷ es) ((p.0, e.1) ∷ es) (p ∷ put_entry es e)) h

  put-Greater : (p : K × V) (es : List (K × V)) (e : K × V) → cmp e.0 p.0 ≡ Greater →
      put_entry (p ∷ es) e ≡ p ∷ put_entry es e
  put-Greater p es e h = ap (λ o. match_ordering o ((e.0, e.1) ∷ p ∷ es) ((p.0, e.1) ∷ es) (p ∷ put_entry es e)) h

  -- before the same entries
  front : (a b : Ordering) (d e : K × V) (es : List (K × V)) →
      a ≡ ordering_reverse b → (a ≡ Equal → ⊥) → match_ordering a ((d.0, d.1) ∷ (e.0, e.1) ∷ es) ((e.0, d.1) ∷ es)
      ((e.0, e.1) ∷ (d.0, d.1) ∷ es) ≡ match_ordering b ((e.0, e.1) ∷ (d.0, d.1) ∷ es)
      ((d.0, e.1) ∷ es) ((d.0, d.1) ∷ (e.0, e.1) ∷ es)
  front Less Greater d e es h apart = refl
  front Greater Less d e es h apart = refl
  front Equal b d e es h apart = absurd (apart refl)
  front u v d e es h apart = absurd cc

  abbrev Commutes : K × V → K × V → List (K × V) → Type 0
  Commutes d e es = put_entry (put_entry es e) d ≡ put_entry (put_entry es d) e

  module _ (d e p : K × V) (es : List (K × V)) where
    less_less : IsApart cmp d e → cmp d.0 p.0 ≡ Less → cmp e.0 p.0 ≡ Less → Commutes d e (p ∷ es)
    less_less apart h j = ap (λ xs. put_entry xs d) (put-Less p es e j) ∙
        ap (match_ordering (cmp d.0 e.0) ((d.0, d.1) ∷ (e.0, e.1) ∷ p ∷ es) ((e.0, d.1) ∷ p ∷ es))
        (ap (λ xs. (e.0, e.1) ∷ xs) (put-Less p es d h)) ∙ front (cmp d.0 e.0)
        (cmp e.0 d.0) d e (p ∷ es) (total.antisymm d.0 e.0) apart ∙ sym (ap (λ xs. put_entry xs e) (put-Less p es d h)
        ∙ ap (match_ordering (cmp e.0 d.0) ((e.0, e.1) ∷ (d.0, d.1) ∷ p ∷ es) ((d.0, e.1) ∷ p ∷ es))
        (ap (λ xs. (d.0, d.1) ∷ xs) (put-Less p es e j)))

    less_equal : cmp d.0 p.0 ≡ Less → cmp e.0 p.0 ≡ Equal → Commutes d e (p ∷ es)
    less_equal h j =
        let above : cmp e.0 d.0 ≡ Greater = total.congr e.0 p.0 d.0 j ∙
        greater_where_less total d.0 p.0 h in
        ap (λ xs. put_entry xs d) (put-Equal p es e j) ∙ put-Less (p.0, e.1) es d h
        ∙ sym (ap (λ xs. put_entry xs e) (put-Less p es d h) ∙
        put-Greater (d.0, d.1) (p ∷ es) e above ∙
        ap (λ xs. (d.0, d.1) ∷ xs) (put-Equal p es e j))

    less_greater : cmp d.0 p.0 ≡ Less → cmp e.0 p.0 ≡ Greater → Commutes d e (p ∷ es)
    less_greater h j =
        let above : cmp e.0 d.0 ≡ Greater = greater_where_less total d.0 e.0
        (total.trans d.0 p.0 e.0 h (less_where_greater total e.0 p.0 j)) in
        ap (λ xs. put_entry xs d) (put-Greater p es e j) ∙ put-Less p (put_entry es e) d h
        ∙ sym (ap (λ xs. put_entry xs e) (put-Less p es d h) ∙
        put-Greater (d.0, d.1) (p ∷ es) e above ∙
        ap (λ xs. (d.0, d.1) ∷ xs) (put-Greater p es e j))

    equal_greater : cmp d.0 p.0 ≡ Equal → cmp e.0 p.0 ≡ Greater → Commutes d e (p ∷ es)
    equal_greater h j = ap (λ xs. put_entry xs d) (put-Greater p es e j) ∙ put-Equal p (put_entry es e) d h ∙
        sym (ap (λ xs. put_entry xs e) (put-Equal p es d h) ∙ put-Greater (p.0, d.1) es e j)

    greater_greater : cmp d.0 p.0 ≡ Greater → cmp e.0 p.0 ≡ Greater → Commutes d e es → Commutes d e (p ∷ es)
    greater_greater h j same =
        ap (λ xs. put_entry xs d) (put-Greater p es e j) ∙ put-Greater p (put_entry es e) d h ∙ ap (λ xs. p ∷ xs) same ∙
        sym (ap (λ xs. put_entry xs e) (put-Greater p es d h) ∙ put-Greater p (put_entry es d) e j)

  commutes : (d e : K × V) (es : List (K × V)) → IsApart cmp d e → Commutes d e es
  commutes d e [] apart = front (cmp d.0 e.0) (cmp e.0 d.0) d e [] (total.antisymm d.0 e.0) apart
  commutes d e (p ∷ es) apart = by (commutes d e es apart) (cmp d.0 p.0) (cmp e.0 p.0) refl refl
    where
      by : Commutes d e es → (a b : Ordering) → cmp d.0 p.0 ≡ a → cmp e.0 p.0 ≡ b → Commutes d e (p ∷ es)
      by same Less Less h j = less_less d e p es apart h j
      by same Less Equal h j = less_equal d e p es h j
      by same Less Greater h j = less_greater d e p es h j
      by same Equal Less h j = sym (less_equal e d p es j h)
      by same Equal Equal h j = absurd (apart (total.congr d.0 p.0 e.0 h ∙ equal_where_equal total e.0 p.0 j))
      by same Equal Greater h j = equal_greater d e p es h j
      by same Greater Less h j = sym (less_greater e d p es j h)
      by same Greater Equal h j = sym (equal_greater e d p es j h)
      by same Greater Greater h j = greater_greater d e p es h j same

  pub apart-reordered : {ds es : List (K × V)} → AreReordered ds es → AreKeysApart cmp ds → AreKeysApart cmp es
  apart-reordered as_they_are h = h
  apart-reordered (first_stays {x} r) h = (all-reordered (IsApart cmp x) r h.0, apart-reordered r h.1)
  apart-reordered (neighbours {x} {y}) h = ((apart-turned cmp total x y h.0.0, h.1.0), (h.0.1, h.1.1))
  apart-reordered (then_again r s) h = apart-reordered s (apart-reordered r h)

  put-reordered : {ds es : List (K × V)} → AreReordered ds es → AreKeysApart cmp ds →
      (xs : List (K × V)) → put_all cmp xs ds ≡ put_all cmp xs es
  put-reordered as_they_are h xs = refl
  put-reordered (first_stays {x} r) h xs = put-reordered r h.1 (put_entry xs x)
  put-reordered (neighbours {x} {y} {xs = zs}) h xs =
      ap (λ ys. put_all cmp ys zs) (commutes y x xs (apart-turned cmp total x y h.0.0))
  put-reordered (then_again r s) h xs = put-reordered r h xs ∙ put-reordered s (apart-reordered r h) xs

  -- what counts of the entries is put in as they are
  module _ {A B : Type 0} (order : A → A → Ordering) (key : K → A) (value : V → B)
      (orders : (a b : K) → cmp a b ≡ order (key a) (key b)) where
    all-put : (xs es : List (K × V)) → put_all order (contents key value xs) (contents key value es)
        ≡ contents key value (put_all cmp xs es)
    all-put xs [] = refl
    all-put xs (e ∷ es) = ap (λ ys. put_all order ys (contents key value es))
        (one-put cmp order key value orders xs e) ∙ all-put (put_entry xs e) es

    -- of a map's entries, in any order
    pub reordered-contents : (es fs : List (K × V)) → AreReordered es fs →
        IsStrictlySortedBy cmp (keys_of es) → put_all order [] (contents key value fs) ≡ contents key value es
    reordered-contents es fs r h = all-put [] fs ∙
        ap (contents key value) (sym (put-reordered r (sorted-apart cmp es h) []) ∙ put-sorted cmp total es h)
