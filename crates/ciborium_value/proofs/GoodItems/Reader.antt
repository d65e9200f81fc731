-- A reader over lists, for proofs alone, that answers the tree it read and what is left, or a refusal.
use Rattle.std.proofs.Common.{ℕ, zero, suc, ◌+◌, ◌-◌, cond, ltb, leb, eqb, Bool, true, false, ◌&&◌, ◌||◌, List, [], ◌∷◌}
use Rattle.std.proofs.Common.{◌++◌, length, take, drop, Option, Some, None, option_map, pos, negsuc}
use Rattle.std.specs.{Str.is_utf8, declared.cmp.Ordering.{Ordering, TheVariants.{Less, Equal, Greater}}}
use Rattle.ciborium_ll.proofs.FrontHeads.{Front, nothing, counted, opened, plain, raw, front}
use Rattle.ciborium_ll.specs.{Bytes.greatest_offset, Refusal.{Refusal, io, syntax, semantic, recursion_limit_exceeded}}
use Rattle.ciborium_ll.specs.Refusal.{head_refusal}
use Rattle.ciborium_ll.specs.declared.kind.Kind.TheVariants.{Float, Simple, Break, TooLarge, NotFolded}
use Rattle.ciborium_value.specs.{Canonical.key_order, Meaning.{simple_meaning, bignum_meaning, is_bignum_tag}}
use Rattle.ciborium_value.specs.{Nesting.Limit, Refuses.{Due, items, keys, values, next_due, keys_among}}
use Rattle.ciborium_value.specs.{Spelling.{Spelling, any, deterministic, spelling_fault}, Tree.{Tree, integer, bytes}}
use Rattle.ciborium_value.specs.{Tree.{text, tag}, declared.key_order.KeyOrder.KeyOrder, inner.ReadItems.container_of}
use Rattle.ciborium_ll.specs.declared.kind.Kind.TheVariants as kinds

pub data Answer (A : Type 0) : Type 0 where
  -- what was read, what is left, and its offset
  ends : A → List ℕ → ℕ → Answer A
  refused : Refusal → Answer A

abbrev pub checked : {A : Type 0} → Option Refusal → Answer A → Answer A
checked (Some e) a = refused e
checked None a = a

abbrev pub and_then : {A B : Type 0} → (A → List ℕ → ℕ → Answer B) → Answer A → Answer B
and_then f (ends v r q) = f v r q
and_then f (refused e) = refused e

abbrev pub made : {A B : Type 0} → (A → B) → Answer A → Answer B
made f (ends v r q) = ends (f v) r q
made f (refused e) = refused e

-- the tree, or a refusal where there is none
abbrev pub given : Refusal → Option Tree → List ℕ → ℕ → Answer Tree
given e (Some v) r q = ends v r q
given e None r q = refused e

-- the offset of r, where b begins at offset p and r is its end
abbrev pub past : ℕ → List ℕ → List ℕ → ℕ
past p b r = p + (length b - length r)

-- ---- strings

abbrev pub allowed : ℕ → List ℕ → Bool
allowed m s = cond (eqb m 3) (is_utf8 s) true

-- a definite string of major m and length n, whose head begins at p and whose payload at q
abbrev pub string : ℕ → ℕ → List ℕ → ℕ → ℕ → Answer (List ℕ)
string m n r p q = cond (ltb (length r) n) (refused io)
    (cond (allowed m (take n r)) (ends (take n r) (drop n r) (q + n)) (refused (syntax p)))

-- one more chunk
abbrev pub chunk : (List ℕ → ℕ → Answer (List ℕ)) → List ℕ → List ℕ → ℕ → Answer (List ℕ)
chunk more y r q = made (λ (z : List ℕ). y ++ z) (more r q)

abbrev pub piece : (List ℕ → ℕ → Answer (List ℕ)) → ℕ → List ℕ → ℕ → Front → Answer (List ℕ)
piece more m b q nothing = refused (syntax q)
piece more m b q (counted k n r) = cond (eqb k m) (and_then (chunk more) (string m n r q (past q b r)))
    (refused (syntax q))
piece more m b q (opened k r) = cond (eqb k 7) (ends [] r (q + 1)) (refused (syntax q))
piece more m b q (plain n r) = refused (syntax q)
piece more m b q (raw w r) = refused (syntax q)

-- the parts of an open string, and the break
abbrev pub pieces : ℕ → ℕ → List ℕ → ℕ → Answer (List ℕ)
pieces zero m b q = refused io
pieces (suc d) m b q = checked (head_refusal b q) (piece (pieces d m) m b q (front b))

-- ---- containers

abbrev pub levels : {A : Type 0} → Limit → (Limit → Answer A) → Answer A
levels None f = f None
levels (Some zero) f = refused recursion_limit_exceeded
levels (Some (suc l)) f = f (Some l)

-- the break that ends an open container, or none
abbrev pub break_at : List ℕ → ℕ → Option (List ℕ × ℕ)
break_at [] p = None
break_at (x ∷ b) p = cond (ltb p greatest_offset && eqb x 255) (Some (b, p + 1)) None

abbrev pub end_at : Due → List ℕ → ℕ → Option (List ℕ × ℕ)
end_at (items (Some zero)) b p = Some (b, p)
end_at (items (Some (suc n))) b p = None
end_at (items None) b p = break_at b p
end_at (keys (Some zero)) b p = Some (b, p)
end_at (keys (Some (suc n))) b p = None
end_at (keys None) b p = break_at b p
end_at (values n) b p = None

abbrev pub or_end : Option (List ℕ × ℕ) → Tree → Answer Tree → Answer Tree
or_end None v a = a
or_end (Some e) v a = ends v e.0 e.1

abbrev pub is_less : Ordering → Bool
is_less Less = true
is_less Equal = false
is_less Greater = false

abbrev pub rising : KeyOrder → List Tree → Bool
rising order [] = true
rising order (k ∷ []) = true
rising order (k ∷ (j ∷ ks)) = is_less (key_order order k j) && rising order (j ∷ ks)

abbrev pub in_order : Spelling → List Tree → Bool
in_order any ks = true
in_order (deterministic order) ks = rising order ks

-- ---- tags

-- a definite byte string of at most 16 bytes
abbrev pub short : Front → Bool
short nothing = false
short (counted m n r) = eqb m 2 && leb n 16
short (opened m r) = false
short (plain n r) = false
short (raw w r) = false

abbrev pub folding : ℕ → Front → Bool
folding t f = is_bignum_tag t && short f

abbrev pub begins_zero : List ℕ → Bool
begins_zero [] = false
begins_zero (x ∷ s) = eqb x 0

abbrev pub is_shortenable : List ℕ → Bool
is_shortenable y = leb (length y) 8 || begins_zero y

abbrev pub is_unwanted : Spelling → List ℕ → Bool
is_unwanted any y = false
is_unwanted (deterministic order) y = is_shortenable y

abbrev pub bytes_in : Tree → List ℕ
bytes_in (bytes y) = y
bytes_in _ = []

-- ---- items

abbrev pub Reader : Type 0
Reader = List ℕ → ℕ → Limit → Answer Tree

module _ (spelling : Spelling) where
  -- tag t at p over a string that was read
  abbrev pub bignum : ℕ → ℕ → Tree → List ℕ → ℕ → Answer Tree
  bignum t p v r q = cond (is_unwanted spelling (bytes_in v)) (refused (semantic p NotFolded))
      (given (semantic p TooLarge) (bignum_meaning t (bytes_in v)) r q)

  -- tag t at p, whose item begins at q
  abbrev pub tagged : Reader → ℕ → List ℕ → ℕ → ℕ → Limit → Answer Tree
  tagged rd t r p q l = checked (head_refusal r q) (cond (folding t (front r)) (and_then (bignum t p) (rd r q l))
      (levels l (λ m. made (tag t) (rd r q m))))

  abbrev pub counted_item : Reader → (Due → Reader) → ℕ → ℕ → List ℕ → ℕ → ℕ → Limit → Answer Tree
  counted_item rd more zero n r p q l = ends (integer (pos n)) r q
  counted_item rd more (suc zero) n r p q l = ends (integer (negsuc n)) r q
  counted_item rd more (suc (suc zero)) n r p q l = made bytes (string 2 n r p q)
  counted_item rd more (suc (suc (suc zero))) n r p q l = made text (string 3 n r p q)
  counted_item rd more (suc (suc (suc (suc zero)))) n r p q l = levels l (more (items (Some n)) r q)
  counted_item rd more (suc (suc (suc (suc (suc zero))))) n r p q l = levels l (more (keys (Some n)) r q)
  counted_item rd more (suc (suc (suc (suc (suc (suc m)))))) n r p q l = tagged rd n r p q l

  abbrev pub opened_item : (Due → Reader) → (ℕ → List ℕ → ℕ → Answer (List ℕ)) → ℕ → List ℕ → ℕ → Limit → Answer Tree
  opened_item more strings zero r p l = refused (semantic p Break)
  opened_item more strings (suc zero) r p l = refused (semantic p Break)
  opened_item more strings (suc (suc zero)) r p l = made bytes (strings 2 r (p + 1))
  opened_item more strings (suc (suc (suc zero))) r p l = made text (strings 3 r (p + 1))
  opened_item more strings (suc (suc (suc (suc zero)))) r p l = levels l (more (items None) r (p + 1))
  opened_item more strings (suc (suc (suc (suc (suc zero))))) r p l = levels l (more (keys None) r (p + 1))
  opened_item more strings (suc (suc (suc (suc (suc (suc m)))))) r p l = refused (semantic p Break)

  abbrev pub item_at : Reader → (Due → Reader) → (ℕ → List ℕ → ℕ → Answer (List ℕ)) → List ℕ → ℕ → Limit → Front →
      Answer Tree
  item_at rd more strings b p l nothing = refused io
  item_at rd more strings b p l (counted m n r) = counted_item rd more m n r p (past p b r) l
  item_at rd more strings b p l (opened m r) = opened_item more strings m r p l
  item_at rd more strings b p l (plain n r) = given (semantic p Simple) (simple_meaning n) r (past p b r)
  item_at rd more strings b p l (raw w r) = refused (semantic p Float)

  -- what follows a part of a container, which stood behind others, where this was due
  abbrev pub next_part : (Option Due → List Tree → Reader) → Due → List Tree → ℕ → Limit → Tree → List ℕ → ℕ →
      Answer Tree
  next_part more now vs p l v r q = cond (in_order spelling (keys_among now (vs ++ (v ∷ []))))
      (more (next_due now) (vs ++ (v ∷ [])) r q l) (refused (semantic p kinds.KeyOrder))

  -- its fuel bounds the nesting and the parts
  abbrev mutual
    pub read : ℕ → List ℕ → ℕ → Limit → Answer Tree
    read zero b p l = refused io
    read (suc d) b p l = checked (head_refusal b p) (checked (option_map (semantic p) (spelling_fault spelling b))
        (item_at (read d) (λ w. parts d (Some w) []) (pieces d) b p l (front b)))

    -- behind the parts vs of a container, where this is due
    pub parts : ℕ → Option Due → List Tree → List ℕ → ℕ → Limit → Answer Tree
    parts (suc d) (Some now) vs b p l = or_end (end_at now b p) (container_of now vs)
        (and_then (next_part (parts d) now vs p l) (read d b p l))
    parts u v vs b p l = refused io
