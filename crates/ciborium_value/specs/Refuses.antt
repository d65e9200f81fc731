-- When bytes are refused as a value in a spelling, and with what (RFC 8949, section 5.3 and
-- appendix F; deterministic encoding: section 4.2; the order of faults is this library's).
-- The bytes are all that is left to read. The first is at offset p, and l is the limit of levels
-- there.
use Rattle.std.specs.Prelude.{◌≡◌, ℕ, zero, suc, ◌+◌, ◌^◌, ◌<◌, ◌≤◌, List, [], ◌∷◌, ◌++◌, length, true, Option, Some}
use Rattle.std.specs.Prelude.{None}
use Rattle.ciborium_ll.specs.{Bytes.greatest_offset, Head.{open_byte, break_byte, IsSimple}, Refusal.Refusal}
use Rattle.ciborium_ll.specs.Refusal.{semantic, recursion_limit_exceeded, HeadRefuses, IsUsable, HasHead, IsAtFront}
use Rattle.ciborium_ll.specs.StringRefusal.{StringRefuses, OpenStringRefuses}
use Rattle.ciborium_ll.specs.declared.kind.Kind.TheVariants.{Float, Simple, Break, TooLarge, NotFolded, KeyOrder}
use Rattle.ciborium_value.specs.{Meaning.{simple_meaning, big_endian, is_bignum_tag}, Nesting.{Limit, IsOneLess}}
use Rattle.ciborium_value.specs.{Spelling.{Spelling, IsReadAs, spelling_fault, IsUnwanted, AreInOrder, keys_in}}
use Rattle.ciborium_value.specs.{Tree.{Tree, bytes}}

-- a usable head stands at the front, and the spelling accepts it
abbrev pub HasGoodHead : Spelling → List ℕ → ℕ → Type 0
HasGoodHead spelling b p = IsUsable b p × (spelling_fault spelling b ≡ None)

-- ---- the parts of an array or map

-- what is due in a container; None is as many as come before the break
pub data Due : Type 0 where
  -- so many items
  items : Option ℕ → Due
  -- so many pairs, of the first the key
  keys : Option ℕ → Due
  -- a value, and behind it so many pairs
  values : Option ℕ → Due

-- what is due behind a part that was read, or None where none was due
abbrev pub next_due : Due → Option Due
next_due (items None) = Some (items None)
next_due (items (Some zero)) = None
next_due (items (Some (suc n))) = Some (items (Some n))
next_due (keys None) = Some (values None)
next_due (keys (Some zero)) = None
next_due (keys (Some (suc n))) = Some (values (Some n))
next_due (values n) = Some (keys n)

-- a part must stand at offset p, where r is left: the container is not complete, and no break stands
-- here (which counts below the greatest offset alone: at it the part is refused as `too_long`)
abbrev pub IsDue : Due → List ℕ → ℕ → Type 0
IsDue (items None) r p = p < greatest_offset → ¬ IsAtFront break_byte r
IsDue (items (Some n)) r p = 0 < n
IsDue (keys None) r p = p < greatest_offset → ¬ IsAtFront break_byte r
IsDue (keys (Some n)) r p = 0 < n
IsDue (values n) r p = Unit {0}

-- b begins with the head of an array or map, of `size` bytes, behind which r is left and this is due
pub data BeginsContainer (b : List ℕ) (size : ℕ) (r : List ℕ) : Due → Type 0 where
  array : (n : _) → HasHead b 4 n size r → BeginsContainer b size r (items (Some n))
  open_array : size ≡ 1 → b ≡ open_byte 4 ∷ r → BeginsContainer b size r (items None)
  map : (n : _) → HasHead b 5 n size r → BeginsContainer b size r (keys (Some n))
  open_map : size ≡ 1 → b ≡ open_byte 5 ∷ r → BeginsContainer b size r (keys None)

-- the keys among the parts of a container in which this is due (for the deterministic spelling)
abbrev pub keys_among : Due → List Tree → List Tree
keys_among (items n) vs = []
keys_among _ vs = keys_in vs

-- `IsInside spelling b p l vs r q due below`: in the array or map that begins at b, offset p, under
-- l, the parts so far are read as vs; r is left, at offset q; `due` comes next; `below` is the limit
-- of a part. In `a101ff` at offset 0 `begun` leaves `01ff` at 1, keys (Some 1) due, and `more` `ff`
-- at 2, values (Some 0) due; a break is no item, so `more` passes none
pub data IsInside (spelling : Spelling) (b : List ℕ) (p : ℕ) (l : Limit) :
    (vs : List Tree) (r : List ℕ) (q : ℕ) (due : Due) (below : Limit) → Type 0 where
  -- behind the head, which ends within the greatest offset as every usable head does
  begun : {size r due below : _} → HasGoodHead spelling b p → BeginsContainer b size r due →
      IsOneLess l below → p + size ≤ greatest_offset → IsInside spelling b p l [] r (p + size) due below
  -- behind one part more, whose bytes are s
  more : {vs r s t q v due next below : _} →
      IsInside spelling b p l vs r q due below → IsReadAs spelling s q below v → r ≡ s ++ t →
      next_due due ≡ Some next → AreInOrder spelling (keys_among due (vs ++ (v ∷ []))) →
      IsInside spelling b p l (vs ++ (v ∷ [])) t (q + length s) next below

-- ---- tags

-- tag t begins at b, offset p, and what it encloses at r, offset q, with a usable head
pub record IsTagAt (spelling : Spelling) (b : List ℕ) (p t : ℕ) (r : List ℕ) (q : ℕ) : Type 0 where
  pub size : ℕ
  pub head : HasGoodHead spelling b p
  pub tag : HasHead b 6 t size r
  pub usable : IsUsable r q
  pub at : q ≡ p + size

-- a tag folds over what begins here: the head of a definite byte string of at most 16 bytes
abbrev pub IsFoldingAt : ℕ → List ℕ → Type 0
IsFoldingAt t r = (is_bignum_tag t ≡ true) × (n : ℕ) × (size : ℕ) × (s : List ℕ) × HasHead r 2 n size s × (n ≤ 16)

-- ---- refusals

-- the bytes b, whose first is at offset p, refuse with e under the limit l (section 5.3 and
-- appendix F)
pub data Refuses (spelling : Spelling) : List ℕ → ℕ → Limit → Refusal → Type 0 where
  -- no usable head stands here (section 3)
  no_head : {b p l e : _} → HeadRefuses b p e → Refuses spelling b p l e
  -- a string, definite or open (sections 3.1 and 3.2.3)
  string : {b p l e : _} (type : _) →
      HasGoodHead spelling b p → StringRefuses type b p e → Refuses spelling b p l e
  open_string : {b p l e : _} (type : _) →
      HasGoodHead spelling b p → OpenStringRefuses type b p e → Refuses spelling b p l e
  -- what has no meaning by itself, in every spelling: a float, an unassigned simple value (section
  -- 3.3), a break
  float : {x b p l : _} → IsUsable (x ∷ b) p → 0xf9 ≤ x → x ≤ 0xfb → Refuses spelling (x ∷ b) p l (semantic p Float)
  simple : {b p l : _} (s n r : _) →
      IsUsable b p → IsSimple s n → simple_meaning n ≡ None → b ≡ s ++ r → Refuses spelling b p l (semantic p Simple)
  break : {b p l : _} → IsUsable (break_byte ∷ b) p → Refuses spelling (break_byte ∷ b) p l (semantic p Break)
  -- an array or map: no level is left (section 10, ciborium's rule), or inside it, where a part is
  -- due, the part refuses
  no_level : {b p : _} (size r due : _) → HasGoodHead spelling b p →
      BeginsContainer b size r due → Refuses spelling b p (Some 0) recursion_limit_exceeded
  part : {b p l e : _} (vs r q due below : _) → IsInside spelling b p l vs r q due below →
      IsDue due r q → Refuses spelling r q below e → Refuses spelling b p l e
  -- a tag: the next head refuses, before anything else is judged
  tag_no_head : {b p l e : _} (t size r : _) →
      HasGoodHead spelling b p → HasHead b 6 t size r → HeadRefuses r (p + size) e → Refuses spelling b p l e
  -- a tag that folds (section 3.4.3): its string refuses, or, of tag 3 over the definite string s, the
  -- number is below the least `i128` (ciborium's rule)
  folding : {b p l e : _} (t r q : _) →
      IsTagAt spelling b p t r q → IsFoldingAt t r → Refuses spelling r q l e → Refuses spelling b p l e
  too_large : {b p l : _} (r s rest payload q : _) →
      IsTagAt spelling b p 3 r q → IsFoldingAt 3 r → IsReadAs spelling s q l (bytes payload) →
      r ≡ s ++ rest → 2 ^ 127 ≤ big_endian payload → Refuses spelling b p l (semantic p TooLarge)
  -- a tag that does not fold: no level is left, or with a level its item refuses
  no_tag_level : {b p : _} (t r q : _) →
      IsTagAt spelling b p t r q → ¬ IsFoldingAt t r → Refuses spelling b p (Some 0) recursion_limit_exceeded
  tagged : {b p l e : _} (t r q below : _) → IsTagAt spelling b p t r q →
      ¬ IsFoldingAt t r → IsOneLess l below → Refuses spelling r q below e → Refuses spelling b p l e
  -- ---- the deterministic spelling alone: by `any` none of these holds

  -- a head that is open or longer than need be (section 4.2.1)
  bad_head : {b p l : _} (kind : _) → IsUsable b p →
      spelling_fault spelling b ≡ Some kind → Refuses spelling b p l (semantic p kind)
  -- a key out of order (sections 4.2.1 and 4.2.3)
  key_order : {b p l : _} (vs r s t key q due below : _) → IsInside spelling b p l vs r q due below →
      IsDue due r q → IsReadAs spelling s q below key → r ≡ s ++ t →
      ¬ AreInOrder spelling (keys_among due (vs ++ (key ∷ []))) → Refuses spelling b p l (semantic q KeyOrder)
  -- a folding tag's bytes that could be written shorter (section 3.4.3)
  not_folded : {b p l : _} (t r s rest payload q : _) →
      IsTagAt spelling b p t r q → IsFoldingAt t r → IsReadAs spelling s q l (bytes payload) →
      r ≡ s ++ rest → IsUnwanted spelling payload → Refuses spelling b p l (semantic p NotFolded)
