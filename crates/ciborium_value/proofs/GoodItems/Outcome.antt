-- The law of refusals: the reader answers all that is read and each refusal, and what it answers is one of them.
use Rattle.std.proofs.Common.{◌≡◌, ℕ, ◌+◌, ◌*◌, List, length, Some, is_some, refl, sym, ap, ◌∙◌, arith, inl, inr, ◌⊎◌}
use Rattle.ciborium_ll.{proofs.{CutHeads.each-byte, UniqueSpelling.one_at_front}, specs.Bytes.AreBytes}
use Rattle.ciborium_ll.specs.Refusal.{Refusal}
use Rattle.ciborium_value.proofs.GoodItems.{Accepted.anyway, Answered.{Meets, read-meets}, Found.read-good}
use Rattle.ciborium_value.proofs.GoodItems.{GoodBytes.item_bytes, Reader.{Answer, ends, refused, read}}
use Rattle.ciborium_value.{proofs.GoodItems.Refused.refusal-read, specs.{Meaning.meaning, Nesting.Limit}}
use Rattle.ciborium_value.specs.{Refuses.Refuses, Spelling.{Spelling, IsReadAs}, Tree.Tree}
use Rattle.ciborium_value.specs.laws.RefusalLaws.{HasGoodItem, GoodOrRefused, NeverBoth, OneRefusal, OneReading}

-- turns that are enough for the bytes
abbrev pub enough : List ℕ → ℕ
enough b = 2 * length b + 1

good-answer : (spelling : Spelling) (b : List ℕ) (p : ℕ) (l : Limit) → HasGoodItem spelling b p l → (v : Tree) ×
    (r : List ℕ) × (q : ℕ) × (read spelling (enough b) b p l ≡ ends v r q)
good-answer spelling b p l (s, v, r, h, e) =
    (v, r, p + length s, read-good spelling (enough b) v s r b p (p + length s) l h e refl (omega arith))

refusal-answer : (spelling : Spelling) (b : List ℕ) (p : ℕ) (l : Limit) (e : Refusal) → AreBytes b →
    Refuses spelling b p l e → read spelling (enough b) b p l ≡ refused e
refusal-answer spelling b p l e h f = refusal-read spelling (enough b) f (each-byte b h) (omega arith)

one_of : (spelling : Spelling) (b : List ℕ) (p : ℕ) (l : Limit) (a : Answer Tree) → Meets spelling b p l a →
    HasGoodItem spelling b p l ⊎ ((e : Refusal) × Refuses spelling b p l e)
one_of spelling b p l (ends v r q) m = inl (m.taken, v, r, m.read, m.split)
one_of spelling b p l (refused e) m = inr (e, m)

apart : (v : Tree) (r : List ℕ) (q : ℕ) (e : Refusal) → ends v r q ≡ refused e → ⊥
apart v r q e h = cc

same : (e f : Refusal) → ◌≡◌ {A = Answer Tree} (refused e) (refused f) → e ≡ f
same e f h = cc

pub good_or_refused : GoodOrRefused
good_or_refused spelling b p l h = one_of spelling b p l (read spelling (enough b) b p l)
    (read-meets spelling (enough b) b p l (each-byte b h) (omega arith))

pub never_both : NeverBoth
never_both spelling b p l e h g f = let a = good-answer spelling b p l g in
    apart a.0 a.1 a.2 e (sym a.3 ∙ refusal-answer spelling b p l e h f)

pub one_refusal : OneRefusal
one_refusal spelling b p l e f h g k = same e f
    (sym (refusal-answer spelling b p l e h g) ∙ refusal-answer spelling b p l f h k)

pub one_reading : OneReading
one_reading spelling s t q r p l v w h k e =
    let a = anyway spelling s p l v h in
    let b = anyway spelling t p l w k in
    let one = one_at_front s t q r a.0 b.0 a.1 b.1 e in
    let both : Some v ≡ Some w = sym a.2 ∙ ap meaning one.2 ∙ b.2 in
    ((let f : v ≡ w = cc in f), one.0, one.1)

-- what is read is a list of bytes
pub read_bytes : (spelling s p l v : _) → IsReadAs spelling s p l v → AreBytes s
read_bytes spelling s p l v h = let a = anyway spelling s p l v h in item_bytes a.0 s a.1 (ap is_some a.2)
