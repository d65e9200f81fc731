-- What loading promises: all of the bytes are the one deterministic encoding of what they give (RFC
-- 8949, section 4.2), or they are refused, and why. This is this library's own.
use Rattle.std.specs.Prelude.{◌≡◌, ◌≢◌, ℕ, suc, ◌⊎◌, List, take, Some, None, Result, Ok, Err, IfErr, IfOk}
use Rattle.ciborium_value.specs.{Encoding.encoding, Given.{gives, refuses}, Readings.Reading, Refuses.Refuses}
use Rattle.ciborium_value.specs.{Sinks.Named, Spelling.deterministic, Tree.Tree, declared.key_order.KeyOrder.KeyOrder}
use Rattle.ciborium_ll.specs.declared.kind.Kind.{Kind, TheVariants.NotDeterministic}
use Rattle.ciborium.specs.{DeterministicWrites.{HasForm, named_form}, SliceAnswers.ReadsAll}
use Rattle.ciborium.specs.declared.de.error.Error.{Error, TheVariants.{Memory, Semantic}}
use Rattle.ciborium_ll.specs.Refusal as refusal

-- the bytes are the encoding of the deterministic form of what a value names
abbrev pub AreFormOf : KeyOrder → List ℕ → Named → Type 0
AreFormOf o b named = HasForm (named_form o named) (λ t. b ≡ encoding t)

-- the first k bytes of both are the same, and the next is not: a byte differs, or one of them ends
abbrev pub DifferAt : List ℕ → List ℕ → ℕ → Type 0
DifferAt b c k = (take k b ≡ take k c) × (take (suc k) b ≢ take (suc k) c)

-- bytes that first differ at k from those that are due are refused there, or as no deterministic
-- encoding of any value within l levels
pub data RefusesSpelling {E : Type 0} (o : KeyOrder) (l : ℕ) (b : List ℕ) (k : ℕ) :
    Error E → Type 0 where
  differs : RefusesSpelling o l b k (Semantic (Some k) NotDeterministic)
  spelled : (p : ℕ) (kind : Kind) → Refuses (deterministic o) b 0 (Some l) (refusal.semantic p kind) →
      RefusesSpelling o l b k (Semantic (Some p) kind)

-- bytes that give a value which names this are refused: it has no form; they are not the encoding
-- of the form; or an allocation failed
pub data RefusesOther {E : Type 0} (o : KeyOrder) (l : ℕ) (b : List ℕ) (named : Named) :
    Error E → Type 0 where
  no_form : (kind : Kind) → named_form o named ≡ refuses kind → RefusesOther o l b named (Semantic None kind)
  other : {e : Error E} (t : Tree) (k : ℕ) → named_form o named ≡ gives t →
      DifferAt b (encoding t) k → RefusesSpelling o l b k e → RefusesOther o l b named e
  no_memory : RefusesOther o l b named Memory

-- a call that loads a value of a type from all of the bytes, within l levels: at `Ok` they give the
-- answer, and are the encoding of the form of what it names; else they are refused as reading all
-- of them is, or they give a value, and another encoding is due
pub record LoadsAll {T A E : Type 0} (o : KeyOrder) (l : ℕ) (reading : Reading T A)
    (written : T → Named) (b : List ℕ) (r : Result T (Error E)) : Type 0 where
  pub ok : IfOk r (λ v. ReadsAll {E = E} l reading b (Ok v) × AreFormOf o b (written v))
  pub refused : IfErr r (λ e. ReadsAll l reading b (Err e) ⊎
      ((v : T) × ReadsAll {E = E} l reading b (Ok v) × RefusesOther o l b (written v) e))
