-- What is written is read back: the ways of reading it, and booleans, null, characters and strings.
use Rattle.std.proofs.{Common.{sym, ap, subst, ◌∙◌, append-nil}, lemmas.Str.{IsUtf8-encode, chars-nil, chars_past_char}}
use Rattle.std.specs.{Char.IsScalar, Prelude.{◌≡◌, ℕ, Bool, true, false, List, [], ◌∷◌, Result, Ok, Err, IfOk, chars}}
use Rattle.std.specs.{Prelude.{encode_utf8, String, string_bytes, refl}, declared.alloc.Global.Global}
use Rattle.ciborium_ll.specs.Item.{Item}
use Rattle.ciborium_value.specs.{DeterministicForms.deterministic_form, Encoding.{boolean_item, item_of}, Given.Given}
use Rattle.ciborium_value.specs.Given.{Outcome, gives, lone_character, outcome, outcome_map, given_boolean, given_bytes}
use Rattle.ciborium_value.specs.{Given.{given_character, given_text, given_unit, settled}, Nesting.{Limit, IsWithin}}
use Rattle.ciborium_value.specs.{Sinks.Named, WrittenTrees.written_tree, declared.key_order.KeyOrder.KeyOrder}
use Rattle.ciborium_value.specs.lemmas.GivenOutcomes.{one_given}
use Rattle.ciborium_ll.specs.Item as items

-- how what was written is read: from its bytes, from the tree that `Value::serialized` makes of it,
-- or from its deterministic form by an order of keys
pub data Way : Type 0 where
  by_bytes : Way
  by_tree : Way
  by_form : KeyOrder → Way

-- the item that is then met where this one was written: in a tree strings, arrays and maps are
-- definite, and a form, where there is one, has bignums folded and keys sorted besides
abbrev pub met : Way → Item → Outcome Item
met by_bytes i = gives i
met by_tree i = gives (item_of (written_tree i))
met (by_form o) i = outcome_map item_of (deterministic_form o (written_tree i))

-- no form is read
abbrev pub IsPlain : Way → Type 0
IsPlain by_bytes = Unit {0}
IsPlain by_tree = Unit {0}
IsPlain (by_form o) = ⊥

-- what is met of the item is read as this content, where so many levels are left
abbrev pub IsItemRead : {C : Type 0} → Way → Given C → C → ℕ → Item → Type 0
IsItemRead way taken c n i = (j : Item) → met way i ≡ gives j → (l : Limit) → IsWithin l n →
    outcome l (taken j) ≡ gives c

-- so is the item that is named, if there is one
pub record IsNameRead {C : Type 0} (way : Way) (r : Named) (taken : Given C) (c : C) (n : ℕ) :
    Type 0 where
  pub back : (i : Item) → r ≡ Ok i → IsItemRead way taken c n i

-- what a value names is read as what counts of it, where so many levels are left
abbrev pub IsReadBack : {T C : Type 0} → Way → (T → Type 0) → (T → Named) → Given C → (T → C) → (T → ℕ) → Type 0
IsReadBack {T = T} way IsValid written taken content levels = (v : T) → IsValid v →
    IsNameRead way (written v) taken (content v) (levels v)

-- the same from bytes and from a tree
abbrev pub IsPlainlyReadBack : {T C : Type 0} → (T → Type 0) → (T → Named) → Given C → (T → C) → (T → ℕ) → Type 0
IsPlainlyReadBack IsValid written taken content levels = (way : Way) → IsPlain way →
    IsReadBack way IsValid written taken content levels

-- the same from the deterministic form, by either order of keys
abbrev pub IsReadFromForm : {T C : Type 0} → (T → Type 0) → (T → Named) → Given C → (T → C) → (T → ℕ) → Type 0
IsReadFromForm IsValid written taken content levels = (o : KeyOrder) →
    IsReadBack (by_form o) IsValid written taken content levels

-- ---- what holds of all that is answered

pub if_ok : {X E : Type 0} (r : Result X E) (P : X → Type 0) → ((x : X) → r ≡ Ok x → P x) → IfOk r P
if_ok (Ok x) P h = h x refl
if_ok (Err e) P h = tt

pub of_ok : {X E : Type 0} (r : Result X E) (P : X → Type 0) → IfOk r P → (x : X) → r ≡ Ok x → P x
of_ok (Ok y) P h x e = let same : y ≡ x = cc in subst P same h
of_ok (Err k) P h x e = cc

pub name-back : {C : Type 0} {way : Way} (r : Named) {taken : Given C} {c : C} {n : ℕ} →
    IfOk r (IsItemRead way taken c n) → IsNameRead way r taken c n
name-back {way = way} r {taken = taken} {c = c} {n = n} h = record {
  back = of_ok r (IsItemRead way taken c n) h;
}

pub at : {C : Type 0} {way : Way} {r : Named} {taken : Given C} {c : C} {n : ℕ} →
    IsNameRead way r taken c n → IfOk r (IsItemRead way taken c n)
at {way = way} {r = r} {taken = taken} {c = c} {n = n} h = if_ok r (IsItemRead way taken c n) h.back

-- ---- items that are met as they were written

abbrev pub IsDefinite : Item → Type 0
IsDefinite i = item_of (written_tree i) ≡ i

abbrev pub IsItsOwnForm : KeyOrder → Item → Type 0
IsItsOwnForm o i = deterministic_form o (written_tree i) ≡ gives (written_tree i)

pub met-itself : (i : Item) → IsDefinite i → ((o : KeyOrder) → IsItsOwnForm o i) → (way : Way) → met way i ≡ gives i
met-itself i definite own by_bytes = refl
met-itself i definite own by_tree = ap gives definite
met-itself i definite own (by_form o) = ap (outcome_map item_of) (own o) ∙ ap gives definite

pub met-text : (b : List ℕ) (way : Way) → met way (items.text false b) ≡ gives (items.text false b)
met-text b = met-itself (items.text false b) refl (λ o. refl)

pub met-bytes : (b : List ℕ) (way : Way) → met way (items.bytes false b) ≡ gives (items.bytes false b)
met-bytes b = met-itself (items.bytes false b) refl (λ o. refl)

pub met-null : (way : Way) → met way (items.simple 22) ≡ gives (items.simple 22)
met-null = met-itself (items.simple 22) refl (λ o. refl)

met-boolean : (b : Bool) (way : Way) → met way (boolean_item b) ≡ gives (boolean_item b)
met-boolean false = met-itself (items.simple 20) refl (λ o. refl)
met-boolean true = met-itself (items.simple 21) refl (λ o. refl)

-- ---- what names an item always

abbrev pub named : Item → Named
named i = Ok i

-- one that is met as it was written
pub item-back : {C : Type 0} {way : Way} (i : Item) (taken : Given C) {c : C} {n : ℕ} → met way i ≡ gives i →
    ((l : Limit) → IsWithin l n → outcome l (taken i) ≡ gives c) → IsNameRead way (named i) taken c n
item-back i taken same read = name-back (named i) (λ j is l fits.
    ap (λ x. outcome l (taken x)) (one_given j i (sym is ∙ same)) ∙ read l fits)

boolean-given : (b : Bool) (l : Limit) → outcome l (given_boolean (boolean_item b)) ≡ gives b
boolean-given false l = refl
boolean-given true l = refl

pub boolean-back : (way : Way) → IsReadBack way (λ b. Unit {0}) (λ b. named (boolean_item b))
    given_boolean (λ b. b) (λ b. 0)
boolean-back way b valid = item-back (boolean_item b) given_boolean (met-boolean b way) (λ l fits. boolean-given b l)

pub unit-back : (way : Way) → IsReadBack way (λ u. Unit {0}) (λ u. named (items.simple 22)) given_unit (λ u. u) (λ u. 0)
unit-back way u valid = item-back (items.simple 22) given_unit (met-null way) (λ l fits. refl)

lone-encoded : (c : ℕ) → IsScalar c → lone_character (chars (encode_utf8 c)) ≡ Ok c
lone-encoded c h = ap lone_character (chars_past_char (encode_utf8 c) [] c (IsUtf8-encode c h)
    (sym (append-nil (encode_utf8 c))) ∙ ap (λ cs. c ∷ cs) chars-nil)

pub character-back : (way : Way) → IsReadBack way IsScalar
    (λ c. named (items.text false (encode_utf8 c))) given_character (λ c. c) (λ c. 0)
character-back way c valid = item-back (items.text false (encode_utf8 c)) given_character
    (met-text (encode_utf8 c) way) (λ l fits. ap settled (lone-encoded c valid))

pub string_back : (way : Way) → IsReadBack {T = String Global} way (λ s. Unit {0})
    (λ s. named (items.text false (string_bytes s))) given_text string_bytes (λ s. 0)
string_back way s valid = item-back (items.text false (string_bytes s)) given_text
    (met-text (string_bytes s) way) (λ l fits. refl)

pub bytes-back : {T : Type 0} (content : T → List ℕ) (way : Way) → IsReadBack way (λ b. Unit {0})
    (λ b. named (items.bytes false (content b))) given_bytes content (λ b. 0)
bytes-back content way b valid = item-back (items.bytes false (content b)) given_bytes
    (met-bytes (content b) way) (λ l fits. refl)
