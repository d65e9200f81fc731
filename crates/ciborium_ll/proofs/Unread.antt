-- What calls answer, said of all that is unread.
use Rattle.std.proofs.Common.{◌≡◌, ℕ, ◌+◌, ◌<◌, List, [], ◌∷◌, ◌++◌, length, Option, Some, None, Result, Ok, Err, IfErr}
use Rattle.std.proofs.{Common.{refl, sym, ap, ◌∙◌, subst, append_assoc, append-nil, inl, inr}, lemmas.Str.IsUtf8-append}
use Rattle.std.{proofs.lemmas.Str.IsUtf8-nil, specs.{Io.KnownBytes.Consumes, Prelude.IsUtf8}}
use Rattle.ciborium_ll.{proofs.{MoreBytes.refusal-more, OneHeader.one_header_at_front}, specs.Decoding.PullsTo}
use Rattle.ciborium_ll.specs.{Head.break_byte, Header.SpellsHeader, ReaderSteps.{Advances, IsRefusalOf, IsHeadTaken}}
use Rattle.ciborium_ll.specs.Refusal.{Refusal, io, syntax, too_long, HeadRefuses, IsUsable, HasHead, IsAtFront}
use Rattle.ciborium_ll.specs.{Spells.{AreChunks, joined}, StringRefusal.{string_major, IsAllowed, PayloadRefuses}}
use Rattle.ciborium_ll.specs.{StringRefusal.{HasStringHead, ChunkRefuses, ChunksRefuse}, Strings.ContentRefuses}
use Rattle.ciborium_ll.specs.Strings.{string_header, IsPayloadTaken, IsChunkTaken, AreChunksTaken, IsStringTaken}
use Rattle.ciborium_ll.specs.declared.header.{Error.{Error, TheVariants.{Io, Syntax, TooLong, Memory}}, Header.Header}
use Rattle.ciborium_ll.specs.declared.strings.StringType.{StringType}
use Rattle.ciborium_ll.specs.declared.header.Header.TheVariants as header

-- what known bytes have left behind those that were taken
pub known-rest : (b : List ℕ) (new : Option (List ℕ)) (x : List ℕ) → Consumes (Some b) new x → (r : List ℕ) ×
    (new ≡ Some r) × (b ≡ x ++ r)
known-rest b None x h = absurd h
known-rest b (Some r) x h = (r, refl, h)

pub rest-of : (old new : Option (List ℕ)) (b x : List ℕ) → old ≡ Some b → Consumes old new x → (r : List ℕ) ×
    (new ≡ Some r) × (b ≡ x ++ r)
rest-of old new b x e h = known-rest b new x (subst (λ o. Consumes o new x) e h)

-- what reading a head at the front of b, from offset p on, answers and leaves
abbrev pub ReadsHead : {E : Type 0} → Option (List ℕ) → List ℕ → ℕ → ℕ → Result Header (Error E) → Type 0
ReadsHead new b p q (Ok h) = (x : List ℕ) × (r : List ℕ) × SpellsHeader x h × IsUsable b p × (b ≡ x ++ r) ×
    (q ≡ p + length x) × (new ≡ Some r)
ReadsHead new b p q (Err e) = IsRefusalOf new e (HeadRefuses b p)

-- ---- heads

refused-more : (x r : List ℕ) (p : ℕ) (e : Refusal) → (e ≡ io → ⊥) → HeadRefuses x p e → HeadRefuses (x ++ r) p e
refused-more x r p e n h = refusal-more x r p (Some e) h (λ k. n (inside k))
  where
    inside : Some e ≡ Some io → e ≡ io
    inside k = cc k

usable-more : (x r : List ℕ) (p : ℕ) → IsUsable x p → IsUsable (x ++ r) p
usable-more x r p h = refusal-more x r p None h (λ k. apart k)
  where
    apart : None ≡ Some io → ⊥
    apart k = cc

-- a reader that came to its end gave all that was unread
taken-whole : (x r b : List ℕ) (left : Option (List ℕ)) → b ≡ x ++ r → left ≡ Some r → left ≡ Some [] → b ≡ x
taken-whole x r b left is rest end = is ∙ ap (λ (l : List ℕ). x ++ l) (inside (sym rest ∙ end)) ∙ append-nil x
  where
    inside : Some r ≡ Some [] → r ≡ []
    inside e = cc e

-- bytes of a head that were refused, with what follows
pub head-refuses : {E : Type 0} (x r b : List ℕ) (p : ℕ) (left : Option (List ℕ)) (e : Error E) →
    IsHeadTaken {E = E} x p (Err e) → b ≡ x ++ r → left ≡ Some r → IsRefusalOf left e (HeadRefuses b p)
head-refuses x r b p left (Io e) t is rest = λ end. subst (λ c. HeadRefuses c p io)
    (sym (taken-whole x r b left is rest end)) t.answers
head-refuses x r b p left (Syntax at) t is rest = subst (λ c. HeadRefuses c p (syntax at)) (sym is)
    (refused-more x r p (syntax at) (λ k. cc) t.answers)
head-refuses x r b p left TooLong t is rest = subst (λ c. HeadRefuses c p too_long) (sym is)
    (refused-more x r p too_long (λ k. cc) t.answers)
head-refuses x r b p left Memory t is rest = tt

pub reads-head : {E : Type 0} (old new : Option (List ℕ)) (b : List ℕ) (p q : ℕ) (result : Result Header (Error E)) →
    old ≡ Some b → Advances old new p q (λ x. IsHeadTaken {E = E} x p result) → ReadsHead {E = E} new b p q result
reads-head {E} old new b p q (Ok h) e (x, taken, count, t, bytes) =
    let k = rest-of old new b x e taken in
    (x, k.0, t.answers.0, subst (λ c. IsUsable c p) (sym k.2) (usable-more x k.0 p t.answers.1), k.2, count, k.1)
reads-head {E} old new b p q (Err f) e (x, taken, count, t, bytes) =
    let k = rest-of old new b x e taken in head-refuses {E = E} x k.0 b p new f t k.2 k.1

-- the same, of a decoder that reads at offset q
pub pulls-head : {E : Type 0} (old new : Option (List ℕ)) (last count : ℕ) (b : List ℕ) (q p : ℕ)
    (result : Result Header (Error E)) → (q ≡ p) × (old ≡ Some b) → last ≡ q →
    Advances old new q count (λ x. IsHeadTaken {E = E} x q result) → PullsTo {E = E} last count new b p result
pulls-head {E} old new last count b q p (Ok h) (at, known) here taken =
    let r = reads-head {E = E} old new b q count (Ok h) known taken in
    (r.0, r.1, r.2, subst (IsUsable b) at r.3, r.4, here ∙ at, r.5 ∙ ap (λ k. k + length r.0) at, r.6)
pulls-head {E} old new last count b q p (Err e) (at, known) here taken =
    subst (λ k. IsRefusalOf new e (HeadRefuses b k)) at (reads-head {E = E} old new b q count (Err e) known taken)

-- ---- strings

-- where a payload was refused, what was left refuses so
pub payload-refuses : {E : Type 0} (type : StringType) (n p : ℕ) (left : Option (List ℕ)) (e : Error E)
    (added x r b : List ℕ) → IsPayloadTaken {E = E} type n p x (Err e) added →
    b ≡ x ++ r → left ≡ Some r → IsRefusalOf left e (PayloadRefuses type n p b)
payload-refuses type n p left (Io e) added x r b t is rest =
    λ end. PayloadRefuses.ends_early (subst (λ (c : List ℕ). length c < n) (sym (taken-whole x r b left is rest end))
    t.0)
payload-refuses type n p left (Syntax at) added x r b t is rest = subst (λ k. PayloadRefuses type n p b (syntax k))
    (sym t.0) (subst (λ c. PayloadRefuses type n p c (syntax p)) (sym is) (PayloadRefuses.not_allowed x r t.1 t.2))
payload-refuses type n p left TooLong added x r b t is rest = absurd t
payload-refuses type n p left Memory added x r b t is rest = tt

-- one refusal in place of another that follows from it
pub refused-map : {E : Type 0} (left : Option (List ℕ)) (e : Error E) (P Q : Refusal → Type 0) →
    ((f : Refusal) → P f → Q f) → IsRefusalOf left e P → IsRefusalOf left e Q
refused-map left (Io e) P Q f h = λ end. f io (h end)
refused-map left (Syntax at) P Q f h = f (syntax at) h
refused-map left TooLong P Q f h = f too_long h
refused-map left Memory P Q f h = tt

string-stands : (type : StringType) (n : ℕ) (x r b : List ℕ) → SpellsHeader x (string_header type n) → b ≡ x ++ r →
    HasHead b (string_major type) n (length x) r
string-stands StringType.Bytes n x r b s is = (x, s, refl, is)
string-stands StringType.Text n x r b s is = (x, s, refl, is)

-- a string begins here only where its head was read
string-begun : (type : StringType) (x r b : List ℕ) (h : Header) → SpellsHeader x h → b ≡ x ++ r →
    HasStringHead type b → (n : ℕ) × (h ≡ string_header type n)
string-begun StringType.Bytes x r b h s is (n, k, q, (y, head, len, whole)) =
    (n, (one_header_at_front x y r q h (header.Bytes (Some n)) s head (sym is ∙ whole)).2)
string-begun StringType.Text x r b h s is (n, k, q, (y, head, len, whole)) =
    (n, (one_header_at_front x y r q h (header.Text (Some n)) s head (sym is ∙ whole)).2)

break-begun : (x r b : List ℕ) (h : Header) → SpellsHeader x h → b ≡ x ++ r → IsAtFront break_byte b → h ≡ header.Break
break-begun x r b h s is (q, whole) = (one_header_at_front x (break_byte ∷ []) r q h header.Break s refl
    (sym is ∙ whole)).2

-- where a part was refused, what was left refuses so
pub part-refuses : {E : Type 0} (type : StringType) (x r b : List ℕ) (p : ℕ) (left : Option (List ℕ)) (e : Error E) →
    IsChunkTaken {E = E} type x p e → b ≡ x ++ r → left ≡ Some r → IsRefusalOf left e (ChunkRefuses type b p)
part-refuses {E} type x r b p left e (inl t) is rest = refused-map left e (HeadRefuses b p)
    (ChunkRefuses type b p) (λ f h. ChunkRefuses.no_head h) (head-refuses {E = E} x r b p left e t is rest)
part-refuses {E} type x r b p left e (inr (inl (h, t, other, here))) is rest =
    subst (λ k. IsRefusalOf left k (ChunkRefuses type b p)) (sym here)
    (ChunkRefuses.other (subst (λ c. IsUsable c p) (sym is) (usable-more x r p t.answers.1))
    (λ begun. let k = string-begun type x r b h t.answers.0 is begun in other.1 k.0 k.1)
    (λ begun. other.0 (break-begun x r b h t.answers.0 is begun)))
part-refuses {E} type x r b p left e (inr (inr (n, s, y, split, t, payload))) is rest =
    let whole : b ≡ s ++ (y ++ r) = is ∙ ap (λ (c : List ℕ). c ++ r) split ∙ append_assoc s y r in
    refused-map left e (PayloadRefuses type n p (y ++ r)) (ChunkRefuses type b p)
    (λ f h. ChunkRefuses.chunk (subst (λ c. IsUsable c p) (sym whole) (usable-more s (y ++ r) p t.answers.1))
    (n, length s, y ++ r, string-stands type n s (y ++ r) b t.answers.0 whole, h))
    (payload-refuses {E = E} type n p left e [] y r (y ++ r) payload refl rest)

pub parts-refuse : {E : Type 0} (type : StringType) (x r b : List ℕ) (q : ℕ) (left : Option (List ℕ)) (e : Error E)
    (added : List ℕ) → AreChunksTaken {E = E} type x q (Err e) added → b ≡ x ++ r →
    left ≡ Some r → IsRefusalOf left e (ChunksRefuse type b q)
parts-refuse {E} type x r b q left e added (ps, s, parts, fits, (y, split, part), same) is rest =
    refused-map left e (ChunkRefuses type (y ++ r) (q + length s)) (ChunksRefuse type b q)
    (λ f h. (s, ps, y ++ r, parts, fits, is ∙ ap (λ (c : List ℕ). c ++ r) split ∙ append_assoc s y r, h))
    (part-refuses {E = E} type y r (y ++ r) (q + length s) left e part refl rest)

pub string-refuses : {E : Type 0} (type : StringType) (len : Option ℕ) (p : ℕ) (x r b : List ℕ) (q : ℕ)
    (left : Option (List ℕ)) (e : Error E) (added : List ℕ) → IsStringTaken {E = E} type len p x q (Err e) added →
    b ≡ x ++ r → left ≡ Some r → IsRefusalOf left e (ContentRefuses type len p b q)
string-refuses {E} type (Some n) p x r b q left (Io e) added (inl (over, is, none, nothing)) split rest = absurd cc
string-refuses {E} type (Some n) p x r b q left (Syntax at) added (inl (over, is, none, nothing)) split rest = absurd cc
string-refuses {E} type (Some n) p x r b q left TooLong added (inl (over, is, none, nothing)) split rest =
    inl (over, refl)
string-refuses {E} type (Some n) p x r b q left Memory added (inl t) split rest = tt
string-refuses {E} type (Some n) p x r b q left e added (inr (fits, t)) split rest =
    refused-map left e (PayloadRefuses type n p b) (ContentRefuses type (Some n) p b q) (λ f h. inr (fits, h))
    (payload-refuses {E = E} type n p left e added x r b t split rest)
string-refuses {E} type None p x r b q left e added t split rest =
    parts-refuse {E = E} type x r b q left e added t split rest

-- the same, where the bytes were known
pub reads-string : {E : Type 0} (type : StringType) (len : Option ℕ) (p q t : ℕ) (old new : Option (List ℕ))
    (e : Error E) (b : List ℕ) (A : List ℕ → List ℕ → Type 0) →
    Advances old new q t (λ x. (added : List ℕ) × A added x × IsStringTaken {E = E} type len p x q (Err e) added) →
    old ≡ Some b → IsRefusalOf new e (ContentRefuses type len p b q)
reads-string {E} type len p q t old new e b A (x, taken, count, (added, h, s), bytes) is =
    let k = rest-of old new b x is taken in string-refuses {E = E} type len p x k.0 b q new e added s k.2 k.1

pub refused-string : {E : Type 0} (type : StringType) (len : Option ℕ) (p q t : ℕ) (old new : Option (List ℕ))
    (result : Result (Unit {0}) (Error E)) (b : List ℕ) (A : List ℕ → List ℕ → Type 0) →
    Advances old new q t (λ x. (added : List ℕ) × A added x × IsStringTaken {E = E} type len p x q result added) →
    old ≡ Some b → IfErr result (λ e. IsRefusalOf new e (ContentRefuses type len p b q))
refused-string {E} type len p q t old new (Ok u) b A h is = tt
refused-string {E} type len p q t old new (Err e) b A h is = reads-string {E = E} type len p q t old new e b A h is

-- ---- what is appended of a text is UTF-8

joined-utf8 : (ps : List (List ℕ)) (s : List ℕ) → AreChunks 3 (IsAllowed StringType.Text) s ps → IsUtf8 (joined ps)
joined-utf8 [] s h = IsUtf8-nil
joined-utf8 (p ∷ ps) s (t, r, (y, head, ok, is), rest, e) = IsUtf8-append p (joined ps) ok (joined-utf8 ps r rest)

utf8-none : (added : List ℕ) → added ≡ [] → IsUtf8 added
utf8-none added e = subst IsUtf8 (sym e) IsUtf8-nil

payload-utf8 : {E : Type 0} (n p : ℕ) (result : Result (Unit {0}) (Error E)) (added x : List ℕ) →
    IsPayloadTaken {E = E} StringType.Text n p x result added → IsUtf8 added
payload-utf8 n p (Ok u) added x h = subst IsUtf8 (sym h.2) h.1
payload-utf8 n p (Err (Syntax at)) added x h = utf8-none added h.3
payload-utf8 n p (Err TooLong) added x h = absurd h
payload-utf8 n p u added x h = utf8-none added h.1

pub appended-utf8 : {E : Type 0} (len : Option ℕ) (p q : ℕ) (result : Result (Unit {0}) (Error E)) (added x : List ℕ) →
    IsStringTaken {E = E} StringType.Text len p x q result added → IsUtf8 added
appended-utf8 (Some n) p q result added x (inl h) = utf8-none added h.2
appended-utf8 {E} (Some n) p q result added x (inr h) = payload-utf8 {E = E} n p result added x h.1
appended-utf8 None p q (Ok u) added x (ps, s, parts, fits, split, same) =
    subst IsUtf8 (sym same) (joined-utf8 ps s parts)
appended-utf8 None p q (Err e) added x (ps, s, parts, fits, last, same) =
    subst IsUtf8 (sym same) (joined-utf8 ps s parts)

-- a text with what was appended
pub grown-utf8 : {E : Type 0} (len : Option ℕ) (p q t : ℕ) (a b : Option (List ℕ))
    (result : Result (Unit {0}) (Error E)) (old new : List ℕ) → IsUtf8 old →
    Advances a b q t (λ x. (added : List ℕ) × (new ≡ old ++ added) ×
    IsStringTaken {E = E} StringType.Text len p x q result added) → IsUtf8 new
grown-utf8 {E} len p q t a b result old new ok (x, taken, count, (added, is, s), bytes) =
    subst IsUtf8 (sym is) (IsUtf8-append old added ok (appended-utf8 {E = E} len p q result added x s))
