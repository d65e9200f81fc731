-- Where a string is spelled, no part of it is refused but as too long.
use Rattle.std.proofs.Common.{Bool, ◌≡◌, ℕ, ◌+◌, List, [], ◌∷◌, ◌++◌, length, take, drop, Option, Some, None, refl, sym}
use Rattle.std.proofs.Common.{ap, ◌∙◌, subst, append_assoc, inl, inr, ◌<◌, ◌≤◌, arith, length-append, suc}
use Rattle.std.proofs.Math.Seq.{take-append_seam, drop-append_seam}
use Rattle.ciborium_ll.{proofs.OneHeader.one_header_at_front, specs.Accesses.{HasEnded, left_at_failure}}
use Rattle.ciborium_ll.specs.{Bytes.greatest_offset, Decoding.left_of, Head.{IsHead, open_byte, break_byte}}
use Rattle.ciborium_ll.specs.{Header.{SpellsHeader, announced_length}, Refusal.{Refusal, io, syntax, too_long}}
use Rattle.ciborium_ll.specs.{Refusal.HeadRefuses, Spells.{Spells, AreChunks}, StringRefusal.{string_major, IsAllowed}}
use Rattle.ciborium_ll.specs.{StringRefusal.{PayloadRefuses, ChunkRefuses}, Strings.ContentRefuses}
use Rattle.ciborium_ll.specs.declared.{decoder.Decoder.Decoder, header.{Error.Error as LlError, Header.Header}}
use Rattle.ciborium_ll.specs.declared.strings.StringType.{StringType}
use Rattle.ciborium_value.specs.Sources.{IsOutsideFault}
use Rattle.ciborium.proofs.Items.FrontReads.{ended-ll, failed-fault, head-passes, io-outside, only-long}
use Rattle.ciborium.specs.{Errors.{fault_of, from_ll}, inner.ByteSources.{IsUnreadBy, known_end}}
use Rattle.ciborium.specs.inner.StringContents.{DeniesContent, head_of, string_item}
use Rattle.ciborium_ll.specs.declared.header.Header.TheVariants as header
use Rattle.ciborium_ll.specs.declared.header.Error.TheVariants as ll
use Rattle.ciborium_ll.specs.ReaderSteps as reading

-- ---- one head, and behind it one payload

pub string-spells : (type : StringType) (n : ℕ) (h : List ℕ) → IsHead h (string_major type) n →
    SpellsHeader h (head_of type (Some n))
string-spells StringType.Bytes n h hd = hd
string-spells StringType.Text n h hd = hd

same-size : (type : StringType) (n m : ℕ) → head_of type (Some n) ≡ head_of type (Some m) → n ≡ m
same-size StringType.Bytes n m e = cc
same-size StringType.Text n m e = cc

no-break : (type : StringType) (n : ℕ) → head_of type (Some n) ≡ header.Break → ⊥
no-break StringType.Bytes n e = cc
no-break StringType.Text n e = cc

pub same-payload : (type : StringType) (h k p q a b : List ℕ) → IsHead h (string_major type) (length p) →
    IsHead k (string_major type) (length q) → h ++ (p ++ a) ≡ k ++ (q ++ b) → (p ≡ q) × (a ≡ b)
same-payload type h k p q a b hd kd e =
    let one = one_header_at_front h k (p ++ a) (q ++ b) (head_of type (Some (length p)))
    (head_of type (Some (length q))) (string-spells type (length p) h hd) (string-spells type (length q) k kd) e in
    let size : length p ≡ length q = same-size type (length p) (length q) one.2 in (
      sym (take-append_seam p a) ∙ ap (λ n. take n (p ++ a)) size ∙ ap (take (length q)) one.1 ∙ take-append_seam q b,
      sym (drop-append_seam p a) ∙ ap (λ n. drop n (p ++ a)) size ∙ ap (drop (length q)) one.1 ∙ drop-append_seam q b,
    )

pub string-break : (type : StringType) (h payload a z : List ℕ) → IsHead h (string_major type) (length payload) →
    h ++ (payload ++ a) ≡ break_byte ∷ z → ⊥
string-break type h payload a z hd e =
    no-break type (length payload) (one_header_at_front h (break_byte ∷ []) (payload ++ a) z
    (head_of type (Some (length payload))) header.Break (string-spells type (length payload) h hd) refl e).2

pub opened-up : (h p s r g a : List ℕ) → s ≡ h ++ p → g ≡ s ++ r → g ++ a ≡ h ++ (p ++ (r ++ a))
opened-up h p s r g a e f = ap (λ (k : List ℕ). k ++ a) (f ∙ ap (λ (k : List ℕ). k ++ r) e) ∙
    append_assoc (h ++ p) r a ∙ append_assoc h p (r ++ a)

pub same-rest : (x : ℕ) (a b : List ℕ) → x ∷ a ≡ x ∷ b → a ≡ b
same-rest x a b e = cc

-- ---- none is refused but as too long

payload-never : (type : StringType) (n p : ℕ) (y : List ℕ) (e : Refusal) (payload z : List ℕ) →
    n ≡ length payload → IsAllowed type payload → y ≡ payload ++ z → PayloadRefuses type n p y e → ⊥
payload-never type n p y io payload z size ok f (PayloadRefuses.ends_early lt) =
    let all : length y ≡ length payload + length z = ap length f ∙ length-append payload z in
    omega (arith, lt, size, all)
payload-never type n p y e payload z size ok f (PayloadRefuses.not_allowed other r len bad) =
    let same : other ≡ payload = sym (take-append_seam other r) ∙ ap (λ k. take k (other ++ r)) (len ∙ size) ∙
    ap (take (length payload)) f ∙ take-append_seam payload z in
    bad (subst (IsAllowed type) (sym same) ok)

-- at a break
break-only : (type : StringType) (p : ℕ) (r z : List ℕ) (e : Refusal) → r ≡ break_byte ∷ z → ChunkRefuses type r p e →
    e ≡ too_long
break-only type p r z e f (ChunkRefuses.no_head h) =
    only-long (break_byte ∷ []) z header.Break p e refl (subst (λ (k : List ℕ). HeadRefuses k p e) f h)
break-only type p r z e f (ChunkRefuses.chunk u (n, k, r', (h, hd, len, g), w)) =
    absurd (no-break type n (one_header_at_front h (break_byte ∷ []) r' z (head_of type (Some n)) header.Break
    (string-spells type n h hd) refl (sym g ∙ f)).2)
break-only type p r z e f (ChunkRefuses.other u string end) = absurd (end (z, f))

-- at a good part
part-only : (type : StringType) (p : ℕ) (r h payload z : List ℕ) (e : Refusal) → IsHead h (string_major type)
    (length payload) → IsAllowed type payload → r ≡ h ++ (payload ++ z) → ChunkRefuses type r p e → e ≡ too_long
part-only type p r h payload z e hd ok f (ChunkRefuses.no_head w) =
    only-long h (payload ++ z) (head_of type (Some (length payload))) p e (string-spells type (length payload) h hd)
    (subst (λ (k : List ℕ). HeadRefuses k p e) f w)
part-only type p r h payload z e hd ok f (ChunkRefuses.chunk u (n, k, r', (x, xd, len, g), w)) =
    let one = one_header_at_front x h r' (payload ++ z) (head_of type (Some n)) (head_of type (Some (length payload)))
    (string-spells type n x xd) (string-spells type (length payload) h hd) (sym g ∙ f) in
    absurd (payload-never type n p r' e payload z (same-size type n (length payload) one.2) ok one.1 w)
part-only type p r h payload z e hd ok f (ChunkRefuses.other u string end) =
    absurd (string (length payload, length h, payload ++ z, (h, hd, refl, f)))

parts-only : (type : StringType) (p : ℕ) (good t r z : List ℕ) (ps qs : List (List ℕ)) (e : Refusal) →
    AreChunks (string_major type) (IsAllowed type) good ps → AreChunks (string_major type) (IsAllowed type) t qs →
    good ++ r ≡ t ++ (break_byte ∷ z) → ChunkRefuses type r p e → e ≡ too_long
parts-only type p good t r z [] [] e g h f w = break-only type p r z e
    (ap (λ (k : List ℕ). k ++ r) (sym g) ∙ f ∙ ap (λ (k : List ℕ). k ++ (break_byte ∷ z)) h) w
parts-only type p good t r z [] (q ∷ qs) e g (s, c, (x, hd, ok, i), rest, j) f w =
    part-only type p r x q (c ++ (break_byte ∷ z)) e hd ok
    (ap (λ (k : List ℕ). k ++ r) (sym g) ∙ f ∙ opened-up x q s c t (break_byte ∷ z) i j) w
parts-only type p good t r z (m ∷ ps) [] e (s, c, (x, hd, ok, i), rest, j) h f w =
    absurd (string-break type x m (c ++ r) z hd (sym (opened-up x m s c good r i j) ∙ f ∙
    ap (λ (k : List ℕ). k ++ (break_byte ∷ z)) h))
parts-only type p good t r z (m ∷ ps) (q ∷ qs) e (s, c, (x, hd, ok, i), rest, j)
    (s', c', (x', hd', ok', i'), rest', j') f w =
    let same = same-payload type x x' m q (c ++ r) (c' ++ (break_byte ∷ z)) hd hd'
    (sym (opened-up x m s c good r i j) ∙ f ∙ opened-up x' q s' c' t (break_byte ∷ z) i' j') in
    parts-only type p c c' r z ps qs e rest rest' same.1 w

definite-parts : (type : StringType) (n : ℕ) (s payload : List ℕ) → Spells s (string_item type (Some n) payload) →
    (h : List ℕ) × IsHead h (string_major type) (length payload) × IsAllowed type payload × (s ≡ h ++ payload)
definite-parts StringType.Bytes n s payload h = h
definite-parts StringType.Text n s payload h = h

open-parts : (type : StringType) (s payload : List ℕ) → Spells s (string_item type None payload) →
    (ps : List (List ℕ)) × (r : List ℕ) × AreChunks (string_major type) (IsAllowed type) r ps ×
    (s ≡ open_byte (string_major type) ∷ (r ++ (break_byte ∷ [])))
open-parts StringType.Bytes s payload (ps, r, a, j, e) = (ps, r, a, e)
open-parts StringType.Text s payload (ps, r, a, j, e) = (ps, r, a, e)

open-spells : (type : StringType) (x : List ℕ) → SpellsHeader x (head_of type None) →
    x ≡ open_byte (string_major type) ∷ []
open-spells StringType.Bytes x h = h
open-spells StringType.Text x h = h

-- behind the head of a definite string its payload stands
pub definite-payload : (type : StringType) (n : ℕ) (y x s z payload : List ℕ) → SpellsHeader x (head_of type (Some n)) →
    Spells s (string_item type (Some n) payload) → x ++ y ≡ s ++ z → (n ≡ length payload) × IsAllowed type payload ×
    (y ≡ payload ++ z)
definite-payload type n y x s z payload hd sp e =
    let (h, kd, ok, f) = definite-parts type n s payload sp in
    let one = one_header_at_front x h y (payload ++ z) (head_of type (Some n)) (head_of type (Some (length payload))) hd
    (string-spells type (length payload) h kd) (e ∙ ap (λ (k : List ℕ). k ++ z) f ∙ append_assoc h payload z) in
    (same-size type n (length payload) one.2, ok, one.1)

pub definite-never : (type : StringType) (n p : ℕ) (e : Refusal) (y x s z payload : List ℕ) →
    SpellsHeader x (head_of type (Some n)) → Spells s (string_item type (Some n) payload) → x ++ y ≡ s ++ z →
    PayloadRefuses type n p y e → ⊥
definite-never type n p e y x s z payload hd sp f w =
    let (size, ok, is) = definite-payload type n y x s z payload hd sp f in
    payload-never type n p y e payload z size ok is w

pub content-only : (type : StringType) (len : Option ℕ) (p q : ℕ) (e : Refusal) (y x s z payload : List ℕ) →
    SpellsHeader x (head_of type len) → Spells s (string_item type len payload) → x ++ y ≡ s ++ z →
    ContentRefuses type len p y q e → e ≡ too_long
content-only type (Some n) p q e y x s z payload hd sp f (inl (over, same)) = same
content-only type (Some n) p q e y x s z payload hd sp f (inr (within, w)) =
    absurd (definite-never type n p e y x s z payload hd sp f w)
content-only type None p q e y x s z payload hd sp f (good, ps, r, parts, room, split, w) =
    let (qs, t, are, g) = open-parts type s payload sp in
    let o : ℕ = open_byte (string_major type) in
    let behind : y ≡ (t ++ (break_byte ∷ [])) ++ z = same-rest o y ((t ++ (break_byte ∷ [])) ++ z)
    (ap (λ (k : List ℕ). k ++ y) (sym (open-spells type x hd)) ∙ f ∙ ap (λ (k : List ℕ). k ++ z) g) in
    parts-only type (q + length good) good t r z ps qs e parts are
    (sym split ∙ behind ∙ append_assoc t (break_byte ∷ []) z) w

-- ---- what is refused as too long is

pub payload-long : (type : StringType) (n p : ℕ) (y : List ℕ) (e : Refusal) → e ≡ too_long →
    PayloadRefuses type n p y e → ⊥
payload-long type n p y io is (PayloadRefuses.ends_early lt) = cc
payload-long type n p y e is (PayloadRefuses.not_allowed other r len bad) = cc

announced-string : (type : StringType) (n : ℕ) → announced_length (head_of type (Some n)) ≡ n
announced-string StringType.Bytes n = refl
announced-string StringType.Text n = refl

-- at a break, which z follows
break-long : (type : StringType) (p : ℕ) (r z : List ℕ) (e : Refusal) → e ≡ too_long → r ≡ break_byte ∷ z →
    ChunkRefuses type r p e → greatest_offset + length z < p + length r
break-long type p r z e is f (ChunkRefuses.no_head h) =
    let past : greatest_offset < p + 1 + 0 = head-passes (break_byte ∷ []) z header.Break p refl
    (subst (λ (k : List ℕ). HeadRefuses k p too_long) f (subst (HeadRefuses r p) is h)) in
    let size : length r ≡ suc (length z) = ap length f in
    omega (arith, past, size)
break-long type p r z e is f (ChunkRefuses.chunk u (n, k, r', (h, hd, len, g), w)) =
    absurd (payload-long type n p r' e is w)
break-long type p r z e is f (ChunkRefuses.other u string end) = cc

-- at a good part
part-long : (type : StringType) (p : ℕ) (r h payload z : List ℕ) (e : Refusal) → e ≡ too_long →
    IsHead h (string_major type) (length payload) → r ≡ h ++ (payload ++ z) → ChunkRefuses type r p e →
    greatest_offset + length z < p + length r
part-long type p r h payload z e is hd f (ChunkRefuses.no_head w) =
    let there = announced-string type (length payload) in
    let more = length-append payload z in
    let size : length r ≡ length h + length (payload ++ z) = ap length f ∙ length-append h (payload ++ z) in
    let past = head-passes h (payload ++ z) (head_of type (Some (length payload))) p
    (string-spells type (length payload) h hd)
    (subst (λ (k : List ℕ). HeadRefuses k p too_long) f (subst (HeadRefuses r p) is w)) in
    omega (arith, past, there, more, size)
part-long type p r h payload z e is hd f (ChunkRefuses.chunk u (n, k, r', (x, xd, len, g), w)) =
    absurd (payload-long type n p r' e is w)
part-long type p r h payload z e is hd f (ChunkRefuses.other u string end) = cc

parts-long : (type : StringType) (p : ℕ) (good t r z : List ℕ) (ps qs : List (List ℕ)) (e : Refusal) → e ≡ too_long →
    AreChunks (string_major type) (IsAllowed type) good ps → AreChunks (string_major type) (IsAllowed type) t qs →
    good ++ r ≡ t ++ (break_byte ∷ z) → ChunkRefuses type r p e → greatest_offset + length z < p + length r
parts-long type p good t r z [] [] e is g h f w = break-long type p r z e is
    (ap (λ (k : List ℕ). k ++ r) (sym g) ∙ f ∙ ap (λ (k : List ℕ). k ++ (break_byte ∷ z)) h) w
parts-long type p good t r z [] (q ∷ qs) e is g (s, c, (x, hd, ok, i), rest, j) f w =
    let long = part-long type p r x q (c ++ (break_byte ∷ z)) e is hd
    (ap (λ (k : List ℕ). k ++ r) (sym g) ∙ f ∙ opened-up x q s c t (break_byte ∷ z) i j) w in
    let more : length (c ++ (break_byte ∷ z)) ≡ length c + suc (length z) = length-append c (break_byte ∷ z) in
    omega (arith, long, more)
parts-long type p good t r z (m ∷ ps) [] e is (s, c, (x, hd, ok, i), rest, j) h f w =
    absurd (string-break type x m (c ++ r) z hd (sym (opened-up x m s c good r i j) ∙ f ∙
    ap (λ (k : List ℕ). k ++ (break_byte ∷ z)) h))
parts-long type p good t r z (m ∷ ps) (q ∷ qs) e is (s, c, (x, hd, ok, i), rest, j)
    (s', c', (x', hd', ok', i'), rest', j') f w =
    let same = same-payload type x x' m q (c ++ r) (c' ++ (break_byte ∷ z)) hd hd'
    (sym (opened-up x m s c good r i j) ∙ f ∙ opened-up x' q s' c' t (break_byte ∷ z) i' j') in
    parts-long type p c c' r z ps qs e is rest rest' same.1 w

-- where a string is spelled, and z behind it, what follows its head is refused as too long only where it is
pub content-long : (type : StringType) (len : Option ℕ) (p q : ℕ) (y x s z payload : List ℕ) →
    SpellsHeader x (head_of type len) → Spells s (string_item type len payload) → x ++ y ≡ s ++ z →
    ContentRefuses type len p y q too_long → greatest_offset + length z < q + length y
content-long type (Some n) p q y x s z payload hd sp e (inl (over, same)) =
    let (size, ok, f) = definite-payload type n y x s z payload hd sp e in
    let long : length y ≡ length payload + length z = ap length f ∙ length-append payload z in
    omega (arith, over, size, long)
content-long type (Some n) p q y x s z payload hd sp e (inr (within, w)) =
    absurd (payload-long type n p y too_long refl w)
content-long type None p q y x s z payload hd sp e (good, ps, r, parts, room, split, w) =
    let (qs, t, are, f) = open-parts type s payload sp in
    let o : ℕ = open_byte (string_major type) in
    let behind : y ≡ (t ++ (break_byte ∷ [])) ++ z = same-rest o y ((t ++ (break_byte ∷ [])) ++ z)
    (ap (λ (k : List ℕ). k ++ y) (sym (open-spells type x hd)) ∙ e ∙ ap (λ (k : List ℕ). k ++ z) f) in
    let long = parts-long type (q + length good) good t r z ps qs too_long refl parts are
    (sym split ∙ behind ∙ append_assoc t (break_byte ∷ []) z) w in
    let size : length y ≡ length good + length r = ap length split ∙ length-append good r in
    omega (arith, long, size)

content-outside : {E : Type 0} (left : Option (List ℕ)) (e : LlError E) (type : StringType) (len : Option ℕ)
    (p q end : ℕ) (y x s z payload : List ℕ) → SpellsHeader x (head_of type len) →
    Spells s (string_item type len payload) → x ++ y ≡ s ++ z → q + length y ≤ end + length z →
    reading.IsRefusalOf left e (ContentRefuses type len p y q) → IsOutsideFault end (fault_of left (from_ll e))
content-outside left (ll.Io e) type len p q end y x s z payload hd sp f fits r = io-outside left end (λ none.
    let never = content-only type len p q io y x s z payload hd sp f (r none) in cc)
content-outside left (ll.Syntax at) type len p q end y x s z payload hd sp f fits r =
    let never = content-only type len p q (syntax at) y x s z payload hd sp f r in cc
content-outside left ll.TooLong type len p q end y x s z payload hd sp f fits r =
    let long = content-long type len p q y x s z payload hd sp f r in omega (arith, long, fits)
content-outside left ll.Memory type len p q end y x s z payload hd sp f fits r = tt

-- the payload of a string whose head was taken is refused for what no string decides
pub content-denied : {S W E : Type 0} (can_fail : Bool) (remaining : S → Option (List ℕ)) (d e : Decoder S W)
    (pending : Option (Header × ℕ)) (x : LlError E) (type : StringType) (len : Option ℕ) → pending ≡ None →
    ((y : List ℕ) → left_of remaining d ≡ Some y →
    reading.IsRefusalOf (left_of remaining e) x (ContentRefuses type len d.last y d.counter.count)) →
    HasEnded can_fail (left_of remaining e) x → DeniesContent (IsUnreadBy remaining d pending) (known_end
    (left_of remaining d) d.counter.count) type len
    (fault_of (left_at_failure can_fail (remaining e.reader.now)) (from_ll x))
content-denied can_fail remaining d e pending x type len none refused ended y b s z payload end u hd sp split fits =
    let left = subst (λ o. IsUnreadBy remaining d o y) none u in
    subst (IsOutsideFault end) (failed-fault can_fail (left_of remaining e) (from_ll x)
    (ended-ll can_fail (left_of remaining e) x ended))
    (content-outside (left_of remaining e) x type len d.last d.counter.count end y b s z payload hd sp split
    (subst (λ o. known_end o d.counter.count ≤ end + length z) left fits) (refused y left))
