-- Payloads that are passed over piece by piece.
use Rattle.std.proofs.Common.{◌≡◌, ℕ, ◌+◌, ◌-◌, ◌<◌, ◌≤◌, List, [], ◌++◌, length, take, drop, Option, IsUtf8, None}
use Rattle.std.proofs.Common.{Some, refl, sym, ap, ◌∙◌, subst, arith, append_assoc, append-nil, length-append}
use Rattle.std.proofs.Common.{length-drop, length-take-le, take-append-drop, take-take, drop_of_length-le}
use Rattle.std.proofs.{Math.Seq.{take-append_seam, drop-append_seam}, iter.FirstChar.after_text}
use Rattle.std.proofs.lemmas.{List.{nil_from_length, take-append-le, take_rest, Edits.paste_all}, Slice.put_mid-paste}
use Rattle.std.proofs.lemmas.Str.{IsUtf8-append}
use Rattle.ciborium_ll.{proofs.Unread.rest-of, specs.{Decoding.left_of, Levels.IsPayloadOf}}
use Rattle.ciborium_ll.specs.declared.header.Header.{Header}
use Rattle.ciborium_value.specs.Sources.{Fault, TakesOnly}
use Rattle.ciborium.{proofs.Items.TakenOnly.taken-none, specs.declared.de.byte_source.ByteSource.ByteSource}
use Rattle.ciborium.specs.inner.{ByteSources.{HasTaken, IsUnread, IsUnreadBy}, PassedOver.{DeniesPayload, TakesPayload}}
use Rattle.ciborium.specs.inner.StringContents.{DeniesJust, TakesJust}
use borrow.Rule.Slice.PartMut.{put_mid}
use Rattle.ciborium_ll.specs.declared.header.Header.TheVariants as header

-- n bytes are to be passed over, of which so many are left
abbrev pub TookSome : (List ℕ → Type 0) → (List ℕ → Type 0) → ℕ → ℕ → Type 0
TookSome P Q n left = (y : List ℕ) → P y → (c : List ℕ) × (z : List ℕ) × (length c + left ≡ n) × (y ≡ c ++ z) × Q z

-- the next bytes were taken too
pub some-more : (P Q R : List ℕ → Type 0) (n left size : ℕ) (buffer : List ℕ) → size ≤ left → length buffer ≡ size →
    TakesJust Q R buffer → TookSome P Q n left → TookSome P R n (left - size)
some-more P Q R n left size buffer some len just took y u =
    let (c, z, count, split, un) = took y u in
    let (r, next, un') = just z un in (
      c ++ buffer,
      r,
      omega (arith, length-append c buffer, len, some, count),
      split ∙ ap (λ (k : List ℕ). c ++ k) next ∙ sym (append_assoc c buffer r),
      un',
    )

-- what is left of the payload is refused, since so many bytes of it are
pub piece-denied : (P Q : List ℕ → Type 0) (end all : ℕ) (fault : Fault) (h : Header) (n left size : ℕ) →
    ((p : List ℕ) → IsPayloadOf h p → length p ≡ n) → size ≤ left → ((y : List ℕ) → P y → all ≡ end) →
    TookSome P Q n left → DeniesJust Q all size fault → DeniesPayload P end h fault
piece-denied P Q end all fault h n left size long some same took denied y p r m e u pay split there fits =
    let (c, z, count, parted, un) = took y u in
    let whole : length y ≡ length p + length r = ap length split ∙ length-append p r in
    let parts : length y ≡ length c + length z = ap length parted ∙ length-append c z in
    denied z m e un (omega (arith, there, count, some, long p pay, whole, parts))
    (subst (λ k. k ≤ e + m) (sym (same y u)) fits)

-- ---- byte strings

-- what was taken are bytes
pub bytes-taken : {S W : Type 0} (remaining : S → Option (List ℕ)) (old new : ByteSource S W) (n left : ℕ) →
    TakesOnly (HasTaken remaining) old.decoder new.decoder → old.pending ≡ None → new.pending ≡ None → left ≤ 0 →
    TookSome (IsUnread remaining old) (IsUnread remaining new) n left →
    TakesPayload (IsUnread remaining old) (IsUnread remaining new) (header.Bytes (Some n))
unfolding HasTaken
bytes-taken remaining old new n left only none none' zero took y u =
    let (c, z, count, parted, un) = took y u in
    let (named, (b, takes, counted, any, small)) = only old.decoder (taken-none remaining old.decoder) in
    let known : left_of remaining old.decoder ≡ Some y = subst (λ o. IsUnreadBy remaining old.decoder o y) none u in
    let known' : left_of remaining new.decoder ≡ Some z = subst (λ o. IsUnreadBy remaining new.decoder o z) none' un in
    let (r, rest, split) = rest-of (left_of remaining old.decoder) (left_of remaining new.decoder) y b known takes in
    let both : Some r ≡ Some z = sym rest ∙ known' in
    let same : r ≡ z = cc in
    let size : length y ≡ length b + length z = ap length (split ∙ ap (λ (k : List ℕ). b ++ k) same) ∙ length-append b z
    in
    let parts : length y ≡ length c + length z = ap length parted ∙ length-append c z in
    (b, z, (omega (arith, count, zero, size, parts), small), split ∙ ap (λ (k : List ℕ). b ++ k) same, un)

-- ---- texts

-- the same of a text: some characters were taken, and k is the beginning of one that was cut
abbrev pub TookText : (List ℕ → Type 0) → (List ℕ → Type 0) → ℕ → ℕ → List ℕ → Type 0
TookText P Q n left k = (y : List ℕ) → P y → (v : List ℕ) × (z : List ℕ) × IsUtf8 v × (length (v ++ k) + left ≡ n) ×
    (y ≡ (v ++ k) ++ z) × Q z

pub text-some : (P Q : List ℕ → Type 0) (n left : ℕ) (k : List ℕ) → TookText P Q n left k → TookSome P Q n left
text-some P Q n left k took y u = let (v, z, utf8, count, split, un) = took y u in (v ++ k, z, count, split, un)

-- the next bytes were taken too, and complete some characters
pub text-more : (P Q R : List ℕ → Type 0) (n left size : ℕ) (k buffer more k' : List ℕ) → size ≤ left →
    length buffer ≡ size → IsUtf8 more → k ++ buffer ≡ more ++ k' → TakesJust Q R buffer → TookText P Q n left k →
    TookText P R n (left - size) k'
text-more P Q R n left size k buffer more k' some len chars same just took y u =
    let (v, z, utf8, count, split, un) = took y u in
    let (r, next, un') = just z un in
    let whole : (v ++ more) ++ k' ≡ (v ++ k) ++ buffer = append_assoc v more k' ∙
    ap (λ (l : List ℕ). v ++ l) (sym same) ∙ sym (append_assoc v k buffer) in
    let sum : length ((v ++ more) ++ k') ≡ length (v ++ k) + length buffer = ap length whole ∙
    length-append (v ++ k) buffer in (
      v ++ more,
      r,
      IsUtf8-append v more utf8 chars,
      omega (arith, sum, len, some, count),
      split ∙ ap (λ (l : List ℕ). (v ++ k) ++ l) next ∙ sym (append_assoc (v ++ k) buffer r) ∙
          ap (λ (l : List ℕ). l ++ r) (sym whole),
      un',
    )

-- no character is cut at the end
pub text-taken : (P Q : List ℕ → Type 0) (n left kept : ℕ) (room : List ℕ) → left ≤ 0 → kept ≤ 0 →
    TookText P Q n left (take kept room) → TakesPayload P Q (header.Text (Some n))
text-taken P Q n left kept room zero none took y u =
    let (v, z, utf8, count, split, un) = took y u in
    let no : kept ≡ 0 = omega (arith, none) in
    let same : v ++ take kept room ≡ v = ap (λ k. v ++ take k room) no ∙ append-nil v in
    let size : length (v ++ take kept room) ≡ length v = ap length same in
    (v, z, (omega (arith, count, zero, size), utf8), split ∙ ap (λ (l : List ℕ). l ++ z) same, un)

-- characters begin a text: more of them follow
behind-text : (v w p r z : List ℕ) → IsUtf8 v → IsUtf8 p → length (v ++ w) ≤ length p → p ++ r ≡ (v ++ w) ++ z →
    (t : List ℕ) × IsUtf8 (w ++ t) × (length p ≡ length (v ++ w) + length t)
behind-text v w p r z front utf8 fits same =
    let k = length (v ++ w) in
    let t : List ℕ = drop k p in
    let begins : take k p ≡ v ++ w = sym (take-append-le k p r fits) ∙ ap (take k) same ∙ take-append_seam (v ++ w) z in
    let whole : p ≡ (v ++ w) ++ t = sym (take-append-drop k p) ∙ ap (λ (l : List ℕ). l ++ t) begins in
    let parts : p ≡ v ++ (w ++ t) = whole ∙ append_assoc v w t in
    let first : take (length v) p ≡ v = ap (take (length v)) parts ∙ take-append_seam v (w ++ t) in
    let rest : IsUtf8 (drop (length v) p) = after_text p (length v) utf8 (subst IsUtf8 (sym first) front) in (
      t,
      subst IsUtf8 (ap (drop (length v)) parts ∙ drop-append_seam v (w ++ t)) rest,
      ap length whole ∙ length-append (v ++ w) t,
    )

-- no text begins with what was taken
pub no-text : (P Q R : List ℕ → Type 0) (end n left size : ℕ) (fault : Fault) (k buffer : List ℕ) → size ≤ left →
    length buffer ≡ size → ((t : List ℕ) → IsUtf8 ((k ++ buffer) ++ t) → ⊥) → TakesJust Q R buffer →
    TookText P Q n left k → DeniesPayload P end (header.Text (Some n)) fault
no-text P Q R end n left size fault k buffer some len none just took y p r m e u (long, utf8) split there fits =
    let (v, z, front, count, parted, un) = took y u in
    let (s, next, un') = just z un in
    let parts : (v ++ k) ++ buffer ≡ v ++ (k ++ buffer) = append_assoc v k buffer in
    let whole : p ++ r ≡ (v ++ (k ++ buffer)) ++ s = sym split ∙ parted ∙ ap (λ (l : List ℕ). (v ++ k) ++ l) next ∙
    sym (append_assoc (v ++ k) buffer s) ∙ ap (λ (l : List ℕ). l ++ s) parts in
    let size' : length (v ++ (k ++ buffer)) ≡ length (v ++ k) + length buffer = ap length (sym parts) ∙
    length-append (v ++ k) buffer in
    let (t, rest, sum) = behind-text v (k ++ buffer) p r s front utf8 (omega (arith, size', len, some, count, long))
    whole in
    absurd (none t rest)

-- a character is cut at the end
pub cut-text : (P Q : List ℕ → Type 0) (end n left kept : ℕ) (fault : Fault) (k : List ℕ) → left ≤ 0 → 0 < kept →
    (IsUtf8 k → kept ≡ 0) → TookText P Q n left k → DeniesPayload P end (header.Text (Some n)) fault
cut-text P Q end n left kept fault k zero some cut took y p r m e u (long, utf8) split there fits =
    let (v, z, front, count, parted, un) = took y u in
    let (t, rest, sum) = behind-text v k p r z front utf8 (omega (arith, count, long)) (sym split ∙ parted) in
    let none : t ≡ [] = nil_from_length t (omega (arith, count, zero, long, sum)) in
    let no : kept ≡ 0 = cut (subst IsUtf8 (ap (λ (l : List ℕ). k ++ l) none ∙ append-nil k) rest) in
    absurd (omega (arith, no, some))

-- ---- the room

-- a part of it, behind what was kept
pub part-size : (room : List ℕ) (kept size : ℕ) → kept + size ≤ length room →
    length (take (length (take (kept + size) room) - kept) (drop kept (take (kept + size) room))) ≡ size
part-size room kept size fits =
    let part : List ℕ = take (kept + size) room in
    let long : length part ≡ kept + size = length-take-le (kept + size) room fits in
    let rest : length (drop kept part) ≡ length part - kept = length-drop kept part in
    ap length (take_rest part kept) ∙ (omega (arith, long, rest))

pub part-filled : (room buffer : List ℕ) (kept size : ℕ) → kept + size ≤ length room → length buffer ≡ size →
    put_mid kept (length (take (kept + size) room) - kept) (take (kept + size) room) buffer ≡ take kept room ++ buffer
part-filled room buffer kept size fits len =
    let part : List ℕ = take (kept + size) room in
    let long : length part ≡ kept + size = length-take-le (kept + size) room fits in
    put_mid-paste kept (length part - kept) part buffer buffer size refl (omega (arith, long)) (sym len) ∙
    paste_all part kept buffer size (sym len) ∙
    ap (λ (d : List ℕ). take kept part ++ (buffer ++ d))
    (drop_of_length-le part (let le : length part ≤ kept + size = omega (arith, long) in le)) ∙
    ap (λ (d : List ℕ). take kept part ++ d) (append-nil buffer) ∙
    ap (λ (d : List ℕ). d ++ buffer) (take-take kept (kept + size) room (omega arith))
