-- What ends levels begins with a head, and what ends the levels behind that head follows it.
use Rattle.std.proofs.Common.{◌≡◌, ℕ, zero, suc, ◌+◌, ◌≤◌, List, [], ◌∷◌, ◌++◌, length, drop, Some, None, true, false}
use Rattle.std.proofs.{Common.{option_map, refl, sym, ap, ◌∙◌, subst, arith, append_assoc}, Math.Seq.drop-append_seam}
use Rattle.ciborium_ll.proofs.{LevelEnds.{anywhere, end-to, to-end}, LevelHeads.to-behind, LevelsTo.{Standing, ItemTo}}
use Rattle.ciborium_ll.proofs.LevelsTo.{ItemsTo, LevelTo, LevelsTo, around, behind-around, items-to, pairs-to}
use Rattle.ciborium_ll.{proofs.OneHeader.one_header_at_front, specs.{Head.{IsHead, open_byte}, Header.SpellsHeader}}
use Rattle.ciborium_ll.specs.Item.{Item, unsigned, negative, bytes, text, array, map, tag, simple, float, items_count}
use Rattle.ciborium_ll.specs.{Item.pairs_count, Levels.{EndAll, IsPayloadOf, AreLeftBehind, AreItem, entered}}
use Rattle.ciborium_ll.specs.Levels.{behind_item, behind_bytes, behind_text, behind_break, behind_head, incomplete}
use Rattle.ciborium_ll.specs.{Spells.Spells, StringRefusal.{IsAllowed, string_major}, declared.header.Header.Header}
use Rattle.ciborium_ll.specs.declared.levels.Level.{Level, TheVariants.{Items, OpenItems, OpenKeys, OpenValues}}
use Rattle.ciborium_ll.specs.declared.{levels.Level.TheVariants.{ByteChunks, TextChunks}, strings.StringType.StringType}
use Rattle.ciborium_ll.specs.declared.header.Header.TheVariants as heads

-- ---- levels of which something is still to come

-- the innermost level is not complete
abbrev pub AreUnfinished : List Level → Type 0
AreUnfinished [] = ⊥
AreUnfinished (Items zero ∷ levels) = ⊥
AreUnfinished (level ∷ levels) = Unit {0}

incomplete-length : (levels : List Level) → length (incomplete levels) ≤ length levels
incomplete-length (Items zero ∷ levels) = let le = incomplete-length levels in omega arith
incomplete-length u = omega arith

pub are-unfinished : (levels : List Level) → incomplete levels ≡ levels → ¬ (levels ≡ []) → AreUnfinished levels
are-unfinished [] same some = some refl
are-unfinished (Items zero ∷ levels) same some =
    let le = incomplete-length levels in
    let long : length (incomplete levels) ≡ suc (length levels) = ap length same in
    omega arith
are-unfinished (level ∷ levels) same some = tt

-- no head may stand where neither an item, nor a part, nor a break may
none-behind : (header : Header) (levels : List Level) → behind_item levels ≡ None → behind_bytes levels ≡ None →
    behind_text levels ≡ None → behind_break levels ≡ None → behind_head header levels ≡ None
none-behind (heads.Bytes (Some n)) levels i b t k = b
none-behind (heads.Bytes None) levels i b t k = ap (option_map (λ rest. ByteChunks ∷ rest)) i
none-behind (heads.Text (Some n)) levels i b t k = t
none-behind (heads.Text None) levels i b t k = ap (option_map (λ rest. TextChunks ∷ rest)) i
none-behind (heads.Array (Some n)) levels i b t k = ap (option_map (λ rest. Items n ∷ rest)) i
none-behind (heads.Array None) levels i b t k = ap (option_map (λ rest. OpenItems ∷ rest)) i
none-behind (heads.Map (Some n)) levels i b t k = ap (option_map (λ rest. Items (n + n) ∷ rest)) i
none-behind (heads.Map None) levels i b t k = ap (option_map (λ rest. OpenKeys ∷ rest)) i
none-behind (heads.Tag n) levels i b t k = ap (option_map (λ rest. Items 1 ∷ rest)) i
none-behind heads.Break levels i b t k = k
none-behind header levels i b t k = i

-- where a head may stand, something is still to come
pub behind-unfinished : (header : Header) (levels more : List Level) → behind_head header levels ≡ Some more →
    AreUnfinished levels
behind-unfinished header [] more behind =
    let none = none-behind header [] refl refl refl refl in absurd cc
behind-unfinished header (Items zero ∷ levels) more behind =
    let none = none-behind header (Items zero ∷ levels) refl refl refl refl in absurd cc
behind-unfinished header (level ∷ levels) more behind = tt

-- ---- what stands first

-- the level of parts of a string
abbrev pub parts_of : StringType → Level
parts_of StringType.Bytes = ByteChunks
parts_of StringType.Text = TextChunks

-- what ends levels begins with an item, with a part of a string, or with the break
pub data FirstOf (S : Standing) (level : Level) (levels : List Level) (b z : List ℕ) : Type 0 where
  of_item : (c : List ℕ) (more : List Level) → ItemTo S (length levels) b c →
      behind_item (level ∷ levels) ≡ Some more → LevelsTo S more c z → FirstOf S level levels b z
  of_part : (type : StringType) (h p c : List ℕ) → IsHead h (string_major type) (length p) → IsAllowed type p →
      b ≡ h ++ (p ++ c) → level ≡ parts_of type → LevelsTo S (level ∷ levels) c z → FirstOf S level levels b z
  of_break : (c : List ℕ) → b ≡ 255 ∷ c → behind_break (level ∷ levels) ≡ Some levels → LevelsTo S levels c z →
      FirstOf S level levels b z

first-part : (h p t u r x b : List ℕ) → t ≡ h ++ p → r ≡ t ++ u → b ≡ r ++ x → b ≡ h ++ (p ++ (u ++ x))
first-part h p t u r x b f g e = e ∙ ap (λ (c : List ℕ). c ++ x) (g ∙ ap (λ (c : List ℕ). c ++ u) f) ∙ simp append_assoc

pub first-of : (S : Standing) (level : Level) (levels : List Level) (b z : List ℕ) → AreUnfinished (level ∷ levels) →
    LevelsTo S (level ∷ levels) b z → FirstOf S level levels b z
first-of S (Items zero) levels b z some h = absurd some
first-of S (Items (suc n)) levels b z some (c, (d, one, others), ends) =
    of_item d (Items n ∷ levels) one refl (c, others, ends)
first-of S OpenItems levels b z some (c, (zero, e), ends) = of_break c e refl ends
first-of S OpenItems levels b z some (c, (suc k, (d, one, others)), ends) =
    of_item d (OpenItems ∷ levels) one refl (c, (k, others), ends)
first-of S OpenKeys levels b z some (c, (zero, e), ends) = of_break c e refl ends
first-of S OpenKeys levels b z some (c, (suc k, h), ends) =
    let twice : suc k + suc k ≡ suc (suc (k + k)) = omega arith in
    let (d, one, others) = subst (λ m. ItemsTo S (length levels) m b (255 ∷ c)) twice h in
    of_item d (OpenValues ∷ levels) one refl (c, (k, others), ends)
first-of S OpenValues levels b z some (c, (k, (d, one, others)), ends) =
    of_item d (OpenKeys ∷ levels) one refl (c, (k, others), ends)
first-of S ByteChunks levels b z some (c, ([], r, none, e), ends) =
    of_break c (e ∙ ap (λ (x : List ℕ). x ++ (255 ∷ c)) none) refl ends
first-of S ByteChunks levels b z some (c, (p ∷ ps, r, (t, u, (h, head, allowed, f), parts, g), e), ends) =
    of_part StringType.Bytes h p (u ++ (255 ∷ c)) head allowed (first-part h p t u r (255 ∷ c) b f g e) refl
    (c, (ps, u, parts, refl), ends)
first-of S TextChunks levels b z some (c, ([], r, none, e), ends) =
    of_break c (e ∙ ap (λ (x : List ℕ). x ++ (255 ∷ c)) none) refl ends
first-of S TextChunks levels b z some (c, (p ∷ ps, r, (t, u, (h, head, allowed, f), parts, g), e), ends) =
    of_part StringType.Text h p (u ++ (255 ∷ c)) head allowed (first-part h p t u r (255 ∷ c) b f g e) refl
    (c, (ps, u, parts, refl), ends)

-- ---- the head at the front

-- a head that may stand there, its payload, and what ends the levels behind it
pub record HeadTo (S : Standing) (levels : List Level) (b z : List ℕ) : Type 0 where
  pub header : Header
  pub head : List ℕ
  pub payload : List ℕ
  pub rest : List ℕ
  pub more : List Level
  pub spelled : SpellsHeader head header
  pub content : IsPayloadOf header payload
  pub whole : b ≡ head ++ (payload ++ rest)
  pub behind : behind_head header levels ≡ Some more
  pub ends : LevelsTo S more rest z

head-first : (S : Standing) (header : Header) (h p b c z : List ℕ) (levels more : List Level) →
    SpellsHeader h header → IsPayloadOf header p → b ≡ h ++ (p ++ c) → behind_head header levels ≡ Some more →
    LevelsTo S more c z → HeadTo S levels b z
head-first S header h p b c z levels more spelled content whole behind ends = record {
  header = header;
  head = h;
  payload = p;
  rest = c;
  more = more;
  spelled = spelled;
  content = content;
  whole = whole;
  behind = behind;
  ends = ends;
}

-- a definite string may stand where an item may
item-bytes : (levels more : List Level) → behind_item levels ≡ Some more → behind_bytes levels ≡ Some more
item-bytes (ByteChunks ∷ levels) more behind = absurd cc
item-bytes levels more behind = behind

item-text : (levels more : List Level) → behind_item levels ≡ Some more → behind_text levels ≡ Some more
item-text (TextChunks ∷ levels) more behind = absurd cc
item-text levels more behind = behind

-- an item begins with its head
module _ (S : Standing) (b c z : List ℕ) (levels more : List Level) (behind : behind_item levels ≡ Some more)
    (ends : LevelsTo S more c z) where
  split-at : (h p s : List ℕ) → b ≡ s ++ c → s ≡ h ++ p → b ≡ h ++ (p ++ c)
  split-at h p s e f = e ∙ ap (λ (x : List ℕ). x ++ c) f ∙ append_assoc h p c

  -- the head enters a level
  entering : (header : Header) (level : Level) (h r s : List ℕ) → SpellsHeader h header → IsPayloadOf header [] →
      behind_head header levels ≡ entered level levels → b ≡ s ++ c → s ≡ h ++ r →
      LevelTo S (length more) level (r ++ c) c → HeadTo S levels b z
  entering header level h r s spelled none enters split whole here =
      head-first S header h [] b (r ++ c) z levels (level ∷ more) spelled none (split-at h r s split whole)
      (enters ∙ ap (option_map (λ rest. level ∷ rest)) behind) (c, here, ends)

  -- where so many levels are around an item, one more is around what it holds
  inside : (May : ℕ → Type 0) → May (suc (around levels)) → May (length more)
  inside May w = subst May (sym (behind-around levels more behind)) w

  item-first : (i : Item) (s : List ℕ) → Spells s i → b ≡ s ++ c → S.May (around levels) i → HeadTo S levels b z
  item-first (unsigned n) s spelled split w =
      head-first S (heads.Positive n) s [] b c z levels more spelled refl split behind ends
  item-first (negative n) s spelled split w =
      head-first S (heads.Negative n) s [] b c z levels more spelled refl split behind ends
  item-first (bytes false p) s (h, head, allowed, whole) split w =
      head-first S (heads.Bytes (Some (length p))) h p b c z levels more head (refl, allowed)
      (split-at h p s split whole) (item-bytes levels more behind) ends
  item-first (bytes true p) s (ps, r, parts, same, whole) split w =
      entering (heads.Bytes None) ByteChunks (open_byte 2 ∷ []) (r ++ (255 ∷ [])) s refl refl refl split whole
      (ps, r, parts, append_assoc r (255 ∷ []) c)
  item-first (text false p) s (h, head, allowed, whole) split w =
      head-first S (heads.Text (Some (length p))) h p b c z levels more head (refl, allowed)
      (split-at h p s split whole) (item-text levels more behind) ends
  item-first (text true p) s (ps, r, parts, same, whole) split w =
      entering (heads.Text None) TextChunks (open_byte 3 ∷ []) (r ++ (255 ∷ [])) s refl refl refl split whole
      (ps, r, parts, append_assoc r (255 ∷ []) c)
  item-first (array false is) s (r, spelled, (h, head, whole)) split w =
      entering (heads.Array (Some (items_count is))) (Items (items_count is)) h r s head refl refl split whole
      (items-to S (length more) is r c spelled (inside (λ n. S.MayAll n is) ((S.arrays (around levels) false is).1 w)))
  item-first (array true is) s (r, spelled, whole) split w =
      entering (heads.Array None) OpenItems (open_byte 4 ∷ []) (r ++ (255 ∷ [])) s refl refl refl split whole (
        items_count is,
        subst (λ (x : List ℕ). ItemsTo S (length more) (items_count is) x (255 ∷ c))
            (sym (append_assoc r (255 ∷ []) c)) (items-to S (length more) is r (255 ∷ c) spelled
            (inside (λ n. S.MayAll n is) ((S.arrays (around levels) true is).1 w))),
      )
  item-first (map false ps) s (r, spelled, (h, head, whole)) split w = entering (heads.Map (Some (pairs_count ps)))
      (Items (pairs_count ps + pairs_count ps)) h r s head refl refl split whole
      (pairs-to S (length more) ps r c spelled (inside (λ n. S.MayPairs n ps) ((S.maps (around levels) false ps).1 w)))
  item-first (map true ps) s (r, spelled, whole) split w =
      entering (heads.Map None) OpenKeys (open_byte 5 ∷ []) (r ++ (255 ∷ [])) s refl refl refl split whole (
        pairs_count ps,
        subst (λ (x : List ℕ). ItemsTo S (length more) (pairs_count ps + pairs_count ps) x (255 ∷ c))
            (sym (append_assoc r (255 ∷ []) c)) (pairs-to S (length more) ps r (255 ∷ c) spelled
            (inside (λ n. S.MayPairs n ps) ((S.maps (around levels) true ps).1 w))),
      )
  item-first (tag t i) s (h, r, head, spelled, whole) split w =
      entering (heads.Tag t) (Items 1) h r s head refl refl split whole
      (c, (i, r, spelled, refl, inside (λ n. S.May n i) ((S.tags (around levels) t i).1 w)), refl)
  item-first (simple n) s spelled split w =
      head-first S (heads.Simple n) s [] b c z levels more spelled refl split behind ends
  item-first (float raw) s spelled split w =
      head-first S (heads.Float (length raw)) s [] b c z levels more (raw, spelled, refl) refl split behind ends

module _ (S : Standing) where
  part-first : (type : StringType) (level : Level) (levels : List Level) (h p c b z : List ℕ) →
      IsHead h (string_major type) (length p) → IsAllowed type p → b ≡ h ++ (p ++ c) → level ≡ parts_of type →
      LevelsTo S (level ∷ levels) c z → HeadTo S (level ∷ levels) b z
  part-first StringType.Bytes level levels h p c b z head allowed whole is ends =
      head-first S (heads.Bytes (Some (length p))) h p b c z (level ∷ levels) (level ∷ levels) head (refl, allowed)
      whole (subst (λ k. behind_bytes (k ∷ levels) ≡ Some (k ∷ levels)) (sym is) refl) ends
  part-first StringType.Text level levels h p c b z head allowed whole is ends =
      head-first S (heads.Text (Some (length p))) h p b c z (level ∷ levels) (level ∷ levels) head (refl, allowed)
      whole (subst (λ k. behind_text (k ∷ levels) ≡ Some (k ∷ levels)) (sym is) refl) ends

  pub front : (levels : List Level) (b z : List ℕ) → AreUnfinished levels → LevelsTo S levels b z → HeadTo S levels b z
  front [] b z some ends = absurd some
  front (level ∷ levels) b z some ends = by (first-of S level levels b z some ends)
    where
      by : FirstOf S level levels b z → HeadTo S (level ∷ levels) b z
      by (of_item c more (i, s, spelled, whole, w) behind rest) =
          item-first S b c z (level ∷ levels) more behind rest i s spelled whole w
      by (of_part type h p c head allowed whole is rest) =
          part-first type level levels h p c b z head allowed whole is rest
      by (of_break c whole behind rest) =
          head-first S heads.Break (255 ∷ []) [] b c z (level ∷ levels) levels refl refl whole behind rest

-- ---- that head is the one at the front

-- the payloads of a head are equally long
pub payload-lengths : (header : Header) (p q : List ℕ) → IsPayloadOf header p →
    IsPayloadOf header q → length p ≡ length q
payload-lengths (heads.Bytes (Some n)) p q a b = a.0 ∙ sym b.0
payload-lengths (heads.Text (Some n)) p q a b = a.0 ∙ sym b.0
payload-lengths header p q a b = ap length (a ∙ sym b)

-- equally long beginnings leave the same
rests-same : (p q a b : List ℕ) → length p ≡ length q → p ++ a ≡ q ++ b → a ≡ b
rests-same p q a b long e =
    sym (drop-append_seam p a) ∙ ap (drop (length p)) e ∙ ap (λ n. drop n (q ++ b)) long ∙ drop-append_seam q b

module _ (S : Standing) where
  pub behind-to : (header : Header) (h p y z : List ℕ) (levels more : List Level) → SpellsHeader h header →
      IsPayloadOf header p → behind_head header levels ≡ Some more → LevelsTo S levels (h ++ (p ++ y)) z →
      LevelsTo S more y z
  behind-to header h p y z levels more spelled content behind ends =
      let f = front S levels (h ++ (p ++ y)) z (behind-unfinished header levels more behind) ends in
      let one = one_header_at_front h f.head (p ++ y) (f.payload ++ f.rest) header f.header spelled f.spelled
      f.whole in
      let long = payload-lengths f.header p f.payload (subst (λ k. IsPayloadOf k p) one.2 content) f.content in
      let rest : y ≡ f.rest = rests-same p f.payload y f.rest long one.1 in
      let same : Some more ≡ Some f.more = sym behind ∙ ap (λ k. behind_head k levels) one.2 ∙ f.behind in
      let levels_same : f.more ≡ more = cc same in
      subst (λ (x : List ℕ). LevelsTo S more x z) (sym rest) (subst (λ k. LevelsTo S k f.rest z) levels_same f.ends)

  -- no head stands where it may not
  pub misplaced : (header : Header) (h y z : List ℕ) (levels : List Level) → SpellsHeader h header →
      behind_head header levels ≡ None → AreUnfinished levels → LevelsTo S levels (h ++ y) z → ⊥
  misplaced header h y z levels spelled none some ends =
      let f = front S levels (h ++ y) z some ends in
      let one = one_header_at_front h f.head y (f.payload ++ f.rest) header f.header spelled f.spelled f.whole in
      let e : None ≡ Some f.more = sym none ∙ ap (λ k. behind_head k levels) one.2 ∙ f.behind in
      absurd cc

-- ---- what ends the levels, with nothing behind it

pub front-of-end : (levels : List Level) (x : List ℕ) → AreUnfinished levels → EndAll levels x → HeadTo anywhere levels
    x []
front-of-end levels x some ends = front anywhere levels x [] some (end-to levels x ends)

pub ends-behind : (header : Header) (h payload : List ℕ) (levels more : List Level) (b : List ℕ) →
    SpellsHeader h header → IsPayloadOf header payload → behind_head header levels ≡ Some more → EndAll more b →
    EndAll levels (h ++ (payload ++ b))
ends-behind header h payload levels more b spelled content behind ends = to-end levels (h ++ (payload ++ b))
    (to-behind anywhere header h payload b [] levels more spelled content behind (λ t. tt) (end-to more b ends))

pub left-behind : (c : List ℕ) (header : Header) (h payload : List ℕ) (levels more : List Level) →
    SpellsHeader h header → IsPayloadOf header payload → behind_head header levels ≡ Some more →
    AreLeftBehind c levels → AreLeftBehind (c ++ (h ++ payload)) more
left-behind c header h payload levels more spelled content behind o = record {
  complete = λ b e. subst AreItem (sym (placed b))
      (o.complete (h ++ (payload ++ b)) (ends-behind header h payload levels more b spelled content behind e));
  only = λ b i. to-end more b (behind-to anywhere header h payload b [] levels more spelled content behind
      (end-to levels (h ++ (payload ++ b)) (o.only (h ++ (payload ++ b)) (subst AreItem (placed b) i))));
}
  where
    placed : (b : List ℕ) → (c ++ (h ++ payload)) ++ b ≡ c ++ (h ++ (payload ++ b))
    placed b = simp append_assoc
