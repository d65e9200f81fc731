-- Bytes that are read as the numbers of a sequence.
use Rattle.std.proofs.Common.{◌≡◌, ◌≢◌, ℕ, ◌+◌, ◌<◌, ◌≤◌, Bool, false, List, []}
use Rattle.std.proofs.Common.{◌∷◌, ◌++◌, IfErr, IfOk, Option, Some, None, Result}
use Rattle.std.proofs.Common.{OnErr, OnOk, le_of_lt, lt_of_le_of_lt, arith, le_trans, Ok, Err}
use Rattle.std.proofs.Common.{refl, sym, ap, ◌∙◌, subst, append_assoc, append-nil}
use Rattle.ciborium_ll.{proofs.UniqueSpelling.one_at_front, specs.{Header.SpellsHeader, Item.Item, Spells.Spells}}
use Rattle.ciborium_ll.specs.declared.{header.Header.Header, kind.Kind.Kind, strings.StringType.StringType}
use Rattle.ciborium.proofs.Containers.{EnteredContainers.within-is, NextParts.{fits-past, none-past}}
use Rattle.ciborium.proofs.Items.BareHeads.{head-denied, nested-denied, other-denied, string-denied, string-read}
use Rattle.ciborium.proofs.Items.{ItemHeads.{HasItems, by-shape, header_of, no-bare-tag}, SkippedTags.reads-whole}
use Rattle.ciborium.proofs.Items.{SkippedTags.untagged-under, TakenOnly.{IsKept, kept-reader, rest-end}}
use Rattle.ciborium.proofs.Items.TakenOnly.{is-kept, keeps-none, keeps-then}
use Rattle.ciborium.{proofs.Items.Weights.kept-fewer, specs.declared.de.byte_source.ByteSeq.ByteSeq}
use Rattle.ciborium.specs.declared.de.{byte_source.ByteSource.ByteSource, error.Error.Error}
use Rattle.ciborium.specs.{declared.de.error.Error.TheVariants.RecursionLimitExceeded, inner.ByteSources.fault_at}
use Rattle.ciborium.specs.inner.ByteSources.{AnswersItem, KeepsSource, PassesItem, IsUnread}
use Rattle.ciborium.specs.inner.ByteSources.{StandsBefore, SeqStands, SeqOwes, seq_left}
use Rattle.ciborium.specs.inner.ByteSources.{ReadsRest, RefusesRest, HasTaken, HasTakenSince}
use Rattle.ciborium.specs.inner.ByteSources.{ReadsBareHead, end_at, reader_of, weight_left}
use Rattle.ciborium.specs.inner.{FrontItems.{Reads, Denies, DeniesItem}, Skips.{under, AreSkipped, IsBare, TakesBare}}
use Rattle.ciborium.specs.inner.{StringContents.{DeniesContent, TakesContent, head_of, string_item}, Unread.IsRest}
use Rattle.ciborium.specs.inner.Unread.{FitsAhead}
use Rattle.ciborium_value.{proofs.Sources.Sequences.{fault_map, fault_outside, fault_then}, specs.Ahead.{Rest, Span}}
use Rattle.ciborium_value.specs.{Ahead.{after, parts, past, inside, end_of}, Given.{Outcome, Steps, Given, deeper}}
use Rattle.ciborium_value.specs.Given.{gives, outcome, refuses, take_each, nests, then_take, number_below}
use Rattle.ciborium_value.specs.{Given.{given_integer, given_byte, given_bytes, bare_bytes, untagged}, Nesting.Limit}
use Rattle.ciborium_value.specs.{Places.an_array, Sources.{Fault, of_kind, IsFaultOf, TakesAhead, RefusesAhead}}
use Rattle.ciborium_value.specs.Sources.{TakesItem, TakesTo, GoesOn, Leaves, RefusesNext, OwesLess, OwesNothing}
use Rattle.ciborium_value.specs.{Sources.{HasItem, TakesOneItem, TakesOnly}, lemmas.GivenOutcomes.and_take}
use Rattle.ciborium.proofs.Containers.EnteredContainers.{HasEnteredItems, parts-owed, parts-stand}
use Rattle.ciborium_ll.specs.declared.header.Header.TheVariants as header
use Rattle.ciborium_ll.specs.declared.kind.Kind.TheVariants as kinds

-- ---- from the front of unread bytes to where a source stands

module _ {S W : Type 0} (remaining : S → Option (List ℕ)) where
  pub takes-read : {A : Type 0} (old new : ByteSource S W) (taken : Given A) (v : A) → IsKept remaining old new →
      new.levels ≡ old.levels → new.pending ≡ None →
      Reads (IsUnread remaining) old new (Some old.levels) taken v → TakesAhead (StandsBefore remaining) old new taken v
  takes-read old new taken v kept levels none h l i f (b, u, (s, r, sp, rest, e), is, ahead) =
      let (j, t, z, sq, e', give, un) = h b u in
      let same = one_at_front s t r z i j sp sq (sym e ∙ e') in (
        ap (λ k. outcome k (taken i)) is ∙ ap (λ j. outcome (Some old.levels) (taken j)) same.2 ∙ give,
        (
          z,
          un,
          subst (λ n. FitsAhead n z (past f)) (sym (kept-reader remaining old new kept b u))
              (fits-past (reader_of remaining old.decoder) z f
              (subst (λ y. IsRest (reader_of remaining old.decoder) y f) same.1 rest)),
          is ∙ ap Some (sym levels),
          none-past new.pending none f,
        ),
      )

  pub refuses-denied : {A : Type 0} (old : ByteSource S W) (taken : Given A) (fault : Fault) →
      Denies (IsUnread remaining) (end_at remaining) old (Some old.levels) taken fault →
      RefusesAhead (StandsBefore remaining) old taken fault
  refuses-denied old taken fault h l i f (b, u, (s, r, sp, rest, e), is, ahead) =
      subst (λ k. IsFaultOf (end_of f) fault (outcome k (taken i))) (sym is)
      (h b s r i (end_of f) u sp e (rest-end (reader_of remaining old.decoder) r f rest))

  pub took-read : {A : Type 0} (old new : ByteSource S W) (l : Limit) (taken : Given A) (v : A) →
      Reads (IsUnread remaining) old new l taken v → TakesItem (IsUnread remaining) old new
  took-read old new l taken v h b u = let (j, t, z, sq, e, give, un) = h b u in (z, un, (j, t, sq, e))

-- ---- a byte

byte-given : (l : Limit) (i : Item) (n : Bool × ℕ) (v : ℕ) → outcome l (given_integer i) ≡ gives n →
    outcome l (number_below 256 n) ≡ gives v → outcome l (given_byte i) ≡ gives v
byte-given l i n v e f = ap (λ o. then_take o (λ m. outcome l (number_below 256 m))) e ∙ f

-- ---- items in turn

and_take-gives : {A : Type 0} (a : Outcome A) (b : Outcome (List A)) (vs : List A) → and_take a b ≡ gives vs → (v : A) ×
    (ws : List A) × (a ≡ gives v) × (b ≡ gives ws) × (vs ≡ v ∷ ws)
and_take-gives (gives v) (gives ws) vs h = (v, ws, refl, refl, cc)
and_take-gives u v vs h = cc

each-more : {X A : Type 0} (l : Limit) (f : X → Steps A) (done : List X) (i : X) (vs : List A) (v : A) →
    outcome l (take_each f done) ≡ gives vs → outcome l (f i) ≡ gives v →
    outcome l (take_each f (done ++ i ∷ [])) ≡ gives (vs ++ v ∷ [])
each-more l f [] i vs v h k = let e : vs ≡ [] = cc in rw (k, e) refl
each-more l f (j ∷ done) i vs v h k =
    let w = and_take-gives (outcome l (f j)) (outcome l (take_each f done)) vs h in
    let e = each-more l f done i w.1 v w.3 k in
    ap (λ r. and_take (outcome l (f j)) r) e ∙ ap (λ r. and_take r (gives (w.1 ++ v ∷ []))) w.2 ∙
    ap (λ d. gives (d ++ v ∷ [])) (sym w.4)

each-fault : {X A : Type 0} (end : ℕ) (fault : Fault) (l : Limit) (f : X → Steps A) (done : List X) (i : X)
    (rest : List X) (vs : List A) → outcome l (take_each f done) ≡ gives vs → IsFaultOf end fault (outcome l (f i)) →
    IsFaultOf end fault (outcome l (take_each f (done ++ i ∷ rest)))
each-fault end fault l f [] i rest vs h b = fault_then end fault (outcome l (f i)) _ b
each-fault end fault l f (j ∷ done) i rest vs h b =
    let w = and_take-gives (outcome l (f j)) (outcome l (take_each f done)) vs h in
    let behind = outcome l (take_each f (done ++ i ∷ rest)) in
    subst (λ o. IsFaultOf end fault (and_take o behind)) (sym w.2)
    (fault_map end fault (λ ws. w.0 ∷ ws) behind (each-fault end fault l f done i rest w.1 w.3 b))

-- some items of what was left were read
pub record IsPartlyRead {S W A : Type 0} (remaining : S → Option (List ℕ)) (taken : Given A) (new : ByteSource S W)
    (q : ByteSeq) (vs : List A) (l : Limit) (span : Span) (is : List Item) (r : Rest) : Type 0 where
  pub done : List Item
  pub rest : List Item
  pub split : is ≡ done ++ rest
  pub stands : StandsBefore remaining new (inside span l) (after (parts span rest r))
  pub holds : SeqStands q l (parts span rest r)
  pub read : outcome (inside span l) (take_each taken done) ≡ gives vs

abbrev pub ReadsPartly : {S W A : Type 0} →
    (S → Option (List ℕ)) → Given A → ByteSource S W → ByteSeq → ByteSource S W → ByteSeq → List A → Type 0
ReadsPartly remaining taken old q new q' vs = (l : Limit) (span : Span) (is : List Item) (r : Rest) →
    StandsBefore remaining old (inside span l) (after (parts span is r)) → SeqStands q l (parts span is r) →
    IsPartlyRead remaining taken new q' vs l span is r

-- of known bytes those of some items were taken
abbrev pub OwesPartly : {S W : Type 0} → (S → Option (List ℕ)) → ByteSource S W → ByteSeq → ByteSource S W → ByteSeq →
    Type 0
OwesPartly remaining old q new q' = TakesTo (IsUnread remaining) old new
    (λ c u. (b : List ℕ) → SeqOwes q an_array b c → SeqOwes q' an_array b u)

module _ {S W A : Type 0} (remaining : S → Option (List ℕ)) (taken : Given A) (old : ByteSource S W)
    (start : ByteSeq) where
  pub partly-none : ReadsPartly remaining taken old start old start []
  partly-none l span is r st hold = record {
    done = [];
    rest = is;
    split = refl;
    stands = st;
    holds = hold;
    read = refl;
  }

  pub partly-more : (mid ahead new : ByteSource S W) (q q' : ByteSeq) (vs : List A) (v : A) →
      ReadsPartly remaining taken old start mid q vs → GoesOn (StandsBefore remaining) SeqStands mid ahead q q' →
      TakesAhead (StandsBefore remaining) ahead new taken v →
      ReadsPartly remaining taken old start new q' (vs ++ v ∷ [])
  partly-more mid ahead new q q' vs v w g t l span is r st hold =
      let n = w l span is r st hold in
      let e = g.0 l span n.rest r n.stands n.holds in
      let k = t (inside span l) e.0 (parts span e.1 r) e.3 in
      record {
        done = n.done ++ e.0 ∷ [];
        rest = e.1;
        split = n.split ∙ ap (λ x. n.done ++ x) e.2 ∙ sym (append_assoc n.done (e.0 ∷ []) e.1);
        stands = k.1;
        holds = e.4;
        read = each-more (inside span l) taken n.done e.0 vs v n.read k.0;
      }

  pub partly-end : (mid new : ByteSource S W) (q : ByteSeq) (vs : List A) →
      ReadsPartly remaining taken old start mid q vs → Leaves (StandsBefore remaining) SeqStands mid new q →
      ReadsRest remaining old new start (take_each taken) vs
  partly-end mid new q vs w g l span is r st hold =
      let n = w l span is r st hold in
      let e = g.0 l span n.rest r n.stands n.holds in (
        ap (λ js. outcome (inside span l) (take_each taken js))
            (n.split ∙ ap (λ x. n.done ++ x) e.0 ∙ append-nil n.done) ∙ n.read,
        e.1,
      )

  pub partly-next-fault : (mid : ByteSource S W) (q : ByteSeq) (vs : List A) (fault : Fault) →
      ReadsPartly remaining taken old start mid q vs → RefusesNext (StandsBefore remaining) SeqStands mid q fault →
      RefusesRest remaining old start (take_each taken) fault
  partly-next-fault mid q vs fault w h l span is r st hold =
      let n = w l span is r st hold in
      fault_outside _ fault (outcome (inside span l) (take_each taken is)) (h.0 l span n.rest r n.stands n.holds)

  pub partly-fault : (mid ahead : ByteSource S W) (q q' : ByteSeq) (vs : List A) (fault : Fault) →
      ReadsPartly remaining taken old start mid q vs → GoesOn (StandsBefore remaining) SeqStands mid ahead q q' →
      RefusesAhead (StandsBefore remaining) ahead taken fault → RefusesRest remaining old start (take_each taken) fault
  partly-fault mid ahead q q' vs fault w g h l span is r st hold =
      let n = w l span is r st hold in
      let e = g.0 l span n.rest r n.stands n.holds in
      let b = h (inside span l) e.0 (parts span e.1 r) e.3 in
      subst (λ o. IsFaultOf (end_of r) fault (outcome (inside span l) (take_each taken o)))
      (sym (n.split ∙ ap (λ x. n.done ++ x) e.2)) (each-fault (end_of r) fault (inside span l) taken n.done
      e.0 e.1 vs n.read b)

  pub owes-none : OwesPartly remaining old start old start
  owes-none b u = (b, u, λ a owed. owed)

  pub owes-more : (mid ahead new : ByteSource S W) (q q' : ByteSeq) → OwesPartly remaining old start mid q →
      TakesTo (IsUnread remaining) mid ahead (OwesLess SeqOwes q q') → TakesItem (IsUnread remaining) ahead new →
      OwesPartly remaining old start new q'
  owes-more mid ahead new q q' h g t b u =
      let (c, un, owes) = h b u in
      let (d, un', less) = g c un in
      let (z, un'', front) = t d un' in
      (z, un'', λ a owed. less an_array a z (owes a owed) front)

  pub owes-end : (mid new : ByteSource S W) (q : ByteSeq) → OwesPartly remaining old start mid q →
      TakesTo (IsUnread remaining) mid new (OwesNothing SeqOwes q) →
      TakesTo (IsUnread remaining) old new (λ c z. (b : List ℕ) → SeqOwes start an_array b c → HasItem b z)
  owes-end mid new q h g b u =
      let (c, un, owes) = h b u in
      let (z, un', done) = g c un in
      (z, un', λ a owed. done an_array a (owes a owed))

-- a byte is what its number is
module _ {S W : Type 0} (remaining : S → Option (List ℕ)) (ahead : ByteSource S W) where
  pub byte-takes : (new : ByteSource S W) (n : Bool × ℕ) (v : ℕ) →
      ((l : Limit) → outcome l (number_below 256 n) ≡ gives v) →
      TakesAhead (StandsBefore remaining) ahead new given_integer n →
      TakesAhead (StandsBefore remaining) ahead new given_byte v
  byte-takes new n v e t l i f st = let k = t l i f st in (byte-given l i n v k.0 (e l), k.1)

  pub byte-refuses : (fault : Fault) → RefusesAhead (StandsBefore remaining) ahead given_integer fault →
      RefusesAhead (StandsBefore remaining) ahead given_byte fault
  byte-refuses fault h l i f st = fault_then (end_of f) fault (outcome l (given_integer i))
      (λ n. outcome l (number_below 256 n)) (h l i f st)

  -- a number that is no byte
  pub range-refuses : (new : ByteSource S W) (n : Bool × ℕ) (fault : Fault) →
      ((end : ℕ) (l : Limit) → IsFaultOf end fault (outcome l (number_below 256 n))) →
      TakesAhead (StandsBefore remaining) ahead new given_integer n →
      RefusesAhead (StandsBefore remaining) ahead given_byte fault
  range-refuses new n fault b t l i f st = let k = t l i f st in
      subst (λ o. IsFaultOf (end_of f) fault (then_take o (λ m. outcome l (number_below 256 m)))) (sym k.0)
      (b (end_of f) l)

-- ---- the array

pub bytes-given : (m : ℕ) → m ≢ 0 → (ts : List ℕ) (i : Item) (xs : List Item) → HasItems i xs →
    outcome (Some m) (given_bytes (under ts i)) ≡ outcome (deeper (Some m)) (take_each given_byte xs)
bytes-given m some ts i xs (o, js, is, all) =
    ap (λ j. outcome (Some m) (bare_bytes j)) (untagged-under ts i ∙ ap untagged is) ∙ within-is m _ some ∙
    ap (λ ys. outcome (deeper (Some m)) (take_each given_byte ys)) all

-- an array was entered whose items are read as bytes
module _ {S W : Type 0} {remaining : S → Option (List ℕ)} {old mid : ByteSource S W} {q : ByteSeq}
    (begun : HasEnteredItems remaining old mid given_bytes (λ span is. take_each given_byte is) q)
    (new : ByteSource S W) where
  pub array-takes : {v : List ℕ} → ReadsRest remaining mid new q (take_each given_byte) v →
      TakesAhead (StandsBefore remaining) old new given_bytes v
  array-takes reads l i f st =
      let (span, is, give, stands, holds) = parts-stand begun l i f st in
      let (e, past) = reads l span is f stands holds in
      (give ∙ e, past)

  pub array-refuses : (fault : Fault) → RefusesRest remaining mid q (take_each given_byte) fault →
      RefusesAhead (StandsBefore remaining) old given_bytes fault
  array-refuses fault denied l i f st =
      let (span, is, give, stands, holds) = parts-stand begun l i f st in
      subst (λ o. IsFaultOf (end_of f) fault o) (sym give) (denied l span is f stands holds)

  pub array-took : TakesTo (IsUnread remaining) mid new
      (λ c z. (b : List ℕ) → SeqOwes q an_array b c → HasItem b z) → TakesItem (IsUnread remaining) old new
  array-took took b u =
      let (w, un, owes) = parts-owed begun b u in
      let (z, un', done) = took w un in
      (z, un', done b owes)

pub bytes-other : (l : Limit) (h : Header) → IsBare false h → ((n : Option ℕ) → h ≡ header.Array n → ⊥) →
    ((n : Option ℕ) → h ≡ header.Bytes n → ⊥) → (ts : List ℕ) (i : Item) → AreSkipped false ts → header_of i ≡ h →
    outcome l (given_bytes (under ts i)) ≡ refuses kinds.Bytes
bytes-other l h bare p q ts i all e = ap (λ j. outcome l (bare_bytes j)) (untagged-under ts i) ∙
    by-shape (λ j. outcome l (bare_bytes (untagged j)) ≡ refuses kinds.Bytes) h (λ n k. refl) (λ n k. refl)
    (λ o b k. absurd (q _ k)) (λ o b k. refl) (λ o is k. absurd (p _ k)) (λ o ps k. refl) (λ n k. refl)
    (λ raw k. refl) (λ t j k. no-bare-tag h t bare k) i e

-- ---- what is refused by the head behind any tags

module _ {S W A : Type 0} {can_fail : Bool} {remaining : S → Option (List ℕ)} {old mid : ByteSource S W}
    (taken : Given A) where
  -- none was read
  pub head-refuses : {e : Error (Unit {0})} → ReadsBareHead can_fail remaining old mid false (Err e) →
      DeniesItem (IsUnread remaining) (end_at remaining) old (fault_at can_fail remaining mid e) →
      RefusesAhead (StandsBefore remaining) old taken (fault_at can_fail remaining mid e)
  head-refuses {e} reads denied = refuses-denied remaining old taken (fault_at can_fail remaining mid e)
      (head-denied remaining old taken (fault_at can_fail remaining mid e) denied)

  module _ {h : Header} {offset : ℕ} (reads : ReadsBareHead can_fail remaining old mid false (Ok (h, offset)))
      (head : TakesBare (IsUnread remaining) old mid false h) where
    -- no item of the type begins with it
    pub other-refuses : {k : Kind} → ((ts : List ℕ) (i : Item) → AreSkipped false ts → header_of i ≡ h →
        outcome (Some old.levels) (taken (under ts i)) ≡ refuses k) →
        RefusesAhead (StandsBefore remaining) old taken (of_kind k)
    other-refuses {k} blames = refuses-denied remaining old taken (of_kind k)
        (other-denied remaining old taken mid h head k blames)

    -- no level is left for what it begins
    pub nested-refuses : (new : ByteSource S W) {e : Error (Unit {0})} (k : Header) → h ≡ k → mid.levels ≡ 0 →
        e ≡ RecursionLimitExceeded → ((ts : List ℕ) (i : Item) → AreSkipped false ts → header_of i ≡ k →
        outcome (Some 0) (taken (under ts i)) ≡ nests) →
        RefusesAhead (StandsBefore remaining) old taken (fault_at can_fail remaining new e)
    nested-refuses new {e} k is none err nested = refuses-denied remaining old taken (fault_at can_fail remaining new e)
        (nested-denied remaining old taken mid h head can_fail new k is e err
        (λ ts i all same. ap (λ n. outcome (Some n) (taken (under ts i))) (sym reads.kept.levels ∙ none) ∙
        nested ts i all same))

    -- the payload of the string that it begins was refused
    pub string-refuses : (fault : Fault) (type : StringType) (len : Option ℕ) → h ≡ head_of type len →
        DeniesContent (IsUnread remaining mid) (end_at remaining mid) type len fault →
        RefusesAhead (StandsBefore remaining) old taken fault
    string-refuses fault type len is denied = refuses-denied remaining old taken fault
        (string-denied remaining old taken mid h head type len is reads.kept.only fault denied)

-- ---- what is answered to a call for one item

abbrev pub TakesOne : {S W T A : Type 0} → Bool → (S → Option (List ℕ)) → ByteSource S W → ByteSource S W → Given A →
    (T → A) → Result T (Error (Unit {0})) → Type 0
TakesOne can_fail remaining = TakesOneItem (StandsBefore remaining) (IsUnread remaining) (HasTakenSince remaining)
    weight_left (fault_at can_fail remaining)

module _ {S W T A : Type 0} (can_fail : Bool) (remaining : S → Option (List ℕ)) {old new : ByteSource S W}
    {taken : Given A} {content : T → A} where
  pub takes-given : {v : T} → IsKept remaining old new → new.levels ≡ old.levels → new.pending ≡ None →
      weight_left new < weight_left old → Reads (IsUnread remaining) old new (Some old.levels) taken (content v) →
      TakesOne can_fail remaining old new taken content (Ok v)
  takes-given {v} kept levels none fewer h = record {
    ok = takes-read remaining old new taken (content v) kept levels none h;
    refused = tt;
    took = took-read remaining old new (Some old.levels) taken (content v) h;
    only = λ first t. kept.1 first.decoder t;
    less = fewer;
    no_more = tt;
  }

  pub takes-refused : {e : Error (Unit {0})} → TakesOnly (HasTaken remaining) old.decoder new.decoder →
      weight_left new ≤ weight_left old →
      RefusesAhead (StandsBefore remaining) old taken (fault_at can_fail remaining new e) → TakesOne can_fail remaining
      old new taken content (Err e)
  takes-refused only no_more h = record {
    ok = tt;
    refused = h;
    took = tt;
    only = λ first t. only first.decoder t;
    less = tt;
    no_more = no_more;
  }

  pub takes-denied : {e : Error (Unit {0})} → TakesOnly (HasTaken remaining) old.decoder new.decoder →
      weight_left new ≤ weight_left old →
      Denies (IsUnread remaining) (end_at remaining) old (Some old.levels) taken (fault_at can_fail remaining new e) →
      TakesOne can_fail remaining old new taken content (Err e)
  takes-denied {e} only no_more h = takes-refused only no_more
      (refuses-denied remaining old taken (fault_at can_fail remaining new e) h)

  pub takes-one : (r : Result T (Error (Unit {0}))) → PassesItem remaining old new r →
      AnswersItem can_fail remaining old new (Some old.levels) taken content r →
      TakesOne can_fail remaining old new taken content r
  takes-one (Ok v) keeps h = takes-given (is-kept keeps.kept) keeps.kept.levels keeps.kept.pending keeps.fewer h
  takes-one (Err e) keeps h = takes-denied keeps.kept.only keeps.kept.no_more h

-- the numbers of an array that was entered were read, or refused
pub array-one : {S W V : Type 0} (can_fail : Bool) (remaining : S → Option (List ℕ)) {old mid : ByteSource S W}
    {q : ByteSeq} → HasEnteredItems remaining old mid given_bytes (λ span is. take_each given_byte is) q →
    (new : ByteSource S W) (content : V → List ℕ) (r : Result V (Error (Unit {0}))) →
    TakesOnly (HasTakenSince remaining) mid new → OnErr r (weight_left new ≤ weight_left mid + seq_left q) →
    IfOk r (λ v. ReadsRest remaining mid new q (take_each given_byte) (content v)) →
    IfErr r (λ e. RefusesRest remaining mid q (take_each given_byte) (fault_at can_fail remaining new e)) →
    OnOk r (TakesTo (IsUnread remaining) mid new (λ c z. (b : List ℕ) → SeqOwes q an_array b c → HasItem b z)) →
    OnOk r (weight_left new ≤ weight_left mid + seq_left q) → TakesOne can_fail remaining old new given_bytes content r
array-one can_fail remaining begun new content (Ok v) only no_more ok refused took fewer = record {
  ok = array-takes begun new ok;
  refused = tt;
  took = array-took begun new took;
  only = λ first t. only first (begun.kept.1 first.decoder t);
  less = lt_of_le_of_lt fewer begun.fewer;
  no_more = tt;
}
array-one can_fail remaining begun new content (Err e) only no_more ok refused took fewer = record {
  ok = tt;
  refused = array-refuses begun new (fault_at can_fail remaining new e) refused;
  took = tt;
  only = λ first t. only first (begun.kept.1 first.decoder t);
  less = tt;
  no_more = le_trans no_more (le_of_lt begun.fewer);
}

module _ {S W T A : Type 0} {can_fail : Bool} {remaining : S → Option (List ℕ)} {old new : ByteSource S W}
    {taken : Given A} {content : T → A} where
  -- no head was read
  pub head-refused : {e : Error (Unit {0})} → ReadsBareHead can_fail remaining old new false (Err e) →
      DeniesItem (IsUnread remaining) (end_at remaining) old (fault_at can_fail remaining new e) → TakesOne can_fail
      remaining old new taken content (Err e)
  head-refused reads denied = takes-refused can_fail remaining reads.kept.only reads.kept.no_more
      (head-refuses taken reads denied)

  -- a head was taken, and what stands behind it was refused or read
  module _ {mid : ByteSource S W} {h : Header} {offset : ℕ}
      (reads : ReadsBareHead can_fail remaining old mid false (Ok (h, offset))) where
    pub behind-refused : {e : Error (Unit {0})} → TakesOnly (HasTaken remaining) mid.decoder new.decoder →
        weight_left new ≤ weight_left mid →
        RefusesAhead (StandsBefore remaining) old taken (fault_at can_fail remaining new e) → TakesOne can_fail
        remaining old new taken content (Err e)
    behind-refused only no_more = takes-refused can_fail remaining (λ first t. only first (reads.kept.only first t))
        (le_trans no_more reads.kept.no_more)

    pub behind-given : {v : T} → KeepsSource remaining mid new →
        Reads (IsUnread remaining) old new (Some old.levels) taken (content v) →
        TakesOne can_fail remaining old new taken content (Ok v)
    behind-given kept = takes-given can_fail remaining (is-kept (keeps-then reads.kept kept))
        (kept.levels ∙ reads.kept.levels) kept.pending (kept-fewer old mid new h reads.fewer reads.kept.pending kept)

    -- the payload of the string that it begins was read
    pub string-given : {v : T} → TakesBare (IsUnread remaining) old mid false h → (type : StringType) (len : Option ℕ) →
        h ≡ head_of type len → KeepsSource remaining mid new → (payload : List ℕ) →
        TakesContent (IsUnread remaining mid) (IsUnread remaining new) type len payload → ((ts : List ℕ) → AreSkipped
        false ts →
        outcome (Some old.levels) (taken (under ts (string_item type len payload))) ≡ gives (content v)) →
        TakesOne can_fail remaining old new taken content (Ok v)
    string-given {v} head type len is kept payload took give = behind-given kept
        (string-read remaining old taken mid h head type len is new payload (content v) took give)

    -- or refused
    pub string-one : (r : Result T (Error (Unit {0}))) (payload : T → List ℕ) →
        TakesBare (IsUnread remaining) old mid false h → (type : StringType) (len : Option ℕ) → h ≡ head_of type len →
        KeepsSource remaining mid new →
        IfOk r (λ v. TakesContent (IsUnread remaining mid) (IsUnread remaining new) type len (payload v)) →
        IfErr r (λ e. DeniesContent (IsUnread remaining mid) (end_at remaining mid) type len
        (fault_at can_fail remaining new e)) →
        ((v : T) (ts : List ℕ) → AreSkipped false ts →
        outcome (Some old.levels) (taken (under ts (string_item type len (payload v)))) ≡ gives (content v)) →
        TakesOne can_fail remaining old new taken content r
    string-one (Ok v) payload head type len is kept took denied give =
        string-given head type len is kept (payload v) took (give v)
    string-one (Err e) payload head type len is kept took denied give =
        behind-refused kept.only kept.no_more (string-refuses taken reads head _ type len is denied)

  -- just a head was taken
  module _ {h : Header} {offset : ℕ} (reads : ReadsBareHead can_fail remaining old new false (Ok (h, offset))) where
    pub bare-refused : {e : Error (Unit {0})} →
        RefusesAhead (StandsBefore remaining) old taken (fault_at can_fail remaining new e) → TakesOne can_fail
        remaining old new taken content (Err e)
    bare-refused = behind-refused reads (λ first t. t) (omega arith)

    -- it is all of the item
    pub whole-given : {v : T} → TakesBare (IsUnread remaining) old new false h → (k : Header) → h ≡ k → (i : Item) →
        ((x : List ℕ) → SpellsHeader x k → Spells x i) →
        ((ts : List ℕ) → AreSkipped false ts → outcome (Some old.levels) (taken (under ts i)) ≡ gives (content v)) →
        TakesOne can_fail remaining old new taken content (Ok v)
    whole-given {v} head k is i make give = behind-given reads (keeps-none remaining new reads.kept.pending)
        (reads-whole (IsUnread remaining) false k (Some old.levels) taken old new (content v) i
        (subst (TakesBare (IsUnread remaining) old new false) is head) make give)
