-- What is written of a struct by the labels of its fields is read back: a form has the same pairs
-- in another order, and of fields whose labels are apart no order makes a difference.
use Rattle.std.proofs.{Common.{ap, sym, subst, ◌∙◌}, lemmas.{Bool.Decides.Decides-int_eq, Slice.Eq.bytes_eq-Decides}}
use Rattle.std.specs.{List.AllByRecursion, Option.{is_some, unwrap_or}, Prelude.{◌≡◌, ℕ, suc, max, Bool, true, false}}
use Rattle.std.specs.Prelude.{List, [], ◌∷◌, Option, Some, None, Result, Ok, Err, IfOk, if◌then◌else◌, ◌&&◌, pos}
use Rattle.std.specs.Prelude.{negsuc, refl}
use Rattle.ciborium_ll.specs.{Item.Item, declared.kind.Kind.Kind}
use Rattle.ciborium_value.specs.Given.{Outcome, gives, outcome, outcome_map, refuses, settled, then_take, unpack_pairs}
use Rattle.ciborium_value.specs.Labels.{Label, fields_of, is_label, is_proper, label_item, named, numbered, other}
use Rattle.ciborium_value.specs.{Labels.given_label, Nesting.{Limit, IsWithin}, Places.{a_map, pairs_from}}
use Rattle.ciborium_value.specs.{Readings.Reading, ReadsBack.{IsItemRead, IsNameRead, Way, at, met, met-itself}}
use Rattle.ciborium_value.specs.{ReadsBack.{met-text, name-back}, Sinks.{Named, all_named, and_then, bignum_item}}
use Rattle.ciborium_value.specs.{Sinks.{contained, in_turn}, StructReadings.{Fields, FieldsGiven, end_of_fields, field}}
use Rattle.ciborium_value.specs.StructReadings.{field_filled, field_or, field_given, given_struct, no_field}
use Rattle.ciborium_value.specs.{StructReadings.{no_field_given, required, take_fields}, lemmas.GivenOutcomes.one_given}
use Rattle.ciborium_value.specs.lemmas.{MetItems.{ArePairsMet, inside, map-met}, ReadsBackParts.within-left}
use Rattle.ciborium_value.specs.lemmas.{ReadsBackParts.within-right, Reordered.{AreEach, AreReordered, all-reordered}}
use Rattle.ciborium_value.specs.lemmas.Reordered.{as_they_are, each-reordered, first_stays, neighbours, then_again}
use Rattle.ciborium_ll.specs.Item as items
use Rattle.ciborium_ll.specs.declared.kind.Kind.TheVariants as kinds

-- ---- labels

abbrev pub is_named : {A : Type 0} → Label → List (Label × A) → Bool
is_named name [] = false
is_named name (f ∷ fs) = if is_label f.0 name then true else is_named name fs

-- no two fields have one label, and each can be a key
abbrev pub are_apart : {A : Type 0} → List (Label × A) → Bool
are_apart [] = true
are_apart (f ∷ fs) = if is_named f.0 fs then false else is_proper f.0 && are_apart fs

pub neither : (s t : Bool) → (if s then true else t) ≡ false → (s ≡ false) × (t ≡ false)
neither true t h = cc
neither false t h = (refl, h)

pub first-apart : (s p t : Bool) → (if s then false else p && t) ≡ true → (s ≡ false) × (p ≡ true) × (t ≡ true)
first-apart false true t h = (refl, refl, h)
first-apart u v t h = cc

-- ---- what is written

-- the items that the fields name, names and values in turn
abbrev pub parts_of : List (Label × Named) → Result (List Item) Kind
parts_of fs = all_named (in_turn label_item (λ r. r) fs)

-- a key is met as one that is read as this label, whatever the limit
abbrev IsKeyMet : Way → Label → Item → Type 0
IsKeyMet way name i = (j : Item) → met way i ≡ gives j → (l : Limit) → outcome l (given_label j) ≡ gives name

key-met : (way : Way) (name : Label) (i : Item) → met way i ≡ gives i →
    ((l : Limit) → outcome l (given_label i) ≡ gives name) → IsKeyMet way name i
key-met way name i same read j e l = ap (λ x. outcome l (given_label x)) (one_given j i (sym e ∙ same)) ∙ read l

label-met : (way : Way) (name : Label) → is_proper name ≡ true → IfOk (label_item name) (IsKeyMet way name)
label-met way (named a) h = key-met way (named a) (items.text false a) (met-text a way) (λ l. refl)
label-met way (numbered (pos n)) h = subst (λ t. IfOk {E = Kind} (Ok (if t then items.unsigned n
    else bignum_item 2 n)) (IsKeyMet way (numbered (pos n)))) (sym h)
    (key-met way (numbered (pos n)) (items.unsigned n) (met-itself (items.unsigned n) refl (λ o. refl) way) (λ l. refl))
label-met way (numbered (negsuc n)) h = subst (λ t. IfOk {E = Kind} (Ok (if t then items.negative n
    else bignum_item 3 n)) (IsKeyMet way (numbered (negsuc n)))) (sym h)
    (key-met way (numbered (negsuc n)) (items.negative n)
    (met-itself (items.negative n) refl (λ o. refl) way) (λ l. refl))
label-met way other h = tt

pub same-label : (name : Label) → is_proper name ≡ true → is_label name name ≡ true
same-label (named a) h = (bytes_eq-Decides a a).1 refl
same-label (numbered z) h = (Decides-int_eq z z).1 refl
same-label other h = cc

-- of which nothing was read occurs not twice
pub nothing-twice : (once : Bool) → (once && false) ≡ false
nothing-twice true = refl
nothing-twice false = refl

-- ---- what reading a pair does

-- a label, what reading the value under it makes of what was read so far, and whether that refuses
-- the label
abbrev pub Act : Type 0 → Type 0
Act C = Label × ((C → C) × (C → Bool))

module _ {C : Type 0} where
  abbrev pub act : Act C → C → C
  act a c = a.1.0 c

  abbrev pub is_barred : Act C → C → Bool
  is_barred a c = a.1.1 c

  -- of all, in turn
  abbrev pub after_all : List (Act C) → C → C
  after_all [] c = c
  after_all (a ∷ rest) c = after_all rest (act a c)

  -- which of two comes first makes no difference
  abbrev pub AreFree : Act C → Act C → Type 0
  AreFree a b = (c : C) → (act a (act b c) ≡ act b (act a c)) ×
      (is_barred a (act b c) ≡ is_barred a c) × (is_barred b (act a c) ≡ is_barred b c)

  abbrev pub AllAreFree : List (Act C) → Type 0
  AllAreFree [] = Unit {0}
  AllAreFree (a ∷ rest) = AllByRecursion (AreFree a) rest × AllAreFree rest

  abbrev pub NoneIsBarred : C → List (Act C) → Type 0
  NoneIsBarred c xs = AllByRecursion (λ a. is_barred a c ≡ false) xs

  free-reordered : {xs ys : List (Act C)} → AreReordered xs ys → AllAreFree xs → AllAreFree ys
  free-reordered as_they_are h = h
  free-reordered (first_stays {x} r) h = (all-reordered (AreFree x) r h.0, free-reordered r h.1)
  free-reordered (neighbours {x} {y}) h = (
    ((λ c. (sym (h.0.0 c).0, (h.0.0 c).2, (h.0.0 c).1)), h.1.0),
    (h.0.1, h.1.1),
  )
  free-reordered (then_again r s) h = free-reordered s (free-reordered r h)

  after-reordered : {xs ys : List (Act C)} → AreReordered xs ys → AllAreFree xs → (c : C) →
      after_all xs c ≡ after_all ys c
  after-reordered as_they_are h c = refl
  after-reordered (first_stays {x} r) h c = after-reordered r h.1 (act x c)
  after-reordered (neighbours {xs = zs}) h c = ap (after_all zs) (sym (h.0.0 c).0)
  after-reordered (then_again r s) h c = after-reordered r h c ∙ after-reordered s (free-reordered r h) c

  -- after one of them
  still-none : (a : Act C) (xs : List (Act C)) (c : C) → AllByRecursion (AreFree a) xs →
      NoneIsBarred c xs → NoneIsBarred (act a c) xs
  still-none a [] c h n = tt
  still-none a (b ∷ xs) c h n = ((h.0 c).2 ∙ n.0, still-none a xs c h.1 n.1)

  -- a pair has this label, and is read so
  abbrev pub IsActRead : Limit → FieldsGiven C → Item × Item → Act C → Type 0
  IsActRead l fields p a = (outcome l (given_label p.0) ≡ gives a.0) ×
      ((c : C) → is_barred a c ≡ false → outcome l (fields a.0 c p.1) ≡ gives (act a c))

  all-read : (l : Limit) (fields : FieldsGiven C) (ps : List (Item × Item)) (xs : List (Act C)) →
      AreEach (IsActRead l fields) ps xs → AllAreFree xs → (c : C) → NoneIsBarred c xs →
      outcome l (take_fields fields c ps) ≡ gives (after_all xs c)
  all-read l fields [] [] h free c none = refl
  all-read l fields (p ∷ ps) (a ∷ xs) h free c none =
      ap (λ o. then_take (then_take o (λ name. outcome l (fields name c p.1)))
      (λ d. outcome l (take_fields fields d ps))) h.0.0 ∙
      ap (λ o. then_take o (λ d. outcome l (take_fields fields d ps))) (h.0.1 c none.0) ∙
      all-read l fields ps xs h.1 free.1 (act a c) (still-none a xs c free.0 none.1)
  all-read l fields u v h free c w = absurd h

-- ---- a field before others, whose acts leave it

module _ {T A C D : Type 0} (name : Label) (r : Reading T A) (behind : Fields C D) where
  abbrev all : FieldsGiven (Option A × C)
  all = field_given behind.once name r.taken behind.read

  -- the acts of the fields behind leave this one
  abbrev lift : Act C → Act (Option A × C)
  lift a = (a.0, ((λ c. (c.0, act a c.1)), λ c. is_barred a c.1))

  abbrev lifted : List (Act C) → List (Act (Option A × C))
  lifted [] = []
  lifted (a ∷ xs) = lift a ∷ lifted xs

  lifted-names : (n : Label) (xs : List (Act C)) → is_named n (lifted xs) ≡ is_named n xs
  lifted-names n [] = refl
  lifted-names n (a ∷ xs) = ap (λ t. if is_label a.0 n then true else t) (lifted-names n xs)

  each-lifted : (a : Act C) (xs : List (Act C)) → AllByRecursion (AreFree a) xs →
      AllByRecursion (AreFree (lift a)) (lifted xs)
  each-lifted a [] h = tt
  each-lifted a (b ∷ xs) h = (
    (λ c. let free = h.0 c.1 in (ap (λ d. (c.0, d)) free.0, free.1, free.2)),
    each-lifted a xs h.1,
  )

  all-lifted : (xs : List (Act C)) → AllAreFree xs → AllAreFree (lifted xs)
  all-lifted [] h = tt
  all-lifted (a ∷ xs) h = (each-lifted a xs h.0, all-lifted xs h.1)

  lifted-after : (xs : List (Act C)) (x : Option A) (c : C) → after_all (lifted xs) (x, c) ≡ (x, after_all xs c)
  lifted-after [] x c = refl
  lifted-after (a ∷ xs) x c = lifted-after xs x (act a c)

  lifted-none : (xs : List (Act C)) (x : Option A) (c : C) → NoneIsBarred c xs → NoneIsBarred (x, c) (lifted xs)
  lifted-none [] x c h = tt
  lifted-none (a ∷ xs) x c h = (h.0, lifted-none xs x c h.1)

  -- what is under the label of this field
  abbrev this : Limit → Option A × C → Item → Outcome (Option A × C)
  this l c i = if behind.once && is_some c.0 then refuses kinds.DuplicateKey
      else outcome_map (λ w. (Some w, c.1)) (outcome l (r.taken i))

  lifted-read : (l : Limit) (ps : List (Item × Item)) (xs : List (Act C)) →
      is_named name xs ≡ false → AreEach (IsActRead l behind.read) ps xs → AreEach (IsActRead l all) ps (lifted xs)
  lifted-read l [] [] e h = tt
  lifted-read l (p ∷ ps) (a ∷ xs) e h =
      let both = neither (is_label a.0 name) (is_named name xs) e in (
        (
          h.0.0,
          λ c free. ap (λ t. if t then this l c p.1
              else outcome_map (λ d. (c.0, d)) (outcome l (behind.read a.0 c.1 p.1)))
              both.0 ∙ ap (outcome_map (λ d. (c.0, d))) (h.0.1 c.1 free),
        ),
        lifted-read l ps xs both.1 h.1,
      )
  lifted-read l u v e h = absurd h

  -- the act of this field
  abbrev own : A → Act (Option A × C)
  own a = (name, ((λ c. (Some a, c.1)), λ c. behind.once && is_some c.0))

  own-free : (a : A) (xs : List (Act C)) → AllByRecursion (AreFree (own a)) (lifted xs)
  own-free a [] = tt
  own-free a (b ∷ xs) = ((λ c. (refl, refl, refl)), own-free a xs)

-- ---- fields

-- what is met of the pairs of these items is read so, where so many levels are left
abbrev AreActsRead : {C : Type 0} → Way → FieldsGiven C → List (Act C) → ℕ → List Item → Type 0
AreActsRead way fields xs n is = (ps : List (Item × Item)) → ArePairsMet way (pairs_from is) ps →
    (l : Limit) → IsWithin l n → AreEach (IsActRead l fields) ps xs

-- what these write is read as these fields, where so many levels are left
pub record FieldsReadBack {C D : Type 0} (way : Way) (fields : Fields C D)
    (fs : List (Label × Named)) (d : D) (n : ℕ) : Type 0 where
  pub acts : List (Act C)
  pub names : (name : Label) → is_named name acts ≡ is_named name fs
  pub free : AllAreFree acts
  pub none : NoneIsBarred fields.start acts
  pub read : are_apart fs ≡ true → IfOk (parts_of fs) (AreActsRead way fields.read acts n)
  pub complete : fields.complete (after_all acts fields.start) ≡ Ok d

pub end_back : {way : Way} (once : Bool) (others : FieldsGiven (Unit {0})) →
    FieldsReadBack way (end_of_fields once others) [] tt 0
end_back once others = record {
  acts = [];
  names = λ name. refl;
  free = tt;
  none = tt;
  read = λ apart. elim [ [] ↦ λ each l fits. tt | p ∷ ps ↦ λ each. absurd each ];
  complete = refl;
}

-- the end
pub no_field_back : {way : Way} → FieldsReadBack way no_field [] tt 0
no_field_back = end_back false no_field_given

module _ (way : Way) {T A C D : Type 0} (name : Label) (r : Reading T A) (behind : Fields C D) where
  own-read : (a : A) (k w : Named) (rest : Result (List Item) Kind) (xs : List (Act C)) (n m : ℕ) →
      IfOk k (IsKeyMet way name) → is_label name name ≡ true → is_named name xs ≡ false →
      IfOk w (IsItemRead way r.taken a n) → IfOk rest (AreActsRead way behind.read xs m) →
      IfOk (and_then k (and_then w rest)) (AreActsRead way (all name r behind)
      (own name r behind a ∷ lifted name r behind xs) (max n m))
  own-read a (Ok k) (Ok i) (Ok is) xs n m key same new given more = elim [
    | [] ↦ λ each. absurd each
    | p ∷ ps ↦ λ each l fits. (
      (
        key p.0 each.0 l,
        λ c free. ap (λ t. if t then this name r behind l c p.1
            else outcome_map (λ d. (c.0, d)) (outcome l (behind.read name c.1 p.1)))
            same ∙ ap (λ t. if t then refuses kinds.DuplicateKey
            else outcome_map (λ w. (Some w, c.1)) (outcome l (r.taken p.1))) free ∙
            ap (outcome_map (λ w. (Some w, c.1)))
            (given p.1 each.1 l (within-left l n m fits)),
      ),
      lifted-read name r behind l ps xs new (more ps each.2 l (within-right l n m fits)),
    )
  ]
  own-read a u v w xs n m key same new given more = tt

  left-read : (rest : Result (List Item) Kind) (xs : List (Act C)) (m : ℕ) →
      is_named name xs ≡ false → IfOk rest (AreActsRead way behind.read xs m) →
      IfOk rest (AreActsRead way (all name r behind) (lifted name r behind xs) m)
  left-read (Ok is) xs m new more = λ ps each l fits. lifted-read name r behind l ps xs new (more ps each l fits)
  left-read (Err k) xs m new more = tt

module _ {way : Way} where
  -- a field under its label, and those behind it
  pub field_filled_back : {T A C D : Type 0} (name : Label) (r : Reading T A)
      (fill : Option A → Option A) {behind : Fields C D} {fs : List (Label × Named)} {d : D} {m : ℕ}
      {w : Named} {a : A} {n : ℕ} → fill (Some a) ≡ Some a → IsNameRead way w r.taken a n →
      FieldsReadBack way behind fs d m →
      FieldsReadBack way (field_filled name r fill behind) ((name, w) ∷ fs) (a, d) (max n m)
  field_filled_back name r fill {behind = behind} {fs = fs} {d = d} {m = m} {w = w} {a = a} {n = n}
      full law rest = record {
        acts = own name r behind a ∷ lifted name r behind rest.acts;
        names = λ x. ap (λ t. if is_label name x then true else t)
            (lifted-names name r behind x rest.acts ∙ rest.names x);
        free = (
          own-free name r behind a rest.acts,
          all-lifted name r behind rest.acts rest.free,
        );
        none = (
          nothing-twice behind.once,
          lifted-none name r behind rest.acts None behind.start rest.none,
        );
        read = λ apart.
            let (new, proper, more) = first-apart (is_named name fs) (is_proper name) (are_apart fs)
            apart in
            own-read way name r behind a (label_item name) w (parts_of fs) rest.acts n m
            (label-met way name proper) (same-label name proper) (rest.names name ∙ new) (at law)
            (rest.read more);
        complete = ap (λ c. required (fill c.0) (behind.complete c.1))
            (lifted-after name r behind rest.acts (Some a) behind.start) ∙
            ap (λ x. required x (behind.complete (after_all rest.acts behind.start))) full ∙
            ap (required (Some a)) rest.complete;
      }

  pub field_back : {T A C D : Type 0} (name : Label) (r : Reading T A) {behind : Fields C D}
      {fs : List (Label × Named)} {d : D} {m : ℕ} {w : Named} {a : A} {n : ℕ} → IsNameRead way w r.taken a n →
      FieldsReadBack way behind fs d m → FieldsReadBack way (field name r behind) ((name, w) ∷ fs) (a, d) (max n m)
  field_back name r law rest = field_filled_back name r (λ o. o) refl law rest

  -- one that could be left out
  pub field_or_back : {T A C D : Type 0} (name : Label) (r : Reading T A) (default : A)
      {behind : Fields C D} {fs : List (Label × Named)} {d : D} {m : ℕ} {w : Named} {a : A} {n : ℕ}
      → IsNameRead way w r.taken a n → FieldsReadBack way behind fs d m →
      FieldsReadBack way (field_or name r default behind) ((name, w) ∷ fs) (a, d) (max n m)
  field_or_back name r default law rest = field_filled_back name r (λ o. Some (unwrap_or o default)) refl law rest

  -- one that is left out, and those behind it
  pub left_out_back : {T A C D : Type 0} (name : Label) (r : Reading T A) (default : A)
      {behind : Fields C D} {fs : List (Label × Named)} {d : D} {m : ℕ} → is_named name fs ≡ false →
      FieldsReadBack way behind fs d m → FieldsReadBack way (field_or name r default behind) fs (default, d) m
  left_out_back name r default {behind = behind} {fs = fs} {d = d} {m = m} new rest = record {
    acts = lifted name r behind rest.acts;
    names = λ x. lifted-names name r behind x rest.acts ∙ rest.names x;
    free = all-lifted name r behind rest.acts rest.free;
    none = lifted-none name r behind rest.acts None behind.start rest.none;
    read = λ apart. left-read way name r behind (parts_of fs) rest.acts m (rest.names name ∙ new)
        (rest.read apart);
    complete = ap (λ c. required (Some (unwrap_or c.0 default)) (behind.complete c.1))
        (lifted-after name r behind rest.acts None behind.start) ∙
        ap (required (Some default)) rest.complete;
  }

  -- a struct of these fields, whose labels are apart
  pub fields_read_back : {C D : Type 0} {fields : Fields C D} {fs : List (Label × Named)} {d : D}
      {n : ℕ} → FieldsReadBack way fields fs d n → are_apart fs ≡ true →
      IsNameRead way (fields_of fs) (given_struct fields) d (suc n)
  fields_read_back {fields = fields} {fs = fs} {d = d} {n = n} law apart =
      name-back (fields_of fs) (by (parts_of fs) (law.read apart))
    where
      by : (s : Result (List Item) Kind) → IfOk s (AreActsRead way fields.read law.acts n) →
          IfOk (contained a_map false s) (IsItemRead way (given_struct fields) d (suc n))
      by (Ok is) h = λ j e l fits.
          let (qs, ps, each, order, same) = map-met way (pairs_from is) j e in
          subst (λ x. outcome l (given_struct fields x) ≡ gives d) same
          (ap (λ o. then_take o (λ c. settled (fields.complete c)))
          (inside (λ p. p.0) (λ p. take_fields fields.read fields.start p.1) (true, unpack_pairs ps)
          (after_all law.acts fields.start) n refl
          (λ m less.
          let (xs, turned, all) = each-reordered (IsActRead m fields.read) order law.acts
          (h qs each m less) in
          all-read m fields.read (unpack_pairs ps) xs all (free-reordered turned law.free)
          fields.start
          (all-reordered (λ a. is_barred a fields.start ≡ false) turned law.none) ∙
          ap gives (sym (after-reordered turned law.free fields.start))) l fits) ∙
          ap settled law.complete)
      by (Err k) h = tt
