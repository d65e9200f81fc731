-- Values are written one after the other: how far, and what it says of all.
use Rattle.std.proofs.Common.{◌≡◌, ℕ, ◌+◌, ◌<◌, ◌≤◌, List, [], ◌∷◌, ◌++◌, length, take, Option, Ok, Err, refl, sym, ap}
use Rattle.std.proofs.Common.{◌∙◌, subst, append-nil, append_assoc, arith, drop, get_or, length-append, map}
use Rattle.std.proofs.KnownBytes.{Appends-nil}
use Rattle.std.proofs.{KnownBytes.Appends-trans, Math.Seq.take-append-add, lemmas.List.take-append-le}
use Rattle.std.specs.Io.KnownBytes.{Appends}
use Rattle.ciborium_ll.specs.{Item.Item, Writing.Writes}
use Rattle.ciborium_value.proofs.Writing.{Progress.{next_part, no_part}, Standing.items_bytes-append}
use Rattle.ciborium_value.specs.Encoding.{items_bytes, written_bytes}
use Rattle.ciborium_value.specs.{Places.items_from, Progress.IsOwedAmong, Sinks.{Named, Cause, value, IsOwed}}
use Rattle.ciborium_value.specs.{Sinks.{all_named, and_then}, WrittenItems.AreWritten}
use Rattle.ciborium.{proofs.Writing.WrittenPlaces.AreWritten-more, specs.SequenceWrites.{AllNamed, AreNamedWritten}}
use Rattle.ciborium.specs.{SequenceWrites.WritesInTurn, Writes.{IsNamedWritten, WritesNamed}}

-- these items, and then what the others name
abbrev pub named_behind : List Item → AllNamed → AllNamed
named_behind done (Ok is) = Ok (done ++ is)
named_behind done (Err k) = Err k

-- of these parts the first are written, behind what the writer held, and the rest is left
pub record HasWritten (parts : List Named) (old new : Option (List ℕ)) (rest : List Named) : Type 0 where
  pub done : List Item
  pub split : all_named parts ≡ named_behind done (all_named rest)
  pub written : AreWritten (items_from done)
  pub out : Appends old new (items_bytes (items_from done))

behind-none : (r : AllNamed) → r ≡ named_behind [] r
behind-none (Ok is) = refl
behind-none (Err k) = refl

behind-more : (done : List Item) (i : Item) (r : AllNamed) →
    named_behind done (and_then (Ok i) r) ≡ named_behind (done ++ i ∷ []) r
behind-more done i (Ok is) = ap Ok (sym (append_assoc done (i ∷ []) is))
behind-more done i (Err k) = refl

-- a beginning of the bytes of one item is one of all behind the others
part-of-all : (E : Type 0) (old mid new : Option (List ℕ)) (e : E) (done js : List Item) (i : Item) →
    Appends old mid (items_bytes (items_from done)) → Writes {E = E} mid new (Err e) (written_bytes i) →
    Writes {E = E} old new (Err e) (items_bytes (items_from (done ++ i ∷ js)))
part-of-all E old mid new e done js i before (k, less, part) =
    let a : List ℕ = items_bytes (items_from done) in
    let w : List ℕ = written_bytes i in
    let z : List ℕ = items_bytes (items_from js) in
    let all : items_bytes (items_from (done ++ i ∷ js)) ≡ a ++ (w ++ z) = items_bytes-append done (i ∷ js) in
    let within : k ≤ length w = omega arith in
    let begins : take (length a + k) (a ++ (w ++ z)) ≡ a ++ take k w = take-append-add a (w ++ z) k ∙
    ap (λ x. a ++ x) (take-append-le k w z within) in
    subst (λ b. (m : ℕ) × (m < length b) × Appends old new (take m b)) (sym all) (
      length a + k,
      omega (arith, less, length-append a (w ++ z), length-append w z),
      subst (Appends old new) (sym begins) (Appends-trans old mid new a (take k w) before part),
    )

module _ {parts : List Named} {old : Option (List ℕ)} where
  pub none-written : HasWritten parts old old parts
  none-written = record { done = []; split = behind-none (all_named parts); written = tt; out = Appends-nil old }

  pub part-written : {A : Type 0} (f : A → Named) {mid : Option (List ℕ)} (xs : List A) (k : ℕ) {x : A} →
      k < length xs → x ≡ get_or xs k x → HasWritten parts old mid (map f (drop k xs)) →
      HasWritten parts old mid (f x ∷ map f (drop (k + 1) xs))
  part-written f {mid} xs k {x} less is = subst (HasWritten parts old mid) (next_part f xs k x less is)

  pub no-part-written : {A : Type 0} (f : A → Named) {mid : Option (List ℕ)} (xs : List A) (k : ℕ) → length xs ≤ k →
      HasWritten parts old mid (map f (drop k xs)) → HasWritten parts old mid []
  no-part-written f {mid} xs k all = subst (HasWritten parts old mid) (no_part f xs k all)

  one-more : (E : Type 0) (mid new : Option (List ℕ)) (u : Unit {0}) (x : Named) (rest : List Named) →
      HasWritten parts old mid (x ∷ rest) → WritesNamed {E = E} mid new (Ok u) x → IsNamedWritten x →
      HasWritten parts old new rest
  one-more E mid new u (Ok i) rest w out fits = record {
    done = w.done ++ i ∷ [];
    split = w.split ∙ behind-more w.done i (all_named rest);
    written = AreWritten-more w.done i w.written fits;
    out = subst (Appends old new) (ap (λ z. items_bytes (items_from w.done) ++ z) (sym (append-nil (written_bytes i))) ∙
        sym (items_bytes-append w.done (i ∷ []))) (Appends-trans old mid new (items_bytes (items_from w.done))
        (written_bytes i) w.out out);
  }
  one-more E mid new u (Err k) rest w out fits = absurd fits

  pub one-more-written : (E : Type 0) {mid new : Option (List ℕ)} (u : Unit {0}) {x : Named} {rest : List Named} →
      HasWritten parts old mid (x ∷ rest) → WritesNamed {E = E} mid new (Ok u) x → IsNamedWritten x →
      HasWritten parts old new rest
  one-more-written E {mid} {new} u {x} {rest} = one-more E mid new u x rest

  all-named : (new : Option (List ℕ)) (w : HasWritten parts old new []) → all_named parts ≡ Ok w.done
  all-named new w = w.split ∙ ap Ok (append-nil w.done)

  pub all-out : (E : Type 0) {new : Option (List ℕ)} (u : Unit {0}) → HasWritten parts old new [] →
      WritesInTurn {E = E} old new (Ok u) (all_named parts)
  all-out E {new} u w = subst (WritesInTurn {E = E} old new (Ok u)) (sym (all-named new w)) w.out

  pub all-written : {new : Option (List ℕ)} → HasWritten parts old new [] → AreNamedWritten (all_named parts)
  all-written {new} w = subst AreNamedWritten (sym (all-named new w)) w.written

  pub part-out : (E : Type 0) {mid : Option (List ℕ)} (new : Option (List ℕ)) (e : E) {x : Named} {rest : List Named} →
      HasWritten parts old mid (x ∷ rest) → WritesNamed {E = E} mid new (Err e) x →
      WritesInTurn {E = E} old new (Err e) (all_named parts)
  part-out E {mid} new e {x} {rest} w out = subst (WritesInTurn {E = E} old new (Err e)) (sym w.split)
      (by x (all_named rest) out)
    where
      by : (x : Named) (r : AllNamed) → WritesNamed {E = E} mid new (Err e) x →
          WritesInTurn {E = E} old new (Err e) (named_behind w.done (and_then x r))
      by (Ok i) (Ok js) out = part-of-all E old mid new e w.done js i w.out out
      by (Ok i) (Err k) out = refl
      by (Err k) r out = refl

  pub owed-among : {mid : Option (List ℕ)} (cause : Cause) {x : Named} {rest : List Named} →
      HasWritten parts old mid (x ∷ rest) → IsOwed cause x → IsOwedAmong cause parts
  owed-among {mid} (value k) {x} {rest} w owed =
      w.split ∙ ap (λ y. named_behind w.done (and_then y (all_named rest))) owed
  owed-among u w owed = tt
