-- One more line is read and answered.
use Rattle.std.proofs.Common.{◌≡◌, ℕ, ◌<◌, List, [], ◌∷◌, ◌++◌, length, Bool, true, false, ◌&&◌, Option, Some, None}
use Rattle.std.proofs.Common.{Result, Ok, Err, IfOk, inl, refl, sym, ap, subst, ◌∙◌, append-nil}
use Rattle.std.proofs.{lemmas.List.{append_assoc, flat_map_more}, lemmas.List.Folds.list_all-append}
use Rattle.std.specs.{Bool.MatchBool, declared.io.buffered.BufReader.BufReader, Io.BufRead.drop_through}
use Rattle.std.specs.{Io.KnownBytes.{Keeps, append_known}, Io.Buffered.{reader_remaining, reader_inner, reader_buffer}}
use Rattle.std.specs.Io.Buffered.{reader_capacity}
use Rattle.cbor.specs.{declared.reading.Reading.Reading, Lines.{AnswersLine, AreAnswered, AreAnsweredBy, MayBeAnswer}}
use Rattle.cbor.specs.Lines.{all_ok, answer_lines, first_line, text_line}
use Rattle.cbor.specs.Lines as lines

-- a new reader shows what the reader in it has
pub begins-with : {T A : Type 0} (remaining : T → Option (List ℕ)) (r : BufReader T A) (inner : T) (b : List ℕ) →
    reader_inner r ≡ inner → reader_buffer r ≡ [] →
    reader_capacity r ≡ 8192 → remaining inner ≡ Some b → reader_remaining remaining r ≡ Some b
begins-with remaining r inner b same empty room e = rw (room, empty, same, e) refl

-- the rest of b is left, and the lines before it are answered behind w; all says whether each is as it is asked for
abbrev pub IsLeft : Reading → List ℕ → List ℕ → Bool → Option (List ℕ) → Option (List ℕ) → Type 0
IsLeft reading b w all left held = (rest : List ℕ) × (answers : List (Bool × List ℕ)) × (left ≡ Some rest) ×
    AreAnsweredBy reading b rest answers × (all ≡ all_ok answers) × (held ≡ Some (w ++ answer_lines answers))

-- no line is answered yet
pub none-answered : (reading : Reading) (b w : List ℕ) (left held : Option (List ℕ)) → left ≡ Some b →
    held ≡ Some w → IsLeft reading b w true left held
none-answered reading b w left held e f = (b, [], e, lines.none, refl, f ∙ ap Some (sym (append-nil w)))

-- what reading a line says, and what writing its answer says
abbrev pub LineIsRead : Option (List ℕ) → Option (List ℕ) → List ℕ → Bool → Type 0
LineIsRead left next line more = (xs : List ℕ) → left ≡ Some xs →
    MatchBool more ((0 < length xs) × (line ≡ first_line xs) × (next ≡ Some (drop_through 10 xs))) (xs ≡ [])

module _ (left next : Option (List ℕ)) (line : List ℕ) (more : Bool) (rest : List ℕ)
    (read : LineIsRead left next line more) where
  -- there is a line
  pub line-ahead : more ≡ true → left ≡ Some rest → (0 < length rest) × (line ≡ first_line rest) ×
      (next ≡ Some (drop_through 10 rest))
  line-ahead m e = subst (λ (v : Bool). MatchBool v ((0 < length rest) × (line ≡ first_line rest) ×
      (next ≡ Some (drop_through 10 rest))) (rest ≡ [])) m (read rest e)

  -- there is none
  pub none-ahead : more ≡ false → left ≡ Some rest → rest ≡ []
  none-ahead m e = subst (λ (v : Bool). MatchBool v ((0 < length rest) × (line ≡ first_line rest) ×
      (next ≡ Some (drop_through 10 rest))) (rest ≡ [])) m (read rest e)

abbrev pub IsHeld : Option (List ℕ) → Option (List ℕ) → Type 0
IsHeld held now = (ys : List ℕ) → held ≡ Some ys → now ≡ Some ys

abbrev pub AnswerIsHeld : Reading → List ℕ → Bool → Option (List ℕ) → Option (List ℕ) → Type 0
AnswerIsHeld reading line is_ok held now = (ys : List ℕ) → held ≡ Some ys → (text : List ℕ) ×
    MayBeAnswer reading line is_ok text × (now ≡ Some (ys ++ text_line text))

pub and-true : (x : Bool) → (x && true) ≡ x
and-true true = refl
and-true false = refl

all-more : (answers : List (Bool × List ℕ)) (a : Bool × List ℕ) → all_ok (answers ++ (a ∷ [])) ≡ (all_ok answers && a.0)
all-more answers a = list_all-append (λ x. x.0) answers (a ∷ []) ∙ ap (λ (x : Bool). all_ok answers && x) (and-true a.0)

-- one more line is answered
pub one-more : (reading : Reading) (b w : List ℕ) (all is_ok : Bool) (left next held kept now : Option (List ℕ))
    (line shown : List ℕ) (more : Bool) → IsLeft reading b w all left held →
    LineIsRead left next line more → more ≡ true → IsHeld held kept → shown ≡ line →
    AnswerIsHeld reading shown is_ok kept now → IsLeft reading b w (all && is_ok) next now
one-more reading b w all is_ok left next held kept now line shown more (rest, answers, e, a, every, f) read m keeps same
    wrote =
    let h = line-ahead left next line more rest read m e in
    let t = wrote (w ++ answer_lines answers) (keeps (w ++ answer_lines answers) f) in (
      drop_through 10 rest,
      answers ++ ((is_ok, t.0) ∷ []),
      h.2,
      lines.next rest answers (is_ok, t.0) a h.0
          (subst (λ (l : List ℕ). MayBeAnswer reading l is_ok t.0) (same ∙ h.1) t.1),
      ap (λ (x : Bool). x && is_ok) every ∙ sym (all-more answers (is_ok, t.0)),
      t.2 ∙ ap Some (flat_map_more (λ (x : Bool × List ℕ). text_line x.1) w answers (is_ok, t.0)),
    )

-- no line is left
pub none-left : (reading : Reading) (b w : List ℕ) (all : Bool) (left next held kept : Option (List ℕ)) (line : List ℕ)
    (more : Bool) → IsLeft reading b w all left held →
    LineIsRead left next line more → more ≡ false → IsHeld held kept → AreAnswered reading b w all kept
none-left reading b w all left next held kept line more (rest, answers, e, a, every, f) read m keeps = (
  answers,
  subst (λ (r : List ℕ). AreAnsweredBy reading b r answers) (none-ahead left next line more rest read m e) a,
  every,
  keeps (w ++ answer_lines answers) f,
)

pub still : (held now : Option (List ℕ)) (xs : List ℕ) → Keeps held now → held ≡ Some xs → now ≡ Some xs
still None now xs k e = absurd cc
still (Some ys) None xs k e = absurd k
still (Some ys) (Some zs) xs k e = cc

-- a text and its line feed are put behind what is held
pub line-held : (reading : Reading) (line : List ℕ) (is_ok : Bool) (text feed w : List ℕ)
    (held once now : Option (List ℕ)) → AnswersLine reading line is_ok text → feed ≡ 10 ∷ [] →
    ((ys : List ℕ) → held ≡ Some ys → once ≡ Some (ys ++ text)) →
    ((ys : List ℕ) → once ≡ Some ys → now ≡ Some (ys ++ feed)) → held ≡ Some w →
    (t : List ℕ) × MayBeAnswer reading line is_ok t × (now ≡ Some (w ++ text_line t))
line-held reading line is_ok text feed w held once now is same first second e = (
  text,
  inl is,
  second (w ++ text) (first w e) ∙ ap Some
      (append_assoc w text feed ∙ ap (λ (f : List ℕ). w ++ (text ++ f)) same),
)

-- nothing waits
pub held-empty : (w : List ℕ) (held : Option (List ℕ)) (waiting : List ℕ) → held ≡ Some w → waiting ≡ [] →
    append_known held waiting ≡ Some w
held-empty w None waiting e none = absurd cc
held-empty w (Some xs) waiting e none = rw none (ap Some (append-nil xs) ∙ e)

-- ---- what a call that kept or sent what is held leaves, where the run before it did not fail

pub answered-still : (reading : Reading) (b w : List ℕ) (all : Bool) (held now : Option (List ℕ)) → IsHeld held now →
    AreAnswered reading b w all held → AreAnswered reading b w all now
answered-still reading b w all held now keeps (answers, a, every, e) =
    (answers, a, every, keeps (w ++ answer_lines answers) e)

pub sent-each : {E : Type 0} (P Q : Bool → Type 0) (r : Result Bool E) → ((all : Bool) → P all → Q all) → IfOk r P →
    IfOk r Q
sent-each P Q (Ok v) keep h = keep v h
sent-each P Q (Err x) keep h = tt

pub flushed-each : {E : Type 0} (P Q : Bool → Type 0) (done r : Result Bool E) → IfOk r (λ all. done ≡ Ok all) →
    ((all : Bool) → P all → Q all) → IfOk done P → IfOk r Q
flushed-each P Q done (Ok v) same keep h = keep v (subst (λ (d : Result Bool _). IfOk d P) same h)
flushed-each P Q done (Err x) same keep h = tt
