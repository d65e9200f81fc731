-- What words ask for is one thing.
use Rattle.std.proofs.Common.{◌≡◌, ◌≢◌, ℕ, ◌<◌, ◌≤◌, ◌-◌, ◌==◌, Bool, true, false, List, [], ◌∷◌, get_or, map, sum}
use Rattle.std.proofs.Common.{length, take, drop, if◌then◌else◌, Option, Some, None, MatchOption, refl, IsSome, ◌⊎◌}
use Rattle.std.proofs.Common.{inl, inr, codes, sym, subst, ◌∙◌, ap, ap₂, arith, nat_le, ◌&&◌}
use Rattle.std.{proofs.lemmas.{Bool.Decides.nat_tests, List.take_all}, specs.{Bool.MatchBool, Char.digit_value}}
use Rattle.std.specs.List.{list_all}
use Rattle.ciborium_value.specs.declared.key_order.KeyOrder.TheVariants.{LengthFirst, Bytewise}
use Rattle.cbor.specs.Words.{AreWordsFor, AskForNothing, AskFor, NameLimit, NameLimitBehind, command_limit}
use Rattle.cbor.specs.{Words.command_words, declared.command.Command.{Command, TheVariants.{Answer, Sort, Show}}}
use Rattle.cbor.specs.declared.command.{Command.TheVariants.{ShowExactly, Dump, Encode, Tell}, Topic.TheVariants.Help}
use Rattle.cbor.specs.declared.{command.Topic.TheVariants.Version, reading.Layout.TheVariants.{OneLine, Indented}}
use Rattle.cbor.specs.declared.reading.{Showing.Showing, Spelling.TheVariants.{Any, Deterministic}}
use Rattle.cbor.specs.declared.reading.Reading.TheVariants as readings
use Rattle.cbor.specs.declared.reading.Showing.TheVariants as showings

-- ---- words ask for one command

-- a word that begins with no digit
abbrev IsName : List ℕ → Type 0
IsName word = digit_value (get_or word 0 0) < 10 → ⊥

abbrev AreNames : List (List ℕ) → Type 0
AreNames [] = Unit
AreNames (word ∷ words) = IsName word × AreNames words

-- it names no limit
no-limit : (name : List ℕ) (others : List (List ℕ)) (n : ℕ) → IsName name → NameLimit (name ∷ others) n → ⊥
no-limit [] [] n is h = omega (arith, h.0.0.0)
no-limit (x ∷ xs) [] n is h = is h.0.0.1.0
no-limit name (first ∷ others) n is h = absurd h

one-limit : (words : List (List ℕ)) (m n : ℕ) → NameLimit words m → NameLimit words n → m ≡ n
one-limit [] m n p q = p ∙ sym q
one-limit (limit ∷ []) m n p q = p.1 ∙ sym q.1
one-limit (first ∷ (second ∷ others)) m n p q = absurd p

-- words begin with the same names before a limit
one-prefix : (f g words : List (List ℕ)) (m n : ℕ) → AreNames f → AreNames g → NameLimitBehind f words m →
    NameLimitBehind g words n → (f ≡ g) × (m ≡ n)
one-prefix [] [] words m n a b p q = (refl, one-limit words m n p q)
one-prefix [] (g ∷ gs) [] m n a b p q = absurd q
one-prefix [] (g ∷ gs) (w ∷ ws) m n a b p q = absurd (no-limit g ws m b.0
    (subst (λ (v : List ℕ). NameLimit (v ∷ ws) m) q.0 p))
one-prefix (f ∷ fs) [] [] m n a b p q = absurd p
one-prefix (f ∷ fs) [] (w ∷ ws) m n a b p q = absurd (no-limit f ws n a.0
    (subst (λ (v : List ℕ). NameLimit (v ∷ ws) n) p.0 q))
one-prefix (f ∷ fs) (g ∷ gs) [] m n a b p q = absurd p
one-prefix (f ∷ fs) (g ∷ gs) (w ∷ ws) m n a b p q =
    let rest = one-prefix fs gs ws m n a.1 b.1 p.1 q.1 in
    (ap₂ (λ (x : List ℕ) (xs : List (List ℕ)). x ∷ xs) (sym p.0 ∙ q.0) rest.0, rest.1)

-- words name themselves, and no limit behind them
no-others : (words : List (List ℕ)) → NameLimitBehind words words 256
no-others [] = refl
no-others (word ∷ words) = (refl, no-others words)

or-default : Option ℕ → ℕ
or-default None = 256
or-default (Some n) = n

-- the limit of a command, also where it takes none
limit_of : Command → ℕ
limit_of command = or-default (command_limit command)

named : (words : List (List ℕ)) (command : Command) → AreWordsFor words command →
    NameLimitBehind (command_words command) words (limit_of command)
unfolding limit_of or-default
named words command asked = by (command_limit command) asked
  where
    by : (o : Option ℕ) → MatchOption o (words ≡ command_words command)
        (λ n. NameLimitBehind (command_words command) words n) →
        NameLimitBehind (command_words command) words (or-default o)
    by None same = subst (λ ws. NameLimitBehind (command_words command) ws 256) (sym same)
        (no-others (command_words command))
    by (Some n) limited = limited

-- a test that the words of each command pass
is_name : List ℕ → Bool
is_name word = nat_le 10 (digit_value (get_or word 0 0))

tested : (words : List (List ℕ)) → list_all is_name words ≡ true → AreNames words
unfolding is_name
tested [] h = tt
tested (word ∷ words) h = by (is_name word) refl (tested words) h
  where
    by : (b : Bool) → is_name word ≡ b → (list_all is_name words ≡ true → AreNames words) →
        (b && list_all is_name words) ≡ true → AreNames (word ∷ words)
    by true e rest h = ((λ digit. grind (arith, nat_tests)), rest h)
    by false e rest h = absurd cc

all-names : (command : Command) → list_all is_name (command_words command) ≡ true
unfolding is_name
all-names (Answer (readings.Item (Deterministic LengthFirst) n)) = refl
all-names (Answer (readings.Form LengthFirst n)) = refl
all-names (Answer (readings.Notation OneLine n)) = refl
all-names (Sort LengthFirst) = refl
all-names (Show (showings.Encoding (Deterministic LengthFirst)) n) = refl
all-names (Show (showings.Notation OneLine) n) = refl
all-names (Show (showings.Form LengthFirst) n) = refl
all-names (Tell Help) = refl
all-names command = refl

-- the letters of words tell their command apart
letters : List (List ℕ) → ℕ
letters words = sum (map sum words)

command-of : ℕ → ℕ → Command
command-of total n = if total == 412 then Answer (readings.Item Any n)
    else if total == 819 then Answer (readings.Item (Deterministic LengthFirst) n)
    else if total == 1334 then Answer (readings.Item (Deterministic Bytewise) n)
    else if total == 329 then Answer readings.Sequence else if total == 527 then Answer (readings.Form LengthFirst n)
    else if total == 1042 then Answer (readings.Form Bytewise n)
    else if total == 405 then Answer (readings.Notation OneLine n)
    else if total == 1137 then Answer (readings.Notation Indented n)
    else if total == 438 then Answer readings.Dump else if total == 1028 then Answer readings.Exact
    else if total == 622 then Answer (readings.Encode n) else if total == 456 then Sort LengthFirst
    else if total == 971 then Sort Bytewise else if total == 1147 then Show (showings.Encoding Any) n
    else if total == 1554 then Show (showings.Encoding (Deterministic LengthFirst)) n
    else if total == 2069 then Show (showings.Encoding (Deterministic Bytewise)) n
    else if total == 1140 then Show (showings.Notation OneLine) n
    else if total == 1872 then Show (showings.Notation Indented) n
    else if total == 1262 then Show (showings.Form LengthFirst) n
    else if total == 1777 then Show (showings.Form Bytewise) n
    else if total == 1763 then ShowExactly else if total == 1173 then Dump else if total == 1357 then Encode n
    else if total == 515 then Tell Help else if total == 149 then Tell Help else Tell Version

told-apart : (command : Command) → command-of (letters (command_words command)) (limit_of command) ≡ command
unfolding letters command-of limit_of or-default
told-apart (Answer (readings.Item (Deterministic LengthFirst) n)) = refl
told-apart (Answer (readings.Form LengthFirst n)) = refl
told-apart (Answer (readings.Notation OneLine n)) = refl
told-apart (Sort LengthFirst) = refl
told-apart (Show (showings.Encoding (Deterministic LengthFirst)) n) = refl
told-apart (Show (showings.Notation OneLine) n) = refl
told-apart (Show (showings.Form LengthFirst) n) = refl
told-apart (Tell Help) = refl
told-apart command = refl

-- words begin with these, which tell the command
abbrev IsToldBy : List (List ℕ) → Command → Type 0
IsToldBy words command = (flags : List (List ℕ)) × AreNames flags ×
    NameLimitBehind flags words (limit_of command) × (command-of (letters flags) (limit_of command) ≡ command)

told-help : IsToldBy (codes "-h" ∷ []) (Tell Help)
unfolding letters command-of limit_of or-default
told-help = (codes "-h" ∷ [], (λ h. omega (arith, h), tt), (refl, refl), refl)

told-by : (words : List (List ℕ)) (command : Command) → AskFor words command → IsToldBy words command
told-by words command (inl asked) = (
  command_words command,
  tested (command_words command) (all-names command),
  named words command asked,
  told-apart command,
)
told-by words command (inr (short, help)) = rw (short, help) told-help

-- what words ask for is one command
pub asks-for-one : (words : List (List ℕ)) (c d : Command) → AskFor words c → AskFor words d → c ≡ d
asks-for-one words c d p q =
    let (f, f-names, f-limit, f-tells) = told-by words c p in
    let (g, g-names, g-limit, g-tells) = told-by words d q in
    let same = one-prefix f g words (limit_of c) (limit_of d) f-names g-names f-limit g-limit in
    sym f-tells ∙ (ap₂ (λ (ws : List (List ℕ)) (n : ℕ). command-of (letters ws) n) same.0 same.1 ∙ g-tells)

-- ---- words ask for nothing

-- where they ask for no command without a limit, and for none with one, they are wrong
asks-for-none : (words : List (List ℕ)) →
    ((command : Command) → command_limit command ≡ None → ¬ AskFor words command) →
    ((command : Command) → IsSome (command_limit command) → ¬ AskFor words command) → AskForNothing words
asks-for-none words alone limited command asked =
    elim (none-or-some (command_limit command)) [
      | inl none ↦ alone command none asked
      | inr some ↦ limited command some asked
    ]
  where
    none-or-some : (n : Option ℕ) → (n ≡ None) ⊎ IsSome n
    none-or-some None = inl refl
    none-or-some (Some n) = inr refl

pub judged : (words : List (List ℕ)) (r : Option Command) →
    ((command : Command) → command_limit command ≡ None → ¬ AskFor words command) →
    MatchOption r ((command : Command) → IsSome (command_limit command) → ¬ AskFor words command)
    (λ command. AskFor words command) → MatchOption r (AskForNothing words) (λ command. AskFor words command)
judged words None alone limited = asks-for-none words alone limited
judged words (Some command) alone asked = asked

-- words name no limit behind these
abbrev pub NameNone : List (List ℕ) → List (List ℕ) → Type 0
NameNone flags words = (n : ℕ) → ¬ NameLimitBehind flags words n

-- where they name none behind the words of each showing, they ask to show nothing
pub shows-none : (words : List (List ℕ)) → NameNone (command_words (Show (showings.Encoding Any) 0)) words →
    NameNone (command_words (Show (showings.Encoding (Deterministic LengthFirst)) 0)) words →
    NameNone (command_words (Show (showings.Encoding (Deterministic Bytewise)) 0)) words →
    NameNone (command_words (Show (showings.Notation OneLine) 0)) words →
    NameNone (command_words (Show (showings.Notation Indented) 0)) words →
    NameNone (command_words (Show (showings.Form LengthFirst) 0)) words →
    NameNone (command_words (Show (showings.Form Bytewise) 0)) words →
    (showing : Showing) (limit : ℕ) → AskFor words (Show showing limit) → ⊥
shows-none words a b c d e f g (showings.Encoding Any) n (inl asked) = a n asked
shows-none words a b c d e f g (showings.Encoding (Deterministic LengthFirst)) n (inl asked) = b n asked
shows-none words a b c d e f g (showings.Encoding (Deterministic Bytewise)) n (inl asked) = c n asked
shows-none words a b c d e f g (showings.Notation OneLine) n (inl asked) = d n asked
shows-none words a b c d e f g (showings.Notation Indented) n (inl asked) = e n asked
shows-none words a b c d e f g (showings.Form LengthFirst) n (inl asked) = f n asked
shows-none words a b c d e f g (showings.Form Bytewise) n (inl asked) = g n asked
shows-none words a b c d e f g showing n (inr (short, help)) = cc

-- ---- words are compared one by one

-- the words behind the first
abbrev pub behind : {S : Type 0} → List S → List S
behind words = take (length words - 1) (drop 1 words)

-- the texts of words, the first of which is this one
first-word : {S : Type 0} (text : S → List ℕ) (words : List S) (word : S) (name : List ℕ) →
    1 ≤ length words → word ≡ get_or words 0 word → text word ≡ name → map text words ≡ name ∷ map text (behind words)
first-word text [] word name least e is = absurd (omega arith)
first-word text (w ∷ ws) word name least e is =
    let rest : behind (w ∷ ws) ≡ ws = take_all (length (w ∷ ws) - 1) ws (omega arith) in
    rw rest (ap (λ (t : List ℕ). t ∷ map text ws) (ap text (sym e) ∙ is))

same-first : {T : Type 0} (names : List T) (name : T) → 1 ≤ length names →
    get_or names 0 name ≡ get_or names 0 (get_or names 0 name)
same-first [] name more = absurd (omega arith)
same-first (n ∷ ns) name more = refl

-- two lists of words begin with one name
pub first-words : {S T : Type 0} (f : S → List ℕ) (g : T → List ℕ) (words : List S) (names : List T) (word : S)
    (name : T) → 1 ≤ length words → 1 ≤ length names → word ≡ get_or words 0 word →
    f word ≡ g (get_or names 0 name) → (map f words ≡ g (get_or names 0 name) ∷ map f (behind words)) ×
    (map g names ≡ g (get_or names 0 name) ∷ map g (behind names))
first-words f g words names word name some more e is = (
  first-word f words word (g (get_or names 0 name)) some e is,
  first-word g names (get_or names 0 name) (g (get_or names 0 name)) more (same-first names name more) refl,
)

pub same-words : (r : Bool) (name : List ℕ) (xs ys us vs : List (List ℕ)) →
    (us ≡ name ∷ xs) × (vs ≡ name ∷ ys) → MatchBool r (xs ≡ ys) (xs ≢ ys) → MatchBool r (us ≡ vs) (us ≢ vs)
same-words true name xs ys us vs (a, b) h = a ∙ (ap (λ (zs : List (List ℕ)). name ∷ zs) h ∙ sym b)
same-words false name xs ys us vs (a, b) h = λ e. let same : name ∷ xs ≡ name ∷ ys = sym a ∙ (e ∙ b) in h cc

pub same-limit : (r : Option ℕ) (name : List ℕ) (xs ys us vs : List (List ℕ)) → (us ≡ name ∷ xs) × (vs ≡ name ∷ ys) →
    MatchOption r (NameNone ys xs) (λ n. NameLimitBehind ys xs n) →
    MatchOption r (NameNone vs us) (λ n. NameLimitBehind vs us n)
same-limit None name xs ys us vs (a, b) h = rw (a, b) (λ n asked. h n asked.1)
same-limit (Some n) name xs ys us vs (a, b) h = rw (a, b) (refl, h)
