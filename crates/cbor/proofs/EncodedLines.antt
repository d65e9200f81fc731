-- One more line of notation is read, and its encoding is written.
use Rattle.std.proofs.Common.{◌≡◌, ℕ, ◌+◌, List, [], ◌∷◌, ◌++◌, length, Bool, true, false, Option, Some, refl, sym, ap}
use Rattle.std.proofs.Common.{Result, Ok, Err, IfOk, subst, ◌∙◌, ◌≢◌, append-nil, arith, inl}
use Rattle.std.{proofs.lemmas.List.{flat_map_more, length_push}, specs.{Io.BufRead.drop_through, List.flat_map}}
use Rattle.ciborium_value.specs.{Denotes.DenotesWithin, Encoding.encoding, RefusalMessages.notation_error_message}
use Rattle.ciborium_value.specs.{Tree.Tree, declared.from_notation.error.NotationError.{NotationError, TheVariants.At}}
use Rattle.ciborium_value.specs.declared.from_notation.error.NotationError.TheVariants.{Memory}
use Rattle.cbor.{proofs.AnsweredLines.{IsHeld, LineIsRead, line-ahead, none-ahead}, specs.Encoded.RefusesLine}
use Rattle.cbor.specs.{Encoded.TellsNoTree, EncodedLines.{AreAllEncoded, AreEncoded, AreEncodedUpTo}}
use Rattle.cbor.specs.{EncodedLines.IsEncodedUpToRefused, Lines.{AreLines, text_line}, SortedLines.refused_line_text}
use Rattle.cbor.specs.Lines as lines

-- the lines of b so far are encoded behind w, the rest is left, and its first line has this number
abbrev pub AreEncodedSoFar : ℕ → List ℕ → List ℕ → ℕ → Option (List ℕ) → Option (List ℕ) → Type 0
AreEncodedSoFar limit b w n left held = (trees : List Tree) × (rest : List ℕ) × (left ≡ Some rest) ×
    AreEncodedUpTo limit b w rest trees held × (n ≡ length trees + 1)

pub none-encoded : (limit : ℕ) (b w : List ℕ) (left held : Option (List ℕ)) → left ≡ Some b → held ≡ Some w →
    AreEncodedSoFar limit b w 1 left held
none-encoded limit b w left held e f = ([], b, e, (lines.none, f ∙ ap Some (sym (append-nil w))), refl)

module _ (limit : ℕ) (b w : List ℕ) (n : ℕ) (left next held kept : Option (List ℕ)) (line : List ℕ)
    (more : Bool) (before : AreEncodedSoFar limit b w n left held) (read : LineIsRead left next line more)
    (keeps : IsHeld held kept) where
  -- a line more denotes a tree, whose encoding is put
  pub one-more-encoded : (now : Option (List ℕ)) (shown : List ℕ) (v : Tree) → more ≡ true → shown ≡ line →
      DenotesWithin limit shown v → ((ys : List ℕ) → kept ≡ Some ys → now ≡ Some (ys ++ encoding v)) →
      AreEncodedSoFar limit b w (n + 1) next now
  one-more-encoded now shown v m same is wrote =
      let (trees, rest, e, (a, f), count) = before in
      let h = line-ahead left next line more rest read m e in
      let size : length (trees ++ (v ∷ [])) ≡ length trees + 1 = length_push trees v in (
        trees ++ (v ∷ []),
        drop_through 10 rest,
        h.2,
        (
          lines.next rest trees v a h.0 (subst (λ (l : List ℕ). DenotesWithin limit l v) (same ∙ h.1) is),
          wrote (w ++ flat_map encoding trees) (keeps _ f) ∙ ap Some (flat_map_more encoding w trees v),
        ),
        omega (arith, size, count),
      )

  -- no line is left
  pub all-encoded : more ≡ false → AreAllEncoded limit b w kept
  all-encoded m =
      let (trees, rest, e, (a, f), count) = before in (
        trees,
        (
          subst (λ (r : List ℕ). AreLines (DenotesWithin limit) b r trees)
              (none-ahead left next line more rest read m e) a,
          keeps _ f,
        ),
      )

  -- the next line is refused
  pub one-refused : (shown reason told message : List ℕ) → more ≡ true → shown ≡ line → TellsNoTree limit shown reason →
      told ≡ reason → message ≡ text_line (refused_line_text n told) → IsEncodedUpToRefused limit b w kept message
  one-refused shown reason told message m same tells is written =
      let (trees, rest, e, (a, f), count) = before in
      let h = line-ahead left next line more rest read m e in (
        trees,
        rest,
        reason,
        (a, keeps _ f),
        h.0,
        subst (λ (l : List ℕ). TellsNoTree limit l reason) (same ∙ h.1) tells,
        rw (← count, ← is) written,
      )

pub encoded-still : (limit : ℕ) (b w : List ℕ) (all : Bool) (held now : Option (List ℕ)) (message : List ℕ) →
    IsHeld held now → AreEncoded limit b w all held message → AreEncoded limit b w all now message
encoded-still limit b w true held now message keeps (trees, (a, e)) = (trees, (a, keeps _ e))
encoded-still limit b w false held now message keeps (trees, rest, reason, (a, e), more, tells, is) =
    (trees, rest, reason, (a, keeps _ e), more, tells, is)

-- some message tells of it
pub encoded-told : {E : Type 0} (limit : ℕ) (b w : List ℕ) (r : Result Bool E) (after : Option (List ℕ))
    (message : List ℕ) → IfOk r (λ all. AreEncoded limit b w all after message) →
    IfOk r (λ all. (told : List ℕ) × AreEncoded limit b w all after told)
encoded-told limit b w (Ok all) after message h = (message, h)
encoded-told limit b w (Err x) after message h = tt

-- the text is the message of an error that refuses the line
pub told-no-tree : (limit : ℕ) (line shown text : List ℕ) (e : NotationError) → e ≢ Memory → shown ≡ line →
    RefusesLine limit shown e → text ≡ notation_error_message e → TellsNoTree limit line text
told-no-tree limit line shown text Memory other same refuses is = absurd (other refl)
told-no-tree limit line shown text (At p fault) other same refuses is =
    inl (p, fault, subst (λ (l : List ℕ). RefusesLine limit l (At p fault)) same refuses, is)
