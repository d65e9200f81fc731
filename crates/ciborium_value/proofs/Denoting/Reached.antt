-- How far a text is read.
use Rattle.std.proofs.Common.{◌≡◌, ◌≢◌, ℕ, List, [], ◌∷◌, Some, None, IfErr, IfOk, Ok, Err, Result, refl, sym, ap}
use Rattle.std.proofs.Common.{arith, inl, inr, length, subst}
use Rattle.ciborium_value.{proofs.Denoting.Steps.front, specs.Denotes.{At, BeginsTree, Denotes, DenotesWithin}}
use Rattle.ciborium_value.specs.{Denotes.{Memory, MayRefuse}, Tokens.{Token, behind_blanks, token_at}}
use Rattle.ciborium_value.specs.{Tree.Tree, View.tree_of}
use Rattle.ciborium_value.specs.declared.{from_notation.error.NotationError.NotationError, tree.Value.Value}
use Rattle.ciborium_value.specs.inner.ReadTokens.{Around, Await, Completes, IsMisplaced, IsReached, IsRoom, Leads}
use Rattle.ciborium_value.specs.inner.ReadTokens.{behind, item}

pub reached-first : (text : List ℕ) (limit : ℕ) → IsReached text limit [] item text
reached-first text limit = record {
  on = λ l v (r, d, none). (l, omega arith, v, r, d, (none, refl));
  back = λ v (m, i, w, r, d, (none, e)).
      (r, subst (λ k. BeginsTree k text v r) (omega (arith, i)) (subst (λ x. BeginsTree m text x r) (sym e) d), none);
}

pub reached-next : (text : List ℕ) (limit : ℕ) (levels more : List Around) (due next : Await) (t s rest : List ℕ)
    (k : Token) → IsReached text limit levels due t → IsRoom limit (length levels) due → behind_blanks t ≡ Some s →
    token_at s ≡ Some (k, rest) → Leads levels due k more next → IsReached text limit more next rest
reached-next text limit levels more due next t s rest k reached room b e leads = record {
  on = λ l v d. leads.on l t rest v (s, b, e) (reached.on l v d);
  back = λ v c. reached.back v (leads.back limit t rest v room (s, b, e) c);
}

-- nothing is denoted where nothing is completed
pub reached-wrong : (text : List ℕ) (limit : ℕ) (levels : List Around) (due : Await) (t : List ℕ) →
    IsReached text limit levels due t → ((l : ℕ) (v : Tree) → Completes l levels due t v → ⊥) → (l : ℕ) (v : Tree) →
    DenotesWithin l text v → ⊥
reached-wrong text limit levels due t reached wrong l v d = wrong l v (reached.on l v d)

-- where a comment does not end, or no token stands
pub no-blanks : (levels : List Around) (due : Await) (t : List ℕ) → behind_blanks t ≡ None → (l : ℕ) (v : Tree) →
    Completes l levels due t v → ⊥
no-blanks levels due t e l v c = elim (front l levels due t v c) [
  | inl h ↦ cc (e, h.0)
  | inr h ↦ let has = h.2.1 in cc (e, has)
]

no-front : (levels : List Around) (due : Await) (t s : List ℕ) → behind_blanks t ≡ Some s → s ≢ [] →
    token_at s ≡ None → (l : ℕ) (v : Tree) → Completes l levels due t v → ⊥
no-front levels due t s b some e l v c = elim (front l levels due t v c) [
  | inl h ↦ some (cc (b, h.0))
  | inr h ↦ let same : h.2.0 ≡ s = cc (b, h.2.1) in cc (e, ap token_at same, h.2.2)
]

pub reached-misplaced : (text : List ℕ) (limit : ℕ) (levels : List Around) (due : Await) (t s rest : List ℕ) (k : Token)
    (e : NotationError) → IsReached text limit levels due t → behind_blanks t ≡ Some s → token_at s ≡ Some (k, rest) →
    IsMisplaced levels due k limit e → (l : ℕ) (v : Tree) → DenotesWithin l text v → MayRefuse limit e l
reached-misplaced text limit levels due t s rest k e reached b f misplaced l v d =
    misplaced l t rest v (s, b, f) (reached.on l v d)

-- ---- the answers of the loop

pub token_refused : (text : List ℕ) (limit : ℕ) (levels : List Around) (due : Await) (t s : List ℕ)
    (e : NotationError) → IsReached text limit levels due t → behind_blanks t ≡ Some s → s ≢ [] →
    (e ≢ Memory → token_at s ≡ None) → (l : ℕ) (v : Tree) → DenotesWithin l text v → MayRefuse limit e l
token_refused text limit levels due t s Memory reached b some none l v d = tt
token_refused text limit levels due t s (At p fault) reached b some none l v d =
    absurd (no-front levels due t s b some (none (λ e. cc e)) l v (reached.on l v d))

-- where the text ends, an item that has ended in no level is what it denotes, and nothing else
end_reached : (text t : List ℕ) (limit : ℕ) (levels : List Around) (due : Await) (w : Tree) →
    IsReached text limit levels due t → (levels ≡ []) × (due ≡ behind w) → IsReached text limit [] (behind w) t
end_reached text t limit levels due w reached (none, ended) =
    subst (λ x. IsReached text limit x (behind w) t) none (subst (λ x. IsReached text limit levels x t) ended reached)

pub end_ok : (text : List ℕ) (limit : ℕ) (levels : List Around) (due : Await) (t : List ℕ)
    (r : Result Value NotationError) → IsReached text limit levels due t → behind_blanks t ≡ Some [] →
    IfOk r (λ v. (levels ≡ []) × (due ≡ behind (tree_of v))) → IfOk r (λ v. DenotesWithin limit text (tree_of v))
end_ok text limit levels due t (Err e) reached b h = tt
end_ok text limit levels due t (Ok v) reached b h =
    (end_reached text t limit levels due (tree_of v) reached h).back (tree_of v) (limit, omega arith, (b, refl))

pub end_only : (text : List ℕ) (limit : ℕ) (levels : List Around) (due : Await) (t : List ℕ)
    (r : Result Value NotationError) → IsReached text limit levels due t →
    IfOk r (λ v. (levels ≡ []) × (due ≡ behind (tree_of v))) → IfOk r (λ v. (w : Tree) → Denotes text w → w ≡ tree_of v)
end_only text limit levels due t (Err e) reached h = tt
end_only text limit levels due t (Ok v) reached h = λ w (l, d).
    let (m, i, (none, e)) = (end_reached text t limit levels due (tree_of v) reached h).on l w d in e

pub end_refused : (text : List ℕ) (limit : ℕ) (levels : List Around) (due : Await) (t : List ℕ)
    (r : Result Value NotationError) → IsReached text limit levels due t → behind_blanks t ≡ Some [] →
    IfErr r (λ e. (l : ℕ) (t : List ℕ) (v : Tree) → behind_blanks t ≡ Some [] → Completes l levels due t v → ⊥) →
    IfErr r (λ e. (l : ℕ) (v : Tree) → DenotesWithin l text v → MayRefuse limit e l)
end_refused text limit levels due t (Ok v) reached b h = tt
end_refused text limit levels due t (Err e) reached b h = λ l v d. absurd (h l t v b (reached.on l v d))

pub blanks_end : (t s : List ℕ) → behind_blanks t ≡ Some s → length s ≡ 0 → behind_blanks t ≡ Some []
blanks_end t [] b empty = b
blanks_end t (x ∷ s) b empty = absurd (omega (arith, empty))
