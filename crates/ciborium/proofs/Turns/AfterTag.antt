-- What stands behind the head of a tag, in each spelling.
use Rattle.std.proofs.Common.{◌≡◌, ℕ, suc, ◌+◌, ◌-◌, ◌≤◌, List, ◌++◌, length, Option, Some, None, MatchOption, Result}
use Rattle.std.proofs.Common.{Ok, Err, [], length-append, refl, sym, ap, ◌∙◌, subst, arith, inl, inr}
use Rattle.ciborium_ll.proofs.{Decoders.{unread-left, unread-count}, OneHeader.one_header_at_front}
use Rattle.ciborium_ll.specs.{Bytes.{AreBytes, greatest_offset}, Decoding.{IsAhead, IsAheadBy, IsMeasured}}
use Rattle.ciborium_ll.specs.{Decoding.{ReadsNothing, offset_of, left_of}, Header.SpellsHeader, ReaderSteps.IsFillTaken}
use Rattle.ciborium_ll.specs.Refusal.{Refusal, semantic, recursion_limit_exceeded, HeadRefuses, IsUsable}
use Rattle.ciborium_ll.specs.{StringRefusal.PayloadRefuses, declared.{decoder.Decoder.Decoder, header.Header.Header}}
use Rattle.ciborium_value.proofs.GoodItems.{Bignums.none-large, Introduced.{reads-string, reads-folded}}
use Rattle.ciborium_value.specs.{Refuses.{HasGoodHead, IsTagAt, IsFoldingAt, Refuses}, Spelling.{Spelling, any}}
use Rattle.ciborium_value.specs.{Spelling.{deterministic, IsUnwanted}, View.tree_of, declared.tree.Value.Value}
use Rattle.ciborium_value.specs.inner.{ReadItems.ReadsItem, Stack.begun_frame}
use Rattle.ciborium.proofs.Turns.Fronts.{Front, front-of, string-room, no-break, ahead-at, offset-at, PullsSo}
use Rattle.ciborium.proofs.Turns.Heads.{Got, accepted-front, bad-at, good-at, good-head, got, unpushed}
use Rattle.ciborium.proofs.Turns.Pulled.{refused-map}
use Rattle.ciborium.specs.{Errors.from_ll, ValueAnswers.IsRefusedBy, declared.de.error.Error.Error}
use Rattle.ciborium.specs.{declared.de.error.Error.TheVariants.Semantic, inner.Parts.{BignumRefuses, IsBignumRead}}
use Rattle.ciborium.specs.inner.Parts.{IsFolded, IsFolding, IsFrameBegun, IsHeadAccepted, IsHeadMeasured, RefusesPart}
use Rattle.ciborium.specs.inner.{Rules.head_fault, ValuesInBytes.{IsAt, IsPulled, IsBreakAt, StandsAt}}
use Rattle.ciborium_ll.specs.declared.{header.Error.Error as LlError, kind.Kind.Kind, strings.StringType.StringType}
use Rattle.ciborium_ll.specs.declared.header.Error.TheVariants as ll
use Rattle.ciborium_ll.specs.declared.header.Header.TheVariants as header
use Rattle.ciborium_ll.specs.declared.kind.Kind.TheVariants as kinds
use Rattle.ciborium_value.specs.declared.stack.NewFrame.TheVariants as new_frames
use Rattle.ciborium_value.specs.Tree as trees

-- what `read_bignum` answers
abbrev pub BignumSo : {S W E : Type 0} → Spelling → (S → Option (List ℕ)) → Decoder S W → Decoder S W → ℕ → ℕ → ℕ →
    Result Value (Error E) → Type 0
BignumSo spelling remaining d e t n at x = (xs : List ℕ) (p : ℕ) → IsAt remaining d xs p →
    IsBignumRead spelling remaining e t n at xs p x

-- where another header stands, the tag does not fold
folds-not : (t : ℕ) (k : Header) (h r s : List ℕ) → IsFolding t k None → SpellsHeader h k → r ≡ h ++ s →
    IsFoldingAt t r → ⊥
folds-not t k h r s none spelled split (big, n, size, z, (y, head, len, is), small) =
    none n (one_header_at_front h y s z k (header.Bytes (Some n)) spelled head (sym split ∙ is)).2 big small

module _ {S W : Type 0} {spelling : Spelling} {remaining : S → Option (List ℕ)} {d : Decoder S W} {t : ℕ} {xs : List ℕ}
    {p : ℕ} (l : ℕ) (pushed : d.pushed ≡ None) (a : IsHeadAccepted spelling remaining d (header.Tag t) xs p) where
  abbrev rest : List ℕ
  rest = a.pulled.1

  abbrev next : ℕ
  next = p + length a.pulled.0

  ahead : IsAhead remaining d rest next
  ahead = ahead-at remaining d next rest pushed a.pulled.6

  no-tag-break : ¬ IsBreakAt xs p
  no-tag-break = no-break tt (accepted-front refl a)

  tag-at : IsUsable rest next → IsTagAt spelling xs p t rest next
  tag-at usable = record {
    size = length a.pulled.0;
    head = good-head a;
    tag = (a.pulled.0, a.pulled.2, refl, a.pulled.4);
    usable = usable;
    at = refl;
  }

  -- the next head is refused
  pub tag-refused : (e : Decoder S W) {E : Type 0} (x : Error E) → PullsSo remaining d e (Err x) →
      IsRefusedBy (left_of remaining e) x (RefusesPart spelling xs p l)
  tag-refused e x pull = refused-map (left_of remaining e) x (HeadRefuses rest next) (RefusesPart spelling xs p l)
      (λ r f. (
        Refuses.tag_no_head t (length a.pulled.0) rest (good-head a) (a.pulled.0, a.pulled.2, refl, a.pulled.4) f,
        no-tag-break,
      )) (pull rest next ahead)

  module _ (E : Type 0) (e : Decoder S W) {k : Header} (pull : PullsSo {E = E} remaining d e (Ok k)) where
    pub tag-no-level : IsFolding t k None → l ≡ 0 → RefusesPart spelling xs p l recursion_limit_exceeded
    tag-no-level other none =
        let b = pull rest next ahead in (
          subst (λ n. Refuses spelling xs p (Some n) recursion_limit_exceeded) (sym none)
              (Refuses.no_tag_level t rest next (tag-at b.3) (folds-not t k b.0 rest b.1 other b.2 b.4)),
          no-tag-break,
        )

    pub tag-begun : (f : Decoder S W) {here : ℕ} → IsFolding t k None → (l ≡ 0 → ⊥) → here ≡ offset_of d →
        ReadsNothing e f → f.pushed ≡ Some (k, here) → f.head_len ≡ e.head_len →
        (IsMeasured d → e.counter.count ≡ offset_of d + e.head_len) → (zs : List ℕ) × (r : ℕ) ×
        IsFrameBegun spelling l xs p (begun_frame (new_frames.Tag t)) zs r × StandsAt spelling remaining f zs r
    tag-begun f {here} other some same stays back kept size =
        let b = pull rest next ahead in
        let less : l ≡ suc (l - 1) = omega (arith, some) in
        let is : IsAheadBy remaining f rest next (Some (k, here)) = (
          same ∙ offset-at remaining d next rest ahead,
          b.0,
          b.1,
          b.2,
          b.3,
          b.4,
          (unread-count e f stays ∙ b.6.0),
          (unread-left remaining e f stays ∙ b.6.1),
        ) in
        let sized = size (unpushed d pushed) in
        let count : f.counter.count ≡ here + f.head_len =
        (let c = unread-count e f stays in omega (arith, c, same, kept, sized)) in (
          rest,
          next,
          (l - 1, less, (tag-at b.3, folds-not t k b.0 rest b.1 other b.2 b.4)),
          stands spelling (subst (λ o. IsAheadBy remaining f rest next o) (sym back) is)
              (subst (λ o. MatchOption o (Unit {0}) (λ h. f.counter.count ≡ h.1 + f.head_len)) (sym back) count),
        )
      where
        stands : (s : Spelling) → IsAhead remaining f rest next → IsMeasured f → StandsAt s remaining f rest next
        stands any ahead measured = ahead
        stands (deterministic order) ahead measured = (ahead, measured)

    -- ---- a tag that folds

    module _ {n : ℕ} (folding : IsFolding t k (Some n))
        (size : IsMeasured d → e.counter.count ≡ offset_of d + e.head_len) where
      string : IsPulled remaining e k rest next
      string = pull rest next ahead

      string-front : Front rest next (header.Bytes (Some n)) string.0 string.1
      string-front = front-of remaining e k (header.Bytes (Some n)) rest next folding.0 string

      folds : IsFoldingAt t rest
      folds = let w = string-front in
          (folding.1, n, length string.0, string.1, (string.0, w.spelled, refl, w.split), folding.2)

      at : IsTagAt spelling xs p t rest next
      at = tag-at string.3

      measured : IsHeadMeasured spelling e next
      measured = by spelling (offset-at remaining d next rest ahead)
        where
          by : (s : Spelling) → offset_of d ≡ next → IsHeadMeasured s e next
          by any same = tt
          by (deterministic order) same = size (unpushed d pushed) ∙ ap (λ n. n + e.head_len) same

      -- the head of its string is not accepted
      pub tag-faulty : {here : ℕ} {kind : Kind} → head_fault spelling k e.head_len ≡ Some kind → here ≡ offset_of d →
          IsRefusedBy {E = E} (left_of remaining e) (Semantic (Some here) kind) (RefusesPart spelling xs p l)
      tag-faulty {here} {kind} wrong same =
          refused-map {E = E} (left_of remaining e) (Semantic (Some here) kind) (RefusesPart spelling rest next l)
          (RefusesPart spelling xs p l) (λ f g. (Refuses.folding t rest next at folds g.0, no-tag-break))
          (bad-at remaining e k rest next string spelling E l here kind (left_of remaining e) wrong measured
          (same ∙ offset-at remaining d next rest ahead))

      module _ (right : head_fault spelling k e.head_len ≡ None) where
        fits : next + length string.0 + n ≤ greatest_offset
        fits = let w = string-front in
            string-room 2 n next rest string.0 string.1 (inl refl) w.spelled w.usable w.split

        good : HasGoodHead spelling rest next
        good = (string.3, good-at remaining e k rest next string spelling right measured)

        payload : (y s : List ℕ) → length y ≡ n → AreBytes y → string.1 ≡ y ++ s →
            ReadsItem spelling (Some l) rest next (trees.bytes y) s (next + length string.0 + n)
        payload y s len low split = let w = string-front in
            reads-string spelling StringType.Bytes rest next n (length string.0) (Some l) y s
            (string.0, w.spelled, refl, w.split ∙ ap (λ (z : List ℕ). string.0 ++ z) split) len low good.1 fits

        refuses : (here : ℕ) (f : Refusal) → here ≡ p → BignumRefuses spelling t n here string.1 f →
            Refuses spelling xs p (Some l) f
        refuses here f same (inl (early, is)) = let w = string-front in
            subst (Refuses spelling xs p (Some l)) (sym is) (Refuses.folding t rest next at folds
            (Refuses.string StringType.Bytes good (
              n,
              length string.0,
              string.1,
              (string.0, w.spelled, refl, w.split),
              PayloadRefuses.ends_early early,
            )))
        refuses here f same (inr (y, s, len, low, split, inl (can, is))) =
            let i = payload y s len low split in
            subst (Refuses spelling xs p (Some l)) (sym (is ∙ ap (λ j. semantic j kinds.NotFolded) same))
            (Refuses.not_folded t rest i.taken s y next at folds i.read i.split can)
        refuses here f same (inr (y, s, len, low, split, inr (none, is))) =
            let i = payload y s len low split in
            let large = none-large t y folding.1 none in
            subst (Refuses spelling xs p (Some l)) (sym (is ∙ ap (λ j. semantic j kinds.TooLarge) same))
            (Refuses.too_large rest i.taken s y next (subst (λ j. IsTagAt spelling xs p j rest next) large.0 at)
            (subst (λ j. IsFoldingAt j rest) large.0 folds) i.read i.split large.1)

        pub bignum-refused : (f : Decoder S W) {here : ℕ} (x : Error E) → here ≡ p →
            BignumSo {E = E} spelling remaining e f t n here (Err x) →
            IsRefusedBy (left_of remaining f) x (RefusesPart spelling xs p l)
        bignum-refused f {here} x same read =
            let b = string in
            refused-map (left_of remaining f) x (BignumRefuses spelling t n here b.1) (RefusesPart spelling xs p l)
            (λ g c. (refuses here g same c, no-tag-break)) (read b.1 (next + length b.0) b.6 fits)

        pub got-bignum : (f : Decoder S W) (here : ℕ) (v : Value) → f.pushed ≡ None →
            BignumSo {E = E} spelling remaining e f t n here (Ok v) → Got spelling remaining f l xs p (tree_of v)
        got-bignum f here v last read =
            let u : ℕ = next + length string.0 in
            let c = read string.1 u string.6 in
            got remaining f last refl (reads-folded spelling xs p t (Some l) rest c.1 next (u + n) c.0 (tree_of v) at
            folds (payload c.0 c.1 c.2 c.3 c.6) c.4 c.5) c.7

-- ---- the bytes of a bignum, as they were read

same-bytes : (u v : List ℕ) → Some u ≡ Some v → v ≡ u
same-bytes u v e = cc

pub bignum-unwanted : (spelling : Spelling) (t n at : ℕ) (x z xs : List ℕ) → length x ≡ n → AreBytes x →
    IsUnwanted spelling x → Some (x ++ z) ≡ Some xs → BignumRefuses spelling t n at xs (semantic at kinds.NotFolded)
bignum-unwanted spelling t n at x z xs len low can is =
    inr (x, z, len, low, same-bytes (x ++ z) xs is, inl (can, refl))

-- its bytes end early
pub bignum-cut : {E : Type 0} (spelling : Spelling) (e : LlError E) (t n at p : ℕ) (x z xs buffer : List ℕ) →
    IsFillTaken x p buffer (Err e) → length buffer ≡ n → Some (x ++ z) ≡ Some xs → p + n ≤ greatest_offset →
    IsRefusedBy (Some z) (from_ll e) (BignumRefuses spelling t n at xs)
bignum-cut spelling (ll.Io e) t n at p x z xs buffer (short, fits) len is room = λ none.
    let whole : xs ≡ x ++ z = cc in
    let empty : z ≡ [] = cc in
    let size = ap length whole ∙ length-append x z in
    let nothing = ap length empty in inl (omega (arith, short, len, size, nothing), refl)
bignum-cut spelling (ll.Syntax q) t n at p x z xs buffer h len is room = absurd h
bignum-cut spelling ll.TooLong t n at p x z xs buffer h len is room = absurd (omega (arith, h.1, len, room))
bignum-cut spelling ll.Memory t n at p x z xs buffer h len is room = absurd h

pub bignum-folded : {E W : Type 0} (spelling : Spelling) (d : Decoder (List ℕ) W) (t n at p : ℕ) (x z xs : List ℕ)
    (r : Result Value (Error E)) → length x ≡ n → AreBytes x → ¬ IsUnwanted spelling x → Some (x ++ z) ≡ Some xs →
    IsAt Some d z (p + n) → IsFolded t x at r → IsBignumRead spelling Some d t n at xs p r
bignum-folded spelling d t n at p x z xs (Ok v) len low whole is stands means =
    (x, z, len, low, whole, means, same-bytes (x ++ z) xs is, stands)
bignum-folded spelling d t n at p x z xs (Err e) len low whole is stands (inl memory) =
    λ fits. subst (λ f. IsRefusedBy (left_of Some d) f (BignumRefuses spelling t n at xs)) (sym memory) tt
bignum-folded spelling d t n at p x z xs (Err e) len low whole is stands (inr (none, large)) = λ fits.
    subst (λ f. IsRefusedBy (left_of Some d) f (BignumRefuses spelling t n at xs)) (sym large)
    (inr (x, z, len, low, same-bytes (x ++ z) xs is, inr (none, refl)))
