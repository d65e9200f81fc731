-- Equal contents are written alike under equal tags (RFC 8949, section 3.4).
use Rattle.std.{proofs.Common.{ap, ◌∙◌}, specs.Prelude.{◌≡◌, ℕ, Option}}
use Rattle.ciborium_value.specs.{Sinks.{Named, tag_of}, WrittenContents.IsWrittenByContent}
use Rattle.ciborium.specs.Tags.{captured_of}

-- what counts of a value and the tag around it
abbrev tag_and : {T C : Type 0} → (T → C) → Option ℕ → T → Option ℕ × C
tag_and content o v = (o, content v)

module _ {T C : Type 0} {written : T → Named} {content : T → C}
    (alike : IsWrittenByContent written content) where
  pub captured-alike : (o p : Option ℕ) (v w : T) → tag_and content o v ≡ tag_and content p w →
      captured_of o (written v) ≡ captured_of p (written w)
  captured-alike o p v w same =
      let tags = ap (λ x. x.0) same in
      let inner = alike v w (ap (λ x. x.1) same) in
      ap (λ t. captured_of t (written v)) tags ∙ ap (captured_of p) inner

  pub tagged-alike : (t : ℕ) (v w : T) → content v ≡ content w → tag_of t (written v) ≡ tag_of t (written w)
  tagged-alike t v w same = ap (tag_of t) (alike v w same)
