use Rattle.std.proofs.Common.{rules, ◌≡◌, ℕ, length, Some, IsTrue, nat_eq, sym, ap, ◌∙◌, arith}
use Rattle.std.proofs.lemmas.Bool.Decides.{nat_tests}
use Rattle.ciborium_value.specs.Meaning.{bignum_meaning, without_zeros}
use Rattle.ciborium_value.proofs.{FoldedTrees.Bignums.zeros_absent, Forms.BignumShapes.one_string}
use Rattle.ciborium_value.specs.Tree as trees
use Rattle.ciborium_value.proofs.deterministic.is_folded.Goals as goal

pub returns-in-Ok-None : goal.returns-in-Ok-None
returns-in-Ok-None c =
    let bytes = c.args.bytes.now in
    let rest : c.without_leading_zeros.result.now ≡ without_zeros bytes = c.without_leading_zeros.ensures in
    let meant : bignum_meaning c.args.tag bytes ≡ Some (trees.tag c.args.tag (trees.bytes (without_zeros bytes))) =
    search (rules) in (
      λ yes.
          let long : length (without_zeros bytes) ≡ length bytes = ap length (sym rest) ∙
          equal_where_true (length c.without_leading_zeros.result.now) (length bytes) yes in
          meant ∙ ap (λ b. Some (trees.tag c.args.tag (trees.bytes b))) (zeros_absent bytes long),
      λ whole.
          let long : length c.without_leading_zeros.result.now ≡ length bytes = ap length rest ∙
          ap length (one_string c.args.tag (without_zeros bytes) bytes (sym meant ∙ whole)) in
          true_where_equal (length c.without_leading_zeros.result.now) (length bytes) long,
    )
  where
    equal_where_true : (n k : ℕ) → IsTrue (nat_eq n k) → n ≡ k
    equal_where_true n k h = grind (arith, nat_tests, h)

    true_where_equal : (n k : ℕ) → n ≡ k → IsTrue (nat_eq n k)
    true_where_equal n k h = grind (arith, nat_tests, h)
