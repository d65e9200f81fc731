-- An item that ends within the greatest offset is not too long.
use Rattle.std.proofs.Common.{◌≢◌, ◌<◌, ◌≤◌, ℕ, List, Option, Result, Ok, Err, IfErr, ◌++◌, refl, subst, arith}
use Rattle.ciborium.specs.{Bytes.greatest_offset, Errors.fault_of, Given.Outcome, Sources.IsFaultOf, View.result_map}
use Rattle.ciborium.specs.declared.de.error.Error.{Error, TheVariants.TooLong}
use Rattle.ciborium_examples.proofs.callers.read_behind.Goals as goal

fits-not : {A E : Type 0} (end : ℕ) (after : Option (List ℕ)) (e : Error E) (o : Outcome A) → end ≤ greatest_offset →
    IsFaultOf end (fault_of after e) o → e ≢ TooLong
fits-not end after e o fits fault is =
    let past : greatest_offset < end = subst (λ x. IsFaultOf end (fault_of after x) o) is fault in
    omega (arith, fits, past)

err-of : {T A E : Type 0} {P Q : E → Type 0} (f : T → A) (r : Result T E) → IfErr (result_map f r) P →
    ((e : E) → P e → Q e) → IfErr r Q
err-of f (Ok v) h so = tt
err-of f (Err e) h so = so e h

pub returns : goal.returns
returns g c i s left spells fits known = err-of g.T.Deserialize.reading.content c.from_reader_at.result
    (c.from_reader_at.ensures.refused (s ++ left) known) (λ e fault. fits-not _ _ e _ fits (fault i s left spells refl))
