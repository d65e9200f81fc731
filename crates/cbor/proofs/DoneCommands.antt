-- What is done stays so where the output is flushed.
use Rattle.std.proofs.Common.{◌≡◌, Bool, List, ℕ, [], Option, Some, None, IfOk, IfSome, Result, Ok, Err, refl}
use Rattle.std.{proofs.lemmas.Option.IfSome_then, specs.Io.KnownBytes.Keeps}
use Rattle.cbor.specs.{Done.IsDone, declared.command.Command.Command}
use Rattle.cbor.specs.declared.command.Command.TheVariants.{Answer, Sort, Show, ShowExactly, Dump, Encode, Tell}
use Rattle.cbor.proofs.{AnsweredLines.{answered-still, flushed-each, still}, MeantLines.sorted-still}
use Rattle.cbor.proofs.{DumpedInputs.dumped-still, EncodedLines.encoded-still, ExactlyStreamed.shown-still}
use Rattle.cbor.proofs.StreamedItems.{shown-sent}

-- what is so of known bytes
pub of-known : {E : Type 0} (o : Option (List ℕ)) (r : Result Bool E) (P : List ℕ → Bool → Type 0) →
    ((b : List ℕ) → o ≡ Some b → IfOk r (P b)) → IfOk r (λ all. IfSome o (λ b. P b all))
of-known None (Ok all) P f = tt
of-known None (Err e) P f = tt
of-known (Some b) r P f = f b refl

done-still : (command : Command) (o : Option (List ℕ)) (w : List ℕ) (all : Bool) (held now : Option (List ℕ)) →
    Keeps held now → IsDone command o w all held → IsDone command o w all now
done-still (Answer reading) o w all held now k is =
    IfSome_then o is (λ b. answered-still reading b w all held now (λ xs. still held now xs k))
done-still (Sort order) o w all held now k is =
    IfSome_then o is (λ b. sorted-still order b 256 w all held now k)
done-still (Show showing limit) o w all held now k is =
    IfSome_then o is (λ b. shown-sent [] showing b limit w held now (λ xs. still held now xs k) all)
done-still ShowExactly o w all held now k is =
    IfSome_then o is (λ b. shown-still [] b w held now (λ xs. still held now xs k) all)
done-still Dump o w all held now k is = IfSome_then o is (λ b. dumped-still b w all held now k)
done-still (Encode limit) o w all held now k is = IfSome_then o is (λ b (message, are).
    (message, encoded-still limit b w all held now message (λ xs. still held now xs k) are))
done-still (Tell topic) o w all held now k (every, e) = (every, still held now _ k e)

pub done-flushed : {E : Type 0} (command : Command) (o : Option (List ℕ)) (w : List ℕ) (held now : Option (List ℕ))
    (done r : Result Bool E) → IfOk r (λ all. done ≡ Ok all) → Keeps held now →
    IfOk done (λ all. IsDone command o w all held) → IfOk r (λ all. IsDone command o w all now)
done-flushed command o w held now done r same k = flushed-each (λ all. IsDone command o w all held)
    (λ all. IsDone command o w all now) done r same (λ all. done-still command o w all held now k)
