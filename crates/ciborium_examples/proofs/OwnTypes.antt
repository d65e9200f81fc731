-- What the types of a user's own name.
use Rattle.std.proofs.Common.{◌≡◌, ℕ, ◌+◌, ◌<◌, List, ◌∷◌, length, map, drop, get_or, Ok, Option, pos, sym}
use Rattle.std.proofs.lemmas.Grind.{get_or_default_zero}
use Rattle.ciborium.specs.{Places.{Place, an_array}, Progress.Owes, Sinks.{Named, number_item}}
use Rattle.ciborium_value.proofs.Writing.Progress.{owes_part}

abbrev pub named_number : ℕ → Named
named_number n = Ok (number_item (pos n))

-- the numbers from place k on are owed
pub owes_number : {S : Type 0} {StandsAt : S → Place → Type 0} {n : Option ℕ} {parts : List Named} {old mid : S}
    (xs : List ℕ) (k : ℕ) → k < length xs →
    Owes StandsAt an_array n parts old mid (map named_number (drop k xs)) →
    Owes StandsAt an_array n parts old mid (named_number (get_or xs k 0) ∷ map named_number (drop (k + 1) xs))
owes_number xs k less = owes_part named_number xs k less (sym (get_or_default_zero xs k (get_or xs k 0) less))
