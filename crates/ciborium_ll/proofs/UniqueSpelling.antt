-- The laws of spellings: the reader of items finds each item that is spelled at the front, and finds one alone.
use Rattle.std.proofs.Common.{◌≡◌, ℕ, ◌+◌, List, [], ◌++◌, Option, Some, None, sym, ap, ◌∙◌, arith, append-nil, refl}
use Rattle.std.proofs.lemmas.List.{append_cancel_right}
use Rattle.ciborium_ll.specs.{Item.Item, laws.SpellingLaws.{NoneBeginsAnother, OneItem, OneAtFront}}
use Rattle.ciborium_ll.proofs.ItemReader.{found, read, weight, read-again}

-- the item that was found, or i
abbrev item_or : Item → Option (Item × List ℕ) → Item
item_or i None = i
item_or i (Some p) = p.0

-- what the item that was found leaves
abbrev rest_of : Option (Item × List ℕ) → List ℕ
rest_of None = []
rest_of (Some p) = p.1

pub one_at_front : OneAtFront
one_at_front a b x y i j s t e =
    let d : ℕ = weight i + weight j in
    let same : found i x ≡ found j y =
    sym (read-again i d a x (omega arith) s) ∙ ap (read d) e ∙ read-again j d b y (omega arith) t in
    let rest : x ≡ y = ap rest_of same in
    (append_cancel_right a b x (e ∙ ap (λ (c : List ℕ). b ++ c) (sym rest)), rest, ap (item_or i) same)

pub none_begins_another : NoneBeginsAnother
none_begins_another b x i j s t = (one_at_front b (b ++ x) x [] i j s t (sym (append-nil (b ++ x)))).1

pub one_item : OneItem
one_item b i j s t = (one_at_front b b [] [] i j s t refl).2
