use Rattle.std.proofs.{Common.{ℕ, ◌<◌, List, get_or, Fits, w8, arith, sym, ◌∙◌}, lemmas.Nat.{be_bytes_4, be_bytes_8}}
use Rattle.ciborium_ll.specs.Head.{four_bytes, eight_bytes}
use Rattle.ciborium_ll.proofs.parsing.argument_of.Goals as goal

each-below : (xs : List ℕ) → ((i : ℕ) → Fits w8 (get_or xs i 0)) → (i : ℕ) → get_or xs i 0 < 256
each-below xs fits i = let f = fits i in omega (arith, f)

pub returns-in-26 : goal.returns-in-26
returns-in-26 c =
    let is = c.from-in-26.ensures ∙ c.from_be_bytes-in-26.ensures in
    let bytes = be_bytes_4 c.args.bytes.now _ (rw c.in-26.is at c.requires.whole) (each-below _ c.type_inv.bytes) is in
    (four_bytes, rw c.from-in-26.ensures c.from_be_bytes-in-26.type_inv, c.in-26.is, sym bytes)

pub returns-in-27 : goal.returns-in-27
returns-in-27 c =
    let is = c.from_be_bytes-in-27.ensures in
    let bytes = be_bytes_8 c.args.bytes.now _ (rw c.in-27.is at c.requires.whole) (each-below _ c.type_inv.bytes) is in
    (eight_bytes, c.from_be_bytes-in-27.type_inv, c.in-27.is, sym bytes)
