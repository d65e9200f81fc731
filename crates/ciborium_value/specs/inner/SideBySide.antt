-- How two lists of bytes compare, whatever stands behind them.
use Rattle.std.specs.{Prelude.{◌≡◌, ℕ, List, ◌++◌, length}, Cmp.Lexicographic.slice_cmp, Ordering.{nat_cmp, on}}
use Rattle.std.specs.{Ordering.{ordering_then, then_cmp}, declared.cmp.Ordering.Ordering}

-- of all that begins with a and with b this is the order: what follows them counts only where it is
-- `Equal`
abbrev pub Decides : Ordering → List ℕ → List ℕ → Type 0
Decides o a b = (x y : List ℕ) → slice_cmp nat_cmp (a ++ x) (b ++ y) ≡ ordering_then o (slice_cmp nat_cmp x y)

-- the order of two payloads behind heads of one major type
abbrev pub payload_order : List ℕ → List ℕ → Ordering
payload_order = then_cmp (on length nat_cmp) (slice_cmp nat_cmp)
