-- A list written into the front of an array that holds one value.
-- Assumes nothing.
use mathlib.Core.Path.{◌≡◌, refl}
use mathlib.Core.List.{List, ◌++◌}
use Prim.Native.Nat.{ℕ, ◌-◌}
use lib.ListN.{length, drop, replicate}
use Rattle.std.proofs.lemmas.List.{drop-replicate}

pub front_written : {A : Type 0} (n : ℕ) (z : A) (s front : List A) → front ≡ s
    → front ++ drop (length s) (replicate n z) ≡ s ++ replicate (n - length s) z
front_written n z s front e = rw (e, drop-replicate) refl
