-- The left byte of a structure of 3^rank bytes.
-- Assumes nothing.
use mathlib.Core.Path.{◌≡◌, sym, ap, ◌∙◌}
use mathlib.Core.List.{List}
use Prim.Native.Nat.{ℕ, suc, ◌-◌, ◌^◌, ◌≤◌}
use native.Mathlib.Nat.{one-le-pow, pow-succ'}
use native.Mathlib.Omega.{arith}
use Rattle.frame.specs.Lists.{entries}
use Rattle.frame.specs.Structure.{on, left_code, left_on}
use Rattle.frame.proofs.EntryLaws.{length_entries, on_entries}

pub power_at : (m n : ℕ) → n ≡ m → 3 ^ m ≡ 3 ^ n
power_at m n e = ap (λ (k : ℕ). 3 ^ k) (sym e)

pub power_three : (rank : ℕ) → 1 ≤ rank → 3 ≤ 3 ^ rank
power_three rank h =
    let e : rank ≡ suc (rank - 1) = omega arith in
    let k = one-le-pow (rank - 1) 3 (omega arith) in
    rw e (omega (arith, pow-succ' 3 (rank - 1)))

-- it is among those bytes
pub left_is : (rank : ℕ) (shape structure : List ℕ) → 1 ≤ rank
    → on structure (left_code rank) ≡ left_on (entries rank shape) (entries (3 ^ rank) structure)
unfolding left_on
left_is rank shape structure h =
    let p = power_three rank h in
    sym (on_entries (3 ^ rank) structure (left_code rank) (omega arith))
    ∙ ap (λ (k : ℕ). on (entries (3 ^ rank) structure) (left_code k)) (sym (length_entries rank shape))
