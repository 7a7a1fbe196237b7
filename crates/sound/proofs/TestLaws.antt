-- Tests: as numbers, counted one by one, with what they let into a sum; and differences modulo 2^32.
-- Assumes nothing.
use Rattle.std.proofs.Common.{◌≡◌, ℕ, suc, ◌+◌, ◌-◌, ◌*◌, ◌%◌, ◌^◌, ◌<◌, ◌≤◌, Bool, true, false, cond, not, sym, refl, le_refl, mul-le-mul, add-one, arith, Fits}
use mir.Syntax.{Width}
use mir.Val.{bool_byte, bits}
use Rattle.groups.specs.Groups.{count, sum_over}
use Rattle.groups.proofs.CountLaws.{count_on, count_off}
use Rattle.groups.proofs.SumLaws.{sum_suc}
use Rattle.frame.specs.Runs.{gap_of}

pub byte_le : (t : Bool) → bool_byte t ≤ 1
byte_le false = omega arith
byte_le true = omega arith

-- what shows a number to be at most 1: a test's, or 1 itself
pub ruleset bits-le = (byte_le, le_refl)

pub byte_gap : (left : Bool) → bool_byte left ≡ gap_of left
unfolding gap_of
byte_gap false = refl
byte_gap true = refl

pub byte_no_gap : (left : Bool) → bool_byte (not left) + gap_of left ≡ 1
unfolding gap_of
byte_no_gap false = refl
byte_no_gap true = refl

-- a count of at most r that grows by a test fits, where suc r does
pub byte_fits : {W : Width} {k r b : ℕ} → b ≤ 1 → k ≤ r → suc r < 2 ^ bits W → Fits W (k + b)
byte_fits t h l = record { fits = omega arith }

-- a number times a test fits, where the number does
pub times_fits : {W : Width} {x b : ℕ} → b ≤ 1 → x < 2 ^ bits W → Fits W (x * b)
times_fits {x = x} t l = record { fits = omega (arith, mul-le-mul (le_refl x) t) }

-- one number more that is tested
pub counts_more : (f : ℕ → Bool) (n : ℕ) {k : ℕ} (t : Bool) → t ≡ f n → k ≡ count f n → k + bool_byte t ≡ count f (n + 1)
counts_more f n true is e = rw (add-one n) (omega (arith, count_on f n (sym is)))
counts_more f n false is e = rw (add-one n) (omega (arith, count_off f n (sym is)))

-- a sum with one number more, as the product with its test
pub sums_more : (f : ℕ → Bool) (v : ℕ → ℕ) (n : ℕ) {s : ℕ} → s ≡ sum_over f v n → s + v n * bool_byte (f n) ≡ sum_over f v (n + 1)
sums_more f v n {s} e = rw (add-one n) (omega (arith, e, sum_suc f v n, go (f n)))
  where
    go : (t : Bool) → v n * bool_byte t ≡ cond t (v n) 0
    go true = omega arith
    go false = omega arith

-- a difference modulo 2^32, and that the sum with it gives back what it was taken from
pub wrap_low : (x : ℕ) → x % 4294967296 < 4294967296
wrap_low x = omega arith

pub wrap_back : (e s : ℕ) → e < 4294967296 → s < 4294967296 → ((e + (4294967296 - s)) % 4294967296 + s) % 4294967296 ≡ e
wrap_back e s l m = omega arith
