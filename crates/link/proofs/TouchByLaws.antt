-- The touches of a line by one leading offset: as the code finds the neighbour's line, in three dimensions.
-- Assumes nothing.
use mathlib.Core.Path.{◌≡◌, refl, sym, ap, ◌∙◌, subst}
use mathlib.Core.Bool.{Bool, true, false, cond, ◌&&◌, ◌||◌, or_assoc}
use mathlib.Core.List.{List, [], ◌++◌}
use Prim.Native.Nat.{ℕ, ◌+◌, ◌-◌, ◌*◌, ◌/◌, ◌^◌, ◌<◌}
use native.Mathlib.Omega.{arith}
use borrow.Author.Tests.{lt-ltb}
use lib.ListN.{length, replicate, length-drop, take-append-drop}
use Rattle.frame.specs.Shape.{size}
use Rattle.frame.specs.Structure.{offset, backward, on}
use Rattle.frame.specs.Words.{line_start, stored_run}
use Rattle.frame.specs.Touches.{used, has_nbr, nbr_line, touches_by}
use Rattle.frame.proofs.StructureLaws.{backward_below}
use Rattle.frame.proofs.TouchLaws.{nbr_earlier}
use Rattle.geo.specs.Geometry.{ThreeDims, leading_of}
use Rattle.offsets.specs.Digits.{three_digits}
use Rattle.link.specs.Lines.{nbr_of, pairs_of}
use Rattle.geo.proofs.DimsLaws.{size_ones}
use Rattle.link.proofs.CoordinateLaws.{has_ones, line_ones}
use Rattle.std.proofs.Common.{Option, Some, None}

-- ---- the answer of nbr_line

line_in : Option ℕ → ℕ
line_in (Some m) = m
line_in None = 0

is_line : Option ℕ → Bool
is_line (Some m) = true
is_line None = false

module _ (ds ts : List ℕ) (ℓ : ℕ) where
  answer_is : (a : Option ℕ) → a ≡ nbr_of ds ts ℓ → is_line a ≡ has_nbr ds ts ℓ
  unfolding nbr_of is_line
  answer_is a e = ap is_line e ∙ go (has_nbr ds ts ℓ)
    where
      go : (b : Bool) → is_line (cond b (Some (nbr_line ds ts ℓ)) None) ≡ b
      go true = refl
      go false = refl

  found_has : (m : ℕ) → Some m ≡ nbr_of ds ts ℓ → has_nbr ds ts ℓ ≡ true
  unfolding is_line
  found_has m e = sym (answer_is (Some m) e)

  found_line : (m : ℕ) → Some m ≡ nbr_of ds ts ℓ → m ≡ nbr_line ds ts ℓ
  unfolding line_in nbr_of
  found_line m e = ap line_in e ∙ ap (λ (b : Bool). line_in (cond b (Some (nbr_line ds ts ℓ)) None)) (found_has m e)

  none_has : None ≡ nbr_of ds ts ℓ → has_nbr ds ts ℓ ≡ false
  unfolding is_line
  none_has e = sym (answer_is None e)

-- ---- n leading dimensions among three

module _ (n : ℕ) (dims : List ℕ) (L : ℕ) (D : ThreeDims n dims L) (three : length dims ≡ 3) where
  pub dims_are : dims ≡ replicate (3 - n) 1 ++ leading_of n dims
  dims_are = sym (take-append-drop (3 - n) dims) ∙ ap (λ (l : List ℕ). l ++ leading_of n dims) D.ones

  pub leading_length : length (leading_of n dims) ≡ n
  leading_length = omega (arith, length-drop (3 - n) dims, three, D.few)

  pub leading_size : size (leading_of n dims) ≡ L
  leading_size = sym (size_ones (3 - n) (leading_of n dims)) ∙ ap size (sym dims_are) ∙ sym D.product

  -- an offset with a code below the middle
  module _ (structure ws : List ℕ) (ℓ k : ℕ) (within : ℓ < L) (low : k < 3 ^ n / 2) where
    abbrev ds : List ℕ
    ds = leading_of n dims

    below : ℓ < size ds
    below = rw leading_size within

    pub code_fits : k < 3 ^ n
    code_fits = omega (arith, low)

    has_three : has_nbr dims (three_digits n k) ℓ ≡ has_nbr ds (offset (length ds) k) ℓ
    unfolding three_digits
    has_three =
        ap (λ (l : List ℕ). has_nbr l (replicate (3 - n) 1 ++ offset n k) ℓ) dims_are ∙ has_ones (3 - n) ds (offset n k) ℓ below
        ∙ ap (λ (x : ℕ). has_nbr ds (offset x k) ℓ) (sym leading_length)

    line_three : nbr_line dims (three_digits n k) ℓ ≡ nbr_line ds (offset (length ds) k) ℓ
    unfolding three_digits
    line_three =
        ap (λ (l : List ℕ). nbr_line l (replicate (3 - n) 1 ++ offset n k) ℓ) dims_are ∙ line_ones (3 - n) ds (offset n k) ℓ below
        ∙ ap (λ (x : ℕ). nbr_line ds (offset x k) ℓ) (sym leading_length)

    is_backward : backward (offset (length ds) k) ≡ true
    is_backward = ap (λ (x : ℕ). backward (offset x k)) leading_length ∙ backward_below n k code_fits ∙ lt-ltb k (3 ^ n / 2) low

    -- its three bytes
    abbrev prev : Bool
    prev = on structure (3 * k)

    abbrev adj : Bool
    adj = on structure (3 * k + 1)

    abbrev next : Bool
    next = on structure (3 * k + 2)

    used_is : used structure (length ds) k ≡ (prev || adj) || next
    unfolding used
    used_is = ap (λ (b : Bool). b && (prev || (adj || next))) is_backward ∙ sym (or_assoc prev adj next)

    pub by_unused : (prev || adj) || next ≡ false → touches_by (leading_of n dims) structure (line_start ws) (stored_run L ws) ℓ k ≡ []
    unfolding touches_by
    by_unused e = rw (used_is ∙ e)

    pub by_none : (prev || adj) || next ≡ true → None ≡ nbr_of dims (three_digits n k) ℓ
        → touches_by (leading_of n dims) structure (line_start ws) (stored_run L ws) ℓ k ≡ []
    unfolding touches_by
    by_none e a = rw (used_is ∙ e, sym has_three ∙ none_has dims (three_digits n k) ℓ a)

    module _ (m : ℕ) (e : (prev || adj) || next ≡ true) (a : Some m ≡ nbr_of dims (three_digits n k) ℓ) where
      has : has_nbr ds (offset (length ds) k) ℓ ≡ true
      has = sym has_three ∙ found_has dims (three_digits n k) ℓ m a

      line : m ≡ nbr_line ds (offset (length ds) k) ℓ
      line = found_line dims (three_digits n k) ℓ m a ∙ line_three

      pub by_earlier : m < ℓ
      by_earlier = subst (λ (x : ℕ). x < ℓ) (sym line) (nbr_earlier ds structure ℓ k below (used_is ∙ e) has)

      pub by_pairs : touches_by (leading_of n dims) structure (line_start ws) (stored_run L ws) ℓ k
          ≡ pairs_of L ws ℓ m (record { prev = prev; adj = adj; next = next })
      unfolding touches_by
      by_pairs = rw (used_is ∙ e, has, ← line)
