-- Numbers below n that pass a test, and lines: those that pass are as many as the lines whose first passes, exactly where no other does.
-- Assumes nothing.
use Rattle.std.proofs.Common.{◌≡◌, ℕ, zero, suc, ◌+◌, ◌<◌, ◌≤◌, Bool, true, false, cond, ltb, refl, ap, ◌∙◌, le_refl, arith, ltb-false, ltb-true, lt-ltb}
use native.Mathlib.Decide.{ℕ_discrete, le_ind}
use Rattle.groups.specs.Groups.{count}
use Rattle.groups.proofs.CountLaws.{count_on, count_off, count_none, count_mono}
use Rattle.sound.specs.Passes.{first_falls}

module _ (f : ℕ → Bool) where
  -- the count stays over an interval exactly where none of it passes
  pub count_stays : (a b : ℕ) → a ≤ b → ((r : ℕ) → a ≤ r → r < b → f r ≡ false) → count f b ≡ count f a
  count_stays a = le_ind (λ b. ((r : ℕ) → a ≤ r → r < b → f r ≡ false) → count f b ≡ count f a) (λ h. refl)
      (λ b k below h. count_off f b (h b k (le_refl (suc b))) ∙ below (λ r l m. h r l (omega arith)))

  pub stays_none : (a b r : ℕ) → count f b ≤ count f a → a ≤ r → r < b → f r ≡ false
  stays_none a b r h l m = go (f r) refl
    where
      go : (t : Bool) → f r ≡ t → f r ≡ false
      go false t = t
      go true t = absurd (omega (arith, count_mono f a r l, count_on f r t, count_mono f (suc r) b m))

  -- the numbers from first ℓ to before first (suc ℓ) are those of line ℓ
  module _ (first : ℕ → ℕ) where
    abbrev firsts : ℕ → Bool
    firsts = first_falls f first

    abbrev Rising : ℕ → Type 0
    Rising n = (ℓ : ℕ) → ℓ < n → first ℓ ≤ first (suc ℓ)

    -- no number of a line passes but its first
    abbrev Others : ℕ → Type 0
    Others n = (ℓ : ℕ) → ℓ < n → (r : ℕ) → first ℓ < r → r < first (suc ℓ) → f r ≡ false

    -- a line with numbers, and one without
    some : (ℓ : ℕ) → first ℓ < first (suc ℓ) → cond (firsts ℓ) 1 0 + count f (first ℓ) ≡ count f (suc (first ℓ))
    unfolding count first_falls
    some ℓ l = rw (lt-ltb (first ℓ) (first (suc ℓ)) l) refl

    none : (ℓ : ℕ) → ltb (first ℓ) (first (suc ℓ)) ≡ false → firsts ℓ ≡ false
    unfolding first_falls
    none ℓ l = rw l refl

    line_counts : (ℓ : ℕ) → first ℓ ≤ first (suc ℓ) → cond (firsts ℓ) 1 0 + count f (first ℓ) ≤ count f (first (suc ℓ))
    line_counts ℓ h = go (ltb (first ℓ) (first (suc ℓ))) refl
      where
        go : (t : Bool) → ltb (first ℓ) (first (suc ℓ)) ≡ t → cond (firsts ℓ) 1 0 + count f (first ℓ) ≤ count f (first (suc ℓ))
        go true t =
            let l = ltb-true (first ℓ) (first (suc ℓ)) t in
            omega (arith, some ℓ l, count_mono f (suc (first ℓ)) (first (suc ℓ)) l)
        go false t = rw (none ℓ t) (omega (arith, count_mono f (first ℓ) (first (suc ℓ)) h))

    firsts_few : (n : ℕ) → Rising n → count firsts n ≤ count f (first n)
    unfolding count
    firsts_few zero h = omega arith
    firsts_few (suc n) h =
        let below = firsts_few n (λ ℓ l. h ℓ (omega arith)) in
        omega (arith, line_counts n (h n (le_refl (suc n))))

    pub same_others : (n : ℕ) → Rising n → count f (first n) ≤ count firsts n → Others n
    unfolding count
    same_others zero h e ℓ l r a b = absurd (omega arith)
    same_others (suc n) h e ℓ l r a b =
        let counts = line_counts n (h n (le_refl (suc n))) in
        go (ℕ_discrete ℓ n) (same_others n (λ ℓ l. h ℓ (omega arith)) (omega arith))
      where
        go : Dec (ℓ ≡ n) → Others n → f r ≡ false
        go (no ne) below = below ℓ (omega arith) r a b
        go (yes is) below =
            let a' : first n < r = rw (ap first is) at a in
            let b' : r < first (suc n) = rw is at b in
            stays_none (suc (first n)) (first (suc n)) r
            (omega (arith, some n (omega arith), firsts_few n (λ ℓ l. h ℓ (omega arith)))) a' b'

    pub others_same : (n : ℕ) → first 0 ≡ 0 → Rising n → Others n → count f (first n) ≡ count firsts n
    unfolding count
    others_same zero z h o = ap (count f) z ∙ count_none f
    others_same (suc n) z h o =
        go (ltb (first n) (first (suc n))) refl (others_same n z (λ ℓ l. h ℓ (omega arith)) (λ ℓ l. o ℓ (omega arith)))
      where
        go : (t : Bool) → ltb (first n) (first (suc n)) ≡ t → count f (first n) ≡ count firsts n
            → count f (first (suc n)) ≡ cond (firsts n) 1 0 + count firsts n
        go true t below =
            let l = ltb-true (first n) (first (suc n)) t in
            omega (arith, some n l, count_stays (suc (first n)) (first (suc n)) l (o n (le_refl (suc n))))
        go false t below =
            let e : first (suc n) ≡ first n = omega (arith, ltb-false (first n) (first (suc n)) t, h n (le_refl (suc n))) in
            rw (none n t) (omega (arith, ap (count f) e))
