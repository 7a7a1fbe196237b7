-- Tests joined by `and` and `or`, and tests that are one.
-- Assumes nothing.
use mathlib.Core.Path.{◌≡◌, refl, sym}
use mathlib.Core.Logic.{◌⊎◌, inl, inr}
use mathlib.Core.Bool.{Bool, true, false, not, ◌&&◌, ◌||◌, beq, true≢false}

pub and_true : (a b : Bool) → a ≡ true → b ≡ true → (a && b) ≡ true
and_true a b p q = rw (p, q)

pub and_left : (a b : Bool) → (a && b) ≡ true → a ≡ true
and_left true b h = refl
and_left false b h = h

pub and_right : (a b : Bool) → (a && b) ≡ true → b ≡ true
and_right true b h = h
and_right false b h = absurd (true≢false (sym h))

pub and₃ : (a b c : Bool) → (a && (b && c)) ≡ true → (a ≡ true) × (b ≡ true) × (c ≡ true)
and₃ a b c h = let k = and_right a (b && c) h in (and_left a (b && c) h, and_left b c k, and_right b c k)

pub or_left : (a b : Bool) → a ≡ true → (a || b) ≡ true
or_left a b h = rw h

pub or_right : (a b : Bool) → b ≡ true → (a || b) ≡ true
or_right true b h = refl
or_right false b h = h

pub or_cases : (a b : Bool) → (a || b) ≡ true → (a ≡ true) ⊎ (b ≡ true)
or_cases true b h = inl refl
or_cases false b h = inr h

-- both tests of an `or` that is false are
pub or_false : (a b : Bool) → (a || b) ≡ false → (a ≡ false) × (b ≡ false)
or_false false b h = (refl, h)
or_false true b h = absurd (true≢false h)

pub or₃_false : (a b c : Bool) → (a || (b || c)) ≡ false → (a ≡ false) × (b ≡ false) × (c ≡ false)
or₃_false false false c h = (refl, refl, h)
or₃_false false true c h = absurd (true≢false h)
or₃_false true b c h = absurd (true≢false h)

-- two tests are one where each is true if the other is
pub bool_same : (a b : Bool) → (a ≡ true → b ≡ true) → (b ≡ true → a ≡ true) → a ≡ b
bool_same true b f g = sym (f refl)
bool_same false true f g = g refl
bool_same false false f g = refl

-- and where a comparison finds no difference
pub same_bits : (a b : Bool) → not (beq a b) ≡ false → a ≡ b
same_bits true true h = refl
same_bits true false h = absurd (true≢false h)
same_bits false true h = absurd (true≢false h)
same_bits false false h = refl

pub bits_same : (a b : Bool) → a ≡ b → not (beq a b) ≡ false
bits_same true true e = refl
bits_same true false e = absurd (true≢false e)
bits_same false true e = absurd (true≢false (sym e))
bits_same false false e = refl
