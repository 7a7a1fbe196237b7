-- Lists gathered from pieces: `gather`, `pairs`.
-- Assumes nothing.
use mathlib.Core.Path.{◌≡◌, refl, sym, ap, ap₂, ◌∙◌, subst}
use mathlib.Core.Logic.{◌⊎◌, inl, inr}
use mathlib.Core.Bool.{Bool, true, false, cond, true≢false}
use mathlib.Core.List.Memᴰ
use mathlib.Core.List.{List, [], ◌∷◌, ◌++◌, append_assoc, append-nil, Memᴰ}
use Prim.Native.Nat.{ℕ, zero, suc, ◌+◌, ◌*◌, ◌≤◌, ◌<◌}
use native.Mathlib.Nat.{le_refl, suc-mul}
use native.Mathlib.Omega.{arith}
use borrow.Author.Tests.{eqb-true, eqb-false}
use lib.Dec.{eqb}
use lib.ListN.{length, length-append}
use Rattle.groups.specs.Groups.{Edge, gather, pairs}
use Rattle.groups.proofs.RepLaws.{Ends, ends_all}

module _ {A : Type 0} (f : ℕ → List A) where
  pub gather_split : (a n m : ℕ) → gather f a (n + m) ≡ gather f a n ++ gather f (a + n) m
  unfolding gather
  gather_split a zero m =
      let e : 0 + m ≡ m = omega arith in let z : a + 0 ≡ a = omega arith in ap (gather f a) e ∙ ap (λ (k : ℕ). gather f k m) (sym z)
  gather_split a (suc n) m =
      let e : suc n + m ≡ suc (n + m) = omega arith in
      let z : suc a + n ≡ a + suc n = omega arith in
      ap (gather f a) e ∙ ap (λ (l : List A). f a ++ l) (gather_split (suc a) n m ∙ ap (λ (k : ℕ). gather f (suc a) n ++ gather f k m) z)
      ∙ sym (append_assoc (f a) (gather f (suc a) n) (gather f (a + suc n) m))

  gather_one : (a : ℕ) → gather f a 1 ≡ f a
  unfolding gather
  gather_one a = append-nil (f a)

  pub gather_snoc : (a n : ℕ) → gather f a (suc n) ≡ gather f a n ++ f (a + n)
  gather_snoc a n =
      let e : suc n ≡ n + 1 = omega arith in
      ap (gather f a) e ∙ gather_split a n 1 ∙ ap (λ (l : List A). gather f a n ++ l) (gather_one (a + n))

  -- where an element is from
  pub record From (a n : ℕ) (e : A) : Type 0 where
    pub at : ℕ
    pub low : a ≤ at
    pub high : at < a + n
    pub mem : Memᴰ e (f at)

  pub gather_from : (a n : ℕ) (e : A) → Memᴰ e (gather f a n) → From a n e
  unfolding gather
  gather_from a zero e m = absurd (Memᴰ.not-nil m)
  gather_from a (suc n) e m = go (gather_from (suc a) n e) (Memᴰ.append_cases (f a) m)
    where
      go : (Memᴰ e (gather f (suc a) n) → From (suc a) n e) → Memᴰ e (f a) ⊎ Memᴰ e (gather f (suc a) n) → From a (suc n) e
      go below (inl k) = record { at = a; low = le_refl a; high = omega arith; mem = k }
      go below (inr k) = let r = below k in record { at = r.at; low = omega (arith, r.low); high = omega (arith, r.high); mem = r.mem }

  pub from_gather : (a n k : ℕ) {e : A} → a ≤ k → k < a + n → Memᴰ e (f k) → Memᴰ e (gather f a n)
  unfolding gather
  from_gather a zero k h l m = absurd (omega arith)
  from_gather a (suc n) k {e} h l m = go (eqb k a) refl (λ h' l'. from_gather (suc a) n k h' l' m)
    where
      go : (b : Bool) → eqb k a ≡ b → (suc a ≤ k → k < suc a + n → Memᴰ e (gather f (suc a) n))
          → Memᴰ e (f a ++ gather f (suc a) n)
      go true t below = Memᴰ.append_left (gather f (suc a) n) (subst (λ (j : ℕ). Memᴰ e (f j)) (eqb-true k a t) m)
      go false t below = let ne = eqb-false k a t in Memᴰ.append_right (f a) (below (omega arith) (omega arith))

pub gather_same : {A : Type 0} (f g : ℕ → List A) (a n : ℕ) → ((k : ℕ) → a ≤ k → k < a + n → f k ≡ g k) → gather f a n ≡ gather g a n
unfolding gather
gather_same f g a zero h = refl
gather_same {A} f g a (suc n) h = ap₂ (λ (x : List A) (y : List A). x ++ y) (h a (le_refl a) (omega arith))
    (gather_same f g (suc a) n (λ k l u. h k (omega arith) (omega arith)))

pub gather_shift : {A : Type 0} (f g : ℕ → List A) (n : ℕ) → ((i : ℕ) → f (n + i) ≡ g i) → (a m : ℕ) → gather f (n + a) m ≡ gather g a m
unfolding gather
gather_shift f g n h a zero = refl
gather_shift {A} f g n h a (suc m) =
    let e : suc (n + a) ≡ n + suc a = omega arith in
    ap₂ (λ (x : List A) (y : List A). x ++ y) (h a) (ap (λ (k : ℕ). gather f k m) e ∙ gather_shift f g n h (suc a) m)

-- ---- pairs

module _ {A : Type 0} where
  cond_from : (b : Bool) (x e : A) → Memᴰ e (cond b (x ∷ []) []) → (b ≡ true) × (e ≡ x)
  cond_from true x e m = (refl, Memᴰ.eq_of_singleton m)
  cond_from false x e m = absurd (Memᴰ.not-nil m)

  from_cond : (b : Bool) (x e : A) → b ≡ true → e ≡ x → Memᴰ e (cond b (x ∷ []) [])
  from_cond true x e h q = Memᴰ.head q
  from_cond false x e h q = absurd (true≢false (sym h))

-- an edge of the list is a pair that passes
pub record Pair (t : ℕ → ℕ → Bool) (a n b m : ℕ) (e : Edge) : Type 0 where
  pub from_low : a ≤ e.from
  pub from_high : e.from < a + n
  pub to_low : b ≤ e.to
  pub to_high : e.to < b + m
  pub passes : t e.from e.to ≡ true

module _ (t : ℕ → ℕ → Bool) (a n b m : ℕ) (e : Edge) where
  pub pairs_from : Memᴰ e (pairs t a n b m) → Pair t a n b m e
  unfolding pairs
  pairs_from k =
      let r = gather_from _ a n e k in
      let s = gather_from _ b m e r.mem in
      let c = cond_from (t r.at s.at) _ e s.mem in
      subst (Pair t a n b m) (sym c.1) (record {
        from_low = r.low;
        from_high = r.high;
        to_low = s.low;
        to_high = s.high;
        passes =
            c.0;
      })

  pub from_pairs : Pair t a n b m e → Memᴰ e (pairs t a n b m)
  unfolding pairs
  from_pairs p = from_gather _ a n e.from p.from_low p.from_high
      (from_gather _ b m e.to p.to_low p.to_high (from_cond (t e.from e.to) _ e p.passes refl))

pub pairs_same : (t u : ℕ → ℕ → Bool) (a n b m : ℕ) → ((i j : ℕ) → a ≤ i → i < a + n → b ≤ j → j < b + m → t i j ≡ u i j)
    → pairs t a n b m ≡ pairs u a n b m
unfolding pairs
pairs_same t u a n b m h =
    gather_same _ _ a n (λ i l g. gather_same _ _ b m
    (λ j p q. ap (λ (x : Bool). cond x (record { from = i; to = j } ∷ []) []) (h i j l g p q)))

-- ---- none, some rows and then others, ends below a bound

pub gather_none : {A : Type 0} (f : ℕ → List A) (a n : ℕ) → ((k : ℕ) → a ≤ k → k < a + n → f k ≡ []) → gather f a n ≡ []
unfolding gather
gather_none f a zero h = refl
gather_none {A} f a (suc n) h = ap₂ (λ (x : List A) (y : List A). x ++ y) (h a (le_refl a) (omega arith))
    (gather_none f (suc a) n (λ k l u. h k (omega arith) (omega arith)))

-- where each piece has m, and where none has more
pub gather_each : {A : Type 0} (f : ℕ → List A) (m : ℕ) → ((k : ℕ) → length (f k) ≡ m) → (a n : ℕ) → length (gather f a n) ≡ n * m
unfolding gather
gather_each f m h a zero = omega arith
gather_each f m h a (suc n) =
    omega (arith, length-append (f a) (gather f (suc a) n), h a, gather_each f m h (suc a) n, suc-mul n m)

pub gather_most : {A : Type 0} (f : ℕ → List A) (m a n : ℕ) → ((k : ℕ) → a ≤ k → k < a + n → length (f k) ≤ m)
    → length (gather f a n) ≤ n * m
unfolding gather
gather_most f m a zero h = omega arith
gather_most f m a (suc n) h =
    let i = gather_most f m (suc a) n (λ k l u. h k (omega arith) (omega arith)) in
    omega (arith, length-append (f a) (gather f (suc a) n), h a (le_refl a) (omega arith), suc-mul n m)

module _ (t : ℕ → ℕ → Bool) where
  pub pairs_none : (a n b m : ℕ) → ((i j : ℕ) → a ≤ i → i < a + n → b ≤ j → j < b + m → t i j ≡ false) → pairs t a n b m ≡ []
  unfolding pairs
  pairs_none a n b m h = gather_none _ a n (λ i p q. gather_none _ b m
      (λ j r s. ap (λ (x : Bool). cond x (record { from = i; to = j } ∷ []) []) (h i j p q r s)))

  pub pairs_rows : (a n k b m : ℕ) → pairs t a (n + k) b m ≡ pairs t a n b m ++ pairs t (a + n) k b m
  unfolding pairs
  pairs_rows a n k b m = gather_split _ a n k

  -- one row, in two parts
  pub pairs_parts : (i b m k : ℕ) → pairs t i 1 b (m + k) ≡ pairs t i 1 b m ++ pairs t i 1 (b + m) k
  unfolding pairs gather
  pairs_parts i b m k = simp append-nil (gather_split _ b m k)

  pub pairs_ends : (a n b m w : ℕ) → a + n ≤ w → b + m ≤ w → Ends (λ r. r < w) (pairs t a n b m)
  pairs_ends a n b m w h k = ends_all (λ r. r < w) (pairs t a n b m)
      (λ e i. let p = pairs_from t a n b m e i in (omega (arith, p.from_high), omega (arith, p.to_high)))
