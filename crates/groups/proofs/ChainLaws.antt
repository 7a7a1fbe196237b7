-- Chains over any relation.
-- Assumes nothing.
use mathlib.Core.Path.{◌≡◌, subst}
use Prim.Native.Nat.{ℕ}
use Rattle.groups.specs.Groups.{Chain, one, more}

module _ {R : ℕ → ℕ → Type 0} where
  pub chain_trans : {a b c : ℕ} → Chain R a b → Chain R b c → Chain R a c
  chain_trans one k = k
  chain_trans (more r h) k = more r (chain_trans h k)

  chain_onto : ((a b : ℕ) → R a b → R b a) → {a b c : ℕ} → Chain R a b → Chain R a c → Chain R b c
  chain_onto flip one k = k
  chain_onto flip (more r h) k = chain_onto flip h (more (flip _ _ r) k)

  pub chain_sym : ((a b : ℕ) → R a b → R b a) → {a b : ℕ} → Chain R a b → Chain R b a
  chain_sym flip h = chain_onto flip h one

  pub chain_map : {S : ℕ → ℕ → Type 0} → ((a b : ℕ) → R a b → S a b) → {a b : ℕ} → Chain R a b → Chain S a b
  chain_map f one = one
  chain_map f (more r h) = more (f _ _ r) (chain_map f h)

  pub chain_refl : {a b : ℕ} → a ≡ b → Chain R a b
  chain_refl {a} e = subst (λ (k : ℕ). Chain R a k) e one

-- a map of nodes takes chains to chains, where it takes each step to one
pub chain_bind : {R S : ℕ → ℕ → Type 0} (f : ℕ → ℕ) → ((a b : ℕ) → R a b → Chain S (f a) (f b)) → {a b : ℕ} → Chain R a b
    → Chain S (f a) (f b)
chain_bind f h one = one
chain_bind f h (more r k) = chain_trans (h _ _ r) (chain_bind f h k)
