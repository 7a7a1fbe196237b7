-- Live nodes mapped onto nodes 0 to m - 1, a first node for each: the groups of the latter number the former.
-- Assumes nothing.
use mathlib.Core.Path.{◌≡◌, refl, ap, subst}
use mathlib.Core.Bool.{Bool, true, false, cond}
use Prim.Native.Nat.{ℕ, ◌≤◌, ◌<◌}
use native.Mathlib.Nat.{le_antisymm}
use native.Mathlib.Omega.{arith}
use borrow.Author.Tests.{eqb-true, eqb-false, ltb-true, ltb-false}
use lib.Dec.{eqb, ltb}
use Rattle.groups.specs.Groups.{Chain, one, more}
use Rattle.groups.specs.Numbers.{First, Numbered}
use Rattle.groups.proofs.ChainLaws.{chain_trans, chain_sym, chain_bind}

pub record Onto (live : ℕ → Bool) (R : ℕ → ℕ → Type 0) (size : ℕ) (Q : ℕ → ℕ → Type 0) (m : ℕ) (run start : ℕ → ℕ) : Type 0 where
  pub flip : (p q : ℕ) → R p q → R q p
  pub run_below : (p : ℕ) → p < size → live p ≡ true → run p < m
  pub start_below : (r : ℕ) → r < m → start r < size
  pub start_live : (r : ℕ) → r < m → live (start r) ≡ true
  pub run_start_lem : (r : ℕ) → r < m → run (start r) ≡ r
  pub start_first : (p : ℕ) → p < size → live p ≡ true → start (run p) ≤ p
  pub start_chain : (p : ℕ) → p < size → live p ≡ true → Chain R p (start (run p))
  pub start_mono : (r s : ℕ) → r < s → s < m → start r < start s
  pub down : (p q : ℕ) → R p q → Chain Q (run p) (run q)
  pub lift : (r s : ℕ) → Q r s → Chain R (start r) (start s)
  pub inside : (r s : ℕ) → Q r s → s < m

module _ {live : ℕ → Bool} {R : ℕ → ℕ → Type 0} {size : ℕ} {Q : ℕ → ℕ → Type 0} {m : ℕ} {run start : ℕ → ℕ}
    (O : Onto live R size Q m run start) where
  stays : {r s : ℕ} → Chain Q r s → r < m → s < m
  stays one h = h
  stays (more q k) h = stays k (O.inside _ _ q)

  first_start : (p : ℕ) → p < size → First live R p → start (run p) ≡ p
  first_start p h f = le_antisymm (O.start_first p h f.is_live) (f.least (start (run p)) (O.start_chain p h f.is_live))

  run_first : (p : ℕ) → p < size → First live R p → First (λ r. true) Q (run p)
  run_first p h f = record { is_live = refl; least = λ s c. go s c (ltb s (run p)) refl }
    where
      go : (s : ℕ) → Chain Q (run p) s → (b : Bool) → ltb s (run p) ≡ b → run p ≤ s
      go s c true t =
          let l = f.least (start s) (subst (λ (k : ℕ). Chain R k (start s)) (first_start p h f) (chain_bind start O.lift c)) in
          absurd (omega (arith, O.start_mono s (run p) (ltb-true s (run p) t) (O.run_below p h f.is_live), first_start p h f))
      go s c false t = ltb-false s (run p) t

  run_less : (p q : ℕ) → p < size → q < size → First live R p → First live R q → p < q → run p < run q
  run_less p q hp hq f g l = go (ltb (run p) (run q)) refl (eqb (run p) (run q)) refl
    where
      go : (b : Bool) → ltb (run p) (run q) ≡ b → (c : Bool) → eqb (run p) (run q) ≡ c → run p < run q
      go true t c u = ltb-true _ _ t
      go false t true u = absurd (omega (arith, first_start p hp f, first_start q hq g, ap start (eqb-true (run p) (run q) u)))
      go false t false u =
          let a = ltb-false (run p) (run q) t in
          let b = eqb-false (run p) (run q) u in
          absurd (omega (
            arith,
            first_start p hp f,
            first_start q hq g,
            O.start_mono (run q) (run p) (omega arith) (O.run_below p hp f.is_live),
          ))

  pub by_runs : (n : ℕ) (ν : ℕ → ℕ) → Numbered (λ r. true) Q m n ν → Numbered live R size n (λ p. cond (live p) (ν (run p)) 0)
  by_runs n ν N = record {
    off = λ p h a. rw a;
    on = λ p h a. rw a (N.on (run p) (O.run_below p h a) refl);
    same = λ p q hp hq a b. rw (a, b) (
      λ e. chain_trans (O.start_chain p hp a) (chain_trans
          (chain_bind start O.lift ((N.same (run p) (run q) (O.run_below p hp a) (O.run_below q hq b) refl refl).0 e))
          (chain_sym O.flip (O.start_chain q hq b))),
      λ c. (N.same (run p) (run q) (O.run_below p hp a) (O.run_below q hq b) refl refl).1 (chain_bind run O.down c),
    );
    order = λ p q hp hq f g l. rw (f.is_live, g.is_live)
        (N.order (run p) (run q) (O.run_below p hp f.is_live) (O.run_below q hq g.is_live) (run_first p hp f) (run_first q hq g)
        (run_less p q hp hq f g l));
    used = λ k h l. let u = N.used k h l in (
      start u.0,
      O.start_below u.0 u.1,
      rw (
        O.start_live u.0 u.1,
        O.run_start_lem u.0 u.1,
      ) u.2,
    );
  }
