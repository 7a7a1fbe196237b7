-- Representatives: two nodes have one exactly when a chain of edges joins them, and it is the smallest node of their group.
-- Assumes nothing.
use mathlib.Core.Path.{◌≡◌, refl, sym, ap, ◌∙◌, subst}
use mathlib.Core.Logic.{◌⊎◌, inl, inr, ◌↔◌}
use mathlib.Core.Bool.{Bool, true, false}
use mathlib.Core.List.Memᴰ
use mathlib.Core.List.{List, [], ◌∷◌, Memᴰ}
use Prim.Native.Nat.{ℕ, ◌≤◌, ◌<◌, min, max}
use native.Mathlib.Nat.{le_refl, le_trans, le_antisymm}
use native.Mathlib.Omega.{arith}
use borrow.Author.Tests.{eqb-true, eqb-false, eq-eqb, ne_eqb, leb-true, leb-false}
use lib.Dec.{eqb, leb}
use Rattle.groups.specs.Groups.{one, more, Edge, Joined, Linked, merge, rep}
use Rattle.groups.proofs.ChainLaws.{chain_trans, chain_sym, chain_map, chain_refl}

flip : (es : List Edge) (a b : ℕ) → Joined es a b → Joined es b a
flip es a b (inl m) = inr m
flip es a b (inr m) = inl m

wider : (e : Edge) (es : List Edge) (a b : ℕ) → Joined es a b → Joined (e ∷ es) a b
wider e es a b (inl m) = inl (Memᴰ.tail m)
wider e es a b (inr m) = inr (Memᴰ.tail m)

-- ---- merging

module _ (x y z : ℕ) where
  pub merge_hit : z ≡ max x y → merge x y z ≡ min x y
  unfolding merge
  merge_hit h = rw (eq-eqb z (max x y) h)

  pub merge_miss : (z ≡ max x y → ⊥) → merge x y z ≡ z
  unfolding merge
  merge_miss h = rw (ne_eqb z (max x y) h)

  unfoldable pub Merged : Type 0
  Merged = ((z ≡ max x y) × (merge x y z ≡ min x y)) ⊎ ((z ≡ max x y → ⊥) × (merge x y z ≡ z))

  pub merged : Merged
  unfolding Merged
  merged = go (eqb z (max x y)) refl
    where
      go : (b : Bool) → eqb z (max x y) ≡ b → Merged
      go true e = inl (eqb-true z (max x y) e, merge_hit (eqb-true z (max x y) e))
      go false e = inr (eqb-false z (max x y) e, merge_miss (eqb-false z (max x y) e))

merge_le : (x y z : ℕ) → merge x y z ≤ z
unfolding Merged
merge_le x y z = go (merged x y z)
  where
    go : Merged x y z → merge x y z ≤ z
    go (inl h) = omega arith
    go (inr h) = omega arith

merge_ends : (x y : ℕ) → merge x y x ≡ merge x y y
unfolding Merged
merge_ends x y = go (merged x y x) (merged x y y)
  where
    go : Merged x y x → Merged x y y → merge x y x ≡ merge x y y
    go (inl h) (inl k) = omega arith
    go (inl h) (inr k) = omega arith
    go (inr h) (inl k) = omega arith
    go (inr h) (inr k) = omega arith

-- ---- representatives

pub rep_le : (es : List Edge) (a : ℕ) → rep es a ≤ a
unfolding rep
rep_le [] a = le_refl a
rep_le (e ∷ es) a = le_trans (merge_le (rep es e.from) (rep es e.to) (rep es a)) (rep_le es a)

pub joined_rep : (es : List Edge) (a b : ℕ) → Memᴰ (record { from = a; to = b }) es → rep es a ≡ rep es b
unfolding rep
joined_rep [] a b m = absurd (Memᴰ.not-nil m)
joined_rep (e ∷ es) a b m = go (joined_rep es a b) (Memᴰ.cases_cons m)
  where
    go : (Memᴰ (record { from = a; to = b }) es → rep es a ≡ rep es b)
        → (record { from = a; to = b } ≡ e) ⊎ Memᴰ (record { from = a; to = b }) es → rep (e ∷ es) a ≡ rep (e ∷ es) b
    go below (inl q) = subst (λ (k : Edge). rep (k ∷ es) a ≡ rep (k ∷ es) b) q (merge_ends (rep es a) (rep es b))
    go below (inr k) = ap (merge (rep es e.from) (rep es e.to)) (below k)

-- two nodes that a chain joins have one representative
pub linked_rep : (es : List Edge) {a b : ℕ} → Linked es a b → rep es a ≡ rep es b
linked_rep es one = refl
linked_rep es (more (inl m) h) = joined_rep es _ _ m ∙ linked_rep es h
linked_rep es (more (inr m) h) = sym (joined_rep es _ _ m) ∙ linked_rep es h

pub linked_sym : (es : List Edge) {a b : ℕ} → Linked es a b → Linked es b a
linked_sym es h = chain_sym (flip es) h

-- one more edge: where each end, and a, is joined to its representative before, a is joined to its representative now
module _ (e : Edge) (es : List Edge) (a x y z : ℕ) (hx : Linked es e.from x) (hy : Linked es e.to y) (hz : Linked es a z) where
  up : {c d : ℕ} → Linked es c d → Linked (e ∷ es) c d
  up h = chain_map (wider e es) h

  across : Linked (e ∷ es) x y
  across = chain_trans (linked_sym (e ∷ es) (up hx)) (more (inl (Memᴰ.head refl)) (up hy))

  merge_linked : Linked (e ∷ es) a (merge x y z)
  unfolding Merged
  merge_linked = go (merged x y z) (leb x y) refl
    where
      go : Merged x y z → (b : Bool) → leb x y ≡ b → Linked (e ∷ es) a (merge x y z)
      go (inl h) true t =
          let l = leb-true x y t in
          let zy : z ≡ y = omega arith in
          let mx : x ≡ merge x y z = omega arith in
          chain_trans (up hz) (chain_trans (chain_refl zy) (chain_trans (linked_sym (e ∷ es) across) (chain_refl mx)))
      go (inl h) false t =
          let l = leb-false x y t in
          let zx : z ≡ x = omega arith in
          let my : y ≡ merge x y z = omega arith in chain_trans (up hz) (chain_trans (chain_refl zx) (chain_trans across (chain_refl my)))
      go (inr h) b t = chain_trans (up hz) (chain_refl (sym h.1))

-- a node is joined to its representative
pub rep_linked : (es : List Edge) (a : ℕ) → Linked es a (rep es a)
unfolding rep
rep_linked [] a = one
rep_linked (e ∷ es) a =
    merge_linked e es a (rep es e.from) (rep es e.to) (rep es a) (rep_linked es e.from) (rep_linked es e.to) (rep_linked es a)

-- one representative exactly when linked
pub rep_right : (es : List Edge) (a b : ℕ) → (rep es a ≡ rep es b) ↔ Linked es a b
rep_right es a b = (λ q. chain_trans (rep_linked es a) (chain_trans (chain_refl q) (linked_sym es (rep_linked es b))), linked_rep es)

pub rep_rep : (es : List Edge) (a : ℕ) → rep es (rep es a) ≡ rep es a
rep_rep es a = sym (linked_rep es (rep_linked es a))

-- it is the smallest node of its group
pub rep_least : (es : List Edge) {a b : ℕ} → Linked es a b → rep es a ≤ b
rep_least es {a} {b} h = subst (λ (k : ℕ). k ≤ b) (sym (linked_rep es h)) (rep_le es b)

-- two lists that join the same nodes give the same representatives: neither the order of the edges nor a repeat matters
pub rep_same : (es fs : List Edge) → ((a b : ℕ) → Joined es a b → Joined fs a b) → ((a b : ℕ) → Joined fs a b → Joined es a b) → (a : ℕ)
    → rep es a ≡ rep fs a
rep_same es fs f g a = le_antisymm (rep_least es (chain_map g (rep_linked fs a))) (rep_least fs (chain_map f (rep_linked es a)))

-- an edge whose ends have one representative changes nothing
pub rep_idle : (e : Edge) (es : List Edge) → rep es e.from ≡ rep es e.to → (a : ℕ) → rep (e ∷ es) a ≡ rep es a
unfolding rep Merged
rep_idle e es q a = go (merged (rep es e.from) (rep es e.to) (rep es a))
  where
    go : Merged (rep es e.from) (rep es e.to) (rep es a) → merge (rep es e.from) (rep es e.to) (rep es a) ≡ rep es a
    go (inl h) = omega arith
    go (inr h) = omega arith

-- ---- what the ends of edges have

-- both ends of every edge have P
abbrev pub Ends : (ℕ → Type 0) → List Edge → Type 0
Ends P [] = Unit {0}
Ends P (e ∷ es) = P e.from × P e.to × Ends P es

pub mem_ends : (P : ℕ → Type 0) (es : List Edge) → Ends P es → (e : Edge) → Memᴰ e es → P e.from × P e.to
mem_ends P [] w e m = absurd (Memᴰ.not-nil m)
mem_ends P (f ∷ es) w e m = go (mem_ends P es w.2 e) (Memᴰ.cases_cons m)
  where
    go : (Memᴰ e es → P e.from × P e.to) → (e ≡ f) ⊎ Memᴰ e es → P e.from × P e.to
    go below (inl q) = subst (λ (k : Edge). P k.from × P k.to) (sym q) (w.0, w.1)
    go below (inr k) = below k

-- a property that both ends of each edge have, and a, is one of the whole group's
pub linked_ends : (P : ℕ → Type 0) (es : List Edge) → Ends P es → {a b : ℕ} → Linked es a b → P a → P b
linked_ends P es w one p = p
linked_ends P es w (more (inl m) h) p = linked_ends P es w h (mem_ends P es w _ m).1
linked_ends P es w (more (inr m) h) p = linked_ends P es w h (mem_ends P es w _ m).0

pub ends_all : (P : ℕ → Type 0) (es : List Edge) → ((e : Edge) → Memᴰ e es → P e.from × P e.to) → Ends P es
ends_all P [] h = tt
ends_all P (e ∷ es) h = let r = h e (Memᴰ.head refl) in (r.0, r.1, ends_all P es (λ f m. h f (Memᴰ.tail m)))

-- a node that no edge has represents itself
pub rep_outside : (n : ℕ) (es : List Edge) → Ends (λ a. a < n) es → (a : ℕ) → n ≤ a → rep es a ≡ a
rep_outside n es w a h = sym (go (rep_linked es a) h)
  where
    go : {x y : ℕ} → Linked es x y → n ≤ x → x ≡ y
    go one l = refl
    go (more (inl m) k) l = absurd (omega (arith, (mem_ends (λ z. z < n) es w _ m).0))
    go (more (inr m) k) l = absurd (omega (arith, (mem_ends (λ z. z < n) es w _ m).1))
