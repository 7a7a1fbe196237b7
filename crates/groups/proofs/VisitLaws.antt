-- Edges visited one after the other: their order does not matter, and of those before only the grouping does.
-- Assumes nothing.
use mathlib.Core.Path.{◌≡◌, refl, sym, ap, ◌∙◌}
use mathlib.Core.Logic.{◌⊎◌, inl, inr}
use mathlib.Core.Bool.{cond}
use mathlib.Core.List.Memᴰ
use mathlib.Core.List.{List, [], ◌∷◌, ◌++◌, Memᴰ}
use Prim.Native.Nat.{ℕ, ◌+◌}
use native.Mathlib.Omega.{arith}
use lib.Dec.{eqb}
use Rattle.groups.specs.Groups.{Edge, Joined, merge, rep, joins, visit}
use Rattle.groups.proofs.RepLaws.{Ends, rep_rep}

pub visit_append : (xs ys old : List Edge) → visit (xs ++ ys) old ≡ visit ys (visit xs old)
unfolding visit
visit_append [] ys old = refl
visit_append (e ∷ xs) ys old = visit_append xs ys (e ∷ old)

visit_old : (es old : List Edge) {e : Edge} → Memᴰ e old → Memᴰ e (visit es old)
unfolding visit
visit_old [] old m = m
visit_old (f ∷ es) old m = visit_old es (f ∷ old) (Memᴰ.tail m)

visit_new : (es old : List Edge) {e : Edge} → Memᴰ e es → Memᴰ e (visit es old)
unfolding visit
visit_new [] old m = absurd (Memᴰ.not-nil m)
visit_new (f ∷ es) old {e} m = go (visit_new es (f ∷ old)) (Memᴰ.cases_cons m)
  where
    go : (Memᴰ e es → Memᴰ e (visit es (f ∷ old))) → (e ≡ f) ⊎ Memᴰ e es → Memᴰ e (visit es (f ∷ old))
    go below (inl q) = visit_old es (f ∷ old) (Memᴰ.head q)
    go below (inr k) = below k

visit_from : (es old : List Edge) {e : Edge} → Memᴰ e (visit es old) → Memᴰ e es ⊎ Memᴰ e old
unfolding visit
visit_from [] old m = inr m
visit_from (f ∷ es) old {e} m = go (visit_from es (f ∷ old) m)
  where
    last : (e ≡ f) ⊎ Memᴰ e old → Memᴰ e (f ∷ es) ⊎ Memᴰ e old
    last (inl q) = inl (Memᴰ.head q)
    last (inr k) = inr k

    go : Memᴰ e es ⊎ Memᴰ e (f ∷ old) → Memᴰ e (f ∷ es) ⊎ Memᴰ e old
    go (inl k) = inl (Memᴰ.tail k)
    go (inr k) = last (Memᴰ.cases_cons k)

module _ (es old : List Edge) where
  into : {e : Edge} → Memᴰ e (visit es old) → Memᴰ e (es ++ old)
  into {e} m = go (visit_from es old m)
    where
      go : Memᴰ e es ⊎ Memᴰ e old → Memᴰ e (es ++ old)
      go (inl k) = Memᴰ.append_left old k
      go (inr k) = Memᴰ.append_right es k

  back : {e : Edge} → Memᴰ e (es ++ old) → Memᴰ e (visit es old)
  back {e} m = go (Memᴰ.append_cases es m)
    where
      go : Memᴰ e es ⊎ Memᴰ e old → Memᴰ e (visit es old)
      go (inl k) = visit_new es old k
      go (inr k) = visit_old es old k

  pub visit_joined : (a b : ℕ) → Joined (visit es old) a b → Joined (es ++ old) a b
  visit_joined a b (inl m) = inl (into m)
  visit_joined a b (inr m) = inr (into m)

  pub joined_visit : (a b : ℕ) → Joined (es ++ old) a b → Joined (visit es old) a b
  joined_visit a b (inl m) = inl (back m)
  joined_visit a b (inr m) = inr (back m)

-- ---- only the grouping so far matters

pub rep_over : (es old oth : List Edge) → ((a : ℕ) → rep old a ≡ rep oth a) → (a : ℕ) → rep (visit es old) a ≡ rep (visit es oth) a
unfolding visit
rep_over [] old oth h a = h a
rep_over (e ∷ es) old oth h a = rep_over es (e ∷ old) (e ∷ oth) (λ b. unfold rep in rw (h e.from, h e.to, h b)) a

pub joins_over : (es old oth : List Edge) → ((a : ℕ) → rep old a ≡ rep oth a)
    → joins (visit es old) + joins oth ≡ joins (visit es oth) + joins old
unfolding visit
joins_over [] old oth h = omega arith
joins_over (e ∷ es) old oth h = go (joins_over es (e ∷ old) (e ∷ oth) (λ b. unfold rep in rw (h e.from, h e.to, h b)))
  where
    same : ◌≡◌ {A = ℕ} (cond (eqb (rep old e.from) (rep old e.to)) 0 1) (cond (eqb (rep oth e.from) (rep oth e.to)) 0 1)
    same = rw (h e.from, h e.to)

    go : joins (visit es (e ∷ old)) + joins (e ∷ oth) ≡ joins (visit es (e ∷ oth)) + joins (e ∷ old)
        → joins (visit es (e ∷ old)) + joins oth ≡ joins (visit es (e ∷ oth)) + joins old
    go i =
        let k : joins (visit es (e ∷ old)) + (cond (eqb (rep oth e.from) (rep oth e.to)) 0 1 + joins oth)
        ≡ joins (visit es (e ∷ oth)) + (cond (eqb (rep old e.from) (rep old e.to)) 0 1 + joins old) =
        (unfold joins in i) in
        omega (arith, same)

pub ends_visit : (P : ℕ → Type 0) (es old : List Edge) → Ends P es → Ends P old → Ends P (visit es old)
unfolding visit
ends_visit P [] old w v = v
ends_visit P (e ∷ es) old w v = ends_visit P es (e ∷ old) w.2 (w.0, w.1, v)

-- a node and its representative before have one representative afterwards
pub rep_still : (es old : List Edge) (a : ℕ) → rep (visit es old) (rep old a) ≡ rep (visit es old) a
unfolding visit
rep_still [] old a = rep_rep old a
rep_still (e ∷ es) old a =
    let same : rep (e ∷ old) (rep old a) ≡ rep (e ∷ old) a =
    unfold rep in ap (merge (rep old e.from) (rep old e.to)) (rep_rep old a) in
    let here = rep_still es (e ∷ old) (rep old a) in
    let there = rep_still es (e ∷ old) a in
    sym here ∙ ap (rep (visit es (e ∷ old))) same ∙ there
