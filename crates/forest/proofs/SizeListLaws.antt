-- The sizes of roots, in the order of their numbers: how many there are, and those of one run more.
-- Assumes nothing.
use mathlib.Core.Path.{◌≡◌, refl, sym, ap, ◌∙◌}
use mathlib.Core.Bool.{Bool, true, false, cond}
use mathlib.Core.List.{List, [], ◌∷◌, ◌++◌, append-nil}
use Prim.Native.Nat.{ℕ, zero, suc, ◌+◌, ◌≤◌, ◌<◌}
use native.Mathlib.Decide.{le_ind}
use native.Mathlib.Omega.{arith}
use lib.ListN.{length, get_or, length-append, get_or-append}
use lib.Seq.{get_or_at}
use Rattle.groups.specs.Groups.{count, gather}
use Rattle.groups.proofs.CountLaws.{count_on, count_off, count_mono}
use Rattle.groups.proofs.GatherLaws.{gather_snoc}
use Rattle.forest.specs.Forest.{own, roots, size_list}

module _ (p size : ℕ → ℕ) where
  -- what run n adds to the list
  abbrev piece : Bool → ℕ → List ℕ
  piece b n = cond b (size n ∷ []) []

  list_more : (n : ℕ) → size_list p size (suc n) ≡ size_list p size n ++ piece (own p n) n
  unfolding size_list
  list_more n =
      let e : 0 + n ≡ n = omega arith in
      gather_snoc (λ r. piece (own p r) r) 0 n
      ∙ ap (λ (k : ℕ). gather (λ r. piece (own p r) r) 0 n ++ piece (own p k) k) e

  -- a root's size follows those before it
  pub list_on : (n : ℕ) → own p n ≡ true → size_list p size (suc n) ≡ size_list p size n ++ (size n ∷ [])
  list_on n h = list_more n ∙ ap (λ (b : Bool). size_list p size n ++ piece b n) h

  -- any other run adds nothing
  pub list_off : (n : ℕ) → own p n ≡ false → size_list p size (suc n) ≡ size_list p size n
  list_off n h = list_more n ∙ ap (λ (b : Bool). size_list p size n ++ piece b n) h ∙ append-nil (size_list p size n)

  pub length_list : (n : ℕ) → length (size_list p size n) ≡ roots p n
  unfolding size_list gather roots count
  length_list zero = refl
  length_list (suc n) = go (own p n) refl (length_list n)
    where
      go : (b : Bool) → own p n ≡ b → length (size_list p size n) ≡ roots p n → length (size_list p size (suc n)) ≡ roots p (suc n)
      go true h before =
          ap length (list_on n h) ∙ length-append (size_list p size n) (size n ∷ []) ∙ omega (arith, before, count_on (own p) n h)
      go false h before = ap length (list_off n h) ∙ before ∙ sym (count_off (own p) n h)

  -- the entries of the roots before stand
  pub list_stands : (n g : ℕ) → g < roots p n → get_or (size_list p size (suc n)) g 0 ≡ get_or (size_list p size n) g 0
  list_stands n g l =
      ap (λ (xs : List ℕ). get_or xs g 0) (list_more n)
      ∙ get_or-append (size_list p size n) (piece (own p n) n) 0 g (omega (arith, length_list n))

  -- where run n adds one, it is run n's size
  pub list_last : (n : ℕ) → roots p n < roots p (suc n) → get_or (size_list p size (suc n)) (roots p n) 0 ≡ size n
  list_last n l = go (own p n) refl
    where
      off : own p n ≡ false → roots p (suc n) ≡ roots p n
      off h = unfold roots in count_off (own p) n h

      go : (b : Bool) → own p n ≡ b → get_or (size_list p size (suc n)) (roots p n) 0 ≡ size n
      go true h =
          ap (λ (xs : List ℕ). get_or xs (roots p n) 0) (list_on n h)
          ∙ get_or_at (size_list p size n) (size n) [] 0 (roots p n) (length_list n)
      go false h = absurd (omega (arith, l, off h))

  -- a root's size stands at the count of the roots before it
  pub list_at : (n r : ℕ) → r < n → own p r ≡ true → get_or (size_list p size n) (roots p r) 0 ≡ size r
  list_at n r h e = le_ind (λ m. get_or (size_list p size m) (roots p r) 0 ≡ size r) (list_last r one)
      (λ m l i. list_stands m (roots p r) (omega (arith, one, more m l)) ∙ i) n h
    where
      one : roots p r < roots p (suc r)
      one = unfold roots in omega (arith, count_on (own p) r e)

      more : (m : ℕ) → r < m → roots p (suc r) ≤ roots p m
      more m l = unfold roots in count_mono (own p) (suc r) m l
