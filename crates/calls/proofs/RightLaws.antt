-- The plain session's own answers: runs = n + joins, the total is the count of nonzero cells fed, and 6 never comes.
-- Assumes nothing.
use mathlib.Core.Path.{◌≡◌, refl, sym, ◌∙◌, subst}
use mathlib.Core.List.{List, [], ◌∷◌}
use Prim.Native.Nat.{ℕ}
use Rattle.frame.specs.Kinds.{flags}
use Rattle.frame.specs.Plain.{Call, feed, read, sizes, widen, unless, State, feeds, widens, groups_of, figures, cause, answer, changed, next}
use Rattle.frame.specs.Plain.{plain}
use Rattle.frame.proofs.PlainLaws.{unless_cases, next_accepted, balanced, six_never}
use Rattle.calls.specs.Demand3.{Balanced, Right, AllRight}

module _ (shape : List ℕ) where
  pub figures_right : (p : State) → Balanced shape p (figures shape p)
  unfolding figures groups_of
  figures_right p = record { runs_defined = refl; balance = balanced shape p; total = refl }

  -- an accepted call's answer is right of what the session then is
  changed_right : (p : State) (c : Call) → Right shape (changed shape p c) (answer shape p c)
  unfolding answer changed feeds widens groups_of
  changed_right p (feed k cells) = (refl, figures_right (feeds p k (flags cells)))
  changed_right p (read kind out) = (refl, figures_right p)
  changed_right p (sizes out) = (refl, figures_right p)
  changed_right p (widen structure) = (refl, figures_right (widens p structure))

  answer_right : (p : State) (c : Call) → cause shape p c ≡ 0 → Right shape (next shape p c) (answer shape p c)
  answer_right p c e = subst (λ (q : State). Right shape q (answer shape p c)) (sym (next_accepted shape p c e)) (changed_right p c)

  said_right : (p : State) (c : Call) → Right shape (next shape p c) (unless (cause shape p c) (answer shape p c))
  said_right p c = unless_cases (Right shape (next shape p c)) (cause shape p c) (answer shape p c) (answer_right p c)
      (λ d e z. six_never shape p c (e ∙ z))

  pub plain_right : (p : State) (cs : List Call) → AllRight shape p cs (plain shape p cs)
  unfolding plain
  plain_right p [] = tt
  plain_right p (c ∷ cs) = (said_right p c, plain_right (next shape p c) cs)
