-- The test decides soundness; and what a sound record says of line starts and of its groups.
-- Assumes nothing.
use mathlib.Core.Path.{◌≡◌}
use mathlib.Core.Bool.{true}
use mathlib.Core.List.{List}
use Prim.Native.Nat.{ℕ, ◌+◌, ◌-◌, ◌≤◌}
use native.Mathlib.Decide.{le_ind}
use native.Mathlib.Nat.{le_refl, le_trans}
use native.Mathlib.Omega.{arith}
use Rattle.groups.specs.Groups.{groups}
use Rattle.frame.specs.Words.{line_start, parent_of}
use Rattle.frame.proofs.ListLaws.{every_at, every_more, every_none}
use Rattle.forest.proofs.ForestLaws.{roots_others, roots_count, roots_grouping}
use Rattle.label.specs.declared.Session.{Session}
use Rattle.label.specs.Record.{lines_of}
use Rattle.label.specs.Sound.{Sound, sound}
use Rattle.label.specs.Held.{grouping_of, root_count}
use Rattle.geo.proofs.ShapeSoundLaws.{shape_sound_right, right_shape_sound}
use Rattle.sound.proofs.StoredLaws.{words_right, right_words}

-- ---- the test decides

module _ (s : Session) (ws : List ℕ) where
  pub sound_right : sound s ws ≡ true → Sound s ws
  unfolding sound
  sound_right h = record {
    shape = shape_sound_right _ _ _ _ (every_at _ 0 h);
    words = words_right _ _ _ _ _ ws (every_at _ 1 h);
  }

  pub right_sound : Sound s ws → sound s ws ≡ true
  unfolding sound
  right_sound S =
      every_more _ _ (right_shape_sound _ _ _ _ S.shape)
      (every_more _ _ (right_words _ _ _ _ _ ws S.words)
      every_none)

-- ---- of a sound record

module _ (s : Session) (ws : List ℕ) (S : Sound s ws) where
  pub starts_rise : (a b : ℕ) → a ≤ b → b ≤ s.fed → line_start ws a ≤ line_start ws b
  starts_rise a b l = le_ind (λ m. m ≤ s.fed → line_start ws a ≤ line_start ws m) (λ k. le_refl (line_start ws a))
      (λ m i below k. le_trans (below (omega arith)) (S.words.rising m k)) b l

  -- n: as many as runs less joins, and as the groups that the parents hold
  pub n_roots : root_count s ws ≡ s.figures.runs - s.figures.joins
  unfolding root_count
  n_roots = omega (arith, roots_count (parent_of (lines_of s) ws) s.figures.runs S.words.parents, S.words.join_count)

  pub n_joins : s.figures.runs ≡ root_count s ws + s.figures.joins
  unfolding root_count
  n_joins = omega (arith, roots_others (parent_of (lines_of s) ws) s.figures.runs, S.words.join_count)

  pub n_groups : root_count s ws ≡ groups (λ r. true) (grouping_of s ws) s.figures.runs
  unfolding root_count
  n_groups = roots_grouping (parent_of (lines_of s) ws) s.figures.runs S.words.parents
