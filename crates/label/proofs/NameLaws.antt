-- Name words: setting them changes no other word, so that what a record holds stays.
-- Assumes nothing.
use mathlib.Core.Path.{◌≡◌, sym, ap, ap₂, ◌∙◌, subst, fun_ext}
use mathlib.Core.Logic.{◌≢◌}
use mathlib.Core.Bool.{Bool}
use mathlib.Core.List.{List}
use Prim.Native.Nat.{ℕ, ◌≤◌, ◌<◌}
use native.Mathlib.Omega.{arith}
use lib.ListN.{length, get_or}
use Rattle.frame.specs.Words.{name_place, parent_of, name_of, size_word, stored_run}
use Rattle.frame.proofs.SetLaws.{length_set_all, set_all_other, set_all_at}
use Rattle.forest.specs.Forest.{non_roots, number_in, root_sizes}
use Rattle.geo.proofs.ShapeSoundLaws.{shape_stays}
use Rattle.label.specs.declared.Session.{Session}
use Rattle.label.specs.Record.{lines_of}
use Rattle.label.specs.Sound.{Sound}
use Rattle.label.specs.Held.{cells_of}
use Rattle.label.specs.Reading.{with_names}
use Rattle.label.proofs.StoreLaws.{Stores, stores_cells, stores_total}
use Rattle.label.proofs.StoredSound.{stores_sound}

module _ (s : Session) (ws : List ℕ) where
  abbrev L : ℕ
  L = lines_of s

  pub length_names : length (with_names s ws) ≡ length ws
  unfolding with_names
  length_names = length_set_all _ _ s.figures.runs ws

  -- every word that is no name stands
  pub names_other : (j : ℕ) → ((r : ℕ) → r < s.figures.runs → j ≢ name_place L r) → get_or (with_names s ws) j 0 ≡ get_or ws j 0
  unfolding with_names
  names_other j h = set_all_other _ _ s.figures.runs ws j h

  pub parents_stand : parent_of L (with_names s ws) ≡ parent_of L ws
  parents_stand = fun_ext (λ r. names_other _ (λ i h q. omega arith))

  pub sizes_stand : size_word L (with_names s ws) ≡ size_word L ws
  sizes_stand = fun_ext (λ r. names_other _ (λ i h q. omega arith))

  pub runs_stand : stored_run L (with_names s ws) ≡ stored_run L ws
  runs_stand = fun_ext (λ r. ap₂ (λ (x : ℕ) (y : ℕ). record { start = x; end = y }) (names_other _ (λ i h q. omega arith))
      (names_other _ (λ i h q. omega arith)))

  -- and a run's name is its number
  pub names_at : ((r : ℕ) → r < s.figures.runs → name_place L r < length ws) → (r : ℕ) → r < s.figures.runs
      → name_of L (with_names s ws) r ≡ number_in (parent_of L ws) r
  unfolding with_names
  names_at room r h = set_all_at (name_place L) (number_in (parent_of L ws)) s.figures.runs ws (λ a b x y q. omega arith) r h (room r h)

  module _ (cells : List Bool) (H : Stores s ws cells) where
    pub stores_named : Stores s (with_names s ws) cells
    stores_named = record {
      fits = H.fits;
      starts = λ ℓ h. names_other ℓ (λ r l q. omega (arith, H.fits.below)) ∙ H.starts ℓ h;
      runs_are = H.runs_are;
      listed =
          λ r h. ap₂ (λ (x : ℕ) (y : ℕ). record { start = x; end = y }) (names_other _ (λ i l q. omega arith))
          (names_other _ (λ i l q. omega arith)) ∙ H.listed r h;
    }

    pub cells_named : cells_of s (with_names s ws) ≡ cells_of s ws
    cells_named = stores_cells s (with_names s ws) cells stores_named ∙ sym (stores_cells s ws cells H)

    pub sound_named : Sound s ws → Sound s (with_names s ws)
    sound_named S =
        stores_sound s (with_names s ws) cells stores_named (shape_stays _ _ _ _ S.shape (sym length_names) S.shape.within)
        (subst (λ (p : ℕ → ℕ). (r : ℕ) → r < s.figures.runs → p r ≤ r) (sym parents_stand) S.words.parents)
        (S.words.join_count ∙ ap (λ (p : ℕ → ℕ). non_roots p s.figures.runs) (sym parents_stand))
        (S.words.total ∙ stores_total s ws cells H)
        (ap₂ (λ (p : ℕ → ℕ) (q : ℕ → ℕ). root_sizes p q s.figures.runs) parents_stand sizes_stand ∙ S.words.sizes)
