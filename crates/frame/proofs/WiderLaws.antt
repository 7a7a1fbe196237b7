-- A structure that may follow another in a session: it has the same left byte, so the runs are the same, and each of the other's offsets,
-- so no group is parted.
-- Assumes nothing.
use mathlib.Core.Path.{◌≡◌, refl, ap, ap₂}
use mathlib.Core.Logic.{inl, inr}
use mathlib.Core.Bool.{Bool, true, false, not, ◌&&◌, ◌||◌, beq, true≢false}
use mathlib.Core.List.{List}
use Prim.Native.Nat.{ℕ, ◌^◌, ◌<◌}
use native.Mathlib.Omega.{arith}
use lib.ListN.{length, get_or}
use Rattle.groups.specs.Groups.{Chain, count, gather}
use Rattle.groups.proofs.BoolLaws.{or_false, same_bits}
use Rattle.groups.proofs.ChainLaws.{chain_map}
use Rattle.frame.specs.Shape.{size, width, lines}
use Rattle.frame.specs.Lists.{entries}
use Rattle.frame.specs.Structure.{on, left_code, left_on}
use Rattle.frame.specs.ChainRule.{nonzero, any, Leads, Step}
use Rattle.frame.specs.Runs.{goes_on, begins_run, runs, none, line_runs, line_of, frame_runs, all_runs, runs_before, frame_run}
use Rattle.frame.specs.Memory.{per_line, words_needed}
use Rattle.frame.specs.Causes.{left_differs, dropped, not_wider}
use Rattle.frame.proofs.StructureLaws.{three_pos}
use Rattle.frame.proofs.EntryLaws.{on_entries}
use Rattle.frame.proofs.ChainRuleLaws.{any_none, any_same}

-- ---- cause 19

-- of an array, the first 3^rank bytes decide
pub wider_entries : (rank : ℕ) (old new : List ℕ) → not_wider rank (entries (3 ^ rank) old) new ≡ not_wider rank old new
unfolding not_wider left_differs dropped
wider_entries rank old new =
    ap₂ ◌||◌ (ap (λ (b : Bool). not (beq b (on new (left_code rank)))) (bit (left_code rank) (omega (arith, three_pos rank))))
    (any_same (dropped (entries (3 ^ rank) old) new) (dropped old new) (3 ^ rank)
    (λ k l. ap (λ (b : Bool). b && not (on new k)) (bit k l)))
  where
    bit : (k : ℕ) → k < 3 ^ rank → on (entries (3 ^ rank) old) k ≡ on old k
    bit = on_entries (3 ^ rank) old

-- ---- what it denies

module _ (shape old new : List ℕ) (wider : not_wider (length shape) old new ≡ false) where
  parts : (left_differs (length shape) old new ≡ false) × (any (dropped old new) (3 ^ length shape) ≡ false)
  unfolding not_wider
  parts = or_false (left_differs (length shape) old new) (any (dropped old new) (3 ^ length shape)) wider

  pub wider_left : left_on shape old ≡ left_on shape new
  unfolding left_on left_differs
  wider_left = same_bits (on old (left_code (length shape))) (on new (left_code (length shape))) parts.0

  -- an offset nonzero in the old is nonzero in the new
  pub wider_on : (i : ℕ) → i < 3 ^ length shape → on old i ≡ true → on new i ≡ true
  wider_on i l h = go (on new i) (unfold dropped in any_none (dropped old new) (3 ^ length shape) parts.1 i l)
    where
      go : (b : Bool) → (on old i && not b) ≡ false → b ≡ true
      go true e = refl
      go false e = absurd (true≢false (rw h at e))

  -- so cells that a chain joins under the old are joined under the new
  pub wider_joins : (cells : List Bool) (p q : ℕ) → Chain (Step shape old cells) p q → Chain (Step shape new cells) p q
  wider_joins cells p q = chain_map step
    where
      leads : (a b : ℕ) → Leads shape old a b → Leads shape new a b
      leads a b l = record {
        code = l.code;
        is_code = l.is_code;
        is_backward = l.is_backward;
        is_on = wider_on l.code l.is_code l.is_on;
        leads = l.leads;
      }

      step : (a b : ℕ) → Step shape old cells a b → Step shape new cells a b
      step a b s = record {
        here = s.here;
        there = s.there;
        way = elim s.way [ inl l ↦ inl (leads a b l) | inr l ↦ inr (leads b a l) ];
      }

-- ---- runs depend on the structure by its left byte alone, and so do the words needed

module _ (shape old new : List ℕ) (same : left_on shape old ≡ left_on shape new) where
  pub runs_left : (cells : List Bool) → runs shape old cells ≡ runs shape new cells
  unfolding runs begins_run
  runs_left cells = ap (λ (left : Bool). count (λ p. nonzero cells p && not (left && goes_on shape cells p)) (size shape)) same

  pub starts_left : (cells : List Bool) (ℓ : ℕ) → runs_before shape old cells ℓ ≡ runs_before shape new cells ℓ
  unfolding runs_before all_runs frame_runs
  starts_left cells ℓ = ap (λ (left : Bool). length (gather (λ m. line_runs left (line_of (width shape) cells m)) 0 ℓ)) same

  pub run_left : (cells : List Bool) (r : ℕ) → frame_run shape old cells r ≡ frame_run shape new cells r
  unfolding frame_run all_runs frame_runs
  run_left cells r =
      ap (λ (left : Bool). get_or (gather (λ m. line_runs left (line_of (width shape) cells m)) 0 (lines shape)) r none) same

  pub words_left : words_needed shape old ≡ words_needed shape new
  unfolding words_needed per_line
  words_left = rw same refl
