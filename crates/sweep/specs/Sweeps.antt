-- Runs in run words, and what the sweeps of two lines ask and do. The words begin with the first run's.
-- Assumes nothing.
use Rattle.std.specs.Prelude.{Bool, not, ◌&&◌, List, ℕ, suc, ◌+◌, ◌-◌, ◌*◌, ◌≤◌, ◌<◌, max, ltb, leb, ℤ, length, get_or}
use Rattle.groups.specs.Groups.{Edge, pairs}
use Rattle.frame.specs.Structure.{digit}
use Rattle.frame.specs.Memory.{stride}
use Rattle.frame.specs.Runs.{Run}
use Rattle.frame.specs.Words.{start_at, end_at}
use Rattle.frame.specs.Touches.{reaches}
use Rattle.forest.specs.Unions.{Parents, Sized, United}
use Rattle.sweep.specs.declared.LinePair.{LinePair}
use Rattle.sweep.specs.declared.Nbr.{Nbr}

-- run r
abbrev pub run_in : List ℕ → ℕ → Run
run_in p r = record { start = get_or p (start_at r) 0; end = get_or p (end_at r) 0 }

-- the runs a to before b are in order: none is empty, and none starts before the one before it ends
pub record InOrder (R : ℕ → Run) (a b : ℕ) : Type 0 where
  pub upto : a ≤ b
  pub nonempty : (r : ℕ) → a ≤ r → r < b → (R r).start < (R r).end
  pub ordered : (r : ℕ) → a ≤ r → suc r < b → (R r).end ≤ (R (suc r)).start

-- the runs of two lines, the current one's being the last that there are
pub record TwoLines (p : List ℕ) (at : LinePair) : Type 0 where
  pub sized : Sized p at.cb
  pub current : InOrder (run_in p) at.ca at.cb
  pub neighbour : InOrder (run_in p) at.na at.nb
  pub before : at.nb ≤ at.cb

-- a sweep's test of a neighbouring run m and a current run c, with the digits of lo and hi: `m.start - lo < c.end`, and not
-- `m.end + hi <= c.start`
unfoldable pub swept : ℕ → ℕ → Run → Run → Bool
swept lo hi m c = ltb (m.start + 1) (c.end + lo) && not (leb (m.end + hi) (c.start + 1))

-- the pairs that a sweep visits, and those that a link does: each current run in turn, with each neighbouring run in turn
unfoldable pub sweep_pairs : ℕ → ℕ → (ℕ → Run) → LinePair → List Edge
sweep_pairs lo hi R at = pairs (λ r s. swept lo hi (R s) (R r)) at.ca (at.cb - at.ca) at.na (at.nb - at.na)

abbrev pub link_pairs : Nbr → (ℕ → Run) → LinePair → List Edge
link_pairs by R at = pairs (λ r s. reaches by.prev by.adj by.next (R s) (R r)) at.ca (at.cb - at.ca) at.na (at.nb - at.na)

-- ---- a sweep, loop by loop

pub record ToSweep (p : List ℕ) (at : LinePair) (lo hi : ℤ) : Type 0 where
  pub lines : TwoLines p at
  pub is_lo : digit lo ≤ 2
  pub is_hi : digit hi ≤ 2

-- skip reads the start of run i, and ends of the runs j to before nb
pub record ToSkip (p : List ℕ) (i j nb : ℕ) (hi : ℤ) : Type 0 where
  pub here : stride * suc i ≤ length p
  pub room : stride * nb ≤ length p
  pub upto : j ≤ nb
  pub is_hi : digit hi ≤ 2

-- r is the first of the runs j to before nb that does not end by the start of run i, or nb where each does
pub record Skipped (hi : ℕ) (R : ℕ → Run) (i j nb r : ℕ) : Type 0 where
  pub low : j ≤ r
  pub high : r ≤ nb
  pub past : (m : ℕ) → j ≤ m → m < r → (R m).end + hi ≤ (R i).start + 1
  pub stop : r < nb → (R i).start + 1 < (R r).end + hi

-- row reads the end of run i, and starts of the runs j to before nb
pub record ToRow (p : List ℕ) (i j nb : ℕ) (lo : ℤ) : Type 0 where
  pub sized : Sized p (max (suc i) nb)
  pub order : InOrder (run_in p) j nb
  pub is_lo : digit lo ≤ 2

-- the pairs that a row visits: run i with each of the runs j to before nb that starts before it ends
unfoldable pub row_pairs : ℕ → (ℕ → Run) → ℕ → ℕ → ℕ → List Edge
row_pairs lo R i j nb = pairs (λ r s. ltb ((R s).start + 1) ((R r).end + lo)) i 1 j (nb - j)

-- what a row ensures, at every count of runs that hold these and have their parents low
abbrev pub RowUnites : List ℕ → List ℕ → ℕ → ℕ → ℕ → ℕ → ℕ → Type 0
RowUnites p q i j nb lo t = (n : ℕ) → Parents p n → i < n → nb ≤ n → United p q n (row_pairs lo (run_in p) i j nb) t
