-- The words after runs were written: their length, which of them stand, and what each run's words hold.
-- Assumes nothing.
use mathlib.Core.Path.{◌≡◌, refl, ap, ◌∙◌}
use mathlib.Core.Logic.{◌≢◌}
use mathlib.Core.Bool.{Bool}
use mathlib.Core.List.{List, [], ◌∷◌}
use Prim.Native.Nat.{ℕ, zero, suc, ◌+◌, ◌*◌, ◌≤◌, ◌<◌}
use native.Mathlib.Omega.{arith}
use native.Mathlib.Nat.{zero-lt-suc}
use lib.ListN.{length, get_or, set, length-set}
use lib.Seq.{get_or-set_same, get_or-set_other}
use Rattle.frame.specs.Memory.{stride}
use Rattle.frame.specs.Words.{start_at, end_at}
use Rattle.frame.specs.Runs.{Run, line_runs}
use Rattle.runs.specs.declared.Counts.{Counts}
use Rattle.runs.specs.Extract.{put_runs, Extracted}

-- one run written
put_run : List ℕ → ℕ → Run → List ℕ
put_run ws i r = set (set ws (i + start_at 0) r.start) (i + end_at 0) r.end

length_one : (ws : List ℕ) (i : ℕ) (r : Run) → length (put_run ws i r) ≡ length ws
unfolding put_run
length_one ws i r = simp length-set

length_put : (rs : List Run) (ws : List ℕ) (i : ℕ) → length (put_runs ws i rs) ≡ length ws
unfolding put_runs put_run
length_put [] ws i = refl
length_put (r ∷ rs) ws i = length_put rs (put_run ws i r) (i + stride) ∙ length_one ws i r

-- a word that is no run's start or end stands
pub put_other : (rs : List Run) (ws : List ℕ) (i j : ℕ) → ((q : ℕ) → q < length rs → (j ≢ i + start_at q) × (j ≢ i + end_at q))
    → get_or (put_runs ws i rs) j 0 ≡ get_or ws j 0
unfolding put_runs
put_other [] ws i j h = refl
put_other (r ∷ rs) ws i j h =
    let a = h 0 (zero-lt-suc (length rs)) in
    put_other rs (set (set ws (i + start_at 0) r.start) (i + end_at 0) r.end) (i + stride) j
    (λ q p. let b = h (suc q) (omega arith) in ((λ e. b.0 (omega arith)), (λ e. b.1 (omega arith))))
    ∙ get_or-set_other (set ws (i + start_at 0) r.start) (i + end_at 0) j r.end 0 a.1
    ∙ get_or-set_other ws (i + start_at 0) j r.start 0 a.0

-- words below the first run stand
pub put_below : (rs : List Run) (ws : List ℕ) (i j : ℕ) → j < i → get_or (put_runs ws i rs) j 0 ≡ get_or ws j 0
put_below rs ws i j h = put_other rs ws i j (λ q p. ((λ e. omega arith), (λ e. omega arith)))

-- run q's start and end
pub put_start : (rs : List Run) (ws : List ℕ) (i q : ℕ) (d : Run) → q < length rs → i + stride * length rs ≤ length ws
    → get_or (put_runs ws i rs) (i + start_at q) 0 ≡ (get_or rs q d).start
unfolding put_runs put_run
put_start [] ws i q d h f = absurd (omega arith)
put_start (r ∷ rs) ws i zero d h f =
    put_below rs (put_run ws i r) (i + stride) (i + start_at 0) (omega arith)
    ∙ get_or-set_other (set ws (i + start_at 0) r.start) (i + end_at 0) (i + start_at 0) r.end 0 (λ e. omega arith)
    ∙ get_or-set_same ws (i + start_at 0) r.start 0 (omega arith)
put_start (r ∷ rs) ws i (suc q) d h f =
    let e : i + start_at (suc q) ≡ i + stride + start_at q = omega arith in
    let n = length_one ws i r in
    ap (λ (j : ℕ). get_or (put_runs (put_run ws i r) (i + stride) rs) j 0) e
    ∙ put_start rs (put_run ws i r) (i + stride) q d (omega arith) (omega arith)

pub put_end : (rs : List Run) (ws : List ℕ) (i q : ℕ) (d : Run) → q < length rs → i + stride * length rs ≤ length ws
    → get_or (put_runs ws i rs) (i + end_at q) 0 ≡ (get_or rs q d).end
unfolding put_runs put_run
put_end [] ws i q d h f = absurd (omega arith)
put_end (r ∷ rs) ws i zero d h f =
    let n = length-set ws (i + start_at 0) r.start in
    put_below rs (put_run ws i r) (i + stride) (i + end_at 0) (omega arith)
    ∙ get_or-set_same (set ws (i + start_at 0) r.start) (i + end_at 0) r.end 0 (omega arith)
put_end (r ∷ rs) ws i (suc q) d h f =
    let e : i + end_at (suc q) ≡ i + stride + end_at q = omega arith in
    let n = length_one ws i r in
    ap (λ (j : ℕ). get_or (put_runs (put_run ws i r) (i + stride) rs) j 0) e
    ∙ put_end rs (put_run ws i r) (i + stride) q d (omega arith) (omega arith)

-- ---- of a whole line

pub extracted_long : {left : Bool} {flags : List Bool} {ws ws' : List ℕ} {i : ℕ} {c : Counts} → Extracted left flags ws ws' i c
    → length ws' ≡ length ws
extracted_long {left} {flags} {ws} {i = i} e = ap length e.written ∙ length_put (line_runs left flags) ws i
