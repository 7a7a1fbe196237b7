-- Boundaries: those of a line are its runs' starts and ends, and to write them one after the other is to write the runs.
-- Assumes nothing.
use mathlib.Core.Bool.{Bool, true, false}
use mathlib.Core.Path.{◌≡◌, refl, sym, ap, ◌∙◌, subst}
use mathlib.Core.List.{List, [], ◌∷◌, ◌++◌}
use Prim.Native.Nat.{ℕ, suc, ◌+◌, ◌*◌, ◌<◌}
use native.Mathlib.Omega.{arith}
use lib.ListN.{length, set, length-set, length-append}
use Rattle.frame.specs.Memory.{stride}
use Rattle.frame.specs.Words.{start_at, end_at}
use Rattle.frame.specs.Runs.{Run, stretches, singles, line_runs}
use Rattle.runs.specs.Extract.{put_runs}
use denote.Ref.{at_last}
use denote.MutBor.{MutBor}
use Rattle.runs.specs.declared.Boundaries.{Boundaries}
use Rattle.runs.specs.Boundaries.{boundary_at, put_boundaries, BoundaryRoom, places}
use Rattle.runs.specs.Writing.{Fits, Writes, Took}

-- ---- of runs

pub boundaries_of : List Run → List ℕ
boundaries_of [] = []
boundaries_of (r ∷ rs) = r.start ∷ r.end ∷ boundaries_of rs

pub length_boundaries : (rs : List Run) → length (boundaries_of rs) ≡ 2 * length rs
unfolding boundaries_of
length_boundaries [] = refl
length_boundaries (r ∷ rs) = let h = length_boundaries rs in omega arith

put_from : (rs : List Run) (ws : List ℕ) (i j : ℕ) → put_boundaries ws i (2 * j) (boundaries_of rs) ≡ put_runs ws (i + stride * j) rs
unfolding boundaries_of put_boundaries put_runs
put_from [] ws i j = refl
put_from (r ∷ rs) ws i j =
    let p : boundary_at i (2 * j) ≡ i + stride * j + start_at 0 = omega arith in
    let q : boundary_at i (suc (2 * j)) ≡ i + stride * j + end_at 0 = omega arith in
    let n : suc (suc (2 * j)) ≡ 2 * suc j = omega arith in
    let m : i + stride * suc j ≡ i + stride * j + stride = omega arith in
    let ws' : List ℕ = set (set ws (i + stride * j + start_at 0) r.start) (i + stride * j + end_at 0) r.end in
    ap (λ (a : ℕ). put_boundaries (set (set ws a r.start) (boundary_at i (suc (2 * j))) r.end) i (suc (suc (2 * j)))
    (boundaries_of rs)) p
    ∙ ap (λ (a : ℕ). put_boundaries (set (set ws (i + stride * j + start_at 0) r.start) a r.end) i (suc (suc (2 * j)))
    (boundaries_of rs)) q
    ∙ ap (λ (a : ℕ). put_boundaries ws' i a (boundaries_of rs)) n
    ∙ put_from rs ws' i (suc j)
    ∙ ap (λ (a : ℕ). put_runs ws' a rs) m

pub put_boundaries_lem : (rs : List Run) (ws : List ℕ) (i : ℕ) → put_boundaries ws i 0 (boundaries_of rs) ≡ put_runs ws i rs
put_boundaries_lem rs ws i = let e : i + stride * 0 ≡ i = omega arith in put_from rs ws i 0 ∙ ap (λ (a : ℕ). put_runs ws a rs) e

-- ---- of a line

-- the boundaries of a line from column x on, where l has the flags from x on, and prev is the flag of the cell before
unfoldable pub line_boundaries : Bool → Bool → ℕ → List Bool → List ℕ
line_boundaries true false x [] = []
line_boundaries true true x [] = x ∷ []
line_boundaries true false x (false ∷ l) = line_boundaries true false (suc x) l
line_boundaries true false x (true ∷ l) = x ∷ line_boundaries true true (suc x) l
line_boundaries true true x (true ∷ l) = line_boundaries true true (suc x) l
line_boundaries true true x (false ∷ l) = x ∷ line_boundaries true false (suc x) l
line_boundaries false prev x [] = []
line_boundaries false prev x (false ∷ l) = line_boundaries false false (suc x) l
line_boundaries false prev x (true ∷ l) = x ∷ suc x ∷ line_boundaries false true (suc x) l

mutual
  unfolding line_boundaries stretches boundaries_of

  off : (l : List Bool) (s x : ℕ) → line_boundaries true false x l ≡ boundaries_of (stretches false s x l)
  off [] s x = refl
  off (false ∷ l) s x = off l s (suc x)
  off (true ∷ l) s x = on l x (suc x)

  on : (l : List Bool) (s x : ℕ) → s ∷ line_boundaries true true x l ≡ boundaries_of (stretches true s x l)
  on [] s x = refl
  on (true ∷ l) s x = on l s (suc x)
  on (false ∷ l) s x = ap (λ (r : List ℕ). s ∷ x ∷ r) (off l s (suc x))

each : (l : List Bool) (prev : Bool) (x : ℕ) → line_boundaries false prev x l ≡ boundaries_of (singles x l)
unfolding line_boundaries singles boundaries_of
each [] prev x = refl
each (false ∷ l) prev x = each l false (suc x)
each (true ∷ l) prev x = ap (λ (r : List ℕ). x ∷ suc x ∷ r) (each l true (suc x))

pub line_boundaries_lem : (left : Bool) (l : List Bool) → line_boundaries left false 0 l ≡ boundaries_of (line_runs left l)
unfolding line_runs
line_boundaries_lem true l = off l 0 0
line_boundaries_lem false l = each l false 0

-- past the line there is none, where the last cell's flag is false
pub none_past : (left : Bool) (x : ℕ) → line_boundaries left false x [] ≡ []
unfolding line_boundaries
none_past true x = refl
none_past false x = refl

-- ---- written

length_put : (es : List ℕ) (ws : List ℕ) (i k : ℕ) → length (put_boundaries ws i k es) ≡ length ws
unfolding put_boundaries
length_put [] ws i k = refl
length_put (e ∷ es) ws i k = length_put es (set ws (boundary_at i k) e) i (suc k) ∙ length-set ws (boundary_at i k) e

put_append : (es r : List ℕ) (ws : List ℕ) (i k : ℕ)
    → put_boundaries ws i k (es ++ r) ≡ put_boundaries (put_boundaries ws i k es) i (k + length es) r
unfolding put_boundaries
put_append [] r ws i k = let e : k ≡ k + 0 = omega arith in ap (λ (a : ℕ). put_boundaries ws i a r) e
put_append (e ∷ es) r ws i k =
    let n : suc k + length es ≡ k + suc (length es) = omega arith in
    put_append es r (set ws (boundary_at i k) e) i (suc k)
    ∙ ap (λ (a : ℕ). put_boundaries (put_boundaries (set ws (boundary_at i k) e) i (suc k) es) i a r) n

-- What is left: the boundaries es, written next, give what es₀ from the start on give
pub record Rest (b₀ : Boundaries) (es₀ : List ℕ) (b : Boundaries) (es : List ℕ) : Type 0 where
  pub words : put_boundaries b.words.now b₀.at b.count es ≡ put_boundaries b₀.words.now b₀.at b₀.count es₀
  pub count : b.count + length es ≡ b₀.count + length es₀
  pub long : length b.words.now ≡ length b₀.words.now
  pub same : b.at ≡ b₀.at
  pub held : b.words ≡ at_last b₀.words b.words.now

pub rest_all : (b : Boundaries) (es : List ℕ) → Rest b es b es
rest_all b es = record { words = refl; count = refl; long = refl; same = refl; held = refl }

-- there is room for the next boundary
pub fits_next : {ws : List ℕ} {i k x e : ℕ} {es : List ℕ} → BoundaryRoom ws i k x (e ∷ es) → boundary_at i k < length ws
fits_next f = omega (arith, f.below, f.room)

-- and for the first of several
pub fits_part : {ws : List ℕ} {i k x : ℕ} (es r : List ℕ) → BoundaryRoom ws i k x (es ++ r) → BoundaryRoom ws i k x es
fits_part es r f = record { runs = f.runs; below = omega (arith, length-append es r, f.below); room = f.room; short = f.short }

module _ {b₀ : Boundaries} {es₀ : List ℕ} {b : Boundaries} where
  -- the same, as it is written elsewhere
  pub rest_same : {es es' : List ℕ} → es ≡ es' → Rest b₀ es₀ b es → Rest b₀ es₀ b es'
  rest_same e h = subst (Rest b₀ es₀ b) e h

  -- several boundaries are written
  pub rest_put : {b' : Boundaries} (es r : List ℕ) → Rest b₀ es₀ b (es ++ r) → Writes es b b' → Rest b₀ es₀ b' r
  rest_put {b'} es r h w =
      let n = h.count in
      let m = length-append es r in
      let p = w.put.next in
      record {
        words = rw (w.put.written, w.put.next, h.same) (sym (put_append es r b.words.now b₀.at b.count) ∙ h.words);
        count = omega arith;
        long = ap length w.put.written ∙ length_put es b.words.now b.at b.count ∙ h.long;
        same = w.same ∙ h.same;
        held = w.held ∙ ap (λ (o : MutBor (List ℕ)). at_last o b'.words.now) h.held;
      }

  pub rest_one : {b' : Boundaries} {e : ℕ} {es : List ℕ} → Rest b₀ es₀ b (e ∷ es) → Writes (e ∷ []) b b' → Rest b₀ es₀ b' es
  rest_one {e = e} {es = es} h w = rest_put (e ∷ []) es h w

  -- there is room for all that is left
  pub rest_fits : {x : ℕ} {es : List ℕ} → Rest b₀ es₀ b es → Fits b₀ x es₀ → Fits b x es
  rest_fits h f =
      let n = h.count in
      let l = h.long in
      let s = h.same in
      record { runs = f.runs; below = omega (arith, f.below); room = omega (arith, f.room); short = f.short }

  -- the places of a number's set bits, and of those the next
  pub rest_took : {b' : Boundaries} {x e e' : ℕ} → Rest b₀ es₀ b (places 64 e x) → Took b b' e x e' → Rest b₀ es₀ b' (places 64 e' x)
  rest_took h t = rest_one (rest_same t.lowest h) t.writes

  -- none is left
  pub rest_none : Rest b₀ es₀ b [] → Writes es₀ b₀ b
  unfolding put_boundaries
  rest_none h =
      let n = h.count in
      record { put = record { next = omega arith; written = h.words }; same = h.same; held = h.held }
