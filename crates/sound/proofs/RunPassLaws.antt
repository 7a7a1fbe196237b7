-- The runs, block by block and one by one: what the passes over them have found of those before run r.
-- Assumes nothing.
use Rattle.std.proofs.Common.{◌≡◌, ℕ, suc, min, ◌+◌, ◌-◌, ◌*◌, ◌/◌, ◌%◌, ◌^◌, ◌<◌, ◌≤◌, Bool, not, eqb, ltb, leb, List, get_or, sym, refl, ◌∙◌, subst, le_refl, mul-le-mul, add-one, arith, ltb-true, lt-ltb, le-leb, leb-true}
use mir.Val.{bool_byte}
use Rattle.groups.proofs.BoolLaws.{bool_same}
use Rattle.groups.proofs.CountLaws.{count_none, count_most}
use Rattle.groups.proofs.SumLaws.{sum_zero, sum_most}
use Rattle.frame.specs.Runs.{gap_of, run_lengths}
use Rattle.frame.specs.Words.{start_place, size_place, run_start, run_end, parent_of, size_word, stored_run}
use Rattle.forest.specs.Forest.{own, roots, root_sizes}
use Rattle.forest.proofs.ForestLaws.{roots_others}
use Rattle.sound.specs.declared.Runs.{Runs}
use Rattle.sound.specs.declared.TheConstants.{BLOCK}
use Rattle.sound.specs.Passes.{falls, wrong_run, Nonempty, RunsReady, RunsFound, BlockReady}
use Rattle.sound.proofs.TestLaws.{byte_le, byte_no_gap, counts_more, sums_more}

-- numbers modulo 2^32: the test of the end before, less one where the gap is 0; and the sum with one length more
last_before : (s e gap less last : ℕ) → less + gap ≡ 1 → 0 < e → e < 4294967296 → last < 4294967296 → (last + less) % 2 ^ 32 ≡ e
    → leb s last ≡ ltb s (e + gap)
last_before s e gap less last one l m n is = bool_same (leb s last) (ltb s (e + gap))
    (λ t. lt-ltb s (e + gap) (omega (arith, leb-true s last t)))
    (λ t. le-leb s last (omega (arith, ltb-true s (e + gap) t)))

length_more : (s e d sum cells : ℕ) → s < e → e < 4294967296 → d < 4294967296 → (d + s) % 2 ^ 32 ≡ e → cells ≡ sum % 2 ^ 32
    → (cells + d) % 2 ^ 32 ≡ ((e - s) + sum) % 2 ^ 32
length_more s e d sum cells l m n is c = omega arith

module _ (L : ℕ) (left : Bool) (ws : List ℕ) where
  abbrev start : ℕ → ℕ
  start = run_start L ws

  abbrev end : ℕ → ℕ
  end = run_end L ws

  abbrev parent : ℕ → ℕ
  parent = parent_of L ws

  abbrev wrong : ℕ → Bool
  wrong = wrong_run L ws

  abbrev falling : ℕ → Bool
  falling = falls left (stored_run L ws)

  abbrev lengths : ℕ → ℕ
  lengths = run_lengths (stored_run L ws)

  -- run r's size, or 0 where it is no root
  abbrev size : ℕ → ℕ
  size r = size_word L ws r * bool_byte (eqb (parent r) r)

  -- all blocks before this one
  pub record RunsTo (runs : ℕ) (found : Runs) (block : ℕ) : Type 0 where
    pub so_far : RunsFound L ws left (min (BLOCK * block) runs) found

  -- a block from run a to before b, before run r: what is found, where `before` was the sum before the block, and low and high are the
  -- sums of the halves since
  pub record BlockTo (a b before : ℕ) (found : Runs) (low high r : ℕ) : Type 0 where
    pub upto : r ≤ b
    pub so_far : RunsFound L ws left r found
    pub halves : found.sizes ≡ before + low + 65536 * high
    pub low_most : low + a * 65535 ≤ r * 65535
    pub high_most : high + a * 65535 ≤ r * 65535

  pub block_none : {a b : ℕ} {found : Runs} → BlockReady L ws left a b found → BlockTo a b found.sizes (record {
    wrong = found.wrong;
    falls = found.falls;
    roots = found.roots;
    cells = found.cells;
    last = found.last;
    sizes = found.sizes + 0 + 65536 * 0;
  }) 0 0 a
  block_none {a} {b} {found} B = record {
    upto = B.up;
    so_far = record {
      wrong = F.wrong;
      rooted = F.rooted;
      sized = omega (arith, F.sized);
      few = F.few;
      fallen = F.fallen;
      summed = F.summed;
      next = F.next;
    };
    halves = refl;
    low_most = omega arith;
    high_most = omega arith;
  }
    where
      F : RunsFound L ws left a found
      F = B.before

  -- words are below 2^32
  module _ (word : (k : ℕ) → get_or ws k 0 < 4294967296) where
    pub runs_none : RunsFound L ws left 0 (record { wrong = 0; falls = 0; roots = 0; cells = 0; last = 4294967295; sizes = 0 })
    unfolding falls run_lengths roots root_sizes
    runs_none = record {
      wrong = sym (count_none wrong);
      rooted = sym (count_none (own parent));
      sized = sym (sum_zero (own parent) (size_word L ws));
      few = omega arith;
      fallen = λ h. sym (count_none falling);
      summed = λ h. refl;
      next = λ h. le-leb (start 0) 4294967295 (omega (arith, word (start_place L 0)));
    }

    size_small : (r : ℕ) → size r < 4294967296
    size_small r = omega (arith, word (size_place L r), mul-le-mul (le_refl (size_word L ws r)) (byte_le (eqb (parent r) r)))

    -- run r: d is its length, and the sum and `last` become cells' and last'
    pub block_more : {a b before low high r d cells' last' : ℕ} {found : Runs} → BlockTo a b before found low high r → r < b
        → d < 4294967296 → (d + start r) % 2 ^ 32 ≡ end r → cells' ≡ (found.cells + d) % 2 ^ 32 → last' < 4294967296
        → (last' + bool_byte (not left)) % 2 ^ 32 ≡ end r → BlockTo a b before (record {
          wrong = found.wrong + bool_byte (wrong r);
          falls = found.falls + bool_byte (leb (start r) found.last);
          roots = found.roots + bool_byte (eqb (parent r) r);
          cells = cells';
          last = last';
          sizes = before + (low + size r % 65536) + 65536 * (high + size r / 65536);
        }) (low + size r % 65536) (high + size r / 65536) (r + 1)
    unfolding falls run_lengths roots root_sizes own
    block_more {a} {b} {before} {low} {high} {r} {d} {cells'} {last'} {found} T l ld is-d is-cells ll is_last = record {
      upto = omega arith;
      so_far = record {
        wrong = counts_more wrong r _ refl F.wrong;
        rooted = counts_more (own parent) r _ refl F.rooted;
        sized = omega (arith, T.halves, sums_more (own parent) (size_word L ws) r F.sized);
        few = omega (arith, F.few, byte_le (leb (start r) found.last));
        fallen = λ h. counts_more falling r _ (F.next (less h)) (F.fallen (less h));
        summed = λ h. is-cells ∙ subst (λ (n : ℕ). (found.cells + d) % 2 ^ 32 ≡ lengths n % 2 ^ 32) (sym (add-one r))
            (length_more (start r) (end r) d (lengths r) found.cells (this h) (word _) ld is-d (F.summed (less h)));
        next = λ h. subst (λ (n : ℕ). leb (start n) last' ≡ falling n) (sym (add-one r))
            (last_before (start (suc r)) (end r) (gap_of left) (bool_byte (not left)) last' (byte_no_gap left) (omega (arith, this h))
            (word _) ll is_last);
      };
      halves = refl;
      low_most = omega (arith, T.low_most);
      high_most = omega (arith, T.high_most, size_small r);
    }
      where
        F : RunsFound L ws left r found
        F = T.so_far

        less : Nonempty L ws (r + 1) → Nonempty L ws r
        less h q m = h q (omega arith)

        this : Nonempty L ws (r + 1) → start r < end r
        this h = h r (omega arith)

    -- the sum of the sizes of fewer than 2^32 runs
    pub sizes_small : {r : ℕ} {found : Runs} → RunsFound L ws left r found → r < 4294967296 → found.sizes < 18446744073709551616
    unfolding root_sizes
    sizes_small {r} F l =
        omega (arith, F.sized, sum_most (own parent) (size_word L ws) 4294967295 r (λ q m. omega (arith, word (size_place L q))))

  -- no more are wrong, or roots, than there are
  pub wrong_few : {r : ℕ} {found : Runs} → RunsFound L ws left r found → found.wrong ≤ r
  wrong_few {r} F = omega (arith, F.wrong, count_most wrong r)

  pub roots_few : {r : ℕ} {found : Runs} → RunsFound L ws left r found → found.roots ≤ r
  roots_few {r} F = omega (arith, F.rooted, roots_others parent r)

  -- where r has come to the end
  pub found_at : {n r : ℕ} {found : Runs} → RunsFound L ws left r found → r ≤ n → n ≤ r → RunsFound L ws left n found
  found_at {n} {r} {found} F l h = let e : r ≡ n = omega arith in subst (λ (n : ℕ). RunsFound L ws left n found) e F

  pub block_done : {a b before low high r : ℕ} {found : Runs} → BlockTo a b before found low high r → b ≤ r → RunsFound L ws left b found
  block_done T = found_at T.so_far T.upto

  -- a block that there is begins before the last run
  module _ {runs block : ℕ} {found : Runs} (T : RunsTo runs found block) (begun : BLOCK * block < runs) where
    pub block_ready : RunsReady L runs ws → BlockReady L ws left (BLOCK * block) (min runs (BLOCK * block + BLOCK)) found
    block_ready R = record {
      ready = record { memory = omega (arith, R.memory); few = omega (arith, R.few) };
      up = omega arith;
      short = omega arith;
      before = found_at T.so_far (omega arith) (omega arith);
    }

  pub runs_more : (runs block : ℕ) {found : Runs} → RunsFound L ws left (min runs (BLOCK * block + BLOCK)) found → RunsTo runs found (block + 1)
  runs_more runs block F = record { so_far = found_at F (omega arith) (omega arith) }

  pub runs_done : {runs block : ℕ} {found : Runs} → RunsTo runs found block → runs ≤ BLOCK * block → RunsFound L ws left runs found
  runs_done T h = found_at T.so_far (omega arith) (omega arith)
