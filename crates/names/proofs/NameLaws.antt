-- Names of runs: the words with the first n runs named, one run named more, and the runs of a line.
-- Assumes nothing.
use mathlib.Core.Path.{◌≡◌, refl, sym, ap, ap₂, ◌∙◌, subst, fun_ext}
use mathlib.Core.Logic.{◌≢◌}
use mathlib.Core.Bool.{Bool, true, false}
use mathlib.Core.List.{List}
use Prim.Native.Nat.{ℕ, zero, suc, ◌+◌, ◌*◌, ◌≤◌, ◌<◌}
use native.Mathlib.Decide.{le_ind}
use native.Mathlib.Nat.{le_refl}
use native.Mathlib.Numerals.{add-one}
use native.Mathlib.Omega.{arith}
use borrow.Author.Tests.{eqb-true, eqb-false, eq-eqb}
use lib.Dec.{eqb}
use lib.ListN.{length, get_or, set}
use lib.Seq.{get_or-set_same, get_or-set_other, set-get_or, set-set}
use mir.Val.{bool_byte}
use Rattle.groups.specs.Groups.{count}
use Rattle.groups.proofs.CountLaws.{count_on, count_off, count_mono, count_most}
use Rattle.frame.specs.Lists.{set_all}
use Rattle.frame.specs.Memory.{stride}
use Rattle.frame.specs.Words.{name_place, line_start, parent_of, name_of, stored_run}
use Rattle.frame.proofs.SetLaws.{length_set_all, set_all_other, set_all_at}
use Rattle.forest.specs.Forest.{root_of, own, roots, number_in}
use Rattle.forest.proofs.ForestLaws.{root_stays, root_le, root_root, root_parent}
use Rattle.names.specs.Names.{NamesReady, named, Named, NameReady, LineToName}

-- ---- words set again

module _ (place value : ℕ → ℕ) where
  -- where each place has its value, nothing changes
  set_same : (n : ℕ) (ws : List ℕ) → ((i : ℕ) → i < n → get_or ws (place i) 0 ≡ value i) → set_all place value n ws ≡ ws
  unfolding set_all
  set_same zero ws h = refl
  set_same (suc n) ws h =
      ap (λ (vs : List ℕ). set vs (place n) (value n)) (set_same n ws (λ i l. h i (omega arith)))
      ∙ ap (λ (v : ℕ). set ws (place n) v) (sym (h n (le_refl (suc n)))) ∙ set-get_or ws (place n) 0

  -- the first a places set before change nothing of the first n set
  set_again : (a n : ℕ) (ws : List ℕ) → ((i : ℕ) → i < a → get_or (set_all place value a ws) (place i) 0 ≡ value i) → a ≤ n
      → set_all place value n (set_all place value a ws) ≡ set_all place value n ws
  set_again a n ws h l =
      le_ind (λ m. set_all place value m (set_all place value a ws) ≡ set_all place value m ws)
      (set_same a (set_all place value a ws) h) step n l
    where
      step : (m : ℕ) → a ≤ m → set_all place value m (set_all place value a ws) ≡ set_all place value m ws
          → set_all place value (suc m) (set_all place value a ws) ≡ set_all place value (suc m) ws
      step m k e = unfold set_all in ap (λ (vs : List ℕ). set vs (place m) (value m)) e

-- ---- the first a runs named, from ws to now

module _ {L a : ℕ} {ws now : List ℕ} {c : ℕ} (N : Named L a ws now c) where
  pub now_long : length now ≡ length ws
  now_long = ap length N.names ∙ length_set_all (name_place L) (number_in (parent_of L ws)) a ws

  -- every word that is no name stands
  now_other : (j : ℕ) → ((r : ℕ) → r < a → j ≢ name_place L r) → get_or now j 0 ≡ get_or ws j 0
  now_other j h = ap (λ (vs : List ℕ). get_or vs j 0) N.names ∙ set_all_other (name_place L) (number_in (parent_of L ws)) a ws j h

  now_parents : parent_of L now ≡ parent_of L ws
  now_parents = fun_ext (λ r. now_other _ (λ i h q. omega arith))

  pub now_runs : stored_run L now ≡ stored_run L ws
  now_runs =
      fun_ext (λ r. ap₂ (λ (s : ℕ) (e : ℕ). record { start = s; end = e })
      (now_other _ (λ i h q. omega arith)) (now_other _ (λ i h q. omega arith)))

  pub now_start : (ℓ : ℕ) → ℓ ≤ L → line_start now ℓ ≡ line_start ws ℓ
  now_start ℓ l = now_other ℓ (λ r h q. omega arith)

  pub now_ready : (n : ℕ) → NamesReady L n ws → NamesReady L n now
  now_ready n R = record {
    room = rw now_long R.room;
    parents = λ r h. subst (λ (p : ℕ → ℕ). p r ≤ r) (sym now_parents) (R.parents r h);
    small = R.small;
  }

  module _ (room : L + 1 + stride * a ≤ length ws) where
    pub now_name : (r : ℕ) → r < a → name_of L now r ≡ number_in (parent_of L ws) r
    now_name r h =
        ap (λ (vs : List ℕ). name_of L vs r) N.names
        ∙ set_all_at (name_place L) (number_in (parent_of L ws)) a ws (λ i j x y q. omega arith) r h (omega arith)

    -- more runs named, of which these are the first
    again : (b : ℕ) → a ≤ b → named L b now ≡ named L b ws
    again b l =
        ap (λ (p : ℕ → ℕ). set_all (name_place L) (number_in p) b now) now_parents
        ∙ ap (λ (vs : List ℕ). set_all (name_place L) (number_in (parent_of L ws)) b vs) N.names
        ∙ set_again (name_place L) (number_in (parent_of L ws)) a b ws
        (λ i h. ap (λ (vs : List ℕ). name_of L vs i) (sym N.names) ∙ now_name i h) l

    pub named_then : {b : ℕ} {later : List ℕ} {d : ℕ} → a ≤ b → Named L b now later d → Named L b ws later d
    named_then {b} l M = record { names = M.names ∙ again b l; counted = M.counted ∙ ap (λ (p : ℕ → ℕ). roots p b) now_parents }

    pub named_still : Named L a now now c
    named_still =
        record { names = N.names ∙ sym (again a (le_refl a)); counted = N.counted ∙ ap (λ (p : ℕ → ℕ). roots p a) (sym now_parents) }

-- ---- numbers of runs

roots_on : (p : ℕ → ℕ) (r : ℕ) → p r ≡ r → roots p (suc r) ≡ roots p r + 1
unfolding roots own
roots_on p r e = count_on (own p) r (eq-eqb (p r) r e) ∙ sym (add-one _)

roots_off : (p : ℕ → ℕ) (r : ℕ) → eqb (p r) r ≡ false → roots p (suc r) ≡ roots p r
unfolding roots own
roots_off p r e = count_off (own p) r e

roots_most : (p : ℕ → ℕ) (n : ℕ) → roots p n ≤ n
unfolding roots
roots_most p n = count_most (own p) n

number_root : (p : ℕ → ℕ) (r : ℕ) → p r ≡ r → number_in p r ≡ roots p r + 1
unfolding number_in
number_root p r e = ap (λ (k : ℕ). roots p (suc k)) (root_stays p r e) ∙ roots_on p r e

module _ (p : ℕ → ℕ) (n : ℕ) (low : (r : ℕ) → r < n → p r ≤ r) where
  number_parent : (r : ℕ) → r < n → number_in p (p r) ≡ number_in p r
  unfolding number_in
  number_parent r h = ap (λ (k : ℕ). roots p (suc k)) (root_parent p n low r h)

  -- no number is above the count of the roots
  pub number_le : (r : ℕ) → r < n → number_in p r ≤ roots p n
  unfolding number_in roots
  number_le r h = count_mono (own p) (suc (root_of p r)) n (let l = root_le p n low r h in omega arith)

  -- and none is 0
  pub number_pos : (r : ℕ) → r < n → 1 ≤ number_in p r
  unfolding number_in
  number_pos r h = omega (arith, roots_on p (root_of p r) (root_root p n low r h))

-- ---- none named

pub named_none : (L : ℕ) (ws : List ℕ) → Named L 0 ws ws 0
unfolding set_all roots count
named_none L ws = record { names = refl; counted = refl }

-- ---- one run named more

module _ {L r : ℕ} {ws : List ℕ} {c : ℕ} (N : NameReady L r ws c) where
  -- the count and the run, as words hold them
  pub count_low : (c ≤ r) × (r < 4294967294)
  count_low = (omega (arith, N.before.counted, roots_most (parent_of L ws) r), omega (arith, N.runs.small))

  module _ {up : ℕ} (is_up : up ≡ parent_of L ws r) where
    pub parent_low : up ≤ r
    parent_low = rw is_up (N.runs.parents r (le_refl (suc r)))

    -- what is read at the parent is the run's number
    name_read : get_or (set ws (name_place L r) (c + 1)) (name_place L up) 0 ≡ number_in (parent_of L ws) r
    name_read = go (eqb up r) refl
      where
        room : L + 1 + stride * suc r ≤ length ws
        room = N.runs.room

        go : (t : Bool) → eqb up r ≡ t → get_or (set ws (name_place L r) (c + 1)) (name_place L up) 0 ≡ number_in (parent_of L ws) r
        go true t =
            let e = eqb-true up r t in
            ap (λ (k : ℕ). get_or (set ws (name_place L r) (c + 1)) (name_place L k) 0) e
            ∙ get_or-set_same ws (name_place L r) (c + 1) 0 (omega arith) ∙ ap (λ (k : ℕ). k + 1) N.before.counted
            ∙ sym (number_root (parent_of L ws) r (sym is_up ∙ e))
        go false t =
            let ne = eqb-false up r t in
            get_or-set_other ws (name_place L r) (name_place L up) (c + 1) 0 (λ q. omega (arith, ne))
            ∙ now_name N.before (omega (arith, room)) up (omega (arith, ne, parent_low))
            ∙ ap (number_in (parent_of L ws)) is_up ∙ number_parent (parent_of L ws) (suc r) N.runs.parents r (le_refl (suc r))

    name_count : c + bool_byte (eqb up r) ≡ roots (parent_of L ws) (suc r)
    name_count = go (eqb up r) refl
      where
        go : (t : Bool) → eqb up r ≡ t → c + bool_byte t ≡ roots (parent_of L ws) (suc r)
        go true t = ap (λ (k : ℕ). k + 1) N.before.counted ∙ sym (roots_on (parent_of L ws) r (sym is_up ∙ eqb-true up r t))
        go false t = omega (arith, N.before.counted, roots_off (parent_of L ws) r (ap (λ (k : ℕ). eqb k r) (sym is_up) ∙ t))

    -- a word holds the new count
    pub count_fits : c + bool_byte (eqb up r) < 4294967296
    count_fits = omega (arith, name_count, roots_most (parent_of L ws) (suc r), N.runs.small)

    pub name_turn : {number : ℕ} → number ≡ get_or (set ws (name_place L r) (c + 1)) (name_place L up) 0
        → Named L (suc r) ws (set (set ws (name_place L r) (c + 1)) (name_place L r) number) (c + bool_byte (eqb up r))
    name_turn {number} is_number = record { names = again ∙ whole; counted = name_count }
      where
        -- the second store at the place is the one that stands
        again : set (set ws (name_place L r) (c + 1)) (name_place L r) number ≡ set ws (name_place L r) (number_in (parent_of L ws) r)
        again = set-set ws (name_place L r) (c + 1) number ∙ ap (λ (k : ℕ). set ws (name_place L r) k) (is_number ∙ name_read)

        whole : set ws (name_place L r) (number_in (parent_of L ws) r) ≡ named L (suc r) ws
        whole = unfold set_all in ap (λ (vs : List ℕ). set vs (name_place L r) (number_in (parent_of L ws) r)) N.before.names

-- ---- run r of n, where those before it are named

module _ {L n : ℕ} {ws : List ℕ} (R : NamesReady L n ws) {r : ℕ} {now : List ℕ} {c : ℕ} (N : Named L r ws now c) (h : r < n) where
  space : L + 1 + stride * suc r ≤ length ws
  space = omega (arith, R.room)

  pub next_asked : NameReady L r now c
  next_asked = record {
    runs = now_ready N (suc r) (record { room = space; parents = λ k l. R.parents k (omega arith); small = omega (arith, R.small) });
    before = named_still N (omega (arith, space));
  }

  pub next_named : {later : List ℕ} {d : ℕ} → Named L (suc r) now later d → Named L (suc r) ws later d
  next_named M = named_then N (omega (arith, space)) (omega arith) M

-- ---- a line's runs, named up to before r, where `last` is the line's end

pub record NamedTo (L ℓ : ℕ) (ws : List ℕ) (c₀ last : ℕ) (now : List ℕ) (c r : ℕ) : Type 0 where
  pub asked : LineToName L ℓ ws c₀
  pub is_last : last ≡ line_start ws (suc ℓ)
  pub upto : r ≤ last
  pub names : Named L r ws now c

pub line_begins : {L ℓ : ℕ} {ws : List ℕ} {c₀ last r : ℕ} → LineToName L ℓ ws c₀ → last ≡ line_start ws (ℓ + 1) → r ≡ line_start ws ℓ
    → NamedTo L ℓ ws c₀ last ws c₀ r
line_begins {L} {ℓ} {ws} {c₀} {last} A e is-r = record {
  asked = A;
  is_last = next;
  upto = omega (arith, is-r, next, A.rising);
  names = rw is-r A.before;
}
  where
    next : last ≡ line_start ws (suc ℓ)
    next = e ∙ ap (line_start ws) (add-one ℓ)

module _ {L ℓ : ℕ} {ws : List ℕ} {c₀ last : ℕ} {now : List ℕ} {c r : ℕ} (T : NamedTo L ℓ ws c₀ last now c r) where
  module _ (taken : r < last) where
    under : r < line_start ws (suc ℓ)
    under = omega (arith, T.is_last)

    pub run_asked : NameReady L r now c
    run_asked = next_asked T.asked.runs T.names under

    pub line_turn : {later : List ℕ} {d : ℕ} → Named L (suc r) now later d → NamedTo L ℓ ws c₀ last later d (r + 1)
    line_turn {later} {d} M = record {
      asked = T.asked;
      is_last = T.is_last;
      upto = omega arith;
      names = subst (λ (k : ℕ). Named L k ws later d) (sym (add-one r)) (next_named T.asked.runs T.names under M);
    }

  pub line_named : last ≤ r → Named L (line_start ws (suc ℓ)) ws now c
  line_named left =
      let e : r ≡ line_start ws (suc ℓ) = omega (arith, T.upto, T.is_last) in
      subst (λ (k : ℕ). Named L k ws now c) e T.names
