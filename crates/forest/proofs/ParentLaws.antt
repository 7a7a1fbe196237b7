-- Parents and sizes in run words: fewer runs, words of which only parents or only group words changed, and one that is stored.
-- Assumes nothing.
use mathlib.Core.Path.{◌≡◌, refl, ap, ◌∙◌}
use mathlib.Core.Logic.{◌≢◌}
use mathlib.Core.List.{List}
use Prim.Native.Nat.{ℕ, suc, ◌*◌, ◌≤◌, ◌<◌}
use native.Mathlib.Decide.{ℕ_discrete}
use native.Mathlib.Omega.{arith}
use lib.ListN.{length, set, length-set}
use lib.Seq.{get_or-set_same, get_or-set_other}
use Rattle.frame.specs.Memory.{stride}
use Rattle.frame.specs.Words.{parent_at, size_at}
use Rattle.forest.specs.Forest.{root_of}
use Rattle.forest.specs.Unions.{parent_in, size_in, Parents, Sized, ParentsOnly, GroupWordsOnly}
use Rattle.forest.proofs.SizeLaws.{sizes_fewer}

pub parents_fewer : (p : List ℕ) (n m : ℕ) → Parents p n → m ≤ n → Parents p m
parents_fewer p n m P h = record { room = omega (arith, P.room); low = λ r l. P.low r (omega arith) }

pub sized_fewer : (p : List ℕ) (n m : ℕ) → Sized p n → m ≤ n → Sized p m
sized_fewer p n m S h = record {
  parents = parents_fewer p n m S.parents h;
  small = omega (arith, S.small, sizes_fewer (parent_in p) (size_in p) m n h);
}

-- ---- only parents changed

pub only_parents : (p q : List ℕ) (n : ℕ) → Parents p n → ParentsOnly p q n → Parents q n
only_parents p q n P K = record { room = omega (arith, P.room, K.long); low = K.low }

pub only_refl : (p : List ℕ) (n : ℕ) → Parents p n → ParentsOnly p p n
only_refl p n P = record { long = refl; others = λ j o. refl; low = P.low }

pub only_trans : (p q s : List ℕ) (n : ℕ) → ParentsOnly p q n → ParentsOnly q s n → ParentsOnly p s n
only_trans p q s n K L = record { long = L.long ∙ K.long; others = λ j o. L.others j o ∙ K.others j o; low = L.low }

pub only_sizes : (p q : List ℕ) (n : ℕ) → ParentsOnly p q n → (r : ℕ) → size_in q r ≡ size_in p r
only_sizes p q n K r = K.others (size_at r) (λ s l. omega arith)

pub only_kept : (p q : List ℕ) (n : ℕ) → ParentsOnly p q n → GroupWordsOnly p q n
only_kept p q n K = record { long = K.long; others = λ j o. K.others j (λ r l. (o r l).0); low = K.low }

-- ---- only group words changed

pub kept_parents : (p q : List ℕ) (n : ℕ) → Parents p n → GroupWordsOnly p q n → Parents q n
kept_parents p q n P K = record { room = omega (arith, P.room, K.long); low = K.low }

pub kept_refl : (p : List ℕ) (n : ℕ) → Parents p n → GroupWordsOnly p p n
kept_refl p n P = only_kept p p n (only_refl p n P)

pub kept_trans : (p q s : List ℕ) (n : ℕ) → GroupWordsOnly p q n → GroupWordsOnly q s n → GroupWordsOnly p s n
kept_trans p q s n K L = record { long = L.long ∙ K.long; others = λ j o. L.others j o ∙ K.others j o; low = L.low }

-- ---- one word is stored

-- v is stored as the parent of x
module _ (p : List ℕ) (x v : ℕ) (room : stride * suc x ≤ length p) where
  pub put_same : parent_in (set p (parent_at x) v) x ≡ v
  put_same = get_or-set_same p (parent_at x) v 0 (omega arith)

  pub put_other : (r : ℕ) → r ≢ x → parent_in (set p (parent_at x) v) r ≡ parent_in p r
  put_other r e = get_or-set_other p (parent_at x) (parent_at r) v 0 (omega arith)

-- v is stored as the size of x
module _ (p : List ℕ) (x v : ℕ) where
  pub size_same : stride * suc x ≤ length p → size_in (set p (size_at x) v) x ≡ v
  size_same room = get_or-set_same p (size_at x) v 0 (omega arith)

  pub size_other : (r : ℕ) → r ≢ x → size_in (set p (size_at x) v) r ≡ size_in p r
  size_other r e = get_or-set_other p (size_at x) (size_at r) v 0 (omega arith)

  size_parent : (r : ℕ) → parent_in (set p (size_at x) v) r ≡ parent_in p r
  size_parent r = get_or-set_other p (size_at x) (parent_at r) v 0 (omega arith)

  pub size_root : (r : ℕ) → root_of (parent_in (set p (size_at x) v)) r ≡ root_of (parent_in p) r
  size_root r = ap (λ (f : ℕ → ℕ). root_of f r) (λ i s. size_parent s i)

  pub size_kept : (n : ℕ) → Parents p n → x < n → GroupWordsOnly p (set p (size_at x) v) n
  size_kept n P h = record {
    long = length-set p (size_at x) v;
    others = λ j o. get_or-set_other p (size_at x) j v 0 (o x h).1;
    low = λ r l. rw (size_parent r) (P.low r l);
  }

pub put_kept : (p : List ℕ) (n x v : ℕ) → Parents p n → x < n → v ≤ x → ParentsOnly p (set p (parent_at x) v) n
put_kept p n x v P h l = record {
  long = length-set p (parent_at x) v;
  others = λ j o. get_or-set_other p (parent_at x) j v 0
      (o x h);
  low = λ r m. go r m (ℕ_discrete r x);
}
  where
    room : stride * suc x ≤ length p
    room = omega (arith, P.room)

    go : (r : ℕ) → r < n → Dec (r ≡ x) → parent_in (set p (parent_at x) v) r ≤ r
    go r m (yes e) = rw (e, put_same p x v room) l
    go r m (no e) = rw (put_other p x v room r e) (P.low r m)
