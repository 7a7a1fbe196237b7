-- The first entries of an array, and an array that begins with a list.
-- Assumes nothing.
use mathlib.Core.Path.{◌≡◌, sym, ap, ◌∙◌}
use mathlib.Core.Bool.{not}
use mathlib.Core.List.{List}
use Prim.Native.Nat.{ℕ, ◌-◌, ◌<◌}
use lib.Dec.{eqb}
use lib.ListN.{length, get_or, replicate, get_or-append}
use lib.Seq.{ext_get_or}
use Rattle.frame.specs.Lists.{entries, padded}
use Rattle.frame.specs.Structure.{on}
use Rattle.frame.proofs.ListLaws.{listed_at, listed_length}

pub length_entries : (n : ℕ) (l : List ℕ) → length (entries n l) ≡ n
unfolding entries
length_entries n l = listed_length (λ i. get_or l i 0) n

pub get_d_entries : (n : ℕ) (l : List ℕ) (i : ℕ) → i < n → get_or (entries n l) i 0 ≡ get_or l i 0
unfolding entries
get_d_entries n l i h = listed_at (λ j. get_or l j 0) n i 0 h

-- whether a structure's byte is nonzero
pub on_entries : (n : ℕ) (structure : List ℕ) (i : ℕ) → i < n → on (entries n structure) i ≡ on structure i
unfolding on
on_entries n structure i h = ap (λ (x : ℕ). not (eqb x 0)) (get_d_entries n structure i h)

-- all of them
pub entries_all : (n : ℕ) (l : List ℕ) → length l ≡ n → entries n l ≡ l
entries_all n l e = ext_get_or 0 (entries n l) l (length_entries n l ∙ sym e) (λ i h. get_d_entries n l i (rw (← length_entries n l) h))

pub entries_padded : (n : ℕ) (l : List ℕ) → entries (length l) (padded n l) ≡ l
entries_padded n l =
    ext_get_or 0 (entries (length l) (padded n l)) l (length_entries (length l) (padded n l))
    (λ i h. let k : i < length l = rw (← length_entries (length l) (padded n l)) h in get_d_entries (length l) (padded n l) i k ∙ begins i k)
  where
    begins : (i : ℕ) → i < length l → get_or (padded n l) i 0 ≡ get_or l i 0
    begins i k = unfold padded in get_or-append l (replicate (n - length l) 0) 0 i k
