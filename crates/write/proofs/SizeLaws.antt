-- The sizes of roots copied so far, while the runs are named.
-- Assumes nothing.
use mathlib.Core.Path.{◌≡◌, refl, sym, ap, ◌∙◌, subst}
use mathlib.Core.Bool.{Bool, true, false, cond}
use mathlib.Core.List.{List}
use Prim.Native.Nat.{ℕ, suc, ◌+◌, ◌*◌, ◌≤◌, ◌<◌}
use native.Mathlib.Numerals.{add-one}
use native.Mathlib.Omega.{arith}
use borrow.Author.Tests.{eqb-true, eqb-false}
use lib.Dec.{eqb}
use lib.ListN.{length, get_or, set, length-set}
use lib.Seq.{get_or-set_same, get_or-set_other, ext_get_or}
use Rattle.groups.specs.Groups.{count}
use Rattle.groups.proofs.CountLaws.{count_mono}
use Rattle.frame.specs.Memory.{stride}
use Rattle.frame.specs.Words.{parent_of, name_place, size_place, size_word}
use Rattle.frame.proofs.SetLaws.{set_all_other}
use Rattle.forest.specs.Forest.{own, roots, number_in, size_list}
use Rattle.names.specs.Names.{Named, NameReady}
use Rattle.names.proofs.NameLaws.{now_long, named_none, next_asked, next_named}
use Rattle.write.specs.Writes.{SizesReady, SizesWritten}
use Rattle.forest.proofs.SizeListLaws.{length_list, list_stands, list_last}

-- ---- how many roots there are

roots_rise : (p : ℕ → ℕ) (m n : ℕ) → m ≤ n → roots p m ≤ roots p n
unfolding roots
roots_rise p m n h = count_mono (own p) m n h

roots_next : (p : ℕ → ℕ) (n : ℕ) → roots p (suc n) ≤ suc (roots p n)
unfolding roots count
roots_next p n = go (own p n)
  where
    go : (b : Bool) → cond b 1 0 + count (own p) n ≤ suc (count (own p) n)
    go true = omega arith
    go false = omega arith

roots_none : (p : ℕ → ℕ) → roots p 0 ≡ 0
unfolding roots count
roots_none p = refl

-- ---- naming changes no size

size_stands : {L r : ℕ} {ws now : List ℕ} {c : ℕ} → Named L r ws now c → (k : ℕ) → size_word L now k ≡ size_word L ws k
size_stands {L} {r} {ws} N k =
    ap (λ (vs : List ℕ). size_word L vs k) N.names
    ∙ set_all_other (name_place L) (number_in (parent_of L ws)) r ws (size_place L k) (λ i h q. omega arith)

-- ---- the sizes of the roots among the first r runs, in the first places of the slice

pub record Copied (L : ℕ) (ws : List ℕ) (count : ℕ) (sizes : List ℕ) (r : ℕ) : Type 0 where
  pub long : length sizes ≡ count
  pub listed : (g : ℕ) → g < roots (parent_of L ws) r → get_or sizes g 0 ≡ get_or (size_list (parent_of L ws) (size_word L ws) r) g 0

-- the loop up to before run r, where `count` is the length of the slice
pub record SizesTo (L n : ℕ) (ws : List ℕ) (count : ℕ) (now : List ℕ) (c : ℕ) (sizes : List ℕ) (r : ℕ) : Type 0 where
  pub asked : SizesReady L n ws count
  pub upto : r ≤ n
  pub names : Named L r ws now c
  pub copied : Copied L ws count sizes r

pub sizes_begin : {L n : ℕ} {ws out : List ℕ} → SizesReady L n ws (length out) → SizesTo L n ws (length out) ws 0 out 0
sizes_begin {L} {n} {ws} A = record {
  asked = A;
  upto = omega arith;
  names = named_none L ws;
  copied = record { long = refl; listed = λ g h. absurd (omega (arith, h, roots_none (parent_of L ws))) };
}

module _ {L n : ℕ} {ws : List ℕ} {count : ℕ} {now : List ℕ} {c : ℕ} {sizes : List ℕ} {r : ℕ} (T : SizesTo L n ws count now c sizes r) where
  abbrev A : SizesReady L n ws count
  A = T.asked

  abbrev p : ℕ → ℕ
  p = parent_of L ws

  abbrev size : ℕ → ℕ
  size = size_word L ws

  module _ (h : r < n) where
    pub size_asked : NameReady L r now c
    size_asked = next_asked A.runs T.names h

    -- the run's words are there
    pub size_words : L + 1 + stride * suc r ≤ length now
    size_words = omega (arith, now_long T.names, A.runs.room)

    -- the run's size at the next root's place: right if the run is a root, and past those that count if not
    pub size_put : {v : ℕ} → v ≡ size_word L now r → c < count → Copied L ws count (set sizes c v) (suc r)
    size_put {v} is-size room = record { long = length-set sizes c v ∙ T.copied.long; listed = λ g l. go g l (eqb g c) refl }
      where
        go : (g : ℕ) → g < roots p (suc r) → (t : Bool) → eqb g c ≡ t → get_or (set sizes c v) g 0 ≡ get_or (size_list p size (suc r)) g 0
        go g l true t =
            let e = eqb-true g c t in
            let q = e ∙ T.names.counted in
            ap (λ (k : ℕ). get_or (set sizes c v) k 0) e
            ∙ get_or-set_same sizes c v 0 (omega (arith, room, T.copied.long)) ∙ is-size ∙ size_stands T.names r
            ∙ sym (list_last p size r (omega (arith, l, q))) ∙ ap (λ (k : ℕ). get_or (size_list p size (suc r)) k 0) (sym q)
        go g l false t =
            let ne = eqb-false g c t in
            let below : g < roots p r = omega (arith, l, ne, T.names.counted, roots_next p r) in
            get_or-set_other sizes c g v 0 ne ∙ T.copied.listed g below ∙ sym (list_stands p size r g below)

    -- where no place is left, the run is no root
    pub size_skipped : count ≤ c → Copied L ws count sizes (suc r)
    size_skipped full = record {
      long = T.copied.long;
      listed = λ g l.
          let below : g < roots p r = omega (arith, l, full, T.names.counted, A.groups, roots_rise p (suc r) n h) in
          T.copied.listed g below ∙ sym (list_stands p size r g below);
    }

    pub size_turn : {stored later : List ℕ} {d : ℕ} → Copied L ws count stored (suc r) → Named L (suc r) now later d
        → SizesTo L n ws count later d stored (r + 1)
    size_turn {stored} {later} {d} C M = subst (SizesTo L n ws count later d stored) (sym (add-one r)) (record {
      asked = A;
      upto = h;
      names = next_named A.runs T.names h M;
      copied = C;
    })

  pub sizes_done : n ≤ r → SizesWritten L n ws now sizes
  sizes_done left =
      let all : r ≡ n = omega (arith, T.upto) in
      subst (λ (k : ℕ). SizesWritten L k ws now sizes) all (record {
        names = T.names.names;
        sizes =
            ext_get_or 0 sizes (size_list p size r) (whole all)
            (λ i l. T.copied.listed i (omega (arith, whole all, length_list p size r)));
      })
    where
      whole : r ≡ n → length sizes ≡ length (size_list p size r)
      whole all = T.copied.long ∙ A.groups ∙ ap (roots p) (sym all) ∙ sym (length_list p size r)
