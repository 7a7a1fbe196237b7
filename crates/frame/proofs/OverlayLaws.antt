-- A slice that is written from its first place on: one entry more, several, all of a list.
-- Assumes nothing.
use mathlib.Core.Path.{◌≡◌, refl, sym, ap, ◌∙◌}
use mathlib.Core.List.{List, [], ◌∷◌, ◌++◌, append-nil, append_assoc}
use Prim.Native.Nat.{ℕ, suc, ◌+◌, ◌≤◌, ◌<◌}
use native.Mathlib.Omega.{arith}
use lib.ListN.{length, drop, set, length-append, length-set}
use Rattle.frame.specs.Overlay.{overlay, Holds, Adds}

-- ---- overlay

pub length_overlay : {A : Type 0} (xs ys : List A) → length (overlay xs ys) ≡ length ys
unfolding overlay
length_overlay [] ys = refl
length_overlay (x ∷ xs) [] = refl
length_overlay (x ∷ xs) (y ∷ ys) = ap suc (length_overlay xs ys)

pub overlay_none : {A : Type 0} (ys : List A) → overlay [] ys ≡ ys
unfolding overlay
overlay_none ys = refl

overlay_empty : {A : Type 0} (xs : List A) → overlay xs [] ≡ []
unfolding overlay
overlay_empty [] = refl
overlay_empty (x ∷ xs) = refl

-- one entry more
pub overlay_more : {A : Type 0} (xs : List A) (x : A) (ys : List A) → overlay (xs ++ x ∷ []) ys ≡ set (overlay xs ys) (length xs) x
unfolding overlay
overlay_more [] x [] = refl
overlay_more [] x (y ∷ ys) = refl
overlay_more (w ∷ xs) x [] = refl
overlay_more (w ∷ xs) x (y ∷ ys) = ap (λ (l : List _). w ∷ l) (overlay_more xs x ys)

-- more than ys reaches
pub overlay_full : {A : Type 0} (xs zs ys : List A) → length ys ≤ length xs → overlay (xs ++ zs) ys ≡ overlay xs ys
unfolding overlay
overlay_full [] zs [] h = overlay_empty zs
overlay_full [] zs (y ∷ ys) h = absurd (omega arith)
overlay_full (x ∷ xs) zs [] h = refl
overlay_full (x ∷ xs) zs (y ∷ ys) h = ap (λ (l : List _). x ∷ l) (overlay_full xs zs ys (omega arith))

-- as many as ys reaches or fewer
pub overlay_short : {A : Type 0} (xs ys : List A) → length xs ≤ length ys → overlay xs ys ≡ xs ++ drop (length xs) ys
unfolding overlay
overlay_short [] ys h = refl
overlay_short (x ∷ xs) [] h = absurd (omega arith)
overlay_short (x ∷ xs) (y ∷ ys) h = ap (λ (l : List _). x ∷ l) (overlay_short xs ys (omega arith))

-- ---- entries written behind those before

pub adds_none : {A : Type 0} {buf : List A} {place : ℕ} → Adds [] buf place buf place
adds_none = record { long = refl; behind = λ xs ys H. rw (append-nil xs) H }

pub adds_then : {A : Type 0} {zs vs a b c : List A} {i j k : ℕ} → Adds zs a i b j → Adds vs b j c k → Adds (zs ++ vs) a i c k
adds_then {zs = zs} {vs = vs} A B =
    record { long = B.long ∙ A.long; behind = λ xs ys H. rw (← append_assoc xs zs vs) (B.behind (xs ++ zs) ys (A.behind xs ys H)) }

-- one, where there is room and where there is none
pub adds_put : {A : Type 0} (x : A) (buf : List A) (place : ℕ) → place < length buf → Adds (x ∷ []) buf place (set buf place x) (place + 1)
adds_put x buf place h = record { long = simp length-set; behind = λ xs ys H. room xs ys H (length_overlay xs ys) }
  where
    room : (xs ys : List _) → Holds xs ys buf place → length (overlay xs ys) ≡ length ys
        → Holds (xs ++ x ∷ []) ys (set buf place x) (place + 1)
    room xs ys H n =
        let l : length buf ≡ length ys = ap length H.now_is ∙ n in
        let e : place ≡ length xs = omega (arith, H.place_is) in
        record {
          now_is = rw (H.now_is, e) (sym (overlay_more xs x ys));
          place_is = omega (arith, length-append xs (x ∷ []));
        }

pub adds_full : {A : Type 0} (x : A) (buf : List A) (place : ℕ) → length buf ≤ place → Adds (x ∷ []) buf place buf place
adds_full x buf place h = record { long = refl; behind = λ xs ys H. full xs ys H (length_overlay xs ys) }
  where
    full : (xs ys : List _) → Holds xs ys buf place → length (overlay xs ys) ≡ length ys → Holds (xs ++ x ∷ []) ys buf place
    full xs ys H n =
        let l : length buf ≡ length ys = ap length H.now_is ∙ n in
        let e : length ys ≤ length xs = omega (arith, H.place_is) in
        record {
          now_is = H.now_is ∙ sym (overlay_full xs (x ∷ []) ys e);
          place_is = omega (arith, H.place_is, length-append xs (x ∷ []));
        }

-- from the first place on
pub adds_first : {A : Type 0} {zs ys now : List A} {place : ℕ} → Adds zs ys 0 now place → Holds zs ys now place
unfolding overlay
adds_first {ys = ys} A = A.behind [] ys (record { now_is = refl; place_is = omega arith })
