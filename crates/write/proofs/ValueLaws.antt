-- The cells of an output by what their places hold: a store, a part lent and put back, and the lines before one, written.
-- Assumes nothing.
use mathlib.Core.Path.{◌≡◌, sym, ap, ap₂, ◌∙◌, subst}
use mathlib.Core.List.{List, map, ◌++◌}
use Prim.Native.Nat.{ℕ, suc, ◌+◌, ◌*◌, ◌-◌, ◌≤◌, ◌<◌}
use native.Mathlib.Omega.{arith}
use lib.ListN.{length, set, take, length-map}
use Rattle.std.proofs.Common.{drop}
use Rattle.std.proofs.lemmas.List.{map-set, take-map, drop-map, map-append}
use Rattle.frame.specs.Kinds.{Number, Value, write}
use Rattle.frame.specs.Words.{line_start}
use Rattle.names.specs.Names.{Named}
use Rattle.write.specs.Writes.{WriteReady, LinesWritten}
use Rattle.write.specs.Steps.{Filled, LineToPaint, LinePainted}
use Rattle.write.proofs.PaintLaws.{filled_more}
use Rattle.write.proofs.BlockLaws.{lent, back, LinesTo, lines_begin, paint_asked, lines_turn, lines_done}

-- ---- lists

module _ {X Y : Type 0} (f : X → Y) (a : ℕ) (xs : List X) where
  -- the values of the part are the part of the values
  map_lent : lent a (map f xs) ≡ map f (lent a xs)
  map_lent =
      ap (λ (n : ℕ). take (n - a) (drop a (map f xs))) (length-map xs f)
      ∙ ap (take (length xs - a)) (drop-map f a xs) ∙ take-map f (length xs - a) (drop a xs)

  -- and those of the whole, once it is back, the whole of the values
  map_back : (part : List X) → back a (map f xs) (map f part) ≡ map f (back a xs part)
  map_back part =
      let n = length xs - a in
      ap (λ (n : ℕ). take a (map f xs) ++ (map f part ++ drop (n - a) (drop a (map f xs)))) (length-map xs f)
      ∙ ap₂ (λ (x : List Y) (y : List Y). x ++ (map f part ++ y)) (take-map f a xs)
      (ap (drop n) (drop-map f a xs) ∙ drop-map f n (drop a xs))
      ∙ ap (λ (y : List Y). map f (take a xs) ++ y) (sym (map-append f part (drop n (drop a xs))))
      ∙ sym (map-append f (take a xs) (part ++ drop n (drop a xs)))

-- ---- the cells of one kind of number

module _ (kind : Number) {X : Type 0} (f : X → Value kind) where
  -- cell x too
  pub value_more : {a x : ℕ} {v : X} {out : List (Value kind)} (now : List X) → Filled kind a x (f v) out (map f now) → (y : ℕ) → y ≡ x + 1
      → a ≤ x → x < length now → Filled kind a y (f v) out (map f (set now x v))
  value_more {a} {x} {v} {out} now F y e l h =
      let room : x < length out = omega (arith, F.long, length-map now f) in
      rw (map-set f now x v) (filled_more kind F y e l room)

  pub values_begin : {L w fed : ℕ} {ws : List ℕ} (out : List X) → WriteReady kind L w fed ws (length out)
      → LinesTo kind L w fed ws (map f out) ws 0 (map f out) 0
  values_begin {L} {w} {fed} {ws} out A = lines_begin kind (subst (WriteReady kind L w fed ws) (sym (length-map out f)) A)

  module _ {L w fed : ℕ} {ws : List ℕ} {out : List (Value kind)} {now : List ℕ} {c : ℕ} (cells : List X) {ℓ : ℕ}
      (T : LinesTo kind L w fed ws out now c (map f cells) ℓ) where
    module _ (h : ℓ < fed) {later : List ℕ} {d : ℕ} (N : Named L (line_start now (suc ℓ)) now later d) where
      pub values_asked : LineToPaint kind L w ℓ later (length (lent (ℓ * w) cells))
      values_asked =
          subst (LineToPaint kind L w ℓ later)
          (ap (λ (k : List (Value kind)). length k) (map_lent f (ℓ * w) cells) ∙ length-map (lent (ℓ * w) cells) f)
          (paint_asked kind T h N)

      pub values_turn : (part : List X) → LinePainted kind L w ℓ later (map f (lent (ℓ * w) cells)) (map f part)
          → LinesTo kind L w fed ws out later d (map f (back (ℓ * w) cells part)) (ℓ + 1)
      values_turn part P =
          subst (λ (k : List (Value kind)). LinesTo kind L w fed ws out later d k (ℓ + 1)) (map_back f (ℓ * w) cells part)
          (lines_turn kind T h N
          (subst (λ (k : List (Value kind)). LinePainted kind L w ℓ later k (map f part)) (sym (map_lent f (ℓ * w) cells)) P))

    pub values_done : {v : Value kind} {whole : List (Value kind)} → fed ≤ ℓ → v ≡ write kind 0
        → Filled kind (fed * w) (length cells) v (map f cells) whole → LinesWritten kind L w fed ws now out whole
    values_done {v} {whole} left is-v F =
        lines_done kind T left
        (subst (λ (n : ℕ). Filled kind (fed * w) n (write kind 0) (map f cells) whole) (sym (length-map cells f))
        (subst (λ (v : Value kind). Filled kind (fed * w) (length cells) v (map f cells) whole) is-v F))
