-- Cells filled with one number: one more, and eight at a time past the last, which get their zeros back.
-- Assumes nothing.
use mathlib.Core.Path.{◌≡◌, refl, sym, ap, ◌∙◌}
use mathlib.Core.Bool.{Bool, true, false}
use mathlib.Core.List.{List}
use Prim.Native.Nat.{ℕ, ◌+◌, ◌≤◌, ◌<◌, max}
use native.Mathlib.Omega.{arith}
use borrow.Author.Tests.{eqb-true, eqb-false, ltb-true, ltb-false}
use lib.Dec.{eqb, ltb}
use lib.ListN.{length, set, length-set}
use lib.Seq.{get_or-set_same, get_or-set_other}
use Rattle.frame.specs.Kinds.{Number, Value, write}
use Rattle.write.specs.Writes.{output_at}
use Rattle.write.specs.Steps.{Filled, PaintReady}

module _ (kind : Number) where
  pub filled_none : (a e : ℕ) (v : Value kind) (out : List (Value kind)) → e ≤ a → Filled kind a e v out out
  filled_none a e v out h = record { long = refl; inside = λ x l u. absurd (omega arith); before = λ x l. refl; past = λ x l. refl }

  module _ {a x : ℕ} {v : Value kind} {out now : List (Value kind)} (F : Filled kind a x v out now) where
    -- cell x too
    pub filled_more : (y : ℕ) → y ≡ x + 1 → a ≤ x → x < length out → Filled kind a y v out (set now x v)
    filled_more y e l h = record {
      long = length-set now x v ∙ F.long;
      inside = λ k lo hi. go k lo hi (eqb k x) refl;
      before = λ k b. get_or-set_other now x k v (write kind 0) (λ q. omega arith) ∙ F.before k b;
      past = λ k b. get_or-set_other now x k v (write kind 0) (λ q. omega arith) ∙ F.past k (omega arith);
    }
      where
        fits : x < length now
        fits = omega (arith, F.long)

        go : (k : ℕ) → a ≤ k → k < y → (t : Bool) → eqb k x ≡ t → output_at kind (set now x v) k ≡ v
        go k lo hi true t = ap (output_at kind (set now x v)) (eqb-true k x t) ∙ get_or-set_same now x v (write kind 0) fits
        go k lo hi false t = let ne = eqb-false k x t in get_or-set_other now x k v (write kind 0) ne ∙ F.inside k lo (omega arith)

    -- the loop's end
    pub filled_end : (e : ℕ) → x ≤ max a e → e ≤ x → Filled kind a e v out now
    filled_end e h l =
        record { long = F.long; inside = λ k lo hi. F.inside k lo (omega arith); before = F.before; past = λ k b. go k b (ltb k x) refl }
      where
        go : (k : ℕ) → e ≤ k → (t : Bool) → ltb k x ≡ t → output_at kind now k ≡ output_at kind out k
        go k b true t = F.before k (let u = ltb-true k x t in omega arith)
        go k b false t = F.past k (ltb-false k x t)

    -- further cells, from cell x on
    pub filled_then : {e : ℕ} {later : List (Value kind)} → a ≤ x → x ≤ e → Filled kind x e v now later → Filled kind a e v out later
    filled_then {e} {later} l u G = record {
      long = G.long ∙ F.long;
      inside = λ k lo hi. go k lo hi (ltb k x) refl;
      before = λ k b. G.before k (omega arith) ∙ F.before k b;
      past = λ k b. G.past k b ∙ F.past k (omega arith);
    }
      where
        go : (k : ℕ) → a ≤ k → k < e → (t : Bool) → ltb k x ≡ t → output_at kind later k ≡ v
        go k lo hi true t = let b = ltb-true k x t in G.before k b ∙ F.inside k lo b
        go k lo hi false t = G.inside k (ltb-false k x t) hi

  -- cells past e were filled too, fewer than eight; eight zeros from e on are what stood there
  pub painted_back : {s e w x : ℕ} {v : Value kind} {out now later : List (Value kind)} → PaintReady kind s e w out → e + 8 ≤ w → e ≤ x
      → x < e + 8 → Filled kind s x v out now → Filled kind e (e + 8) (write kind 0) now later → Filled kind s e v out later
  painted_back {s} {e} {w} {x} {v} {out} {now} {later} P room l u F G = record {
    long = G.long ∙ F.long;
    inside = λ k lo hi. G.before k hi ∙ F.inside k lo (omega arith);
    before = λ k b. G.before k (omega (arith, P.upward)) ∙ F.before k b;
    past = λ k b. go k b (ltb k (e + 8)) refl;
  }
    where
      go : (k : ℕ) → e ≤ k → (t : Bool) → ltb k (e + 8) ≡ t → output_at kind later k ≡ output_at kind out k
      go k b true t = let h = ltb-true k (e + 8) t in G.inside k b h ∙ sym (P.zeros k b (omega arith))
      go k b false t = let h = ltb-false k (e + 8) t in G.past k h ∙ F.past k (omega arith)
