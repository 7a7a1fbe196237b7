-- What is found of a whole frame before anything is written: an opening's cause, or 8, or 9, or none.
-- Assumes nothing.
use mathlib.Core.Path.{◌≡◌, refl, sym, ap, ap₂, ◌∙◌, subst}
use mathlib.Core.Logic.{◌≢◌}
use mathlib.Core.Bool.{Bool, true, false, cond}
use mathlib.Core.List.{List, [], ◌∷◌, ◌++◌}
use Prim.Native.Nat.{ℕ, ◌*◌, ◌<◌}
use native.Mathlib.Omega.{arith}
use borrow.Author.Tests.{eq-eqb, ne_eqb}
use lib.ListN.{length}
use Rattle.std.proofs.Common.{Result, Ok, Err}
use Rattle.frame.specs.Shape.{size, width, lines}
use Rattle.frame.specs.Lists.{padded}
use Rattle.frame.specs.Causes.{Test, first_cause, open_tests, open_cause, rest_tests, frame_tests, frame_cause}
use Rattle.frame.proofs.EntryLaws.{entries_padded}
use Rattle.frame.proofs.ShapeLaws.{size_lines_lem}
use Rattle.frame.proofs.CauseLaws.{accepted, first_none, open_real, Allowed, open_accepted}
use Rattle.geo.specs.declared.Geo.{Geo}
use Rattle.geo.specs.Geometry.{GeoOf}
use Rattle.geo.proofs.GeoLaws.{within_limits}
use Rattle.causes.specs.declared.Cause.{Cause}
use Rattle.causes.specs.Cases.{cause_number, check_number}
use Rattle.causes.specs.Checks.{Found}
use Rattle.causes.proofs.CaseLaws.{positive, passed_none, same_ok}
use Rattle.causes.proofs.OpenLaws.{found_cause}

-- ---- tests, and more tests after them

-- a cause that the first tests find is the cause
first_some : (ts us : List Test) (n : ℕ) → 0 < n → n ≡ first_cause ts → n ≡ first_cause (ts ++ us)
unfolding first_cause
first_some [] us n h e = absurd (omega arith)
first_some (t ∷ ts) us n h e = go t.holds e (first_some ts us n h)
  where
    go : (b : Bool) → n ≡ cond b t.number (first_cause ts) → (n ≡ first_cause ts → n ≡ first_cause (ts ++ us))
        → n ≡ cond b t.number (first_cause (ts ++ us))
    go true e i = e
    go false e i = i e

-- ---- a whole frame's

module _ (shape structure : List ℕ) (memory cells out : ℕ) (r : Result Geo Cause)
    (F : Found (length shape) (padded 4 shape) structure (open_cause shape structure memory) r) where
  -- an opening's cause is the frame's
  pub frame_gets_open : (c : Cause) → r ≡ Err c → (answer : Result Geo Cause) → answer ≡ Err c
      → Found (length shape) (padded 4 shape) structure (frame_cause shape structure memory cells out true) answer
  unfolding frame_cause frame_tests open_cause
  frame_gets_open c is answer same =
      found_cause (length shape) (padded 4 shape) structure (cause_number c) (frame_cause shape structure memory cells out true) answer
      (positive c)
      (first_some (open_tests shape structure memory)
      (rest_tests shape cells out true) (cause_number c) (positive c)
      (sym (ap check_number is) ∙ F.number))
      (ap check_number same)

  module _ (g : Geo) (is : r ≡ Ok g) where
    none : open_cause shape structure memory ≡ 0
    none = sym F.number ∙ passed_none r g is

    given : Allowed shape structure memory
    given = open_accepted shape structure memory none

    K : GeoOf (length shape) (padded 4 shape) structure g
    K = F.geometry g is

    frame_size : g.lines * g.width ≡ size shape
    frame_size =
        ap₂ ◌*◌ (K.lines_is ∙ ap lines (entries_padded 4 shape)) (K.width_is ∙ ap width (entries_padded 4 shape)) ∙ sym (size_lines_lem shape)

    pub frame_small : g.lines * g.width < 4294967293
    frame_small = omega (arith, frame_size, (within_limits shape given.limits).2)

    -- what is left to test
    rest : frame_cause shape structure memory cells out true
        ≡ first_cause (rest_tests shape cells out true)
    unfolding frame_cause frame_tests open_cause
    rest = first_none (open_tests shape structure memory)
        (rest_tests shape cells out true)
        ((accepted (open_tests shape structure memory) (open_real shape structure memory)).0 none)

    pub frame_gets_8 : cells ≢ g.lines * g.width → 8 ≡ frame_cause shape structure memory cells out true
    frame_gets_8 ne = rw (rest, ne_eqb cells (size shape) (λ e. ne (e ∙ sym frame_size))) (unfold first_cause in refl)

    module _ (whole : cells ≡ g.lines * g.width) where
      pub frame_gets_9 : out ≢ g.lines * g.width → 9 ≡ frame_cause shape structure memory cells out true
      frame_gets_9 ne = rw (rest, eq-eqb cells (size shape) (whole ∙ frame_size), ne_eqb out (size shape) (λ e. ne (e ∙ sym frame_size)))
          (unfold first_cause in refl)

      pub frame_found : out ≡ g.lines * g.width
          → Found (length shape) (padded 4 shape) structure (frame_cause shape structure memory cells out true) (Ok g)
      frame_found e = record {
        number = rw (rest, eq-eqb cells (size shape) (whole ∙ frame_size), eq-eqb out (size shape) (e ∙ frame_size))
            (unfold first_cause in refl);
        geometry = λ h same. subst (GeoOf (length shape) (padded 4 shape) structure) (same_ok g h same) K;
      }
