-- A frame whose check fails is refused with nothing written; one whose check passes may be opened, and is fed whole.
-- Assumes nothing.
use mathlib.Core.Path.{◌≡◌, refl, sym, ap, ◌∙◌, subst}
use mathlib.Core.Bool.{Bool, true}
use mathlib.Core.List.{List, map}
use Prim.Native.Nat.{ℕ, ◌≤◌, ◌<◌}
use native.Mathlib.Omega.{arith}
use lib.ListN.{length, length-set, length-map}
use Rattle.std.proofs.Common.{Result, Ok, Err}
use Rattle.frame.specs.declared.Figures.{Figures}
use Rattle.frame.specs.Shape.{size, lines}
use Rattle.frame.specs.Lists.{padded}
use Rattle.frame.specs.Causes.{open_cause, frame_cause}
use Rattle.frame.specs.Memory.{words_needed}
use Rattle.frame.proofs.CauseLaws.{Allowed, open_accepted, frame_accepted}
use Rattle.geo.specs.declared.Geo.{Geo}
use Rattle.geo.specs.Geometry.{GeoOf}
use Rattle.causes.specs.declared.Cause.{Cause}
use Rattle.causes.specs.Cases.{check_number}
use Rattle.causes.specs.Checks.{LentFound}
use Rattle.causes.proofs.CaseLaws.{positive, passed_none, same_ok}
use Rattle.label.specs.Opening.{open_record, open_words}
use Rattle.label.specs.Steps.{FeedDone}
use Rattle.label.specs.WholeFrame.{early_cause_of}
use Rattle.label.proofs.OpenLaws.{opened_inv}
use Rattle.whole.specs.declared.FedFrame.{FedFrame}
use Rattle.whole.specs.FedFrames.{fed_record, FeedsFrame}
use Rattle.whole.proofs.FeedAllLaws.{Opened, FedSoFar, all_end}

-- what the check of the arguments finds
abbrev pub ArgumentsFound : {A : Type 0} → List ℕ → List ℕ → List ℕ → List A → ℕ → Result Geo Cause → Type 0
ArgumentsFound shape structure ws cells places found =
    LentFound shape structure (frame_cause shape structure (length ws) (length cells) places true) found

module _ {A : Type 0} (shape structure ws : List ℕ) (cells : List A) (places : ℕ) {found : Result Geo Cause}
    (F : ArgumentsFound shape structure ws cells places found) where
  -- it is the cause that is known before anything is written, whichever cells are nonzero
  early_found : (f : A → Bool) → LentFound shape structure (early_cause_of shape structure ws (map f cells) places) found
  unfolding early_cause_of
  early_found f = rw (length-map cells f) F

  pub feed_refused : (f : A → Bool) {c : Cause} → found ≡ Err c → {r : Result FedFrame Cause} → r ≡ Err c
      → FeedsFrame shape structure ws (map f cells) places r ws
  feed_refused f {c} e {r} said = record {
    number = ap check_number said ∙ ap check_number (sym e) ∙ (early_found f).number;
    geometry = λ t ok. absurd (never t ok);
    refusal = λ l. refl;
    accepted = λ t ok. absurd (never t ok);
  }
    where
      never : (t : FedFrame) → r ≡ Ok t → ⊥
      never t ok = let none = ap check_number (sym said ∙ ok) in omega (arith, none, positive c)

  -- ---- the check passed

  module _ {g : Geo} (passed : found ≡ Ok g) where
    none : frame_cause shape structure (length ws) (length cells) places true ≡ 0
    none = sym F.number ∙ passed_none found g passed

    facts : (open_cause shape structure (length ws) ≡ 0) × (length cells ≡ size shape) × (places ≡ size shape)
    facts = frame_accepted shape structure (length ws) (length cells) places none

    allowed : Allowed shape structure (length ws)
    allowed = open_accepted shape structure (length ws) facts.0

    pub feed_opened : Opened shape structure cells g (open_words ws)
    feed_opened = record {
      allowed = rw (length-set ws 0 0) allowed;
      is_sound = (opened_inv shape structure ws allowed).is_sound;
      geometry = F.geometry g passed;
      whole = facts.1;
    }

    pub feed_room : 0 < length ws
    unfolding words_needed
    feed_room = omega (arith, allowed.enough)

    pub feed_ends : {f : A → Bool} {now : List ℕ} {fed : ℕ} {figures : Figures}
        → FedSoFar f shape structure cells g (open_words ws) now fed figures → g.lines ≤ fed
        → FeedsFrame shape structure ws (map f cells) places (Ok (record { geo = g; figures = figures })) now
    feed_ends {f} {now} I h = record {
      number = sym (passed_none found g passed) ∙ (early_found f).number;
      geometry = λ t ok.
          subst (λ (x : FedFrame). GeoOf (length shape) (padded 4 shape) structure x.geo) (same_ok _ t ok) (F.geometry g passed);
      refusal = λ l. absurd (omega (arith, l, (early_found f).number, passed_none found g passed));
      accepted = λ t ok.
          subst (λ (x : FedFrame). FeedDone (open_record shape structure) (open_words ws) (lines shape) (map f cells)
          (fed_record (open_record shape structure) x) now) (same_ok _ t ok) (all_end I h);
    }
