-- A list of calls is answered as by the plain session, from the state that the record holds; and words that are u32s stay so.
-- Assumes nothing.
use mathlib.Core.Path.{◌≡◌, refl, ap₂, ◌∙◌}
use mathlib.Core.List.{List, ◌∷◌}
use Prim.Native.Nat.{ℕ}
use Rattle.frame.specs.Kinds.{flags}
use Rattle.frame.specs.Plain.{Call, feed, read, sizes, widen, Answered, State, plain, after}
use Rattle.label.specs.declared.Session.{Session}
use Rattle.label.specs.Record.{shape_of}
use Rattle.label.proofs.Invariant.{state_of, Inv}
use Rattle.label.proofs.KeepLaws.{Follows, feed_follows, read_follows, sizes_follows, widen_follows}
use Rattle.label.proofs.FitLaws.{Words32, feed_words_fit, read_words_fit, sizes_words_fit, widen_words_fit}
use Rattle.calls.specs.Trace.{Trace, stop, by_feed, by_read, by_sizes, by_widen}

pub record FollowsAll (s : Session) (ws : List ℕ) (cs : List Call) (az : List Answered) (s' : Session) (ws' : List ℕ) : Type 0 where
  pub same : az ≡ plain (shape_of s) (state_of s ws) cs
  pub keeps : Inv s' ws'
  pub shaped : shape_of s' ≡ shape_of s
  pub state : state_of s' ws' ≡ after (shape_of s) (state_of s ws) cs

-- one call, and those after it
more : (s s' s'' : Session) (ws ws' ws'' : List ℕ) (c : Call) (cs : List Call) (a : Answered) (az : List Answered) → Follows s ws c a s' ws'
    → FollowsAll s' ws' cs az s'' ws'' → FollowsAll s ws (c ∷ cs) (a ∷ az) s'' ws''
unfolding plain after
more s s' s'' ws ws' ws'' c cs a az F R = record {
  same = ap₂ (λ (x : Answered) (xs : List Answered). x ∷ xs) F.same
      (R.same ∙ ap₂ (λ (shape : List ℕ) (p : State). plain shape p cs) F.shaped F.state);
  keeps = R.keeps;
  shaped = R.shaped ∙ F.shaped;
  state = R.state ∙ ap₂ (λ (shape : List ℕ) (p : State). after shape p cs) F.shaped F.state;
}

pub follows : {s s' : Session} {ws ws' : List ℕ} {cs : List Call} {az : List Answered} → Trace s ws cs az s' ws' → Inv s ws
    → FollowsAll s ws cs az s' ws'
follows stop I = record { same = unfold plain in refl; keeps = I; shaped = refl; state = unfold after in refl }
follows (by_feed {s = s} {s' = s'} {s'' = s''} {ws = ws} {ws' = ws'} {ws'' = ws''} {k = k} {cells = cells} {a = a} {cs = cs} {az = az} P T) I =
    let F = feed_follows s ws I k cells a s' ws' P in
    more s s' s'' ws ws' ws'' (feed k cells) cs _ az F (follows T F.keeps)
follows (by_read {s = s} {s' = s'} {s'' = s''} {ws = ws} {ws' = ws'} {ws'' = ws''} {kind = kind} {out = out} {out' = out'} {a = a} {cs = cs}
    {az = az} P T) I =
    let F = read_follows s ws I kind out a s' ws' out' P in
    more s s' s'' ws ws' ws'' (read kind out) cs _ az F (follows T F.keeps)
follows (by_sizes {s = s} {s' = s'} {s'' = s''} {ws = ws} {ws' = ws'} {ws'' = ws''} {out = out} {out' = out'} {a = a} {cs = cs} {az = az} P T)
    I =
    let F = sizes_follows s ws I out a s' ws' out' P in
    more s s' s'' ws ws' ws'' (sizes out) cs _ az F (follows T F.keeps)
follows (by_widen {s = s} {s' = s'} {s'' = s''} {ws = ws} {ws' = ws'} {ws'' = ws''} {structure = structure} {a = a} {cs = cs} {az = az} P T) I =
    let F = widen_follows s ws I structure a s' ws' P in
    more s s' s'' ws ws' ws'' (widen structure) cs _ az F (follows T F.keeps)

-- ---- words that are u32s stay so, whatever is called

pub trace_fits : {s s' : Session} {ws ws' : List ℕ} {cs : List Call} {az : List Answered} → Trace s ws cs az s' ws' → Words32 s ws
    → Words32 s' ws'
trace_fits stop fits = fits
trace_fits (by_feed {s = s} {s' = s'} {ws = ws} {ws' = ws'} {k = k} {cells = cells} {a = a} P T) fits =
    trace_fits T (feed_words_fit s ws k (flags cells) a s' ws' P fits)
trace_fits (by_read {s = s} {s' = s'} {ws = ws} {ws' = ws'} {kind = kind} {out = out} {out' = out'} {a = a} P T) fits =
    trace_fits T (read_words_fit kind s ws out a s' ws' out' P fits)
trace_fits (by_sizes {s = s} {s' = s'} {ws = ws} {ws' = ws'} {out = out} {out' = out'} {a = a} P T) fits =
    trace_fits T (sizes_words_fit s ws out a s' ws' out' P fits)
trace_fits (by_widen {s = s} {s' = s'} {ws = ws} {ws' = ws'} {structure = structure} {a = a} P T) fits =
    trace_fits T (widen_words_fit s ws structure a s' ws' P fits)
