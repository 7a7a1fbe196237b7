-- Every list of calls, on every record and words, has a trace: the plain functions, one after the other.
-- Assumes nothing.
use mathlib.Core.List.{List, [], ◌∷◌}
use Prim.Native.Nat.{ℕ}
use Rattle.frame.specs.Kinds.{flags}
use Rattle.frame.specs.Plain.{Call, feed, read, sizes, widen, nothing, numbers, counts, Answered}
use Rattle.label.specs.declared.Session.{Session}
use Rattle.label.proofs.CallFunctions.{do_feed, do_read, do_sizes, do_widen}
use Rattle.label.proofs.MeetLaws.{read_met, sizes_met, feed_met, widen_met}
use Rattle.calls.specs.Trace.{Trace, stop, by_feed, by_read, by_sizes, by_widen}

-- the answers, and the record and the words afterwards
pub record Ran : Type 0 where
  pub answers : List Answered
  pub session : Session
  pub words : List ℕ

-- one answer more in front
abbrev then : Answered → Ran → Ran
then a r = record { answers = a ∷ r.answers; session = r.session; words = r.words }

unfoldable pub do_calls : Session → List ℕ → List Call → Ran
do_calls s ws [] = record { answers = []; session = s; words = ws }
do_calls s ws (feed k cells ∷ cs) =
    let d = do_feed s ws k (flags cells) in
    then (record { said = d.said; written = nothing }) (do_calls d.session d.words cs)
do_calls s ws (read kind out ∷ cs) =
    let d = do_read kind s ws out in
    then (record { said = d.said; written = numbers kind d.out }) (do_calls s d.words cs)
do_calls s ws (sizes out ∷ cs) =
    let d = do_sizes s ws out in
    then (record { said = d.said; written = counts d.out }) (do_calls s d.words cs)
do_calls s ws (widen structure ∷ cs) =
    let d = do_widen s ws structure in
    then (record { said = d.said; written = nothing }) (do_calls d.session d.words cs)

pub calls_met : (s : Session) (ws : List ℕ) (cs : List Call)
    → Trace s ws cs (do_calls s ws cs).answers (do_calls s ws cs).session (do_calls s ws cs).words
unfolding do_calls
calls_met s ws [] = stop
calls_met s ws (feed k cells ∷ cs) = by_feed {cells = cells} (feed_met s ws k (flags cells))
    (calls_met (do_feed s ws k (flags cells)).session (do_feed s ws k (flags cells)).words cs)
calls_met s ws (read kind out ∷ cs) = by_read (read_met kind s ws out) (calls_met s (do_read kind s ws out).words cs)
calls_met s ws (sizes out ∷ cs) = by_sizes (sizes_met s ws out) (calls_met s (do_sizes s ws out).words cs)
calls_met s ws (widen structure ∷ cs) = by_widen (widen_met s ws structure)
    (calls_met (do_widen s ws structure).session (do_widen s ws structure).words cs)
