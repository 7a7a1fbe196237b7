-- `feed_frame` meets its contract. The loop's invariant: the lines fed so far are as one feed of them.
-- Assumes nothing.
use Prim.Native.Nat.{◌-◌}
use Rattle.whole.proofs.FeedAllLaws.{FedUpTo}
use Rattle.whole.proofs.feed_frame.Given as goal

abbrev pub invariant-loop-fed : goal.invariant-loop-fed
invariant-loop-fed g l =
    FedUpTo g.I.Nz.nonzero l.shape l.structure l.cells l.geo l.initial.words l.words l.fed l.figures

abbrev pub decreases-loop-fed : goal.decreases-loop-fed
decreases-loop-fed g l = l.geo.lines - l.fed
