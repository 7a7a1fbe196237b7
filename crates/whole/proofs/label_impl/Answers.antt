-- `label_impl` meets its promise: a frame that is refused, or fed and then numbered.
-- Assumes nothing.
use lib.ListN.{length-map}
use Rattle.std.proofs.Common.{◌≡◌, Err, rules}
use Rattle.whole.proofs.WholeLaws.{whole_refused, whole_fed, whole_frame}
use Rattle.whole.proofs.label_impl.Goals as goal

pub returns-in_err-frame : goal.returns-in_err-frame
returns-in_err-frame g c =
    let same : c.from_residual.result ≡ Err c.in_err-frame.field-0.0 = search rules in
    whole_refused g.O.FromU32.kind (rw length-map c.feed_frame.ensures) c.in_err-frame.was same

pub number-requires : goal.number-requires
number-requires g c = whole_fed c.feed_frame.ensures c.in_ok-frame.was

pub returns : goal.returns
returns g c = whole_frame g.O.FromU32.kind (rw length-map c.feed_frame.ensures) c.in_ok-frame.was c.number.ensures
