-- `make` meets its contract: a feed is of the cells of its kind.
-- Assumes nothing.
use mathlib.Core.Path.{refl}
use Rattle.std.proofs.Common.{rules}
use Rattle.frame.specs.Kinds.{u8s, u16s, i16s, f32s, flags}
use Rattle.caller.specs.Making.{rooms_held}
use Rattle.caller.proofs.Making.make.Goals as goal

pub returns-in-Some-Feed-default-U8-clause-step : goal.returns-in-Some-Feed-default-U8-clause-step
unfolding flags
returns-in-Some-Feed-default-U8-clause-step c es a P =
    let S = c.feed.ensures.step (u8s c.in-Some-Feed-default-U8.cells.now)
    (rooms_held c.args.rooms.now) refl es a P in
    search (rules, S)

pub returns-in-Some-Feed-default-U16-clause-step : goal.returns-in-Some-Feed-default-U16-clause-step
unfolding flags
returns-in-Some-Feed-default-U16-clause-step c es a P =
    let S = c.feed-in-Some-Feed-default-U16.ensures.step (u16s c.in-Some-Feed-default-U16.cells.now)
    (rooms_held c.args.rooms.now) refl es a P in
    search (rules, S)

pub returns-in-Some-Feed-default-I16-clause-step : goal.returns-in-Some-Feed-default-I16-clause-step
unfolding flags
returns-in-Some-Feed-default-I16-clause-step c es a P =
    let S = c.feed-in-Some-Feed-default-I16.ensures.step (i16s c.in-Some-Feed-default-I16.cells.now)
    (rooms_held c.args.rooms.now) refl es a P in
    search (rules, S)

pub returns-in-Some-Feed-default-F32-clause-step : goal.returns-in-Some-Feed-default-F32-clause-step
unfolding flags
returns-in-Some-Feed-default-F32-clause-step c es a P =
    let S = c.feed-in-Some-Feed-default-F32.ensures.step (f32s c.in-Some-Feed-default-F32.cells.now)
    (rooms_held c.args.rooms.now) refl es a P in
    search (rules, S)
