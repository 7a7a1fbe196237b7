-- `make_all` meets its contract. The loop's invariant: what the numbers left do from here on, the whole list does from the start on.
-- Assumes nothing.
use Rattle.std.specs.Prelude.{◌≡◌}
use Rattle.std.specs.Slice.Iter.{chunks_rest, chunks_size}
use Rattle.caller.specs.Making.{SameSlices, SameRooms, standing, rooms_held, lent_in}
use Rattle.caller.proofs.ListLaws.{Reached}
use Rattle.caller.proofs.Making.make_all.Given as goal

abbrev pub invariant-loop-numbers : goal.invariant-loop-numbers
invariant-loop-numbers l = record {
  size : chunks_size l.numbers-iterator ≡ 4;
  reached : Reached (lent_in l.calls (rooms_held l.initial.rooms)) l.calls.numbers.now
      (standing l.initial.self (rooms_held l.initial.rooms)) (standing l.self (rooms_held l.rooms)) (chunks_rest l.numbers-iterator);
  same : SameSlices l.initial.self l.self;
  rooms : SameRooms l.initial.rooms l.rooms;
}
