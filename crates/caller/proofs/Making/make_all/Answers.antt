-- `make_all` meets its contract: each chunk of the list is a step.
-- Assumes nothing.
use mathlib.Core.Path.{ap, ◌∙◌, subst}
use Rattle.std.proofs.Common.{rules}
use Rattle.std.specs.Slice.Iter.{chunks_rest}
use Rattle.caller.specs.CallList.{Lent, Entry}
use Rattle.caller.specs.Making.{standing, rooms_held, entry_at, Steps}
use Rattle.caller.proofs.ListLaws.{reached_next, reached_all, lent_same}
use Rattle.caller.proofs.Making.make_all.Goals as goal

pub loop-numbers-preserved : goal.loop-numbers-preserved
loop-numbers-preserved c =
    let l = c.loop-numbers in
    let x = c.in-Some.numbers.now in
    let chunk = c.in-Some.ensures.steps in
    record {
      size = chunk.0 ∙ l.invariant.size;
      reached = reached_next l.invariant.reached x (chunks_rest c.next.new.self) chunk.1.0 (rw l.invariant.size at chunk.1.1) chunk.1.2
          (subst (λ (e : Entry). Steps e (standing l.self (rooms_held l.rooms)) (standing c.make.new.self (rooms_held c.make.new.rooms)))
          (c.decode.ensures (rooms_held l.rooms)
          ∙ ap (λ (lent : Lent). entry_at lent x) (lent_same c.args.calls l.invariant.rooms)) c.make.ensures.step);
      same = search rules;
      rooms = search rules;
    }

pub returns-clause-performs : goal.returns-clause-performs
returns-clause-performs c = reached_all c.loop-numbers.invariant.reached c.in-None.ensures.steps.1.0
