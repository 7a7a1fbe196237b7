-- `Boundaries::push_chunk` meets its contract.
-- Assumes nothing.
use Prim.Native.Nat.{ℕ}
use mathlib.Core.Path.{sym, subst}
use mathlib.Core.List.{List}
use Rattle.runs.specs.Writing.{Fits, Writes}
use Rattle.runs.proofs.ChunkLaws.{chunk_edges, chunk_alone}
use Rattle.runs.proofs.Boundaries.push_chunk.Goals as goal

pub push_edges-requires : goal.push_edges-requires
push_edges-requires c =
    let e = chunk_edges c.args.c.m c.args.c.carry c.args.x c.if-left.true c.edges.ensures in
    subst (Fits c.args.self.now c.args.x) e c.requires

pub push_singles-requires : goal.push_singles-requires
push_singles-requires c =
    let e = chunk_alone c.args.c.m c.args.c.carry c.args.x c.if-left.false in
    subst (Fits c.args.self.now c.args.x) e c.requires

pub returns-then-left : goal.returns-then-left
returns-then-left c =
    let e = chunk_edges c.args.c.m c.args.c.carry c.args.x c.if-left.true c.edges.ensures in
    subst (λ (es : List ℕ). Writes es c.args.self.now c.push_edges.new.self) (sym e) c.push_edges.ensures

pub returns-else-left : goal.returns-else-left
returns-else-left c =
    let e = chunk_alone c.args.c.m c.args.c.carry c.args.x c.if-left.false in
    subst (λ (es : List ℕ). Writes es c.args.self.now c.push_singles.new.self) (sym e) c.push_singles.ensures
