-- `forest::unite` meets its contract: what the struct lent comes back as the union left it, since it still held the same slice.
use Rattle.std.proofs.Common.{ℕ, List, sym, ap}
use denote.MutBor.{MutBor}
use Rattle.forest.proofs.unite.Goals as goal

pub returns : goal.returns
returns c =
    let same = ap (λ (b : MutBor (List ℕ)). b.ghost_name) c.union.ensures.1 in
    rw (c.p-1.given.1.1 (sym same)) c.union.ensures.0
