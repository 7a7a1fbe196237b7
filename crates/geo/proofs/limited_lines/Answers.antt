-- `limited_lines` meets its contract: each product stops at the limit.
-- Assumes nothing.
use borrow.Author.Rules.{rules}
use native.Mathlib.Omega.{arith}
use mathlib.Core.Path.{◌≡◌, ◌∙◌}
use Prim.Native.Nat.{ℕ, ◌*◌, min}
use Rattle.std.specs.List.{fold}
use Rattle.geo.proofs.ProductLaws.{limited_all}
use Rattle.geo.proofs.limited_lines.Goals as goal

pub returns : goal.returns
returns c =
    let e : c.fold.result ≡ fold (λ (a b : ℕ). min (a * b) 4294967293) 1 c.args.dims = search rules in
    e ∙ limited_all 4294967293 c.args.dims (omega arith)
