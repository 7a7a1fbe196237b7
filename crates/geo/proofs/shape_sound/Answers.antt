-- `shape_sound` meets its contract: each clause is tested where those before it do not fail.
-- Assumes nothing.
use borrow.Author.Rules.{rules}
use mathlib.Core.Path.{◌≡◌, sym, ap, ap₂, ◌∙◌}
use mathlib.Core.Bool.{true, false, not, ◌||◌, ◌&&◌}
use Prim.Native.Nat.{ℕ}
use lib.Dec.{leb}
use Rattle.groups.proofs.BoolLaws.{or_left, or_right}
use Rattle.frame.specs.Causes.{has_zero}
use Rattle.geo.specs.Geometry.{large_geo, words_of}
use Rattle.geo.proofs.DimsLaws.{rank_limits}
use Rattle.geo.proofs.ShapeSoundLaws.{rank_test, array_ready, nothing_found, rank_breaks, dims_break, and_then, and_else, rest_found}
use Rattle.geo.proofs.shape_sound.Goals as goal
use Rattle.geo.proofs.shape_sound.Goals.{then-has_zero-via-then-has_zero, then-has_zero-via-else-has_zero+then-too_large}
use Rattle.geo.proofs.shape_sound.Goals.{then-not-lopsided, else-not-lopsided, then-words_needed-memory, else-words_needed-memory}

pub returns-then-bad_rank : goal.returns-then-bad_rank
returns-then-bad_rank c =
    nothing_found (rank_breaks _ _ c.args.memory c.args.fed
    (rank_test c.args.rank c.args.shape _ _ c.bad_rank.ensures c.if-bad_rank.true))

pub geo_of-geo-requires : goal.geo_of-geo-requires
geo_of-geo-requires c =
    array_ready c.args.rank c.args.shape c.args.structure.now (search rules)
    (rank_test c.args.rank c.args.shape _ _ c.bad_rank.ensures c.if-bad_rank.false)

pub lopsided-requires : goal.lopsided-requires
lopsided-requires c =
    let ranked = rank_test c.args.rank c.args.shape _ _ c.bad_rank.ensures
    c.if-bad_rank.false in
    let few = rank_limits c.args.rank c.args.shape ranked in
    (few.0, few.1, (array_ready c.args.rank c.args.shape c.args.structure.now (search rules) ranked).bytes)

pub returns-then-has_zero : goal.returns-then-has_zero
returns-then-has_zero c =
    let ranked = rank_test c.args.rank c.args.shape _ _ c.bad_rank.ensures
    c.if-bad_rank.false in
    let g = c.geo_of-geo in
    let some : has_zero g.result.dims || large_geo g.result ≡ true = elim c.then-has_zero.branch [
      | then-has_zero-via-then-has_zero w ↦ or_left _ _ (sym c.has_zero.ensures ∙ w.if-has_zero.true)
      | then-has_zero-via-else-has_zero+then-too_large w ↦ or_right _ _ (sym w.too_large.ensures ∙ w.if-too_large.true)
    ] in
    nothing_found (dims_break c.args.rank c.args.shape c.args.structure.now ranked g.result g.ensures c.args.memory c.args.fed some)

pub returns : goal.returns
returns c =
    let ranked = rank_test c.args.rank c.args.shape _ _ c.bad_rank.ensures
    c.if-bad_rank.false in
    let g = c.geo_of-geo in
    let none : has_zero g.result.dims || large_geo g.result ≡ false = ap₂ ◌||◌ (sym c.has_zero.ensures ∙ c.if-has_zero.false)
    (sym c.too_large.ensures ∙ c.if-too_large.false) in
    let enough : c.if-not-lopsided.value ≡ not c.lopsided.result && leb (words_of g.result) c.args.memory = elim c.if-not-lopsided.branch [
      | then-not-lopsided w ↦ and_then _ _ _ (ap not w.if-not-lopsided.true)
          (w.value-is ∙ ap (λ (n : ℕ). leb n c.args.memory) w.words_needed.ensures)
      | else-not-lopsided w ↦ and_else _ _ _ (ap not w.if-not-lopsided.false) (w.value-is ∙ ap not w.if-not-lopsided.false)
    ] in
    let all : c.if-words_needed-memory.sound ≡ c.if-not-lopsided.value && leb c.args.fed g.result.lines = elim c.if-words_needed-memory.branch [
      | then-words_needed-memory w ↦ and_then _ _ _ w.if-words_needed-memory.true w.sound-is
      | else-words_needed-memory w ↦ and_else _ _ _ w.if-words_needed-memory.false (w.sound-is ∙ w.if-words_needed-memory.false)
    ] in
    rest_found c.args.rank c.args.shape c.args.structure.now ranked g.result g.ensures c.args.memory c.args.fed none
    _ _ _ c.lopsided.ensures enough all _ c.then_some.ensures
