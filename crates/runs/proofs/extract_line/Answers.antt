-- `extract_line` meets its contract: after i chunks the boundaries from the next one on are left to be written, the cells to be counted.
-- Assumes nothing.
use Prim.Native.Nat.{ℕ, ◌+◌, ◌*◌, ◌/◌}
use mathlib.Core.Path.{◌≡◌, refl, sym, ap, ◌∙◌}
use mathlib.Core.List.{List}
use native.Mathlib.Omega.{arith}
use denote.MutBor.{MutBor}
use lib.ListN.{length, length-map}
use Rattle.runs.proofs.MaskLaws.{whole_mask, last_mask}
use Rattle.runs.proofs.ChunkLaws.{going_begin, going_at, going_fits, going_sum, going_turn, going_done, going_end}
use Rattle.runs.proofs.extract_line.Goals as goal

pub loop-i-init : goal.loop-i-init
loop-i-init g c = going_begin refl

pub push_chunk-requires : goal.push_chunk-requires
push_chunk-requires g c =
    let l = c.loop-i in
    let m = c.mask-m in
    going_fits l.invariant m.result (m.ensures ∙ whole_mask g.T.Nz.nonzero c.args.line.now (64 * l.i)) c.requires

pub overflow_add-cells : goal.overflow_add-cells
overflow_add-cells g c =
    let l = c.loop-i in
    let m = c.mask-m in
    let r = c.requires in
    let e = m.ensures ∙ whole_mask g.T.Nz.nonzero c.args.line.now (64 * l.i) in
    record { fits = omega (arith, going_sum l.invariant m.result e c.cells-cells.ensures r) }

pub loop-i-preserved : goal.loop-i-preserved
loop-i-preserved g c =
    let l = c.loop-i in
    let m = c.mask-m in
    let n = length-map c.args.line.now g.T.Nz.nonzero in
    let next : 64 * l.i + 64 ≡ 64 * (l.i + 1) = omega arith in
    let e = m.ensures ∙ whole_mask g.T.Nz.nonzero c.args.line.now (64 * l.i) in
    going_at next
    (going_turn l.invariant m.result e (omega (arith, c.loop-i-test.true)) c.push_chunk.ensures c.cells-cells.ensures)

-- after the loop the column is that of the last chunk
pub push_chunk-requires-2 : goal.push_chunk-requires-2
push_chunk-requires-2 g c =
    let m = c.mask-m-2 in
    let x : 64 * c.loop-i.i ≡ 64 * (length c.args.line.now / 64) = omega (arith, c.loop-i.auto.i-end, c.loop-i-test.false) in
    let e = m.ensures ∙ last_mask g.T.Nz.nonzero c.args.line.now (64 * (length c.args.line.now / 64)) in
    going_fits (going_at x c.loop-i.invariant) m.result e c.requires

pub overflow_add-result : goal.overflow_add-result
overflow_add-result g c =
    let m = c.mask-m-2 in
    let r = c.requires in
    let x : 64 * c.loop-i.i ≡ 64 * (length c.args.line.now / 64) = omega (arith, c.loop-i.auto.i-end, c.loop-i-test.false) in
    let e = m.ensures ∙ last_mask g.T.Nz.nonzero c.args.line.now (64 * (length c.args.line.now / 64)) in
    record { fits = omega (arith, going_sum (going_at x c.loop-i.invariant) m.result e c.cells.ensures r) }

-- the words that come back are those that the struct holds, since it still holds the same slice
pub returns : goal.returns
returns g c =
    let m = c.mask-m-2 in
    let n = length-map c.args.line.now g.T.Nz.nonzero in
    let x : 64 * c.loop-i.i ≡ 64 * (length c.args.line.now / 64) = omega (arith, c.loop-i.auto.i-end, c.loop-i-test.false) in
    let at_end = going_at x c.loop-i.invariant in
    let e = m.ensures ∙ last_mask g.T.Nz.nonzero c.args.line.now (64 * (length c.args.line.now / 64)) in
    let done = going_done at_end m.result e (omega arith) c.push_chunk-2.ensures in
    let same = ap (λ (b : MutBor (List ℕ)). b.ghost_name) done.held in
    rw (c.words-1.given.1.1 (sym same)) (going_end at_end m.result e (omega arith) c.push_chunk-2.ensures c.cells.ensures)
