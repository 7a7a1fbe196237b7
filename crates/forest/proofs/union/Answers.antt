-- `forest::union` meets its contract. A root above the other run is joined to that one's group; else what both finds ensure is put together
-- once, in `roots`, and there is one root or two.
-- Assumes nothing.
use Prim.Native.Nat.{ℕ, ◌<◌}
use mathlib.Core.Path.{◌≡◌}
use mathlib.Core.Bool.{Bool, true, ◌&&◌}
use mathlib.Core.List.{List}
use native.Mathlib.Omega.{arith}
use borrow.Author.Tests.{eqb-true, ltb-true}
use lib.Dec.{eqb, ltb}
use Rattle.groups.proofs.BoolLaws.{and_left, and_right}
use Rattle.frame.specs.Words.{parent_at}
use Rattle.forest.specs.Unions.{parent_in}
use Rattle.forest.proofs.ParentLaws.{only_parents}
use Rattle.forest.proofs.UnionLaws.{both_idle, both_joined, both_asked, above_joined, above_asked, one_parent}
use Rattle.forest.proofs.union.Goals as goal

-- ---- a root above the other run

-- what the test of it shows
above : (p : List ℕ) (a b : ℕ) → eqb (parent_in p a) a && ltb b a ≡ true → (parent_in p a ≡ a) × (b < a)
above p a b t =
    let is_own : Bool = eqb (parent_in p a) a in
    let is_above : Bool = ltb b a in
    (eqb-true _ _ (and_left is_own is_above t), ltb-true _ _ (and_right is_own is_above t))

pub join-requires : goal.join-requires
join-requires c =
    let o = above c.args.p.now c.args.a c.args.b c.if-p-a.true in
    let P = c.requires.parents in
    let B = c.find-root.ensures _ P (omega arith) in
    above_asked _ _ _ _ _ _ P (omega arith) (omega arith) o.0 o.1 B c.requires
    (omega (arith, c.slice_known-then-p-a-1.given (parent_at c.args.a)))

pub returns-then-p-a : goal.returns-then-p-a
returns-then-p-a c =
    let o = above c.args.p.now c.args.a c.args.b c.if-p-a.true in
    λ n P ha hb. rw c.join.ensures (above_joined _ _ n _ _ _ P ha hb o.0 o.1 (c.find-root.ensures n P hb))

-- ---- otherwise: both finds

pub returns-then-p-a-2 : goal.returns-then-p-a-2
returns-then-p-a-2 c = λ n P ha hb. one_parent _ n _ _ P ha hb c.if-p-a-2.true

pub returns-then-ra-rb : goal.returns-then-ra-rb
returns-then-ra-rb c =
    λ n P ha hb. let A = c.find-ra.ensures n P ha in
    both_idle _ _ _ n _ _ _ _ P ha hb A (c.find-rb.ensures n (only_parents _ _ n P A.kept) hb) c.if-ra-rb.true

pub join-requires-2 : goal.join-requires-2
join-requires-2 c =
    let Z = c.requires in
    let A = c.find-ra.ensures _ Z.parents (omega arith) in
    let B = c.find-rb.ensures _ (only_parents _ _ _ Z.parents A.kept) (omega arith) in
    both_asked _ _ _ _ _ _ _ _ Z.parents (omega arith) (omega arith) A B Z
    c.if-ra-rb.false
    (omega (arith, c.slice_known-6-1.given (parent_at c.find-ra.result))) _ _
    c.min.ensures c.max.ensures

pub returns : goal.returns
returns c =
    λ n P ha hb. let A = c.find-ra.ensures n P ha in
    rw (c.join-2.ensures, c.min.ensures, c.max.ensures)
    (both_joined _ _ _ n _ _ _ _ P ha hb A (c.find-rb.ensures n (only_parents _ _ n P A.kept) hb) c.if-ra-rb.false)
