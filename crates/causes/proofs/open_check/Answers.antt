-- `open_check` meets its contract: each condition is tested where those before it do not hold.
-- Assumes nothing.
use mathlib.Core.Path.{refl, sym, ◌∙◌, subst}
use mathlib.Core.List.{List}
use Prim.Native.Nat.{ℕ}
use native.Mathlib.Omega.{arith}
use lib.ListN.{length}
use Rattle.frame.specs.Lists.{padded}
use Rattle.geo.specs.Geometry.{ShapeReady, Measured}
use Rattle.causes.proofs.OpenLaws.{found_cause, rank_test, open_gets_1, open_gets_2, open_gets_12, open_ready, open_gets_3}
use Rattle.causes.proofs.OpenLaws.{open_gets_4, open_gets_5, open_found}
use Rattle.causes.proofs.open_check.Goals as goal

pub returns-then-bad_rank : goal.returns-then-bad_rank
returns-then-bad_rank c =
    let shape = c.args.shape.now in
    let structure = c.args.structure.now in
    found_cause (length shape) (padded 4 shape) structure 1 _ _ (omega arith)
    (open_gets_1 shape structure _ (rank_test shape _ _ c.bad_rank.ensures c.if-bad_rank.true)) refl

pub returns-then-structure-power3 : goal.returns-then-structure-power3
returns-then-structure-power3 c =
    let shape = c.args.shape.now in
    let structure = c.args.structure.now in
    let ranked = rank_test shape _ _ c.bad_rank.ensures c.if-bad_rank.false in
    found_cause (length shape) (padded 4 shape) structure 2 _ _ (omega arith)
    (open_gets_2 shape structure _ ranked (λ e. c.if-structure-power3.true (e ∙ sym c.power3.ensures))) refl

pub returns-then-lopsided : goal.returns-then-lopsided
returns-then-lopsided c =
    let shape = c.args.shape.now in
    let structure = c.args.structure.now in
    let ranked = rank_test shape _ _ c.bad_rank.ensures c.if-bad_rank.false in
    let bytes = c.if-structure-power3.false ∙ c.power3.ensures in
    found_cause (length shape) (padded 4 shape) structure 12 _ _ (omega arith)
    (open_gets_12 shape structure _ ranked bytes (sym c.lopsided.ensures ∙ c.if-lopsided.true)) refl

pub geo_of-g-requires : goal.geo_of-g-requires
geo_of-g-requires c =
    let shape = c.args.shape.now in
    let structure = c.args.structure.now in
    let ranked = rank_test shape _ _ c.bad_rank.ensures c.if-bad_rank.false in
    let bytes = c.if-structure-power3.false ∙ c.power3.ensures in
    subst (λ (l : List ℕ). ShapeReady (length shape) l structure) (sym c.shape_of.ensures) (open_ready shape structure 0 ranked bytes)

pub returns-then-has_zero : goal.returns-then-has_zero
returns-then-has_zero c =
    let shape = c.args.shape.now in
    let structure = c.args.structure.now in
    let ranked = rank_test shape _ _ c.bad_rank.ensures c.if-bad_rank.false in
    let bytes = c.if-structure-power3.false ∙ c.power3.ensures in
    let alike = sym c.lopsided.ensures ∙ c.if-lopsided.false in
    let measured = subst (λ (l : List ℕ). Measured (length shape) l structure c.geo_of-g.result) c.shape_of.ensures
    c.geo_of-g.ensures in
    found_cause (length shape) (padded 4 shape) structure 3 _ _ (omega arith)
    (open_gets_3 shape structure _ ranked bytes alike _ measured (sym c.has_zero.ensures ∙ c.if-has_zero.true)) refl

pub returns-then-too_large : goal.returns-then-too_large
returns-then-too_large c =
    let shape = c.args.shape.now in
    let structure = c.args.structure.now in
    let ranked = rank_test shape _ _ c.bad_rank.ensures c.if-bad_rank.false in
    let bytes = c.if-structure-power3.false ∙ c.power3.ensures in
    let alike = sym c.lopsided.ensures ∙ c.if-lopsided.false in
    let measured = subst (λ (l : List ℕ). Measured (length shape) l structure c.geo_of-g.result) c.shape_of.ensures
    c.geo_of-g.ensures in
    let no_zero = sym c.has_zero.ensures ∙ c.if-has_zero.false in
    found_cause (length shape) (padded 4 shape) structure 4 _ _ (omega arith)
    (open_gets_4 shape structure _ ranked bytes alike _ measured no_zero
    (sym c.too_large.ensures ∙ c.if-too_large.true)) refl

pub returns-then-memory-words_needed : goal.returns-then-memory-words_needed
returns-then-memory-words_needed c =
    let shape = c.args.shape.now in
    let structure = c.args.structure.now in
    let ranked = rank_test shape _ _ c.bad_rank.ensures c.if-bad_rank.false in
    let bytes = c.if-structure-power3.false ∙ c.power3.ensures in
    let alike = sym c.lopsided.ensures ∙ c.if-lopsided.false in
    let measured = subst (λ (l : List ℕ). Measured (length shape) l structure c.geo_of-g.result) c.shape_of.ensures
    c.geo_of-g.ensures in
    let no_zero = sym c.has_zero.ensures ∙ c.if-has_zero.false in
    let fits = sym c.too_large.ensures ∙ c.if-too_large.false in
    found_cause (length shape) (padded 4 shape) structure 5 _ _ (omega arith)
    (open_gets_5 shape structure _ ranked bytes alike _ measured no_zero fits _ c.words_needed.ensures
    c.if-memory-words_needed.true) refl

pub returns : goal.returns
returns c =
    let shape = c.args.shape.now in
    let structure = c.args.structure.now in
    let ranked = rank_test shape _ _ c.bad_rank.ensures c.if-bad_rank.false in
    let bytes = c.if-structure-power3.false ∙ c.power3.ensures in
    let alike = sym c.lopsided.ensures ∙ c.if-lopsided.false in
    let measured = subst (λ (l : List ℕ). Measured (length shape) l structure c.geo_of-g.result) c.shape_of.ensures
    c.geo_of-g.ensures in
    let no_zero = sym c.has_zero.ensures ∙ c.if-has_zero.false in
    let fits = sym c.too_large.ensures ∙ c.if-too_large.false in
    open_found shape structure _ ranked bytes alike _ measured no_zero fits _ c.words_needed.ensures
    c.if-memory-words_needed.false
