-- `widen_check` meets its contract: each condition is tested where those before it do not hold.
-- Assumes nothing.
use borrow.Author.Rules.{rules}
use mathlib.Core.Path.{◌≡◌, sym, ◌∙◌}
use native.Mathlib.Omega.{arith}
use lib.ListN.{length}
use Rattle.geo.proofs.ShapeSoundLaws.{bytes_few}
use Rattle.causes.proofs.CallLaws.{widen_gets_2, widen_gets_12, widen_gets_19, widen_gets_none}
use Rattle.causes.proofs.widen_check.Goals as goal

pub returns-then-new-power3 : goal.returns-then-new-power3
returns-then-new-power3 c =
    widen_gets_2 c.args.rank c.args.old.now c.args.new.now (λ e. c.if-new-power3.true (e ∙ sym c.power3.ensures))

pub returns-then-lopsided : goal.returns-then-lopsided
returns-then-lopsided c =
    widen_gets_12 c.args.rank c.args.old.now c.args.new.now (c.if-new-power3.false ∙ c.power3.ensures)
    (sym c.lopsided.ensures ∙ c.if-lopsided.true)

pub not_wider-requires : goal.not_wider-requires
not_wider-requires c =
    let held : length c.args.old.now ≡ 81 = search rules in
    let bytes = c.if-new-power3.false ∙ c.power3.ensures in
    (c.requires.0, c.requires.1, omega (arith, bytes_few c.args.rank c.requires.1, held), omega (arith, bytes))

pub returns-then-not_wider : goal.returns-then-not_wider
returns-then-not_wider c =
    widen_gets_19 c.args.rank c.args.old.now c.args.new.now (c.if-new-power3.false ∙ c.power3.ensures)
    (sym c.lopsided.ensures ∙ c.if-lopsided.false) (sym c.not_wider.ensures ∙ c.if-not_wider.true)

pub returns : goal.returns
returns c =
    widen_gets_none c.args.rank c.args.old.now c.args.new.now (c.if-new-power3.false ∙ c.power3.ensures)
    (sym c.lopsided.ensures ∙ c.if-lopsided.false) (sym c.not_wider.ensures ∙ c.if-not_wider.false)
