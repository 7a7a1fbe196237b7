-- `union_by` meets its contract: by an offset that is not used, or leads out of the frame, there is no touch.
-- Assumes nothing.
use mathlib.Core.Path.{◌≡◌, sym, subst}
use mathlib.Core.List.{List}
use borrow.Author.Rules.{rules}
use lib.ListN.{length}
use Rattle.groups.specs.Groups.{Edge}
use Rattle.frame.specs.Structure.{on}
use Rattle.link.specs.Lines.{UnitedIn, runs_to}
use Rattle.link.proofs.MovesLaws.{moves_ready, found_by}
use Rattle.link.proofs.TouchByLaws.{by_earlier, by_pairs, by_none, by_unused}
use Rattle.link.proofs.PartLaws.{in_none}
use Rattle.link.proofs.union_by.Goals as goal

pub nbr_line-requires : goal.nbr_line-requires
nbr_line-requires c =
    let three : length c.args.g.dims ≡ 3 = search rules in
    moves_ready c.args.g.leads c.args.g.dims c.args.g.lines c.args.line c.args.code c.requires.0.leading three
    c.requires.0.lines.within c.args.c c.delta.result c.requires.1 c.delta.ensures

pub link_lines-requires : goal.link_lines-requires
unfolding on
link_lines-requires c =
    let three : length c.args.g.dims ≡ 3 = search rules in
    let at = found_by _ _ _ c.delta.ensures c.args.g.dims c.args.line
    (c.in-Some.ensures c.args.line c.requires.1) in (
      c.requires.0.lines,
      by_earlier c.args.g.leads c.args.g.dims c.args.g.lines c.requires.0.leading three
          c.args.structure.now c.args.words.now c.args.line c.args.code c.requires.0.lines.within c.requires.2
          c.in-Some.m c.if-prev-adj.true at,
    )

pub returns-in-Some : goal.returns-in-Some
unfolding on
returns-in-Some c =
    let three : length c.args.g.dims ≡ 3 = search rules in
    let at = found_by _ _ _ c.delta.ensures c.args.g.dims c.args.line
    (c.in-Some.ensures c.args.line c.requires.1) in
    subst (λ (es : List Edge). UnitedIn c.args.g.lines c.args.words.now c.link_lines.new.words
    (runs_to c.args.words.now c.args.line) es c.link_lines.result)
    (sym (by_pairs c.args.g.leads c.args.g.dims c.args.g.lines c.requires.0.leading three c.args.structure.now
    c.args.words.now c.args.line c.args.code c.requires.0.lines.within c.requires.2
    c.in-Some.m c.if-prev-adj.true at))
    c.link_lines.ensures

pub returns-in-None : goal.returns-in-None
unfolding on
returns-in-None c =
    let three : length c.args.g.dims ≡ 3 = search rules in
    let none = found_by _ _ _ c.delta.ensures c.args.g.dims c.args.line
    (c.in-None.ensures c.args.line c.requires.1) in
    subst (λ (es : List Edge). UnitedIn c.args.g.lines c.args.words.now c.args.words.now
    (runs_to c.args.words.now c.args.line) es 0)
    (sym (by_none c.args.g.leads c.args.g.dims c.args.g.lines c.requires.0.leading three c.args.structure.now
    c.args.words.now c.args.line c.args.code c.requires.0.lines.within c.requires.2
    c.if-prev-adj.true none))
    (in_none c.args.g.lines c.args.words.now c.args.line c.requires.0.lines)

pub returns-else-prev-adj : goal.returns-else-prev-adj
unfolding on
returns-else-prev-adj c =
    let three : length c.args.g.dims ≡ 3 = search rules in
    subst (λ (es : List Edge). UnitedIn c.args.g.lines c.args.words.now c.args.words.now
    (runs_to c.args.words.now c.args.line) es 0)
    (sym (by_unused c.args.g.leads c.args.g.dims c.args.g.lines c.requires.0.leading three c.args.structure.now
    c.args.words.now c.args.line c.args.code c.requires.0.lines.within c.requires.2 c.if-prev-adj.false))
    (in_none c.args.g.lines c.args.words.now c.args.line c.requires.0.lines)
