-- `union_line` meets its contract. The loop's invariant: the touches by the codes before this one are united.
-- Assumes nothing.
use mathlib.Core.Path.{◌≡◌, sym, ap, ◌∙◌, subst}
use mathlib.Core.List.{List}
use Prim.Native.Nat.{ℕ, ◌+◌, ◌/◌, ◌^◌}
use native.Mathlib.Numerals.{add-one}
use native.Mathlib.Omega.{arith}
use borrow.Author.Rules.{rules}
use lib.ListN.{length}
use Rattle.groups.specs.Groups.{Edge, gather}
use Rattle.frame.specs.Words.{line_start}
use Rattle.link.specs.Lines.{UnitedIn, touches_by_in, runs_to}
use Rattle.link.proofs.PartLaws.{in_none, in_ready}
use Rattle.link.proofs.LineTouchLaws.{no_touches, touches_more, touches_all, joins_most}
use Rattle.link.proofs.union_line.Goals as goal

pub returns-then-words-line : goal.returns-then-words-line
returns-then-words-line c =
    let three : length c.args.g.dims ≡ 3 = search rules in
    subst (λ (es : List Edge). UnitedIn c.args.g.lines c.args.words.now c.args.words.now
    (runs_to c.args.words.now c.args.line) es 0)
    (sym (no_touches c.args.g c.args.structure.now c.args.words.now c.args.line c.requires three
    (c.if-words-line.true ∙ ap (λ (x : ℕ). line_start c.args.words.now x) (add-one c.args.line))))
    (in_none c.args.g.lines c.args.words.now c.args.line c.requires.lines)

pub loop-code-init : goal.loop-code-init
loop-code-init c =
    unfold gather in (in_none c.args.g.lines c.args.words.now c.args.line c.requires.lines)

pub union_by-joins-requires : goal.union_by-joins-requires
union_by-joins-requires c = (
  record {
    leading = c.requires.leading;
    bytes = c.requires.bytes;
    lines = in_ready c.args.g.lines c.args.words.now c.args.line
        c.requires.lines c.loop-code.words _ c.loop-code.joins c.loop-code.invariant;
  },
  c.coords-c.ensures,
  omega (arith, c.backward_count-code-end.ensures, c.loop-code-test.true),
)

pub overflow_add-joins : goal.overflow_add-joins
overflow_add-joins c =
    let three : length c.args.g.dims ≡ 3 = search rules in
    let l = c.loop-code in
    let most = joins_most c.args.g c.args.structure.now c.args.words.now c.args.line c.requires three
    c.union_by-joins.new.words (l.code + 1) (l.joins + c.union_by-joins.result)
    (touches_more c.args.g c.args.structure.now c.args.words.now c.args.line c.requires three l.words l.code
    l.joins l.invariant c.union_by-joins.new.words c.union_by-joins.result
    c.union_by-joins.ensures) in
    omega (arith, most, c.requires.lines.room)

pub loop-code-preserved : goal.loop-code-preserved
loop-code-preserved c =
    let three : length c.args.g.dims ≡ 3 = search rules in
    let l = c.loop-code in
    touches_more c.args.g c.args.structure.now c.args.words.now c.args.line c.requires three l.words
    l.code l.joins l.invariant c.union_by-joins.new.words c.union_by-joins.result
    c.union_by-joins.ensures

pub returns : goal.returns
returns c =
    let three : length c.args.g.dims ≡ 3 = search rules in
    let l = c.loop-code in
    subst (λ (es : List Edge). UnitedIn c.args.g.lines c.args.words.now l.words
    (runs_to c.args.words.now c.args.line) es l.joins)
    (ap (gather (touches_by_in c.args.g c.args.structure.now c.args.words.now c.args.line) 0)
    (let e : l.code ≡ 3 ^ c.args.g.leads / 2 =
    omega (arith, c.loop-code-test.false, c.backward_count-code-end.ensures) in e) ∙ touches_all c.args.g
    c.args.structure.now c.args.words.now c.args.line c.requires three) l.invariant
