-- `structure_of` meets its contract: a word that is a byte is copied, and any other ends the loop.
-- Assumes nothing.
use Rattle.std.proofs.Common.{rules, ◌≡◌, ℕ, ◌<◌, arith, sym, ◌∙◌, get_or, Result, Ok, Err, MatchResult, length-set, refl}
use Rattle.std.specs.Result.{IsErrAnd}
use Rattle.std.proofs.lemmas.Result.{err_from_is_err_and, OkIff-at_ok, OkIff-at_err}
use Rattle.std.proofs.lemmas.List.{ext_get_or}
use Rattle.std.proofs.lemmas.List.Edits.{fill_by_more}
use Rattle.record_c.proofs.RecordLaws.{bytes_next, bytes_stop, bytes_end}
use Rattle.record_c.proofs.structure_of.Goals as goal

-- what `map_err` was called on
ok_was : {A E D : Type 0} (r : Result A E) (m : Result A D) (P : E → D → Type 0) (x : A) → m ≡ Ok x
    → MatchResult r (λ y. m ≡ Ok y) (λ e. IsErrAnd m (P e)) → r ≡ Ok x
ok_was (Ok y) m P x e M = cc
ok_was (Err d) m P x e M = absurd (rw e at M)

err_was : {A E D : Type 0} (r : Result A E) (m : Result A D) (P : E → D → Type 0) (d : D) → m ≡ Err d
    → MatchResult r (λ y. m ≡ Ok y) (λ e. IsErrAnd m (P e)) → (e : E) × (r ≡ Err e) × P e d
err_was (Ok y) m P d e M = cc
err_was (Err b) m P d e M = (b, refl, rw e at M)

pub returns-in_err-structure : goal.returns-in_err-structure
returns-in_err-structure c =
    let p = err_from_is_err_and c.from_residual.result c.from_residual.ensures.1 in
    let w = err_was c.try_from.result c.map_err.result _ c.in_err-structure.field-0.0 c.in_err-structure.was c.map_err.ensures.cases in
    let l = c.loop-i in
    let big : ¬ (get_or c.args.words.now l.i 0 < 256) = OkIff-at_err _ _ _ _ c.try_from.ensures w.1 in
    rw (p.1, p.2)
    (sym l.invariant.2 ∙ bytes_stop c.args.words.now l.i (omega arith) (omega arith), search (rules, w))

pub loop-i-preserved : goal.loop-i-preserved
loop-i-preserved c =
    let l = c.loop-i in
    let w = ok_was c.try_from.result c.map_err.result _ c.in_ok-structure.field-0 c.in_ok-structure.was c.map_err.ensures.cases in
    let small = OkIff-at_ok _ _ _ _ c.try_from.ensures w in
    let copied = fill_by_more (λ (k : ℕ). get_or c.args.words.now k 0) l.structure l.i 0 (omega arith) l.invariant.1 in (
      simp length-set l.invariant.0,
      rw small.1 copied,
      bytes_next c.args.words.now l.i (omega arith) (omega arith) ∙ l.invariant.2,
    )

pub returns : goal.returns
returns c =
    let l = c.loop-i in (
      sym l.invariant.2 ∙ bytes_end c.args.words.now l.i (omega arith),
      ext_get_or 0 _ _ (omega arith) (λ i h. l.invariant.1 i (omega arith)),
    )
