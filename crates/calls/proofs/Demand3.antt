-- Demand 3: the theorem. What it says, clause by clause, is specs/Demand3.antt.
-- Assumes nothing.
use mathlib.Core.Path.{◌≡◌, sym, ap₂, ◌∙◌, subst}
use mathlib.Core.List.{List}
use Prim.Native.Nat.{ℕ}
use Rattle.frame.specs.Plain.{Call, Answered, State, opened, plain, after}
use Rattle.label.specs.declared.Session.{Session}
use Rattle.label.specs.Record.{shape_of}
use Rattle.label.specs.Opening.{OpenPromise}
use Rattle.label.proofs.OpenLaws.{open_starts}
use Rattle.calls.specs.Trace.{Trace}
use Rattle.calls.specs.Demand3.{AllRight, Afterwards, Grouped, Demand3}
use Rattle.calls.proofs.TraceLaws.{follows}
use Rattle.calls.proofs.RightLaws.{plain_right}
use Rattle.calls.proofs.AfterLaws.{afterwards, parents_grouped}

-- "Take every list of feeds and readings, of any cell and number kinds, refused ones included, from an accepted opening": `calls` is any
-- list, with size calls and document 02's structure changes, and the opening answers 0. "Each call gets the record and memory as the call
-- before it left them, the first as the opening did; nobody else writes either meanwhile": `Trace`, from the record and the words that the
-- opening left
pub demand3 : (shape structure ws₀ : List ℕ) (number : ℕ) (s : Session) (ws : List ℕ) → OpenPromise shape structure ws₀ number s ws
    → number ≡ 0
    → (calls : List Call) (answers : List Answered) (s' : Session) (ws' : List ℕ) → Trace s ws calls answers s' ws' → Demand3 shape
    structure calls answers s' ws'
demand3 shape structure ws₀ number s ws O z calls answers s' ws' T =
    let B = open_starts shape structure ws₀ number s ws O z in
    let F = follows T B.keeps in
    let state = F.state ∙ ap₂ (λ (dims : List ℕ) (p : State). after dims p calls) B.shaped B.state in
    let same : answers ≡ plain shape (opened structure) calls = F.same
    ∙ ap₂ (λ (dims : List ℕ) (p : State). plain dims p calls) B.shaped B.state in
    record {
      same = same;
      right = subst (λ (az : List Answered). AllRight shape (opened structure) calls az) (sym same)
          (plain_right shape (opened structure) calls);
      afterwards =
          subst (λ (dims : List ℕ). Afterwards dims (after shape (opened structure) calls) s' ws') (F.shaped ∙ B.shaped)
          (subst (λ (p : State). Afterwards (shape_of s') p s' ws') state (afterwards s' ws' F.keeps));
      grouped =
          subst (λ (dims : List ℕ). Grouped dims (after shape (opened structure) calls) ws') (F.shaped ∙ B.shaped)
          (subst (λ (p : State). Grouped (shape_of s') p ws') state (parents_grouped s' ws' F.keeps));
    }
