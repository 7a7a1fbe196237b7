-- The plain session: its lines are lines of the frame, runs = n + joins, 6 never comes, and lines fed in pieces are lines fed.
-- Assumes nothing.
use mathlib.Core.Path.{◌≡◌, refl, sym, ap, ap₂, ◌∙◌, subst}
use mathlib.Core.Logic.{◌≢◌}
use mathlib.Core.Bool.{Bool, true}
use mathlib.Core.List.{List, [], ◌∷◌, ◌++◌, append_assoc, append-nil}
use Prim.Native.Nat.{ℕ, zero, suc, ◌+◌, ◌-◌, ◌*◌, ◌≤◌, ◌<◌}
use native.Mathlib.Nat.{add-mul, add_assoc, add-zero, zero-add, zero-mul}
use native.Mathlib.Omega.{arith}
use lib.ListN.{length, length-append}
use Rattle.frame.specs.Shape.{size, width, lines}
use Rattle.frame.specs.Kinds.{flags, holds}
use Rattle.frame.specs.declared.Figures.{Figures}
use Rattle.frame.specs.Plain.{Call, feed, read, sizes, widen, Answer, refused, unless, kept, State, opened, feeds, widens, groups_of}
use Rattle.frame.specs.Plain.{figures, cause, changed, next, after}
use Rattle.frame.proofs.ShapeLaws.{Fits}
use Rattle.frame.proofs.RunLaws.{count_runs}
use Rattle.frame.proofs.CauseLaws.{feed_accepted, feed_six, read_six, sizes_six, widen_six}

-- figures are the same where each of them is
pub figures_same : {r r' j j' c c' : ℕ} → r ≡ r' → j ≡ j' → c ≡ c'
    → ◌≡◌ {A = Figures} (record { runs = r; joins = j; cells = c }) (record { runs = r'; joins = j'; cells = c' })
figures_same {r} {r'} {j} {j'} {c} {c'} runs joins cells =
    ap₂ (λ (x : ℕ) (y : ℕ). record { runs = x; joins = y; cells = c }) runs joins
    ∙ ap (λ (z : ℕ). record { runs = r'; joins = j'; cells = z }) cells

-- ---- with a cause, and without

pub unless_same : (c d : ℕ) (a b : Answer) → c ≡ d → (c ≡ 0 → a ≡ b) → unless c a ≡ unless d b
unless_same c d a b e h = subst (λ (x : ℕ). unless c a ≡ unless x b) e (go c h)
  where
    go : (c : ℕ) → (c ≡ 0 → a ≡ b) → unless c a ≡ unless c b
    go zero h = unfold unless in h refl
    go (suc c) h = unfold unless in refl

pub unless_none : (c : ℕ) (a : Answer) → c ≡ 0 → unless c a ≡ a
unfolding unless
unless_none c a e = rw e refl

pub unless_some : (c d : ℕ) (a : Answer) → c ≡ suc d → unless c a ≡ refused (suc d)
unfolding unless
unless_some c d a e = rw e refl

-- an answer is that of the accepted call, or a refusal
pub unless_cases : (Q : Answer → Type 0) (c : ℕ) (a : Answer) → (c ≡ 0 → Q a) → ((d : ℕ) → c ≡ suc d → Q (refused (suc d))) → Q (unless c a)
unfolding unless
unless_cases Q zero a goes stays = goes refl
unless_cases Q (suc c) a goes stays = stays c refl

module _ {A : Type 0} (old new : A) where
  pub kept_new : (c : ℕ) → c ≡ 0 → kept c old new ≡ new
  unfolding kept
  kept_new c e = rw e refl

  pub kept_old : (c d : ℕ) → c ≡ suc d → kept c old new ≡ old
  unfolding kept
  kept_old c d e = rw e refl

kept_both : {A : Type 0} (a : A) (c : ℕ) → kept c a a ≡ a
unfolding kept
kept_both a zero = refl
kept_both a (suc c) = refl

pub kept_same : {A : Type 0} (c d : ℕ) (old a b : A) → c ≡ d → (c ≡ 0 → a ≡ b) → kept c old a ≡ kept d old b
kept_same {A} c d old a b e h = subst (λ (x : ℕ). kept c old a ≡ kept x old b) e (go c h)
  where
    go : (c : ℕ) → (c ≡ 0 → a ≡ b) → kept c old a ≡ kept c old b
    go zero h = unfold kept in h refl
    go (suc c) h = unfold kept in refl

-- ---- the session

module _ (shape : List ℕ) where
  abbrev pub FitsIn : State → Type 0
  FitsIn p = Fits shape p.fed p.cells

  -- ---- the lines fed are lines of the frame, each with its cells

  pub opened_fits : (structure : List ℕ) → 0 < length shape → FitsIn (opened structure)
  opened_fits structure h = record { ranked = h; below = omega arith; whole = sym (zero-mul (width shape)) }

  pub feeds_fits : (p : State) (k : ℕ) (cells : List Bool) → FitsIn p → k ≤ lines shape - p.fed → length cells ≡ k * width shape
      → FitsIn (feeds p k cells)
  unfolding feeds
  feeds_fits p k cells F h e =
      record {
        ranked = F.ranked;
        below = omega (arith, F.below);
        whole = length-append p.cells cells ∙ ap₂ (λ (x : ℕ) (y : ℕ). x + y) F.whole e ∙ sym (add-mul p.fed k (width shape));
      }

  changed_fits : (p : State) (c : Call) → FitsIn p → cause shape p c ≡ 0 → FitsIn (changed shape p c)
  unfolding changed
  changed_fits p (feed k cells) F e =
      let a = feed_accepted true (lines shape - p.fed) k (width shape) (length (flags cells)) (unfold cause in e) in
      feeds_fits p k (flags cells) F a.1 a.2
  changed_fits p (read kind out) F e = F
  changed_fits p (sizes out) F e = F
  changed_fits p (widen structure) F e = unfold widens in F

  pub next_fits : (p : State) (c : Call) → FitsIn p → FitsIn (next shape p c)
  unfolding next kept
  next_fits p c F = go (cause shape p c) refl
    where
      go : (d : ℕ) → cause shape p c ≡ d → FitsIn (kept d p (changed shape p c))
      go zero e = changed_fits p c F e
      go (suc d) e = F

  pub after_fits : (cs : List Call) (p : State) → FitsIn p → FitsIn (after shape p cs)
  unfolding after
  after_fits [] p F = F
  after_fits (c ∷ cs) p F = after_fits cs (next shape p c) (next_fits p c F)

  -- ---- the next state

  pub next_accepted : (p : State) (c : Call) → cause shape p c ≡ 0 → next shape p c ≡ changed shape p c
  unfolding next
  next_accepted p c e = kept_new p (changed shape p c) (cause shape p c) e

  pub next_refused : (p : State) (c : Call) (d : ℕ) → cause shape p c ≡ suc d → next shape p c ≡ p
  unfolding next
  next_refused p c d e = kept_old p (changed shape p c) (cause shape p c) d e

  -- a call that changes nothing where it is accepted changes nothing
  pub next_stays : (p : State) (c : Call) → changed shape p c ≡ p → next shape p c ≡ p
  unfolding next
  next_stays p c e = rw e (kept_both p (cause shape p c))

  -- ---- figures

  -- runs = n + joins: the subtraction in the definition hides nothing
  pub balanced : (p : State) → (figures shape p).runs ≡ groups_of shape p + (figures shape p).joins
  unfolding figures groups_of
  balanced p = omega (arith, count_runs shape p.structure p.cells)

  -- ---- causes

  pub six_never : (p : State) (c : Call) → cause shape p c ≢ 6
  unfolding cause
  six_never p (feed k cells) = feed_six (lines shape - p.fed) k (width shape) (length (flags cells))
  six_never p (read kind out) = read_six (length out) (size shape) (holds kind (groups_of shape p))
  six_never p (sizes out) = sizes_six (length out) (groups_of shape p)
  six_never p (widen structure) = widen_six (length shape) p.structure structure

-- a feed of no lines changes nothing
pub feeds_none : (p : State) → feeds p 0 [] ≡ p
unfolding feeds
feeds_none p =
    ap₂ (λ (m : ℕ) (l : List Bool). record { structure = p.structure; fed = m; cells = l }) (add-zero p.fed) (append-nil p.cells)

-- two feeds leave what one feed of all their lines does
pub feeds_feeds : (p : State) (k j : ℕ) (xs ys : List Bool) → feeds (feeds p k xs) j ys ≡ feeds p (k + j) (xs ++ ys)
unfolding feeds
feeds_feeds p k j xs ys = ap₂ (λ (m : ℕ) (l : List Bool). record { structure = p.structure; fed = m; cells = l }) (add_assoc p.fed k j)
    (append_assoc p.cells xs ys)

-- a session whose structure changes is then as if opened with the new one and fed its lines
pub widens_opened : (p : State) (structure : List ℕ) → widens p structure ≡ feeds (opened structure) p.fed p.cells
unfolding widens feeds
widens_opened p structure = ap (λ (m : ℕ). record { structure = structure; fed = m; cells = p.cells }) (sym (zero-add p.fed))
