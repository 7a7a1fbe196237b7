-- The promises leave parents free, and the fifth words of runs that are no roots, and nothing else: two results of one call agree in all
-- but these, and in every root and its fifth word.
-- Assumes nothing.
use mathlib.Core.Path.{◌≡◌, refl, sym, ap, ◌∙◌, subst}
use mathlib.Core.Logic.{◌≢◌}
use mathlib.Core.Bool.{Bool, true, false, true≢false}
use mathlib.Core.List.{List}
use Prim.Native.Nat.{ℕ, zero, suc, ◌≤◌, ◌<◌}
use native.Mathlib.Omega.{arith}
use borrow.Author.Tests.{eqb-true, eq-eqb}
use lib.Dec.{eqb}
use lib.ListN.{length, get_or}
use Rattle.frame.specs.Shape.{lines}
use Rattle.frame.specs.ChainRule.{any}
use Rattle.frame.specs.Runs.{runs}
use Rattle.frame.specs.Kinds.{Number, Value}
use Rattle.frame.specs.Plain.{Answer, kept}
use Rattle.frame.specs.Words.{name_place, parent_of, size_word, NoGroupWord}
use Rattle.frame.proofs.ChainRuleLaws.{any_found, any_at}
use Rattle.frame.proofs.PlainLaws.{kept_new, kept_old}
use Rattle.forest.specs.Forest.{root_of}
use Rattle.forest.proofs.ForestLaws.{numbers_same}
use Rattle.label.specs.declared.Session.{Session}
use Rattle.label.specs.Record.{shape_of, lines_of}
use Rattle.label.specs.Opening.{open_record, open_words, OpenPromise}
use Rattle.label.specs.Feeding.{runs_after, feed_record, feed_cause_of, FeedWords, FeedPromise}
use Rattle.label.specs.Widening.{widen_cause_of, WidenPromise}
use Rattle.label.specs.Reading.{with_names, ReadPromise, SizesPromise}
use Rattle.label.specs.WholeFrame.{early_cause_of, frame_cause_of, FrameWords, FramePromise}
use Rattle.label.proofs.FeedLaws.{feed_shape}
use Rattle.label.proofs.NameLaws.{length_names, names_other, parents_stand, sizes_stand, names_at}
use Rattle.label.proofs.FrameLaws.{frame_feeds, frame_runs_lem, frame_lines, frame_room}

-- ---- opening, reading, sizes: nothing is free

pub open_only : (shape structure ws : List ℕ) (a b : ℕ) (s t : Session) (ws' vs : List ℕ) → OpenPromise shape structure ws a s ws'
    → OpenPromise shape structure ws b t vs → (a ≡ b) × (s ≡ t) × (ws' ≡ vs)
open_only shape structure ws a b s t ws' vs P Q = (P.said ∙ sym Q.said, P.session ∙ sym Q.session, P.words ∙ sym Q.words)

pub read_only : (kind : Number) (s : Session) (ws : List ℕ) (out : List (Value kind)) (a b : Answer) (s' t : Session) (ws' vs : List ℕ)
    (out' out'' : List (Value kind))
    → ReadPromise kind s ws out a s' ws' out' → ReadPromise kind s ws out b t vs out'' → (a ≡ b) × (s' ≡ t) × (ws' ≡ vs) × (out' ≡ out'')
read_only kind s ws out a b s' t ws' vs out' out'' P Q =
    (P.said ∙ sym Q.said, P.session ∙ sym Q.session, P.words ∙ sym Q.words, P.output ∙ sym Q.output)

pub sizes_only : (s : Session) (ws out : List ℕ) (a b : Answer) (s' t : Session) (ws' vs out' out'' : List ℕ)
    → SizesPromise s ws out a s' ws' out'
    → SizesPromise s ws out b t vs out'' → (a ≡ b) × (s' ≡ t) × (ws' ≡ vs) × (out' ≡ out'')
sizes_only s ws out a b s' t ws' vs out' out'' P Q =
    (P.said ∙ sym Q.said, P.session ∙ sym Q.session, P.words ∙ sym Q.words, P.output ∙ sym Q.output)

-- ---- feeding: the parents of the runs are free, their roots are not; nor are the roots' sizes

-- for L lines: alike but for the parents of the first n runs, and the sizes of those that are no roots
pub record Alike (L n : ℕ) (ws vs : List ℕ) : Type 0 where
  pub long : length ws ≡ length vs
  pub words : (j : ℕ) → NoGroupWord L n j → get_or ws j 0 ≡ get_or vs j 0
  pub roots : (r : ℕ) → r < n → root_of (parent_of L ws) r ≡ root_of (parent_of L vs) r
  pub sizes : (r : ℕ) → r < n → root_of (parent_of L ws) r ≡ r → size_word L ws r ≡ size_word L vs r

alike : (L n : ℕ) (ws vs : List ℕ) → ws ≡ vs → Alike L n ws vs
alike L n ws vs e = record {
  long = ap length e;
  words = λ j h. ap (λ (l : List ℕ). get_or l j 0) e;
  roots = λ r h. ap (λ (l : List ℕ). root_of (parent_of L l) r) e;
  sizes = λ r h z. ap (λ (l : List ℕ). size_word L l r) e;
}

words_only : (s : Session) (ws : List ℕ) (k : ℕ) (cells : List Bool) (ws' vs : List ℕ) → FeedWords s ws k cells ws'
    → FeedWords s ws k cells vs
    → Alike (lines_of s) (runs_after s cells) ws' vs
words_only s ws k cells ws' vs P Q = record {
  long = P.long ∙ sym Q.long;
  words = λ j h. P.others j h ∙ sym (Q.others j h);
  roots = λ r h. P.grouped r h ∙ sym (Q.grouped r h);
  sizes = λ r h z. let own = sym (P.grouped r h) ∙ z in P.sized r h own ∙ sym (Q.sized r h own);
}

pub feed_only : (s : Session) (ws : List ℕ) (k : ℕ) (cells : List Bool) (a b : Answer) (s' t : Session) (ws' vs : List ℕ)
    → FeedPromise s ws k cells a s' ws' → FeedPromise s ws k cells b t vs → (a ≡ b) × (s' ≡ t) × Alike (lines_of s)
    (runs_after s cells) ws' vs
feed_only s ws k cells a b s' t ws' vs P Q = (P.said ∙ sym Q.said, P.session ∙ sym Q.session, go (feed_cause_of s ws k cells) refl)
  where
    go : (c : ℕ) → feed_cause_of s ws k cells ≡ c → Alike (lines_of s) (runs_after s cells) ws' vs
    go zero e = words_only s ws k cells ws' vs (P.accepted e) (Q.accepted e)
    go (suc c) e =
        let some : 0 < feed_cause_of s ws k cells = omega arith in
        alike (lines_of s) (runs_after s cells) ws' vs (P.refusal some ∙ sym (Q.refusal some))

-- a structure change: the same are free
pub widen_only : (s : Session) (ws structure : List ℕ) (a b : Answer) (s' t : Session) (ws' vs : List ℕ)
    → WidenPromise s ws structure a s' ws' → WidenPromise s ws structure b t vs → (a ≡ b) × (s' ≡ t) × Alike (lines_of s)
    s.figures.runs ws' vs
widen_only s ws structure a b s' t ws' vs P Q =
    (P.said ∙ sym Q.said, P.session ∙ sym Q.session, go (widen_cause_of s ws structure) refl)
  where
    go : (c : ℕ) → widen_cause_of s ws structure ≡ c → Alike (lines_of s) s.figures.runs ws' vs
    go zero e =
        let X = P.accepted e in
        let Y = Q.accepted e in
        record {
          long = X.long ∙ sym Y.long;
          words = λ j h. X.others j h ∙ sym (Y.others j h);
          roots = λ r h. X.grouped r h ∙ sym (Y.grouped r h);
          sizes = λ r h z. let own = sym (X.grouped r h) ∙ z in X.sized r h own ∙ sym (Y.sized r h own);
        }
    go (suc c) e =
        let some : 0 < widen_cause_of s ws structure = omega arith in
        alike (lines_of s) s.figures.runs ws' vs (P.refusal some ∙ sym (Q.refusal some))

-- ---- names are set alike

module _ (s : Session) (ws vs : List ℕ) (low-w : (r : ℕ) → r < s.figures.runs → parent_of (lines_of s) ws r ≤ r)
    (low-v : (r : ℕ) → r < s.figures.runs → parent_of (lines_of s) vs r ≤ r)
    (room : (r : ℕ) → r < s.figures.runs → name_place (lines_of s) r < length ws) (A : Alike (lines_of s) s.figures.runs ws vs) where
  abbrev L : ℕ
  L = lines_of s

  pub names_only : Alike L s.figures.runs (with_names s ws) (with_names s vs)
  names_only = record {
    long = length_names s ws ∙ A.long ∙ sym (length_names s vs);
    words = λ j h. go j h (any (λ r. eqb j (name_place L r)) s.figures.runs) refl;
    roots =
        λ r h. ap (λ (p : ℕ → ℕ). root_of p r) (parents_stand s ws) ∙ A.roots r h
        ∙ ap (λ (p : ℕ → ℕ). root_of p r) (sym (parents_stand s vs));
    sizes =
        λ r h z. ap (λ (f : ℕ → ℕ). f r) (sizes_stand s ws)
        ∙ A.sizes r h (ap (λ (p : ℕ → ℕ). root_of p r) (sym (parents_stand s ws)) ∙ z)
        ∙ sym (ap (λ (f : ℕ → ℕ). f r) (sizes_stand s vs));
  }
    where
      Same : ℕ → Type 0
      Same j = get_or (with_names s ws) j 0 ≡ get_or (with_names s vs) j 0

      named : (r : ℕ) → r < s.figures.runs → Same (name_place L r)
      named r h =
          names_at s ws room r h ∙ numbers_same (parent_of L ws) (parent_of L vs) s.figures.runs low-w low-v A.roots r h
          ∙ sym (names_at s vs (λ i l. rw (← A.long) (room i l)) r h)

      go : (j : ℕ) → NoGroupWord L s.figures.runs j → (b : Bool) → any (λ r. eqb j (name_place L r)) s.figures.runs ≡ b → Same j
      go j h true e =
          let f = any_found (λ r. eqb j (name_place L r)) s.figures.runs e in
          subst Same (sym (eqb-true j (name_place L f.0) f.2)) (named f.0 f.1)
      go j h false e =
          let no_name : (r : ℕ) → r < s.figures.runs → j ≢ name_place L r = λ r l q. true≢false
          (sym (any_at (λ r. eqb j (name_place L r)) s.figures.runs r l (eq-eqb j (name_place L r) q)) ∙ e) in
          names_other s ws j no_name ∙ A.words j h ∙ sym (names_other s vs j no_name)

-- ---- whole frames

module _ (kind : Number) (shape structure ws : List ℕ) (cells : List Bool) (out : List (Value kind)) (a b : Answer) (ws' vs' : List ℕ)
    (out' out'' : List (Value kind)) (P : FramePromise kind shape structure ws cells out a ws' out')
    (Q : FramePromise kind shape structure ws cells out b vs' out'') where
  abbrev early : ℕ
  early = early_cause_of shape structure ws cells (length out)

  abbrev late : ℕ
  late = frame_cause_of kind shape structure ws cells out

  -- the record that the opening makes, and the one that the feed does
  abbrev s : Session
  s = open_record shape structure

  abbrev s₁ : Session
  s₁ = feed_record (open_record shape structure) (open_words ws) (lines shape) cells

  module _ (no_cause : early ≡ 0) where
    fed_accepted : feed_cause_of s (open_words ws) (lines shape) cells ≡ 0
    fed_accepted = frame_feeds kind shape structure ws cells out no_cause

    words : (vs : List ℕ) → (F : FrameWords kind shape structure ws cells out vs)
        → FeedWords s (open_words ws) (lines shape) cells F.fed_words
    words vs F = F.lines_fed.accepted fed_accepted

    session : (vs : List ℕ) → (F : FrameWords kind shape structure ws cells out vs) → F.session ≡ s₁
    session vs F = F.lines_fed.session ∙ kept_new s s₁ (feed_cause_of s (open_words ws) (lines shape) cells) fed_accepted

    named : (vs : List ℕ) → (F : FrameWords kind shape structure ws cells out vs)
        → vs ≡ kept late F.fed_words (with_names s₁ F.fed_words)
    named vs F = F.names ∙ ap (λ (x : Session). kept late F.fed_words (with_names x F.fed_words)) (session vs F)

    module _ (F : FrameWords kind shape structure ws cells out ws') (G : FrameWords kind shape structure ws cells out vs') where
      fed_alike : Alike (lines_of s₁) s₁.figures.runs F.fed_words G.fed_words
      unfolding feed_record shape_of
      fed_alike = words_only s (open_words ws) (lines shape) cells F.fed_words G.fed_words (words ws' F) (words vs' G)

      named_alike : Alike (lines_of s₁) s₁.figures.runs (with_names s₁ F.fed_words) (with_names s₁ G.fed_words)
      named_alike = names_only s₁ F.fed_words G.fed_words (low ws' F) (low vs' G) room fed_alike
        where
          low : (vs : List ℕ) → (K : FrameWords kind shape structure ws cells out vs) → (r : ℕ) → r < s₁.figures.runs
              → parent_of (lines_of s₁) K.fed_words r ≤ r
          low vs K = unfold feed_record shape_of in (words vs K).parents

          room : (r : ℕ) → r < s₁.figures.runs → name_place (lines_of s₁) r < length F.fed_words
          room = unfold feed_record shape_of in λ r h. rw (words ws' F).long (frame_room kind shape structure ws cells out no_cause r h)

      kept_alike : (c : ℕ) → late ≡ c → Alike (lines_of s₁) s₁.figures.runs ws' vs'
      kept_alike zero e =
          let left : ws' ≡ with_names s₁ F.fed_words = named ws' F ∙ kept_new F.fed_words (with_names s₁ F.fed_words) late e in
          let right : vs' ≡ with_names s₁ G.fed_words = named vs' G ∙ kept_new G.fed_words (with_names s₁ G.fed_words) late e in
          subst (λ (x : List ℕ). Alike (lines_of s₁) s₁.figures.runs x vs') (sym left)
          (subst (λ (y : List ℕ). Alike (lines_of s₁) s₁.figures.runs (with_names s₁ F.fed_words) y) (sym right) named_alike)
      kept_alike (suc c) e =
          let left : ws' ≡ F.fed_words = named ws' F ∙ kept_old F.fed_words (with_names s₁ F.fed_words) late c e in
          let right : vs' ≡ G.fed_words = named vs' G ∙ kept_old G.fed_words (with_names s₁ G.fed_words) late c e in
          subst (λ (x : List ℕ). Alike (lines_of s₁) s₁.figures.runs x vs') (sym left)
          (subst (λ (y : List ℕ). Alike (lines_of s₁) s₁.figures.runs F.fed_words y) (sym right) fed_alike)

      whole_alike : Alike (lines shape) (runs shape structure cells) ws' vs'
      whole_alike =
          let stored : s₁.figures.runs ≡ runs_after s cells = (unfold feed_record in refl) in
          subst (λ (L : ℕ). Alike L (runs shape structure cells) ws' vs')
          (ap lines (feed_shape s (open_words ws) (lines shape) cells) ∙ frame_lines kind shape structure ws cells out no_cause)
          (subst (λ (n : ℕ). Alike (lines_of s₁) n ws' vs') (stored ∙ frame_runs_lem kind shape structure ws cells out no_cause)
          (kept_alike late refl))

  -- answer, output and words, what is free aside
  pub frame_only : (a ≡ b) × (out' ≡ out'') × Alike (lines shape) (runs shape structure cells) ws' vs'
  frame_only = (P.said ∙ sym Q.said, P.output ∙ sym Q.output, go early refl)
    where
      go : (c : ℕ) → early ≡ c → Alike (lines shape) (runs shape structure cells) ws' vs'
      go zero e = whole_alike e (P.accepted e) (Q.accepted e)
      go (suc c) e =
          let some : 0 < early = omega arith in
          alike (lines shape) (runs shape structure cells) ws' vs' (P.refusal some ∙ sym (Q.refusal some))
