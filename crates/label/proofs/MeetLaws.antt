-- The plain functions meet the promises, whatever they are given.
-- Assumes nothing.
use mathlib.Core.Path.{◌≡◌, refl, sym, ◌∙◌, subst}
use mathlib.Core.Bool.{Bool}
use mathlib.Core.List.{List, [], ◌∷◌}
use Prim.Native.Nat.{ℕ, zero, suc, ◌-◌, ◌*◌, ◌≤◌, ◌<◌}
use native.Mathlib.Nat.{zero-mul, add-mul}
use native.Mathlib.Omega.{arith}
use lib.ListN.{length, get_or, take, drop, take-append-drop, length-take, length-drop}
use Rattle.groups.specs.Groups.{Edge, rep}
use Rattle.groups.proofs.RepLaws.{rep_le}
use Rattle.frame.specs.Shape.{lines}
use Rattle.frame.specs.Kinds.{Number, Value}
use Rattle.frame.specs.Plain.{kept}
use Rattle.frame.specs.Words.{parent_place, size_place, parent_of, size_word, NoGroupWord}
use Rattle.frame.specs.Lists.{sum, set_all}
use Rattle.frame.proofs.PlainLaws.{kept_new, kept_old}
use Rattle.frame.proofs.SetLaws.{length_set_all, set_all_other, set_all_at}
use Rattle.forest.specs.Forest.{root_of}
use Rattle.forest.proofs.ForestLaws.{canonical_root}
use Rattle.label.specs.declared.Session.{Session}
use Rattle.label.specs.Record.{lines_of}
use Rattle.label.specs.Held.{cells_of}
use Rattle.label.specs.Opening.{open_record, open_words, OpenPromise}
use Rattle.label.specs.Feeding.{runs_after, feed_edges, size_after, with_runs, feed_cause_of, FeedWords, FeedPromise}
use Rattle.label.specs.Widening.{widen_cause_of, widen_edges, widen_size, WidenWords, WidenPromise}
use Rattle.label.specs.Reading.{with_names, ReadPromise, SizesPromise}
use Rattle.label.specs.WholeFrame.{Fills, no_more, block, early_cause_of, frame_cause_of, FramePromise}
use Rattle.label.specs.Steps.{FeedAccepted}
use Rattle.label.proofs.AcceptedLaws.{cause_accepted, cause_widens}
use Rattle.label.proofs.SoundCells.{sound_stores}
use Rattle.label.proofs.FeedWordLaws.{length_with_runs}
use Rattle.label.proofs.FeedLaws.{room}
use Rattle.label.proofs.FeedNoneLaws.{words_none}
use Rattle.label.proofs.WrittenNumbers.{names_ready}
use Rattle.label.proofs.CallFunctions.{FeedResult, do_open, regrouped, feed_words, do_feed, do_widen, do_read, do_sizes, frame_feed}
use Rattle.label.proofs.CallFunctions.{do_frame}

-- ---- opening, reading, sizes: the functions are the promises' equations

pub open_met : (shape structure ws : List ℕ)
    → OpenPromise shape structure ws (do_open shape structure ws).number (do_open shape structure ws).session
    (do_open shape structure ws).words
unfolding do_open
open_met shape structure ws = record { said = refl; session = refl; words = refl }

pub read_met : (kind : Number) (s : Session) (ws : List ℕ) (out : List (Value kind))
    → ReadPromise kind s ws out (do_read kind s ws out).said s (do_read kind s ws out).words (do_read kind s ws out).out
unfolding do_read
read_met kind s ws out = record { said = refl; session = refl; words = refl; output = refl }

pub sizes_met : (s : Session) (ws out : List ℕ)
    → SizesPromise s ws out (do_sizes s ws out).said s (do_sizes s ws out).words (do_sizes s ws out).out
unfolding do_sizes
sizes_met s ws out = record { said = refl; session = refl; words = refl; output = refl }

-- ---- groups: parents and sizes are set, and every other word stands

module _ (L n : ℕ) (es : List Edge) (size : ℕ → ℕ) (ws : List ℕ) (room : (r : ℕ) → r < n → size_place L r < length ws) where
  -- with the parents set, and with the sizes too
  abbrev vs : List ℕ
  vs = set_all (parent_place L) (rep es) n ws

  abbrev ws' : List ℕ
  ws' = regrouped L n es size ws

  length_regrouped : length ws' ≡ length ws
  unfolding regrouped
  length_regrouped = length_set_all _ _ n vs ∙ length_set_all _ _ n ws

  regrouped_other : (j : ℕ) → NoGroupWord L n j → get_or ws' j 0 ≡ get_or ws j 0
  unfolding regrouped
  regrouped_other j free = set_all_other (size_place L) size n vs j (λ r l. (free r l).1)
      ∙ set_all_other (parent_place L) (rep es) n ws j (λ r l. (free r l).0)

  -- each parent is its group's smallest run
  parent_is : (r : ℕ) → r < n → parent_of L ws' r ≡ rep es r
  unfolding regrouped
  parent_is r l =
      set_all_other (size_place L) size n vs (parent_place L r) (λ q h. omega arith)
      ∙ set_all_at (parent_place L) (rep es) n ws (λ i j a b e. omega arith) r l (omega (arith, room r l))

  size_is : (r : ℕ) → r < n → size_word L ws' r ≡ size r
  unfolding regrouped
  size_is r l = set_all_at (size_place L) size n vs (λ i j a b e. omega arith) r l
      (rw (length_set_all (parent_place L) (rep es) n ws) (room r l))

  parent_low : (r : ℕ) → r < n → parent_of L ws' r ≤ r
  parent_low r l = rw (parent_is r l) (rep_le es r)

  root_is : (r : ℕ) → r < n → root_of (parent_of L ws') r ≡ rep es r
  root_is = canonical_root (parent_of L ws') es n parent_is

-- ---- feeding

words_met : (s : Session) (ws : List ℕ) (k : ℕ) (cells : List Bool) → feed_cause_of s ws k cells ≡ 0
    → FeedWords s ws k cells (feed_words s ws k cells)
unfolding feed_words
words_met s ws zero cells no_cause = words_none s ws cells (cause_accepted s ws 0 cells no_cause)
words_met s ws (suc k) cells no_cause = record {
  long = length_regrouped L n es size vs fits ∙ length_with_runs s ws (suc k) cells;
  others = regrouped_other L n es size vs fits;
  parents = parent_low L n es size vs fits;
  grouped = root_is L n es size vs fits;
  sized = λ r l e. size_is L n es size vs fits r l;
  no_lines = λ e. absurd (omega arith);
}
  where
    G : FeedAccepted s ws (suc k) cells
    G = cause_accepted s ws (suc k) cells no_cause

    L : ℕ
    L = lines_of s

    n : ℕ
    n = runs_after s cells

    es : List Edge
    es = feed_edges s ws (suc k) cells

    size : ℕ → ℕ
    size = size_after s ws (suc k) cells

    vs : List ℕ
    vs = with_runs s ws (suc k) cells

    fits : (r : ℕ) → r < n → size_place L r < length vs
    fits r l = rw (length_with_runs s ws (suc k) cells)
        (room s ws (cells_of s ws) (sound_stores s ws G.is_sound) (suc k) cells G.few G.whole G.is_sound.shape.memory r l)

pub feed_met : (s : Session) (ws : List ℕ) (k : ℕ) (cells : List Bool)
    → FeedPromise s ws k cells (do_feed s ws k cells).said (do_feed s ws k cells).session (do_feed s ws k cells).words
unfolding do_feed
feed_met s ws k cells = record {
  said = refl;
  session = refl;
  refusal = λ h. kept_old ws (feed_words s ws k cells) (feed_cause_of s ws k cells) (feed_cause_of s ws k cells - 1) (omega arith);
  accepted = λ e. rw (kept_new ws (feed_words s ws k cells) (feed_cause_of s ws k cells) e) (words_met s ws k cells e);
}

-- ---- structure change

pub widen_met : (s : Session) (ws structure : List ℕ)
    → WidenPromise s ws structure (do_widen s ws structure).said (do_widen s ws structure).session (do_widen s ws structure).words
unfolding do_widen
widen_met s ws structure = record {
  said = refl;
  session = refl;
  refusal = λ h. kept_old ws vs (widen_cause_of s ws structure) (widen_cause_of s ws structure - 1) (omega arith);
  accepted = λ e. rw (kept_new ws vs (widen_cause_of s ws structure) e) (words (fits e));
}
  where
    L : ℕ
    L = lines_of s

    n : ℕ
    n = s.figures.runs

    es : List Edge
    es = widen_edges s ws structure

    size : ℕ → ℕ
    size = widen_size s ws structure

    vs : List ℕ
    vs = regrouped L n es size ws

    fits : widen_cause_of s ws structure ≡ 0 → (r : ℕ) → r < n → size_place L r < length ws
    fits e r l = omega (arith, (names_ready s ws (cause_widens s ws structure e).is_sound).room)

    words : ((r : ℕ) → r < n → size_place L r < length ws) → WidenWords s ws structure vs
    words room = record {
      long = length_regrouped L n es size ws room;
      others = regrouped_other L n es size ws room;
      parents = parent_low L n es size ws room;
      grouped = root_is L n es size ws room;
      sized = λ r l e. size_is L n es size ws room r l;
    }

-- ---- whole frames

pub frame_met : (kind : Number) (shape structure ws : List ℕ) (cells : List Bool) (out : List (Value kind))
    → FramePromise kind shape structure ws cells out (do_frame kind shape structure ws cells out).said
    (do_frame kind shape structure ws cells out).words (do_frame kind shape structure ws cells out).out
unfolding do_frame
frame_met kind shape structure ws cells out = record {
  said = refl;
  output = refl;
  refusal = λ h. kept_old ws words early (early - 1) (omega arith);
  accepted = λ e. record {
    answer = after.said;
    session = after.session;
    fed_words = after.words;
    lines_fed = unfold frame_feed in feed_met
        (open_record shape structure) (open_words ws) (lines shape) cells;
    names = kept_new ws words early e;
  };
}
  where
    early : ℕ
    early = early_cause_of shape structure ws cells (length out)

    after : FeedResult
    after = frame_feed shape structure ws cells

    words : List ℕ
    words = kept (frame_cause_of kind shape structure ws cells out) after.words (with_names after.session after.words)

-- any blocks can be fed, where the cells are those of so many lines
pub fills_met : (w : ℕ) (s : Session) (ws ks : List ℕ) (cells : List Bool) → length cells ≡ sum ks * w
    → (s' : Session) × (ws' : List ℕ) × Fills w s ws ks cells s' ws'
unfolding sum
fills_met w s ws [] cells e = (s, ws, subst (λ (l : List Bool). Fills w s ws [] l s ws) (sym (none cells (e ∙ zero-mul w))) no_more)
  where
    none : (l : List Bool) → length l ≡ 0 → l ≡ []
    none [] z = refl
    none (b ∷ l) z = absurd (omega arith)
fills_met w s ws (k ∷ ks) cells e = go (fills_met w d.session d.words ks (drop (k * w) cells) long)
  where
    -- the block's cells, and the others
    d : FeedResult
    d = do_feed s ws k (take (k * w) cells)

    enough : k * w ≤ length cells
    enough = omega (arith, e, add-mul k (sum ks) w)

    long : length (drop (k * w) cells) ≡ sum ks * w
    long = omega (arith, length-drop (k * w) cells, e, add-mul k (sum ks) w)

    go : (s' : Session) × (ws' : List ℕ) × Fills w d.session d.words ks (drop (k * w) cells) s' ws'
        → (s' : Session) × (ws' : List ℕ) × Fills w s ws (k ∷ ks) cells s' ws'
    go r = (
      r.0,
      r.1,
      subst (λ (l : List Bool). Fills w s ws (k ∷ ks) l r.0 r.1) (take-append-drop (k * w) cells)
          (block (omega (arith, length-take (k * w) cells, enough)) (feed_met s ws k (take (k * w) cells)) r.2),
    )
