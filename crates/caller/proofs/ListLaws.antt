-- A list of calls entry by entry: what its numbers decode to, four at a time, and what is known after some of them.
-- Assumes nothing.
use mathlib.Core.Path.{◌≡◌, refl, sym, ap, ◌∙◌, subst}
use mathlib.Core.List.{List, [], ◌∷◌, ◌++◌}
use Prim.Native.Nat.{ℕ, min, ◌<◌}
use native.Mathlib.Omega.{arith}
use lib.ListN.{length}
use Rattle.calls.specs.Trace.{stop}
use Rattle.caller.specs.CallList.{Lent, Entry, decode, calls_of, woven}
use Rattle.caller.specs.Rooms.{rooms_after}
use Rattle.caller.specs.declared.CallList.{CallList}
use Rattle.caller.specs.declared.OutputRooms.{OutputRooms}
use Rattle.caller.specs.Making.{Standing, SameRooms, rooms_held, lent_in, entry_at, Performs, Steps}
use Rattle.frame.proofs.OverlayLaws.{adds_none}

-- a chunk of four numbers or, at the end, of fewer
decode_chunk : (l : Lent) (x rest : List ℕ) → 0 < length (x ++ rest) → length x ≡ min 4 (length (x ++ rest))
    → decode l (x ++ rest) ≡ entry_at l x ∷ decode l rest
unfolding decode
decode_chunk l [] [] h n = absurd (omega arith)
decode_chunk l [] (y ∷ ys) h n = absurd (omega arith)
decode_chunk l (a ∷ []) [] h n = refl
decode_chunk l (a ∷ []) (y ∷ ys) h n = absurd (omega arith)
decode_chunk l (a ∷ b ∷ []) [] h n = refl
decode_chunk l (a ∷ b ∷ []) (y ∷ ys) h n = absurd (omega arith)
decode_chunk l (a ∷ b ∷ c ∷ []) [] h n = refl
decode_chunk l (a ∷ b ∷ c ∷ []) (y ∷ ys) h n = absurd (omega arith)
decode_chunk l (a ∷ b ∷ c ∷ d ∷ []) rest h n = refl
decode_chunk l (a ∷ b ∷ c ∷ d ∷ e ∷ x) rest h n = absurd (omega arith)

decode_none : (l : Lent) (xs : List ℕ) → length xs ≡ 0 → decode l xs ≡ []
unfolding decode
decode_none l [] h = refl
decode_none l (x ∷ xs) h = absurd (omega arith)

runs_none : (a : Standing) → Performs [] a a
unfolding calls_of woven rooms_after
runs_none a = record { answered = []; trace = stop; rooms = refl; adds = adds_none }

-- these numbers are left: what they do from here on, the whole list does from the start on
pub record Reached (l : Lent) (list : List ℕ) (start here : Standing) (rest : List ℕ) : Type 0 where
  pub leads : (a : Standing) → Performs (decode l rest) here a → Performs (decode l list) start a

pub reached_none : {l : Lent} {list : List ℕ} {start : Standing} → Reached l list start start list
reached_none = record { leads = λ a R. R }

module _ {l : Lent} {list : List ℕ} {start here : Standing} {rest : List ℕ} (R : Reached l list start here rest) where
  pub reached_next : {next : Standing} (x : List ℕ) (rest' : List ℕ) → rest ≡ x ++ rest' → length x ≡ min 4 (length rest) → 0 < length rest
      → Steps (entry_at l x) here next → Reached l list start next rest'
  reached_next x rest' e n h S = record {
    leads = λ a T. R.leads a (subst (λ (es : List Entry). Performs es here a)
        (sym (ap (decode l) e ∙ decode_chunk l x rest' (subst (λ (r : List ℕ). 0 < length r) e h)
        (n ∙ ap (λ (r : List ℕ). min 4 (length r)) e)))
        (S (decode l rest') a T));
  }

  pub reached_all : length rest ≡ 0 → Performs (decode l list) start here
  reached_all h = R.leads here (subst (λ (es : List Entry). Performs es here here) (sym (decode_none l rest h)) (runs_none here))

-- rooms of the same lengths lend the same
pub lent_same : (calls : CallList) {b a : OutputRooms} → SameRooms b a → lent_in calls (rooms_held a) ≡ lent_in calls (rooms_held b)
lent_same calls S = rw (S.long8, S.long16, S.long32) refl
