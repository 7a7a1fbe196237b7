-- What an opening promises.
-- Assumes nothing.
use Rattle.std.specs.Prelude.{◌≡◌, List, [], ℕ, length, set}
use Rattle.frame.specs.Causes.{open_cause}
use Rattle.frame.specs.Plain.{zero_figures, kept}
use Rattle.frame.specs.Words.{line_place}
use Rattle.frame.specs.Lists.{padded}
use Rattle.label.specs.declared.Session.{Session}

-- the record and the words of an accepted opening: it writes 0 to word 0 only
abbrev pub open_record : List ℕ → List ℕ → Session
open_record shape structure =
    record { rank = length shape; shape = padded 4 shape; structure = padded 81 structure; fed = 0; figures = zero_figures }

abbrev pub open_words : List ℕ → List ℕ
open_words ws = set ws (line_place 0) 0

-- the record beside a refusal, which hands back its number only
abbrev pub blank : Session
blank = open_record [] []

-- shape, structure and the words at entry; the number that is answered, the record, and the words afterwards
pub record OpenPromise (shape structure ws : List ℕ) (number : ℕ) (s : Session) (ws' : List ℕ) : Type 0 where
  pub said : number ≡ open_cause shape structure (length ws)
  pub session : s ≡ kept (open_cause shape structure (length ws)) blank (open_record shape structure)
  pub words : ws' ≡ kept (open_cause shape structure (length ws)) ws (open_words ws)
