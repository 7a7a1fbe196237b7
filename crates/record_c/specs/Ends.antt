-- What ends a call: what it returns, and what it writes to the record and to the answer.
-- Assumes nothing.
use Rattle.std.specs.Prelude.{◌≡◌, List, [], ◌∷◌, ℕ, Result, Ok, Err}
use Rattle.frame.specs.Plain.{Answer, fed, counted, refused, kept}
use Rattle.frame.specs.Overlay.{overlay}
use Rattle.label.specs.declared.Session.{Session}
use Rattle.record_c.specs.declared.Refusal.{Refusal}
use Rattle.record_c.specs.Records.{figure_words, words_of}
use Rattle.record_c.specs.Early.{refusal_number}

-- for an answer: 0, or the number of the refusal
abbrev pub returned : Answer → ℕ
returned (fed l f) = 0
returned (counted n f) = 0
returned (refused c) = c

-- the same for a call that ended
abbrev pub number_of : Result (Unit {0}) Refusal → ℕ
number_of (Ok u) = 0
number_of (Err e) = refusal_number e

-- its first words: lines fed or n, then the figures. A refusal writes none
abbrev pub answer_words : Answer → List ℕ
answer_words (fed l f) = l ∷ figure_words f
answer_words (counted n f) = n ∷ figure_words f
answer_words (refused c) = []

-- the record's words after a call that returned a number: on a refusal they stand, and those past the record always do
abbrev pub record_after : ℕ → Session → List ℕ → List ℕ
record_after number s r = kept number r (overlay (words_of s) r)

-- what ends a call with an answer, and then a feed, which has a record too
pub record ReadEnd (said : Answer) (answer : List ℕ) (number : ℕ) (answer' : List ℕ) : Type 0 where
  pub number_is : number ≡ returned said
  pub answer_is : answer' ≡ overlay (answer_words said) answer

pub record FeedEnd (said : Answer) (s : Session) (r answer : List ℕ) (number : ℕ) (r' answer' : List ℕ) : Type 0 where
  pub ends : ReadEnd said answer number answer'
  pub record_is : r' ≡ record_after (returned said) s r
