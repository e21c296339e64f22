-- The rule of the front word, and what its two operations show.
use Rattle.std.specs.Prelude.{ℕ, ◌≡◌, ◌==◌, true, List, [], ◌∷◌, ◌++◌, length, MatchBool}
use Rattle.logbook.specs.Pages.{Cell, Step, View, Book, Named}
use Rattle.cap_core.specs.declared.event.Event.{Event}
use Rattle.cap_history.specs.History.{IsHistory}

module _ {A : Type 0} where
  -- The word is the length of the history, which is legal. A book has two words, of which this one leaves the
  -- second at 0.
  pub record IsKept (cells : List Cell) (log : List (Event A)) : Type 0 where
    pub words : cells ≡ (length log, true) ∷ (0, true) ∷ []
    pub history : IsHistory log

  -- a load: the history so far is seen, and its length is the word
  abbrev pub Looks : Step (Event A) → View (Event A) ℕ → ℕ → View (Event A) ℕ → Type 0
  Looks s v found w = (length w.0 ≡ found) × IsHistory w.0

  -- a compare-and-swap: the event is appended to the history, which is as long as expected; or the length is
  -- another, and that history is seen
  abbrev pub Adds : Step (Event A) → View (Event A) ℕ → ℕ → View (Event A) ℕ → Type 0
  Adds s v found w =
      MatchBool (found == s.old) ((length v.0 ≡ s.old) × (w.0 ≡ v.0 ++ s.ask ∷ []) × IsHistory w.0)
      ((length w.0 ≡ found) × IsHistory w.0)

-- the first word of a book
abbrev pub word_of : Book → Named
word_of book = record { tracked = true; key = 0; book = book }
