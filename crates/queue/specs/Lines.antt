-- The two lines of a queue, as its users see them, and what each function does to them. The mark for the end of a round is
-- not stored: it is the seam between the lines.
use Rattle.std.specs.Prelude.{◌≡◌, ℕ, ◌<◌, List, [], ◌∷◌, ◌++◌, length}
use Rattle.meaning.specs.Scheduler.{Entry, round, worker}

-- this round's numbers that have yet to be taken, the first in front, and the next round's; and for how many numbers each
-- of these lines has room
pub record Lines : Type 0 where
  pub before : List ℕ
  pub behind : List ℕ
  pub before_room : ℕ
  pub behind_room : ℕ

-- the queue of the scheduler's model: this round's workers, the end of the round, the next round's workers
abbrev pub workers : List ℕ → List Entry
workers [] = []
workers (n ∷ ns) = worker n ∷ workers ns

abbrev pub entries : Lines → List Entry
entries q = workers q.before ++ (round ∷ workers q.behind)

-- neither line has a number, so the end of the round stands alone in the queue
pub record Empty (q : Lines) : Type 0 where
  pub before : q.before ≡ []
  pub behind : q.behind ≡ []
  pub model : entries q ≡ round ∷ []

-- the number n came to the end of the next round, which had room for it
pub record Pushed (q q' : Lines) (n : ℕ) : Type 0 where
  pub fits : length q.behind < q.behind_room
  pub is : q' ≡ record q { behind = q.behind ++ (n ∷ []) }
  pub model : entries q' ≡ entries q ++ (worker n ∷ [])

-- the number n was taken from the front of this round
pub record Popped (q q' : Lines) (n : ℕ) : Type 0 where
  pub is : q ≡ record q' { before = n ∷ q'.before }
  pub model : entries q ≡ worker n ∷ entries q'

-- this round has no number left, so its end stands in front; and nothing has changed
pub record Ended (q q' : Lines) : Type 0 where
  pub before : q.before ≡ []
  pub model : entries q ≡ round ∷ workers q.behind
  pub same : q' ≡ q

-- the next round is this one, and the end of the round went from the front of the queue to its end
pub record Turned (q q' : Lines) : Type 0 where
  pub is : q' ≡ record {
    before = q.behind;
    behind = [];
    before_room = q.behind_room;
    behind_room = q.before_room;
  }
  pub model : (es : List Entry) → entries q ≡ round ∷ es → entries q' ≡ es ++ (round ∷ [])
