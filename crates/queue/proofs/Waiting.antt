-- What each function does to a line: the only proofs that open one.
-- A line's numbers are as its words and its two ends are, so a write behind them is one number more.
use Rattle.std.proofs.Common.{◌≡◌, ℕ, ◌+◌, ◌-◌, ◌*◌, ◌/◌, ◌<◌, ◌≤◌, [], ◌∷◌, ◌++◌, length, Some, None, sym, ap, ◌∙◌, arith}
use Rattle.store.specs.Slots.{slot_at, place_of, Wrote}
use Rattle.store.specs.declared.slot.Slot.{Slot}
use Rattle.queue.specs.Line.{Becomes, front, numbers, room, waiting}
use Rattle.queue.specs.declared.line.Line.{Line}
use Rattle.queue.proofs.Numbers.{length-numbers, numbers_ap, numbers_first, numbers_none, numbers_push}

pub length-waiting : (l : Line) → length (waiting l) ≡ l.upto - l.from
unfolding waiting
length-waiting l = length-numbers l.words.now l.from (l.upto - l.from)

-- a line whose words and ends stay is as it was
pub waiting_same : (l l' : Line) → l'.words.now ≡ l.words.now → l'.from ≡ l.from → l'.upto ≡ l.upto
    → Becomes l l' (waiting l)
unfolding waiting room
waiting_same l l' words from upto =
    let n : l'.upto - l'.from ≡ l.upto - l.from = omega arith in
    record {
      numbers = numbers_ap {words = l.words.now} {words' = l'.words.now} words from n;
      room = ap (λ w. length w / 3) words;
    }

pub waiting_first : (l : Line) → l.from < l.upto
    → waiting l ≡ place_of (slot_at l.words.now l.from) ∷ numbers l.words.now (l.from + 1) (l.upto - (l.from + 1))
unfolding waiting
waiting_first l h = numbers_first l.words.now l.from l.upto h

pub waiting_none : (l : Line) → l.upto ≤ l.from → waiting l ≡ []
unfolding waiting
waiting_none l h = numbers_none l.words.now l.from l.upto h

pub front_none : (l : Line) → l.upto ≤ l.from → None ≡ front (waiting l)
front_none l h = sym (ap front (waiting_none l h))

pub front_some : (l : Line) (n : ℕ) → l.from < l.upto → n ≡ place_of (slot_at l.words.now l.from)
    → Some n ≡ front (waiting l)
front_some l n h e = ap (λ m. Some m) e ∙ sym (ap front (waiting_first l h))

pub popped : (l l' : Line) (n : ℕ) → l.from < l.upto → Some n ≡ front (waiting l) → l'.words.now ≡ l.words.now
    → l'.from ≡ l.from + 1 → l'.upto ≡ l.upto → (waiting l ≡ n ∷ waiting l') × (room l' ≡ room l)
unfolding waiting room
popped l l' n h e words from upto =
    let k : l'.upto - l'.from ≡ l.upto - (l.from + 1) = omega arith in
    let rest : waiting l' ≡ numbers l.words.now (l.from + 1) (l.upto - (l.from + 1)) =
    numbers_ap {words = l.words.now} {words' = l'.words.now} words from k in
    let first = waiting_first l h in
    let some : Some n ≡ Some (place_of (slot_at l.words.now l.from)) = e ∙ ap front first in
    (first ∙ cc, ap (λ w. length w / 3) words)

pub pushed : (l l' : Line) (s : Slot) (n : ℕ) → l.from ≤ l.upto → 3 * l.upto + 3 ≤ length l.words.now
    → Wrote l.words.now l'.words.now l.upto s → place_of s ≡ n → length l'.words.now ≡ length l.words.now
    → l'.from ≡ l.from → l'.upto ≡ l.upto + 1
    → (l.from + length (waiting l) < room l) × Becomes l l' (waiting l ++ (n ∷ []))
unfolding waiting room
pushed l l' s n ordered fits wrote is long from upto = (
  omega (arith, length-waiting l),
  record {
    numbers =
        ap (λ k. numbers l'.words.now k (l'.upto - k)) from
        ∙ (ap (λ k. numbers l'.words.now l.from (k - l.from)) upto
        ∙ (numbers_push l.words.now l'.words.now l.from l.upto s ordered wrote ∙ ap (λ m. waiting l ++ (m ∷ [])) is));
    room = ap (λ k. k / 3) long;
  },
)

pub full : (l : Line) → l.from ≤ l.upto → length l.words.now < 3 * l.upto + 3 → room l ≤ l.from + length (waiting l)
unfolding room
full l ordered short = omega (arith, length-waiting l)
