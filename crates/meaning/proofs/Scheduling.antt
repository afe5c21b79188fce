-- The laws of the scheduler's model, gathered. That a program goes on always is progress together with never being
-- stuck: a turn without meaning is one more move after those made so far.
use mathlib.Core.Path.{◌≡◌, ap, ◌∙◌}
use mathlib.Core.Logic.{◌⊎◌, inl, inr}
use mathlib.Core.Bool.{true}
use mathlib.Core.List.{List, [], ◌∷◌, ◌++◌}
use mathlib.Core.Option.{some}
use Prim.Native.Nat.{ℕ}
use Rattle.meaning.specs.Syntax.{Program}
use Rattle.meaning.specs.System.{System}
use Rattle.meaning.specs.Moves.{Move, turn, no_meaning, on_is, move, moves, quiet, begin}
use Rattle.meaning.specs.Grammar.{Reads}
use Rattle.meaning.specs.Scheduler.{Entry, Mode, SoFar}
use Rattle.meaning.specs.Rounds.{Budget, Soon, SchedulerLaws}
use Rattle.meaning.proofs.NeverStuck.{never_stuck}
use Rattle.meaning.proofs.Actions.{turn_on, turn_back, turn_over, signalled, at_round, time_goes, next_round, popped}
use Rattle.meaning.proofs.Beginning.{so_far_begins, one_more, so_far_fair, due_once}
use Rattle.meaning.proofs.Progress.{goes_on_always, quiet_now}
use Rattle.meaning.proofs.Results.{moves-append}

no_meaning_next : (g : Program) (b s : System) (l : List Move) (m : Mode) (es : List Entry) (n : ℕ) →
    SoFar g b l s m es → move g s (turn n) ≡ no_meaning → moves g b (l ++ (turn n ∷ [])) ≡ no_meaning
no_meaning_next g b s l m es n a e =
    moves-append g b l (turn n ∷ []) ∙ ap (λ o. on_is o (λ t. moves g t (turn n ∷ []))) (so_far_fair a).0
    ∙ ap (λ o. on_is o (λ t. moves g t [])) e

program_goes_on : (t : List ℕ) (g : Program) (b s : System) (l : List Move) (m : Mode) (es : List Entry) →
    Reads t g → begin g ≡ some b → SoFar g b l s m es → Budget s m → Soon g s m es ⊎ (quiet g s ≡ true)
program_goes_on t g b s l m es r e a w = go (goes_on_always g s m es a.good w)
  where
    go : Soon g s m es ⊎ (((n : ℕ) × (move g s (turn n) ≡ no_meaning)) ⊎ (quiet g s ≡ true)) →
        Soon g s m es ⊎ (quiet g s ≡ true)
    go (inl y) = inl y
    go (inr (inl (n, h))) = absurd (never_stuck t g b (l ++ (turn n ∷ [])) r e (no_meaning_next g b s l m es n a h))
    go (inr (inr q)) = inr q

pub scheduler_laws : SchedulerLaws
scheduler_laws = record {
  begins = so_far_begins;
  one_more = λ g b s t l x m n es fs a h. one_more a h;
  fair = λ g b s l m es a. so_far_fair a;
  turn_on = turn_on;
  turn_back = turn_back;
  turn_over = turn_over;
  due_once = due_once;
  signalled = signalled;
  at_round = at_round;
  time_goes = time_goes;
  next_round = next_round;
  popped = popped;
  quiet_now = quiet_now;
  goes_on_always = program_goes_on;
}
