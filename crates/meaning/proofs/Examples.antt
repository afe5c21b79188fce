-- The worked programs, moved by whoever can go first, and by signals and the clock when nobody can. That this is an
-- order of moves is shown once; what the programs then show is computed.
use mathlib.Core.Path.{◌≡◌, refl, ap, ◌∙◌}
use mathlib.Core.Bool.{cond}
use mathlib.Core.List.{List, [], ◌∷◌, ◌++◌}
use mathlib.Core.Option.{Option, some, none}
use Prim.Native.Nat.{ℕ, zero, suc}
use Rattle.meaning.specs.Basics.{opt, Name}
use Rattle.meaning.specs.Syntax.{Program}
use Rattle.meaning.specs.System.{Worker, System}
use Rattle.meaning.specs.Turns.{can}
use Rattle.meaning.specs.Moves.{Move, turn, signal, tick, Result, is, not_allowed, no_meaning, on_is, move, moves}
use Rattle.meaning.specs.Moves.{begin}
use Rattle.meaning.specs.Worked.{Shows, echo, failing, out_of_order, swapping, catching, Worked}
use Rattle.meaning.proofs.Results.{moves-append}

first_able : Program → System → List Worker → Option ℕ
first_able g s [] = none
first_able g s (w ∷ ws) = cond (can g s w) (some w.pid) (first_able g s ws)

system_of : System → Result → System
system_of s (is t) = t
system_of s not_allowed = s
system_of s no_meaning = s

or_else : Result → Result → Result
or_else (is s) r = is s
or_else not_allowed r = r
or_else no_meaning r = no_meaning

one_on : Program → System → System
unfolding first_able system_of or_else
one_on g s = system_of s (opt (first_able g s s.workers) (or_else (move g s signal) (move g s tick))
    (λ n. move g s (turn n)))

moved_on : ℕ → Program → System → System
unfolding one_on
moved_on zero g s = s
moved_on (suc n) g s = moved_on n g (one_on g s)

by_move : (g : Program) (s : System) (m : Move) (r : Result) → move g s m ≡ r →
    (l : List Move) × (moves g s l ≡ is (system_of s r))
unfolding system_of
by_move g s m (is t) e = (m ∷ [], ap (λ o. on_is o (λ u. is u)) e)
by_move g s m not_allowed e = ([], refl)
by_move g s m no_meaning e = ([], refl)

one_on_moves : (g : Program) (s : System) → (l : List Move) × (moves g s l ≡ is (one_on g s))
unfolding one_on or_else system_of first_able
one_on_moves g s = go (first_able g s s.workers)
  where
    idle : (r : Result) → move g s signal ≡ r →
        (l : List Move) × (moves g s l ≡ is (system_of s (or_else r (move g s tick))))
    idle (is t) e = by_move g s signal (is t) e
    idle not_allowed e = by_move g s tick (move g s tick) refl
    idle no_meaning e = ([], refl)

    go : (o : Option ℕ) → (l : List Move)
        × (moves g s l ≡ is (system_of s (opt o (or_else (move g s signal) (move g s tick))
        (λ n. move g s (turn n)))))
    go none = idle (move g s signal) refl
    go (some n) = by_move g s (turn n) (move g s (turn n)) refl

moved_on_moves : (n : ℕ) (g : Program) (s : System) → (l : List Move) × (moves g s l ≡ is (moved_on n g s))
unfolding moved_on
moved_on_moves zero g s = ([], refl)
moved_on_moves (suc n) g s =
    let a = one_on_moves g s in
    let b = moved_on_moves n g (one_on g s) in
    (a.0 ++ b.0, moves-append g s a.0 b.0 ∙ ap (λ o. on_is o (λ t. moves g t b.0)) a.1 ∙ b.1)

shows : (g : Program) (lines : List Name) (n : ℕ) (b : System) → begin g ≡ some b → (moved_on n g b).workers ≡ [] →
    (moved_on n g b).shown ≡ lines → Shows g lines
shows g lines n b e w l = let a = moved_on_moves n g b in record {
  first = b;
  order = a.0;
  end = moved_on n g b;
  begins = e;
  comes = a.1;
  ended = w;
  shown = l;
}

abbrev nobody : System
nobody = record { workers = []; next = 0; clock = 0; loaded = []; names = []; signals = []; shown = [] }

abbrev first_of : Program → System
first_of g = opt (begin g) nobody (λ s. s)

pub worked : Worked
unfolding moved_on one_on first_able system_of or_else
worked = record {
  echo_shows = shows echo _ 80 (first_of echo) refl refl refl;
  failing_shows = shows failing _ 80 (first_of failing) refl refl refl;
  out_of_order_shows = shows out_of_order _ 90 (first_of out_of_order) refl refl refl;
  swapping_shows = shows swapping _ 60 (first_of swapping) refl refl refl;
  catching_shows = shows catching _ 60 (first_of catching) refl refl refl;
}
