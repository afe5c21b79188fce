-- Who can go on can still go on after any move but its own, or is no more: others add mail at most, and the clock
-- goes forward. Who newly can go on after another's turn is the new one, or got one message.
use mathlib.Core.Path.{◌≡◌, refl, sym, ap, ◌∙◌, subst}
use mathlib.Core.Logic.{◌⊎◌, inl, inr}
use mathlib.Core.Bool.{true}
use mathlib.Core.Option.{Option, some, none}
use mathlib.Core.List.{List, [], ◌∷◌, ◌++◌, append-nil}
use Prim.Native.Nat.{ℕ, ◌≤◌, ◌+◌}
use native.Mathlib.Omega.{arith}
use native.Mathlib.Decide.{dec_le}
use lib.ListN.{length}
use Rattle.meaning.specs.Syntax.{Program}
use Rattle.meaning.specs.Values.{Value}
use Rattle.meaning.specs.System.{Worker, System, find, with_clock}
use Rattle.meaning.specs.Turns.{can}
use Rattle.meaning.specs.Moves.{Move, turn, signal, tick, is, move, clock_on}
use Rattle.meaning.specs.Promise.{CanStays, NewlyAble, AloneOrSwapped, LeftAlone}
use Rattle.meaning.specs.Fair.{Could}
use Rattle.meaning.specs.Scheduler.{Numbered}
use Rattle.meaning.proofs.Ready.{can_is, ready, ready_more, can-same}
use Rattle.meaning.proofs.Past.{UndisturbedOrGone, Past, after_turn, after_signal, below_next, undisturbed_same}
use Rattle.meaning.proofs.Links.{sound_numbered, reached_sound}
use Rattle.meaning.proofs.Results.{on_is_of, tick_all}
use Rattle.meaning.proofs.Numbers.{AtMostOneNew, move-one_new}
use Rattle.meaning.proofs.Alone.{alone}
use Rattle.meaning.proofs.Splits.{some_or_none, none_some, some_is}

-- who can go on still can, or is no more
module _ (g : Program) (s t : System) where
  pub still_could : (q : ℕ) (w : Worker) (o : Option Worker) → s.clock ≤ t.clock → can g s w ≡ true →
      UndisturbedOrGone w o → find t.workers q ≡ o → Could g t q ⊎ (find t.workers q ≡ none)
  still_could q w none le c y e = inr e
  still_could q w (some x) le c (a, (ms, b)) e =
      inl (
        x,
        e,
        can_is g t x ∙ ap (λ z. ready t.clock z x.mail) a ∙ ap (λ z. ready t.clock w.control z) b
            ∙ ready_more s.clock t.clock w.control w.mail ms le (sym (can_is g s w) ∙ c),
      )

  pub could_stays : (n q : ℕ) → Past n s t → (q ≡ n → ⊥) → Could g s q → Could g t q ⊎ (find t.workers q ≡ none)
  could_stays n q p d (w, f, c) =
      let e = p.clock in
      still_could q w (find t.workers q) (omega arith) c (p.others q w d f) refl

pub can_stays : CanStays
can_stays g l s t m q w r e other f c = go m e other
  where
    numbered : Numbered s
    numbered = sound_numbered s (reached_sound g l s r)

    turned : Could g t q ⊎ (find t.workers q ≡ none) → (find t.workers q ≡ none) ⊎ Could g t q
    turned (inl a) = inr a
    turned (inr a) = inl a

    go : (m : Move) → move g s m ≡ is t → (m ≡ turn q → ⊥) → (find t.workers q ≡ none) ⊎ Could g t q
    go (turn n) e d = turned (could_stays g s t n q (after_turn g s t n numbered e)
        (λ z. d (ap turn (sym z))) (w, f, c))
    go signal e d = turned (could_stays g s t s.next q (after_signal g s t s.next numbered e)
        (λ z. let h = below_next s numbered q w f in omega arith) (w, f, c))
    go tick e d = turned (on_is_of (λ u. Could g u q ⊎ (find u.workers q ≡ none)) (clock_on s) t
        (tick_all (λ u. Could g u q ⊎ (find u.workers q ≡ none)) (Unit {0}) s
        (λ u l. still_could g s (with_clock s u) q w (some w) (omega arith) c (undisturbed_same w) f)) e)

pub newly_able : NewlyAble
newly_able g l s t n q x r e d f c = go (some_or_none (find s.workers q))
  where
    past : Past n s t
    past = after_turn g s t n (sound_numbered s (reached_sound g l s r)) e

    next : find s.workers q ≡ none → Dec (s.next ≤ q) → q ≡ s.next
    next h (no a) = absurd (none_some (sym (past.ends q (omega arith) h) ∙ f))
    next h (yes a) =
        let b = below_next t past.numbered q x f in
        let k : t.next ≤ s.next + 1 =
        on_is_of (AtMostOneNew s) (move g s (turn n)) t (move-one_new g s (turn n)) e in
        omega arith

    with_mail : (w : Worker) → x.control ≡ w.control → (ms : List Value) → x.mail ≡ w.mail ++ ms →
        length ms ≤ 1 → (can g s w ≡ true) ⊎ ((v : Value) × (x.mail ≡ w.mail ++ (v ∷ [])))
    with_mail w a [] h k = inl (sym (can-same g s t w x past.clock a (h ∙ append-nil w.mail)) ∙ c)
    with_mail w a (v ∷ []) h k = inr (v, h)
    with_mail w a (v ∷ u ∷ ms) h k = absurd (omega arith)

    was : (w : Worker) → AloneOrSwapped s q w t →
        (can g s w ≡ true) ⊎ ((v : Value) × (x.mail ≡ w.mail ++ (v ∷ [])))
    was w (inl (y, h, a)) =
        let b = subst (LeftAlone w) (some_is (sym h ∙ f)) a in
        with_mail w b.0 b.3.0 b.3.1 b.3.2
    was w (inr (h, a)) = absurd (none_some (sym a ∙ f))

    go : (find s.workers q ≡ none) ⊎ ((w : Worker) × (find s.workers q ≡ some w)) →
        (q ≡ s.next) ⊎ ((w : Worker) × (find s.workers q ≡ some w)
        × ((can g s w ≡ true) ⊎ ((v : Value) × (x.mail ≡ w.mail ++ (v ∷ [])))))
    go (inl h) = inl (next h (dec_le s.next q))
    go (inr (w, h)) = inr (w, h, was w (alone g l s t n q w r e d h))
