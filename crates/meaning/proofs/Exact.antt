-- The queue after a move is exact again, if those that became able are put at its end: those that stay in it could go
-- on before and still can, those behind them could not, and all others cannot.
use mathlib.Core.Path.{◌≡◌, refl, sym, subst}
use mathlib.Core.Logic.{◌⊎◌, inl, inr}
use mathlib.Core.List.{List, [], ◌∷◌, ◌++◌, append_assoc}
use mathlib.Core.Option.{none}
use Prim.Native.Nat.{ℕ, zero, ◌≤◌}
use Rattle.meaning.specs.Syntax.{Program}
use Rattle.meaning.specs.System.{System, find}
use Rattle.meaning.specs.Fair.{Could}
use Rattle.meaning.specs.Scheduler.{Woken, Entry, round, worker, serve, flush, slice, batch, At, here, Mem, Distinct}
use Rattle.meaning.specs.Scheduler.{Kept, Queues}
use Rattle.meaning.proofs.Queue.{Mem-one, At-none, Mem-cases, Mem-behind, Mem-right, Mem-split, Distinct-append}
use Rattle.meaning.proofs.Queue.{Mem-left, kept_from, kept_distinct, kept_mem, could_not_gone}
use Rattle.std.proofs.lemmas.Bool.{cases_eq}
use Rattle.meaning.proofs.Splits.{impossible}

module _ (g : Program) (s t : System) (n : ℕ) (keeps' : (q : ℕ) → (q ≡ n → ⊥) → Could g s q →
    Could g t q ⊎ (find t.workers q ≡ none)) (es fs new : List Entry) (kept : Kept t es fs)
    (not_dead : (q : ℕ) → Mem (worker q) fs → find t.workers q ≡ none → ⊥) (w : Woken g n s t new)
    (once : Distinct (worker n ∷ es)) (able : (q : ℕ) → Mem (worker q) es → Could g s q)
    (all : (q : ℕ) → Could g s q → Mem (worker q) (worker n ∷ es)) where
  other_than : (q : ℕ) → Mem (worker q) es → q ≡ n → ⊥
  other_than q m e = once.0 (subst (λ z. Mem (worker z) es) e m)

  pub able-after : (q : ℕ) → Mem (worker q) (fs ++ new) → (q ≡ n → ⊥) × Could g t q
  able-after q m = go (Mem-split fs m)
    where
      old : Mem (worker q) fs → Could g t q ⊎ (find t.workers q ≡ none) → Could g t q
      old a (inl c) = c
      old a (inr e) = absurd (not_dead q a e)

      go : Mem (worker q) fs ⊎ Mem (worker q) new → (q ≡ n → ⊥) × Could g t q
      go (inl a) =
          let b = kept_from kept (worker q) a in
          (other_than q b, old a (keeps' q (other_than q b) (able q b)))
      go (inr a) =
          let b = w.each (worker q) a in
          let e : b.0 ≡ q = cc b.1 in
          (subst (λ z. z ≡ n → ⊥) e b.2, subst (Could g t) e b.3)

  once_after : Distinct (fs ++ new)
  once_after = Distinct-append fs new (kept_distinct kept once.1) w.once
      (λ x a b. let c = w.each x b in c.4 (able c.0 (subst (λ z. Mem z es) c.1 (kept_from kept x a))))

  pub all_after : (q : ℕ) → (q ≡ n → ⊥) → Could g t q → Mem (worker q) (fs ++ new)
  all_after q d c = go (w.all q d c)
    where
      mem : (worker q ≡ worker n) ⊎ Mem (worker q) es → Mem (worker q) es
      mem (inl e) = let y : q ≡ n = cc in absurd (d y)
      mem (inr a) = a

      go : Could g s q ⊎ Mem (worker q) new → Mem (worker q) (fs ++ new)
      go (inl a) = Mem-left new (kept_mem (worker q) (λ e. could_not_gone g t q e c) kept (mem (Mem-cases (all q a))))
      go (inr a) = Mem-right fs a

  own_not_queued : Mem (worker n) (fs ++ new) → ⊥
  own_not_queued m = (able-after n m).0 refl

  pub exact_served : (k : ℕ) → k ≤ slice → Could g t n → Mem round (fs ++ new) → Queues g t (serve n k) (fs ++ new)
  exact_served k le c r = record {
    once = (own_not_queued, once_after);
    able = λ q m. a q (Mem-cases m);
    all = λ q d. b q d (cases_eq q n);
    rounds = r;
    small = le;
  }
    where
      a : (q : ℕ) → (worker q ≡ worker n) ⊎ Mem (worker q) (fs ++ new) → Could g t q
      a q (inl e) = let y : n ≡ q = cc in subst (Could g t) y c
      a q (inr m) = (able-after q m).1

      b : (q : ℕ) → Could g t q → (q ≡ n) ⊎ (q ≡ n → ⊥) → Mem (worker q) (worker n ∷ (fs ++ new))
      b q d (inl e) = (zero, subst (λ z. At (worker q) zero (worker z ∷ (fs ++ new))) e here)
      b q d (inr f) = Mem-behind (worker n) (all_after q f d)

  pub exact_over : (k : ℕ) → k ≤ batch → (Could g t n → ⊥) → Mem round (fs ++ new) → Queues g t (flush k) (fs ++ new)
  exact_over k le c r = record {
    once = once_after;
    able = λ q m. (able-after q m).1;
    all = λ q d. all_after q (λ e. c (subst (Could g t) e d)) d;
    rounds = r;
    small = le;
  }

  at_the_end : (x : Entry) → Distinct (fs ++ new) → (Mem x (fs ++ new) → ⊥) → Distinct (fs ++ (new ++ (x ∷ [])))
  at_the_end x d h = subst Distinct (append_assoc fs new (x ∷ []))
      (Distinct-append (fs ++ new) (x ∷ []) d ((λ m. At-none m.1), tt)
      (λ y a b. h (subst (λ z. Mem z (fs ++ new)) (Mem-one b) a)))

  pub before_end : (x y : Entry) → Mem y (fs ++ (new ++ (x ∷ []))) → Mem y (fs ++ new) ⊎ (y ≡ x)
  before_end x y m = elim (Mem-split (fs ++ new) (subst (Mem y) (sym (append_assoc fs new (x ∷ []))) m)) [
    | inl a ↦ inl a
    | inr b ↦ inr (Mem-one b)
  ]

  pub kept_before_end : (x y : Entry) → Mem y (fs ++ new) → Mem y (fs ++ (new ++ (x ∷ [])))
  kept_before_end x y m = subst (Mem y) (append_assoc fs new (x ∷ [])) (Mem-left (x ∷ []) m)

  pub end_queued : (x : Entry) → Mem x (fs ++ (new ++ (x ∷ [])))
  end_queued x = Mem-right fs (Mem-right new (zero, here))

  pub exact_back : (k : ℕ) → k ≤ batch → Could g t n → Mem round (fs ++ new) →
      Queues g t (flush k) (fs ++ (new ++ (worker n ∷ [])))
  exact_back k le c r = record {
    once = at_the_end (worker n) once_after own_not_queued;
    able = λ q m. a q (before_end (worker n) (worker q) m);
    all = λ q d. b q d (cases_eq q n);
    rounds = kept_before_end (worker n) round r;
    small = le;
  }
    where
      a : (q : ℕ) → Mem (worker q) (fs ++ new) ⊎ (worker q ≡ worker n) → Could g t q
      a q (inl m) = (able-after q m).1
      a q (inr e) = let y : n ≡ q = cc in subst (Could g t) y c

      b : (q : ℕ) → Could g t q → (q ≡ n) ⊎ (q ≡ n → ⊥) → Mem (worker q) (fs ++ (new ++ (worker n ∷ [])))
      b q d (inl e) = subst (λ z. Mem (worker z) (fs ++ (new ++ (worker n ∷ [])))) (sym e) (end_queued (worker n))
      b q d (inr f) = kept_before_end (worker n) (worker q) (all_after q f d)

  pub exact_ticked : (k : ℕ) → k ≤ batch → (Could g t n → ⊥) → (Mem round (fs ++ new) → ⊥) →
      Queues g t (flush k) (fs ++ (new ++ (round ∷ [])))
  exact_ticked k le c r = record {
    once = at_the_end round once_after r;
    able = λ q m. a q (before_end round (worker q) m);
    all = λ q d. kept_before_end round (worker q) (all_after q (λ e. c (subst (Could g t) e d)) d);
    rounds = end_queued round;
    small = le;
  }
    where
      a : (q : ℕ) → Mem (worker q) (fs ++ new) ⊎ (worker q ≡ round) → Could g t q
      a q (inl m) = (able-after q m).1
      a q (inr e) = impossible (cc)
