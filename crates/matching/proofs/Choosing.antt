-- The first clause that matches is the first of those left, while those before did not match. Clauses are an edge of the
-- code's cells, so after as many as the code has words, and one more, none is left.
use Rattle.std.proofs.Common.{◌≡◌, ℕ, ◌+◌, ◌<◌, ◌≤◌, Bool, true, false, List, length, Some, None, Option as Maybe, is_some, sym, refl, ap, ◌∙◌, subst, arith}
use mathlib.Core.Option.{some, none}
use Rattle.meaning.specs.Basics.{opt, Name}
use Rattle.meaning.specs.Bound.{bound_by}
use Rattle.meaning.specs.Syntax.{Clauses as Cls, no_c, clause}
use Rattle.meaning.specs.Turns.{choose}
use Rattle.meaning.specs.Values.{Value, Binding}
use Rattle.store.specs.Heap.{Store, store_of, Grows}
use Rattle.store.specs.Tree.{spine}
use Rattle.store.specs.declared.slot.Slot.{Slot}
use Rattle.values.specs.Encoding.{Holds}
use Rattle.code.specs.Clauses.{Views}
use Rattle.code.specs.Code.{CodeCs}
use Rattle.code.specs.Environment.{Environment}
use Rattle.code.specs.Trees.{tree_cs}
use Rattle.code.specs.declared.clauses.Clause.{Clause}
use Rattle.matching.specs.Choices.{most_names, Chooses, ChoiceLacks, Wakes, Choosing}
use Rattle.matching.specs.Matches.{Matches, MatchLacks}
use Rattle.matching.specs.declared.clause.Chosen.{Chosen}
use Rattle.store.proofs.Laws.{spine-within}
use Rattle.values.proofs.Laws.{holds_kept}
use Rattle.code.proofs.Chains.{environment_kept}

-- what was found is this
pub matched_is : {code : List ℕ} {m m' : Store} {pattern value env : Slot} {found o : Maybe Slot} → found ≡ o
    → Matches code m m' pattern value env found
    → Matches code m m' pattern value env o
matched_is {code} {m} {m'} {pattern} {value} {env} q h = subst
    (λ (o : Maybe Slot). Matches code m m' pattern value env o) q h

pub choosing_starts : {code : List ℕ} {m : Store} {clauses value env : Slot}
    → Choosing code m m clauses value env clauses 0
choosing_starts =
    record {
      hand = λ {ns} {sc} {used} {cs} a b c.
          record { clauses = cs; clauses_at = a; short = omega (arith, spine-within a.stands); same = refl; fewer = omega arith };
      spared = refl;
    }

pub chooses_none : {code : List ℕ} {m₀ m : Store} {clauses value env rest : Slot} {done : ℕ} → Views code rest None
    → Choosing code m₀ m clauses value env rest done → Chooses code m₀ m clauses value env None
chooses_none w f =
    record {
      to = λ {ns} {sc} {used} {cs} {v} {bs} a b c. let h = f.hand a b c in h.same
          ∙ ap (λ q. choose q v bs) (w.clauses h.clauses_at);
      spared = λ e. f.spared;
    }

pub chooses_some : {code : List ℕ} {m₀ m m₁ : Store} {clauses value env rest e : Slot} {done : ℕ} {r : Clause}
    → Views code rest (Some r) → Grows m₀ m
    → Matches code m m₁ r.pattern value env (Some e) → Choosing code m₀ m clauses value env rest done
    → Chooses code m₀ m₁ clauses value env (Some (record { body = r.body; env = e }))
chooses_some w g x f =
    record {
      to = λ {ns} {sc} {used} {cs} {v} {bs} a b c.
          let h = f.hand a b c in
          let q = w.clauses h.clauses_at in
          let y = x.to q.pattern_at (holds_kept g.kept b) (environment_kept g.kept c) in
          record {
            choice = record { vars = y.bindings; body = q.body };
            is = h.same
                ∙ (ap (λ z. choose z v bs) q.is
                ∙ ap (λ o. opt o (choose q.rest v bs) (λ ds. some (record { vars = ds; body = q.body })))
                y.is);
            chosen_at = record { scope = bound_by q.pattern sc; body_at = q.body_at; env_at = y.env };
            count = omega (arith, y.count, f.spared, h.fewer, ap most_names q.is);
          };
      spared = λ e. absurd (let z : ◌≡◌ {A = ℕ} 0 1 = cc in omega arith);
    }

pub choice_lacks : {code : List ℕ} {m₀ m m₁ : Store} {clauses value env rest : Slot} {done : ℕ} {r : Clause}
    → Views code rest (Some r) → Grows m₀ m
    → MatchLacks code m m₁ r.pattern value env
    → Choosing code m₀ m clauses value env rest done
    → ChoiceLacks code m₀ m₁ clauses value env
choice_lacks w g x f =
    record {
      short = λ a b c.
          let h = f.hand a b c in
          let q = w.clauses h.clauses_at in
          omega (
            arith,
            x.short q.pattern_at (holds_kept g.kept b)
                (environment_kept g.kept c),
            f.spared,
            h.fewer,
            ap most_names q.is,
          );
      spared = x.spared ∙ f.spared;
    }

-- the clauses behind one that does not match
next_clauses : {ns sc : List Name} {code : List ℕ} {used : ℕ} {m₀ m m₁ : Store} {clauses value env rest : Slot}
    {done : ℕ} {r : Clause} {cs : Cls} {v : Value} {bs : List Binding}
    → Views code rest (Some r) → Grows m₀ m → Matches code m m₁ r.pattern value env None
    → Choosing code m₀ m clauses value env rest done
    → CodeCs ns sc (store_of code used) clauses cs → Holds ns m₀ value v → Environment ns m₀ env sc bs
    → (cs' : Cls) × CodeCs ns sc (store_of code used) r.rest cs' × (spine (tree_cs ns sc cs') + (done + 1) ≤ length code + 1)
    × (choose cs v bs ≡ choose cs' v bs)
    × (most_names cs' ≤ most_names cs)
next_clauses {ns} {sc} {v = v} {bs = bs} w g x f a b c =
    let h = f.hand a b c in
    let q = w.clauses h.clauses_at in (
      q.rest,
      q.rest_at,
      omega (arith, h.short, ap (λ z. spine (tree_cs ns sc z)) q.is),
      h.same
          ∙ (ap (λ z. choose z v bs) q.is
          ∙ ap (λ o. opt o (choose q.rest v bs) (λ ds. some (record { vars = ds; body = q.body })))
          (x.to q.pattern_at (holds_kept g.kept b) (environment_kept g.kept c))),
      omega (arith, h.fewer, ap most_names q.is),
    )

no_more : (ns sc : List Name) (cs : Cls) (v : Value) (bs : List Binding) → spine (tree_cs ns sc cs) ≤ 0
    → choose cs v bs ≡ none
no_more ns sc no_c v bs h = refl
no_more ns sc (clause p b cs) v bs h = absurd (omega arith)

pub chooses_last : {code : List ℕ} {m₀ m : Store} {clauses value env rest : Slot} {done : ℕ} → length code < done
    → Choosing code m₀ m clauses value env rest done → Chooses code m₀ m clauses value env None
chooses_last z f =
    record {
      to = λ {ns} {sc} {used} {cs} {v} {bs} a b c.
          let h = f.hand a b c in h.same ∙ no_more ns sc h.clauses v bs (omega (arith, h.short));
      spared = λ e. f.spared;
    }

pub choosing_goes_on : {code : List ℕ} {m₀ m m₁ : Store} {clauses value env rest : Slot} {done : ℕ} {r : Clause}
    → Views code rest (Some r) → Grows m₀ m
    → Matches code m m₁ r.pattern value env None → Choosing code m₀ m clauses value env rest done
    → Choosing code m₀ m₁ clauses value env r.rest (done + 1)
choosing_goes_on w g x f =
    record {
      hand = λ a b c. let n = next_clauses w g x f a b c in
          record { clauses = n.0; clauses_at = n.1; short = omega (arith, n.2); same = n.3; fewer = n.4 };
      spared = x.spared refl ∙ f.spared;
    }

-- whether some clause matches
pub wakes_as : {code : List ℕ} {m m' : Store} {clauses value env : Slot} {answer : Bool} (o : Maybe Chosen)
    → answer ≡ is_some o → Chooses code m m' clauses value env o → Wakes code m clauses value env answer
wakes_as None q f = record { is = λ a b c. q ∙ sym (ap (λ z. opt z false (λ x. true)) (f.to a b c)) }
wakes_as (Some r) q f = record { is = λ a b c. q ∙ sym (ap (λ z. opt z false (λ x. true)) (f.to a b c).is) }
