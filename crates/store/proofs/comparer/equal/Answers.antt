use Rattle.std.proofs.Common.{◌≡◌, ◌<◌, length, refl, inl, inr, ap, ◌∙◌, arith, rules}
use Rattle.std.proofs.lemmas.Result.{MatchResult-from_err}
use Rattle.store.proofs.Comparing.{comparing_differs, comparing_done, comparing_lefts, comparing_next, comparing_rights, comparing_short}
use Rattle.store.proofs.comparer.equal.Goals as goal

pub returns-in-Differ-clause-cases : goal.returns-in-Differ-clause-cases
returns-in-Differ-clause-cases c = record {
  is = λ {used} {s} {t} d e. comparing_differs c.in-Differ.ensures (c.pairs.invariant.comparing used s t d e);
}

pub pairs-preserved-in-Some : goal.pairs-preserved-in-Some
pairs-preserved-in-Some c =
    let top = c.in-Some.ensures.cases in
    record {
      long = ap (λ w. length w.now) c.pop.ensures.words ∙ c.pairs.invariant.long;
      comparing = λ used s t d e. comparing_next c.in-Same.ensures top (c.pairs.invariant.comparing used s t d e);
      alike = λ e. let none = (c.pairs.invariant.alike e).1 in absurd (omega (arith, ap length none, ap length top));
    }

pub returns-in-None-clause-cases : goal.returns-in-None-clause-cases
returns-in-None-clause-cases c = record {
  is = λ {used} {s} {t} d e.
      comparing_done c.in-Same.ensures c.in-None.ensures.cases.0 (c.pairs.invariant.comparing used s t d e);
}

pub returns-then-left-eq0-clause-cases : goal.returns-then-left-eq0-clause-cases
returns-then-left-eq0-clause-cases c = record {
  short = λ {used} {s} {t} d e.
      let short = comparing_short c.in-Parts.ensures (c.pairs.invariant.comparing used s t d e) in
      inr (omega (arith, short, c.if-left-eq0.true));
}

pub returns-in_err-push-in-Parts-clause-cases : goal.returns-in_err-push-in-Parts-clause-cases
returns-in_err-push-in-Parts-clause-cases c = MatchResult-from_err _ _ _ c.from_residual.ensures.0 (λ r. record {
  short = λ {used} {s} {t} d e.
      let short = comparing_short c.in-Parts.ensures (c.pairs.invariant.comparing used s t d e) in
      let room = c.pairs.invariant.long ∙ ap length c.new-waiting.ensures.words in
      inl (omega (arith, short, c.in_err-push-in-Parts.ensures.cases.0, room));
})

pub pairs-preserved-then-eq : goal.pairs-preserved-then-eq
pairs-preserved-then-eq c =
    let parts = c.in-Parts.ensures in
    let some : 0 < c.pairs.left = omega (arith, c.if-left-eq0.false) in
    let same : c.both-one.result.left ≡ c.both-two.result.left = search rules in
    record {
      long = c.pairs.invariant.long;
      comparing = λ used s t d e. comparing_rights parts some c.both-one.ensures c.both-two.ensures same
          (c.pairs.invariant.comparing used s t d e);
      alike = λ e. absurd (parts.2 (c.pairs.invariant.alike e).0);
    }

pub pairs-preserved : goal.pairs-preserved
pairs-preserved c =
    let parts = c.in-Parts.ensures in
    let some : 0 < c.pairs.left = omega (arith, c.if-left-eq0.false) in
    record {
      long = c.push.ensures.long ∙ c.pairs.invariant.long;
      comparing = λ used s t d e. comparing_lefts parts some c.both-one.ensures c.both-two.ensures
          c.in_ok-push-in-Parts.ensures.cases.1 (c.pairs.invariant.comparing used s t d e);
      alike = λ e. absurd (parts.2 (c.pairs.invariant.alike e).0);
    }
