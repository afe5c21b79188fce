use Rattle.std.proofs.Common.{arith, lit≤}
use Rattle.std.proofs.lemmas.Result.{MatchResult-weaker}
use Rattle.store.proofs.Laws.{keeps, kept_trans}
use Rattle.store_tests.proofs.triple.Goals as goal

pub returns-clause-cases : goal.returns-clause-cases
returns-clause-cases c =
    let x = c.in_ok-rest.ensures.cases in
    MatchResult-weaker c.put-2.result c.put-2.ensures.cases
    (λ all y. record {
      kept = kept_trans x.kept y.kept;
      stands = λ {s} {t} {u} d e f. y.stands (lit≤ tt) (keeps x.kept d) (x.stands (lit≤ tt) e f);
      count = omega (arith, x.count, y.count);
    })
    (λ e y. record { short = omega (arith, x.count, y.short, c.in_ok-rest.ensures.long) })
