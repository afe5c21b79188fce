use Rattle.store.proofs.collector.collect_into.Goals as goal

pub returns-clause-cases : goal.returns-clause-cases
returns-clause-cases c =
    let a = c.in_ok-copy_roots.ensures.cases in
    let b = c.in_ok-scan.ensures.cases in
    let r = c.redirect_roots.ensures in
    record {
      stands = λ {top} {t} i h d. b.stands top _ t (a.stands top i t _ h d (r.moved i h));
      count = λ {top} ts h. b.count top _ (a.waiting top ts h);
      fits = b.fits;
      rest = r.rest;
    }
