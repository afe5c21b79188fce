use Rattle.std.proofs.Common.{◌+◌, sym, refl, subst, arith}
use Rattle.std.proofs.lemmas.Result.{MatchResult-from_err}
use Rattle.store.specs.declared.heap.Heap.{Heap}
use Rattle.store.proofs.Collecting.{RootsBelow, appended_at, next_root, roots_below_leaf, roots_below_step, takes_cell}
use Rattle.store.proofs.Laws.{den_at}
use Rattle.store.proofs.collector.copy_roots.Goals as goal
use Rattle.store.proofs.collector.copy_roots.Goals.{then-root-ge-FIRST_NODE+in_ok-copy_cell, else-root-ge-FIRST_NODE}

pub returns-in_err-copy_cell-clause-cases : goal.returns-in_err-copy_cell-clause-cases
returns-in_err-copy_cell-clause-cases c = MatchResult-from_err _ _ _ c.from_residual.ensures.0 (λ e. record {
  same = refl;
  short = λ {top} ts r.
      let n = next_root c.loop-i-test.true (c.loop-i.invariant.ahead top ts r) in
      let one = takes_cell n.tree c.if-root-ge-FIRST_NODE.true (den_at c.load_slot-root.ensures n.here) in
      omega (arith, n.adds, n.waiting.adds, one, c.in_err-copy_cell.ensures.cases.short, c.loop-i.invariant.same.long);
})

pub loop-i-preserved : goal.loop-i-preserved
loop-i-preserved c =
    let at = c.load_slot-root.ensures in
    let inv = c.loop-i.invariant in
    let Next = λ (h : Heap). RootsBelow c.args.from.now c.args.copies.now h c.args.roots.now (c.loop-i.i + 1) in
    elim c.if-root-ge-FIRST_NODE.branch [
      | then-root-ge-FIRST_NODE+in_ok-copy_cell w ↦
          let copied = appended_at at w.in_ok-copy_cell.ensures.cases in
          subst Next (sym w.copies-is) (roots_below_step c.loop-i-test.true copied w.copy_cell.ensures.same inv)
      | else-root-ge-FIRST_NODE w ↦
          subst Next (sym w.copies-is) (roots_below_leaf c.loop-i-test.true at w.if-root-ge-FIRST_NODE.false inv)
    ]
