use Rattle.std.proofs.Common.{◌+◌, ap, sym, subst, ◌∙◌, arith}
use Rattle.std.proofs.lemmas.Result.{MatchResult-from_err}
use Rattle.store.specs.Slots.{slot_at}
use Rattle.store.specs.Heap.{store_of}
use Rattle.store.specs.declared.heap.Heap.{Heap}
use Rattle.store.proofs.Collecting.{Scanning, appended_at, mixed_done, next, scanning_leaf, scanning_step, takes_cell, waiting_done}
use Rattle.store.proofs.Laws.{den_at}
use Rattle.store.proofs.collector.scan.Goals as goal
use Rattle.store.proofs.collector.scan.Goals.{then-slot-ge-FIRST_NODE+in_ok-copy, else-slot-ge-FIRST_NODE}

pub loop-j-preserved : goal.loop-j-preserved
loop-j-preserved c =
    let at = c.load_slot-slot.ensures ∙ ap (λ w. slot_at w c.loop-j.j) c.words.ensures in
    let inv = c.loop-j.invariant in
    let Next = λ (h : Heap). Scanning c.args.from.now c.args.copies.now h (c.loop-j.j + 1) in
    elim c.if-slot-ge-FIRST_NODE.branch [
      | then-slot-ge-FIRST_NODE+in_ok-copy w ↦
          let copied = appended_at at w.in_ok-copy.ensures.cases in
          let same = w.copy_cell.ensures.same in
          let long = w.set_slot.auto.words in
          subst Next (sym w.copies-is)
          (scanning_step {words = w.copy_cell.new.copies.words.now} c.loop-j-test.true copied w.set_slot.ensures long
          (record { long = long ∙ same.long; lent = same.lent }) inv)
      | else-slot-ge-FIRST_NODE w ↦
          subst Next (sym w.copies-is) (scanning_leaf c.loop-j-test.true at w.if-slot-ge-FIRST_NODE.false inv)
    ]

pub returns-in_err-copy-clause-cases : goal.returns-in_err-copy-clause-cases
returns-in_err-copy-clause-cases c = MatchResult-from_err _ _ _ c.from_residual.ensures.0 (λ e. record {
  short = λ {top} {sum} q.
      let at = c.load_slot-slot.ensures ∙ ap (λ w. slot_at w c.loop-j.j) c.words.ensures in
      let n = next c.loop-j-test.true (c.loop-j.invariant.waiting top sum q) in
      let one = takes_cell n.tree c.if-slot-ge-FIRST_NODE.true (den_at at n.here) in
      omega (arith, n.adds, one, c.in_err-copy.ensures.cases.short, c.loop-j.invariant.same.long);
})

pub returns-clause-cases : goal.returns-clause-cases
returns-clause-cases c = record {
  fits = c.loop-j.invariant.fits;
  stands = λ top s t d. record {
    is = mixed_done (store_of c.args.from.now top) c.loop-j.copies.words.now c.loop-j.j
        c.loop-j.copies.used s t c.loop-j-test.false (c.loop-j.invariant.stands top s t d);
  };
  count = λ top sum q. waiting_done c.loop-j-test.false (c.loop-j.invariant.waiting top sum q);
}
