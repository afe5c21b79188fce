use Rattle.std.proofs.Common.{◌+◌, ℕ, List, sym, subst}
use Rattle.store.proofs.Collecting.{Redirecting, redirecting_leaf, redirecting_node}
use Rattle.store.proofs.collector.redirect_roots.Goals as goal
use Rattle.store.proofs.collector.redirect_roots.Goals.{then-root-ge-FIRST_NODE, else-root-ge-FIRST_NODE}

pub loop-i-preserved : goal.loop-i-preserved
loop-i-preserved c =
    let old = c.args.roots.now in
    let at = c.load_slot-root.ensures in
    let inv = c.loop-i.invariant in
    elim c.if-root-ge-FIRST_NODE.branch [
      | then-root-ge-FIRST_NODE w ↦
          let kind = w.slot.ensures.kind in
          let place = w.slot.ensures.place in
          subst (λ (n : ℕ). Redirecting old c.if-root-ge-FIRST_NODE.roots n (c.loop-i.i + 1)) (sym w.next-is)
          (subst (λ (r : List ℕ). Redirecting old r (c.loop-i.next + 1) (c.loop-i.i + 1)) (sym w.roots-is)
          (redirecting_node at w.if-root-ge-FIRST_NODE.true kind place w.set_slot.ensures inv))
      | else-root-ge-FIRST_NODE w ↦
          subst (λ (n : ℕ). Redirecting old c.if-root-ge-FIRST_NODE.roots n (c.loop-i.i + 1)) (sym w.next-is)
          (subst (λ (r : List ℕ). Redirecting old r c.loop-i.next (c.loop-i.i + 1)) (sym w.roots-is)
          (redirecting_leaf at w.if-root-ge-FIRST_NODE.false inv))
    ]
