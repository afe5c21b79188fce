use Rattle.store.specs.Heap.{stored, Grows}
use Rattle.matching.specs.Fit.{Fitting}
use Rattle.matching.proofs.pattern.+fits_within.Given as goal

abbrev pub decreases-fits_within : goal.decreases-fits_within
decreases-fits_within l = l.depth

abbrev pub invariant-parts : goal.invariant-parts
invariant-parts l =
    Grows (stored l.initial.heap) (stored l.heap)
    × Fitting l.code (stored l.initial.heap) (stored l.heap) l.depth l.initial.pattern l.initial.value
    l.initial.env l.pattern l.value l.env l.step
