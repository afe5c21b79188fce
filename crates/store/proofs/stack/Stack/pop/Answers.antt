use Rattle.std.proofs.Common.{◌≡◌, ◌∷◌, ap, sym, ◌∙◌, arith}
use Rattle.store.specs.Slots.{cell_at}
use Rattle.store.specs.Stack.{cells_of}
use Rattle.store.proofs.Stacking.{none_below, popped}
use Rattle.store.proofs.stack.Stack.pop.Goals as goal

pub returns-in_err-below-clause-cases : goal.returns-in_err-below-clause-cases
returns-in_err-below-clause-cases c =
    -- of the stack before and of the one that is left, each by its own depth
    let empty = c.in_err-below.ensures in
    rw c.from_residual.ensures (none_below _ _ (omega (arith, empty)), none_below _ _ (omega (arith, empty)))

pub returns-clause-cases : goal.returns-clause-cases
returns-clause-cases c =
    let below = c.in_ok-below.below in
    let words = c.args.self.now.words.now in
    let top : c.read_cell.result ≡ cell_at words below =
    c.read_cell.ensures ∙ ap (λ w. cell_at w below) c.words.ensures in
    popped words below (omega (arith, c.in_ok-below.ensures)) ∙ ap (λ x. x ∷ cells_of words below) (sym top)
