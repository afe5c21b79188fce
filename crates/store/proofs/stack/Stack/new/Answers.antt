use Rattle.std.proofs.Common.{refl}
use Rattle.store.proofs.Stacking.{none_below}
use Rattle.store.proofs.stack.Stack.new.Goals as goal

pub returns-clause-none : goal.returns-clause-none
returns-clause-none c = none_below c.args.words.now 0 refl
