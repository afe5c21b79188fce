use Rattle.std.proofs.Common.{rules}
use Rattle.std.proofs.lemmas.Fn.{fold_over, fronts}
use Rattle.std.proofs.lemmas.Iterator.{YieldsList-from_slice}
use Rattle.tokens.specs.Position.{Passes}
use Rattle.tokens.proofs.Placing.{passes_none, passes_then}
use Rattle.tokens.proofs.position.Position.past.Goals as goal

pub returns : goal.returns
returns c =
    let start = c.args.self in
    fold_over fronts _ _ (λ ys a. Passes start.line start.column ys a.line a.column) _
    (λ ys a x b f' h called. (passes_then ys x.now h (search rules), search rules))
    c.iter.result c.args.bytes.now start c.fold.result (YieldsList-from_slice {s = c.iter.result} c.args.bytes.now cc).runs
    (passes_none start.line start.column) c.fold.ensures.ran
