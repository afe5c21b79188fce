use Rattle.std.proofs.Common.{◌≡◌, ap, ◌∙◌, arith}
use Rattle.code.proofs.Variables.{descend, looks_up}
use Rattle.code.proofs.environment.look_up.Goals as goal

pub returns : goal.returns
returns c =
    let e : c.names.counter ≡ c.args.index = omega arith in
    looks_up (c.names.invariant ∙ ap (λ j. descend c.args.heap.now.words.now j c.args.env) e) c.left.ensures
