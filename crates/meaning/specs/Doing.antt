-- Which operation a turn does, where all operands are there: so that what a turn asks for can be traced to the form of the
-- language that asked for it, and to that form's stage.
use Rattle.std.specs.Prelude.{List, [], ◌∷◌}
use Rattle.std.proofs.Math.Option.{Option, some, none}
use Rattle.meaning.specs.Syntax.{Operation, Expr, int, atom, var, nil, apply, case, receive, receive_until, catch}
use Rattle.meaning.specs.Syntax.{Exprs, no_e, and_e}
use Rattle.meaning.specs.System.{Control, eval, give, enter, fail, wait, Frame, operands_frame, bind_frame, case_frame}
use Rattle.meaning.specs.System.{until_frame, catch_frame}

-- an operation with no operand to come
abbrev pub at_once : Operation → Exprs → Option Operation
at_once o no_e = some o
at_once o (and_e e es) = none

abbrev pub doing_expr : Expr → Option Operation
doing_expr (int n) = none
doing_expr (atom x) = none
doing_expr (var x) = none
doing_expr nil = none
doing_expr (apply o es) = at_once o es
doing_expr (case e cs) = none
doing_expr (receive cs) = none
doing_expr (receive_until cs e b) = none
doing_expr (catch b) = none

-- a value comes back to these frames
abbrev pub doing_frames : List Frame → Option Operation
doing_frames [] = none
doing_frames (operands_frame o vs es w ∷ k) = at_once o es
doing_frames (bind_frame p b w ∷ k) = none
doing_frames (case_frame cs w ∷ k) = none
doing_frames (until_frame cs b w ∷ k) = none
doing_frames (catch_frame ∷ k) = none

-- the operation that the turn of a worker with this control and these frames does
abbrev pub doing : Control → List Frame → Option Operation
doing (eval e w) k = doing_expr e
doing (give v) k = doing_frames k
doing (enter b w) k = none
doing (fail v) k = none
doing (wait cs u w) k = none
