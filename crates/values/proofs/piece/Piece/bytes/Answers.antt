use Rattle.std.proofs.Common.{sym, ap, ◌∙◌, rules}
use Rattle.values.specs.Pieces.{piece_text}
use Rattle.values.proofs.Decimals.{one_set, two_set}
use Rattle.values.proofs.piece.Piece.bytes.Goals as goal

pub returns-in-Sign : goal.returns-in-Sign
returns-in-Sign g c =
    one_set c.args.buffer.now c.in-Sign.a (search rules)
    ∙ ap (piece_text (g.N.Names.table c.args.names.now)) (sym c.in-Sign.is)

pub returns-in-Signs : goal.returns-in-Signs
returns-in-Signs g c =
    two_set c.args.buffer.now c.in-Signs.a c.in-Signs.b (search rules)
    ∙ ap (piece_text (g.N.Names.table c.args.names.now)) (sym c.in-Signs.is)
