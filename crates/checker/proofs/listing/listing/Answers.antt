use Rattle.std.proofs.Common.{vec_items, refl}
use Rattle.checker.proofs.Lines.{listed_more, listed_all}
use Rattle.checker.proofs.listing.listing.Goals as goal

pub loop-lexeme-preserved : goal.loop-lexeme-preserved
loop-lexeme-preserved c =
    let rest = c.loop-lexeme.rest.now in
    listed_more c.args.text.now (vec_items c.loop-lexeme.lines) rest c.in-Some.lexeme
    c.loop-lexeme.position.line c.loop-lexeme.position.column c.in-Some.ensures
    (vec_items c.add_line.new.lines) _ _ c.past-start.result.line c.past-start.result.column
    c.past-position.result.line c.past-position.result.column c.loop-lexeme.invariant
    refl c.past-start.ensures c.in_ok-add_line.ensures
    refl c.past-position.ensures

pub returns : goal.returns
returns c = listed_all c.args.text.now _ c.loop-lexeme.rest.now c.loop-lexeme.position.line
    c.loop-lexeme.position.column c.loop-lexeme.invariant c.in_default.ensures
