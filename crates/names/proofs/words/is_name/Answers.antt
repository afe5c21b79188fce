use Rattle.std.proofs.Common.{not, leb, length, ap, ◌∙◌}
use Rattle.meaning.specs.Basics.{listed}
use Rattle.meaning.specs.Grammar.{all_letters, digit_first, keywords}
use Rattle.names.proofs.Keywords.{and_one_more}
use Rattle.names.proofs.words.is_name.Goals as goal

pub returns-then-is_atom : goal.returns-then-is_atom
returns-then-is_atom c =
    let w = c.args.word.now in
    ap not c.is_keyword.ensures
    ∙ and_one_more (leb 1 (length w)) (leb (length w) 32) (all_letters w) (not (digit_first w)) (not
    (listed w keywords))
    c.if-is_atom.ensures
