use Rattle.std.proofs.Common.{nat_eq, rules, tests}
use Rattle.std.proofs.lemmas.Iterator.{YieldsList-from_slice}
use Rattle.std.proofs.lemmas.Iterator.Search.{any_from_yields_List}
use Rattle.std.specs.Cmp.Lexicographic.{pointwise}
use Rattle.names.proofs.Keywords.{listed-list_any}
use Rattle.names.proofs.words.is_keyword.Goals as goal

pub returns : goal.returns
returns c =
    let found = any_from_yields_List (λ k. pointwise nat_eq k.now c.args.word.now) _ _ _ c.any.ensures.ran
    (YieldsList-from_slice _ c.iter.ensures.rest) (λ x b q k. search (rules, tests)) in
    simp (found, listed-list_any)
