use Rattle.std.proofs.Common.{map, ap, refl, rules}
use Rattle.std.proofs.lemmas.Iterator.{YieldsList-from_slice}
use Rattle.std.proofs.lemmas.Iterator.Search.{find_from_yields_List}
use Rattle.std.proofs.lemmas.Slice.Eq.{compares_Decides}
use Rattle.meaning.specs.Basics.{same}
use Rattle.reader.proofs.Words.{entry_of, is_right, class_of_found, reserved_by_entries}
use Rattle.reader.proofs.keyword.keyword.Goals as goal

pub returns : goal.returns
returns c =
    let w = c.args.word.now in
    reserved_by_entries w c.iter.result.rest.now _ c.map.result
    (rw c.iter.ensures.rest (search (rules, is_right)))
    (ap (λ es. map (λ e. e.0) (map entry_of es)) c.iter.ensures.rest)
    (find_from_yields_List (λ e. same w e.0.now) _ _ c.find.result c.find.ensures.ran
    (YieldsList-from_slice {s = c.iter.result} c.iter.result.rest.now refl)
    (λ x b q k. search (rules, compares_Decides same (search rules))))
    (class_of_found _ (λ e r k. search rules) c.find.result c.map.result c.map.ensures.cases)
