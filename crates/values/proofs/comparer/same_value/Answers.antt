use Rattle.std.proofs.Common.{◌∙◌, rules}
use Rattle.values.proofs.Comparing.{value_same}
use Rattle.values.proofs.comparer.same_value.Goals as goal

pub returns : goal.returns
returns c = record {
  is = λ {ns} {used} {u} {v} h k.
      search rules ∙ (c.in_ok-same.ensures.cases.is h.stands k.stands ∙ value_same ns u v h.fine k.fine);
}
