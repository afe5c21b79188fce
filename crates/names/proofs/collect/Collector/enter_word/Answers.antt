use Rattle.std.proofs.Common.{sym}
use Rattle.std.proofs.lemmas.Result.{MatchResult-weaker}
use Rattle.names.proofs.Naming.{left_known, left_no_atom}
use Rattle.names.proofs.Entering.{found_known, word_left, word_added, word_entered}
use Rattle.names.proofs.collect.Collector.enter_word.Goals.{then-not-is_atom-via-then-not-is_atom, then-not-is_atom-via-else-not-is_atom+then-is_some}
use Rattle.names.proofs.collect.Collector.enter_word.Goals as goal

pub returns-then-not-is_atom-clause-cases : goal.returns-then-not-is_atom-clause-cases
returns-then-not-is_atom-clause-cases c = elim c.then-not-is_atom.branch [
  | then-not-is_atom-via-then-not-is_atom w ↦ word_left (λ ns t. (left_no_atom ns c.args.word.now
      (sym w.if-not-is_atom.ensures)).is)
  | then-not-is_atom-via-else-not-is_atom+then-is_some w ↦ word_left (λ ns t. (left_known ns c.args.word.now
      (found_known ns c.args.word.now w.number_of.result w.if-is_some.ensures (w.number_of.ensures.number t))).is)
]

pub returns-clause-cases : goal.returns-clause-cases
returns-clause-cases c =
    let atom = sym c.if-not-is_atom.ensures in
    MatchResult-weaker c.enter.result c.enter.ensures.cases
    (λ _ e. word_entered c.args.self.now atom c.number_of.ensures c.if-is_some.ensures c.slot.ensures.kind
    c.slot.ensures.place e)
    (λ _ short. record {
      new = word_added c.args.self.now atom c.number_of.ensures c.if-is_some.ensures;
      short = short;
    })
