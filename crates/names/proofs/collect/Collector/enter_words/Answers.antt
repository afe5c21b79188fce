use Rattle.std.proofs.Common.{arith}
use Rattle.std.proofs.lemmas.Result.{err_from_is_err_and}
use Rattle.names.proofs.Naming.{own-length}
use Rattle.names.proofs.Entering.{behind_more, entering_more, stays_trans, table_long, words_lack}
use Rattle.names.proofs.collect.Collector.enter_words.Goals as goal

pub returns-in_err-enter_token-clause-cases : goal.returns-in_err-enter_token-clause-cases
returns-in_err-enter_token-clause-cases c =
    let p = err_from_is_err_and c.from_residual.result c.from_residual.ensures.1 in
    let before = c.loop-lexeme.invariant in
    let first = c.in-Some.ensures in
    rw p.1 (words_lack c.in-Some.lexeme before.behind first before.stays before.used before.entering
    (c.in_err-enter_token.ensures.cases first.proper))

pub loop-lexeme-preserved : goal.loop-lexeme-preserved
loop-lexeme-preserved c =
    let before = c.loop-lexeme.invariant in
    let first = c.in-Some.ensures in
    let entered = c.in_ok-enter_token.ensures.cases first.proper in
    let stays = stays_trans before.stays c.in_ok-enter_token.ensures.stays in
    record {
      stays = stays;
      used = omega (arith, before.used, entered.used);
      more = omega (arith, before.more, entered.more);
      behind = behind_more c.in-Some.lexeme before.behind first;
      entering = λ t. entering_more c.in-Some.lexeme before.behind first before.stays.text stays.text
          (omega (arith, before.more, table_long t, own-length)) entered
          (before.entering t);
    }
