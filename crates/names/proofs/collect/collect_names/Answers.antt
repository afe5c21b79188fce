use Rattle.std.proofs.Common.{◌+◌, length, refl, ◌∙◌, arith}
use Rattle.std.proofs.lemmas.Result.{err_from_is_err_and}
use Rattle.names.specs.Names.{names_of}
use Rattle.names.proofs.Naming.{names_stand, own-length}
use Rattle.names.proofs.Entering.{collected, lacking_more, table_long}
use Rattle.names.proofs.collect.collect_names.Goals as goal

pub returns-in_err-enter_own_atoms-clause-cases : goal.returns-in_err-enter_own_atoms-clause-cases
returns-in_err-enter_own_atoms-clause-cases c =
    let p = err_from_is_err_and c.from_residual-in_err-enter_own_atoms.result
    c.from_residual-in_err-enter_own_atoms.ensures.1 in
    let least = (names_stand c.args.text.now).least in
    rw p.1 (record {
      short = lacking_more c.args.spans.now c.args.spans.now c.args.buckets.now c.clear.new.buckets
          c.args.heap.now.words.now c.args.heap.now.words.now 16 (c.args.heap.now.used + 16)
          (length (names_of c.args.text.now)) (c.args.heap.now.used + length (names_of c.args.text.now))
          refl (omega (arith, c.clear.auto.buckets)) refl least (omega (arith, least))
          c.in_err-enter_own_atoms.ensures.cases;
    })

pub returns-in_err-enter_words-clause-cases : goal.returns-in_err-enter_words-clause-cases
returns-in_err-enter_words-clause-cases c =
    let p = err_from_is_err_and c.from_residual-in_err-enter_words.result
    c.from_residual-in_err-enter_words.ensures.1 in
    let own = c.in_ok-enter_own_atoms.ensures in
    let begun = own.cases.stands refl c.in_ok-clear.ensures.empty in
    let names = length (names_of c.args.text.now) in
    let short = rw own.stays.text at (c.in_err-enter_words.ensures.cases.short c.args.heap.now.used begun
    own.cases.used) in
    rw p.1 (record {
      short = lacking_more c.args.spans.now c.enter_own_atoms.new.self.spans.now c.args.buckets.now
          c.enter_own_atoms.new.self.buckets.now c.args.heap.now.words.now
          c.enter_own_atoms.new.self.heap.now.words.now names (c.args.heap.now.used + names) names
          (c.args.heap.now.used + names) own.stays.spans.long (omega (arith, own.stays.buckets.long, c.clear.auto.buckets))
          own.stays.grows.long (omega arith) (omega arith) short;
    })

pub returns-clause-cases : goal.returns-clause-cases
returns-clause-cases c =
    let own = c.in_ok-enter_own_atoms.ensures in
    let all = c.in_ok-enter_words.ensures in
    let begun = own.cases.stands refl c.in_ok-clear.ensures.empty in
    collected c.enter_words.new.self (all.stays.text ∙ own.stays.text) (grind arith) (grind arith) (grind arith)
    (omega (arith, own.cases.used, all.cases.used, table_long begun, own-length))
    (rw own.stays.text at (all.cases.stands begun))
