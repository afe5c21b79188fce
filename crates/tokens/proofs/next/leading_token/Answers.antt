use Rattle.std.proofs.Common.{◌≡◌, arith}
use Rattle.std.specs.List.{prefix_len}
use Rattle.std.proofs.lemmas.List.{take_rest}
use Rattle.std.proofs.lemmas.List.Sums.{prefix_len-le-length}
use Rattle.meaning.specs.Tokens.{is_letter}
use Rattle.tokens.proofs.Cutting.{word_leads, byte_leads}
use Rattle.tokens.proofs.next.leading_token.Goals as goal

pub split_at-requires : goal.split_at-requires
split_at-requires c = omega (arith, prefix_len-le-length is_letter c.args.text.now)

pub returns-then-letters-gt0 : goal.returns-then-letters-gt0
returns-then-letters-gt0 c = word_leads c.args.text.now c.word_length-letters.result
    c.split_at.result.0 c.split_at.result.1 c.word_length-letters.ensures c.if-letters-gt0.true
    c.requires.1 c.split_at.ensures.front c.split_at.ensures.back

pub returns-in-None : goal.returns-in-None
returns-in-None c =
    let none : prefix_len is_letter c.args.text.now ≡ 0 = omega arith in
    byte_leads c.args.text.now _ c.requires.0 none c.requires.1 c.in-None.ensures
    (take_rest c.args.text.now 1)
