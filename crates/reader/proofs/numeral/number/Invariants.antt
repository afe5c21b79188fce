use Rattle.std.proofs.Common.{◌≡◌, ◌^◌, ◌<◌, drop}
use Rattle.meaning.specs.Grammar.{number_from}
use Rattle.reader.proofs.numeral.number.Given as goal

abbrev pub invariant-loop-byte : goal.invariant-loop-byte
invariant-loop-byte l =
    (l.value < 10 ^ l.byte-index)
    × (number_from 0 l.word ≡ number_from l.value (drop l.byte-index l.word))
