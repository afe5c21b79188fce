use Rattle.std.proofs.Common.{◌≡◌, ◌+◌, ◌≤◌, length}
use Rattle.meaning.specs.Tokens.{tokens, gap}
use Rattle.grammar.specs.LookAhead.{binds}
use Rattle.tokens.specs.Lexemes.{text_left}
use Rattle.reader.proofs.look_ahead.binds.Given as goal

abbrev pub invariant-loop-lexeme : goal.invariant-loop-lexeme
invariant-loop-lexeme l = (l.depth + length (text_left l.lexeme-iterator) ≤ length l.text)
    × (binds 0 (tokens gap l.text) ≡ binds l.depth (tokens gap (text_left l.lexeme-iterator)))
