-- The tokens that are yielded are those of the text: the first is the first of what is left,
-- and the others are those of the text behind it.
use Rattle.std.proofs.Common.{◌≡◌, List, [], ◌∷◌, length, get_or, drop, arith, sym, refl, ap, ◌∙◌}
use Rattle.std.specs.Iterator.{AlwaysYields, Drains}
use Rattle.std.proofs.lemmas.Iterator.{YieldsList, items_from_drains}
use Rattle.std.proofs.lemmas.List.{length-map}
use Rattle.meaning.specs.Basics.{Name}
use Rattle.meaning.specs.Tokens.{tokens, gap}
use Rattle.tokens.specs.Cutting.{spelling}
use Rattle.tokens.specs.Lexemes.{CutsNext, text_left}
use Rattle.tokens.specs.declared.lexemes.Lexemes.{Lexemes}
use Rattle.tokens.specs.declared.token.Lexeme.{Lexeme}

abbrev pub spelled : Lexeme → Name
spelled l = spelling l.token

pub always_spelled : (s : Lexemes) (ws : List Name) → tokens gap (text_left s) ≡ ws → AlwaysYields CutsNext spelled s ws
always_spelled s [] e = λ l t step. omega (arith, ap length (sym step.0.cut ∙ e))
always_spelled s (w ∷ ws) e = (
  λ t step. omega (arith, ap length (sym e ∙ step.0)),
  λ l t step.
      let first : spelled l ∷ tokens gap l.rest.now ≡ w ∷ ws = sym step.0.cut ∙ e in
      (ap (λ vs. get_or vs 0 []) first, always_spelled t ws (ap (tokens gap) step.1 ∙ ap (drop 1) first)),
)

pub lexemes_spelled : (s : Lexemes) → YieldsList CutsNext spelled s (tokens gap (text_left s))
lexemes_spelled s = record { runs = always_spelled s (tokens gap (text_left s)) refl }

-- as many come as the text has tokens
pub length_from_lexemes : (s : Lexemes) (ls : List Lexeme) → Drains CutsNext s ls
    → length ls ≡ length (tokens gap (text_left s))
length_from_lexemes s ls d =
    sym (length-map ls spelled) ∙ ap length (items_from_drains ls (d.1.0, d.1.1, λ _. (d.0, d.1.2)) (lexemes_spelled s))
