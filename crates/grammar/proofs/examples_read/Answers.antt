use mathlib.Core.Path.{refl}
use Rattle.grammar.specs.Examples.{echo_text, echo_program, sums_text, sums_program, compared_text}
use Rattle.grammar.proofs.Exact.{read-sound, refused}
use Rattle.grammar.proofs.examples_read.Goals as goal

-- each by computing `read`
pub returns : goal.returns
returns c = record {
  echo = read-sound echo_text echo_program refl;
  sums = read-sound sums_text sums_program refl;
  refused = refused compared_text refl;
}
