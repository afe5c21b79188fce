use mathlib.Core.Path.{refl}
use Rattle.meaning.specs.Worked.{echo, failing, out_of_order, swapping, catching}
use Rattle.meaning.proofs.Examples.{worked}
use Rattle.grammar.specs.WorkedTexts.{echo_worked, failing_worked, out_of_order_worked, swapping_worked}
use Rattle.grammar.specs.WorkedTexts.{catching_worked}
use Rattle.grammar.proofs.Exact.{read-sound}
use Rattle.grammar.proofs.worked_texts.Goals as goal

-- each text by computing `read`
pub returns : goal.returns
returns c = record {
  echo_text = record { reads = read-sound echo_worked echo refl; shows = worked.echo_shows };
  failing_text = record { reads = read-sound failing_worked failing refl; shows = worked.failing_shows };
  out_of_order_text = record { reads = read-sound out_of_order_worked out_of_order refl; shows = worked.out_of_order_shows };
  swapping_text = record { reads = read-sound swapping_worked swapping refl; shows = worked.swapping_shows };
  catching_text = record { reads = read-sound catching_worked catching refl; shows = worked.catching_shows };
}
