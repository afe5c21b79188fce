use Rattle.code.proofs.Decoding.{no_clauses, first_clause}
use Rattle.code.proofs.clauses.Clause.first.Goals as goal

pub returns-then-slot-ne-CLAUSES : goal.returns-then-slot-ne-CLAUSES
returns-then-slot-ne-CLAUSES c = record { clauses = λ {ns} {sc} {used} {cs} h. no_clauses cs c.if-slot-ne-CLAUSES.true h }

pub returns : goal.returns
returns c =
    record {
      clauses = λ {ns} {sc} {used} {cs} h.
          first_clause cs c.if-slot-ne-CLAUSES.false c.both-cell.ensures.left c.both-cell.ensures.right
          c.both-clause.ensures.left c.both-clause.ensures.right h;
    }
