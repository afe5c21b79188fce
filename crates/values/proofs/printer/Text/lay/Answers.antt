use Rattle.std.proofs.Common.{◌^◌, ◌<◌, not, nat_eq, length, refl, ap, ◌∙◌, arith, rules}
use Rattle.std.proofs.lemmas.Result.{err_from_is_err_and}
use Rattle.values.specs.Print.{laid}
use Rattle.values.proofs.Printing.{
  unwritten_start,
  laying_start,
  steps_is,
  walked_more,
  walked_end,
  walked_long,
  walked_refused,
}
use Rattle.values.proofs.Walking.{remains_start}
use Rattle.values.proofs.printer.Text.lay.Goals as goal

pub loop-piece-init : goal.loop-piece-init
loop-piece-init g c =
    record {
      same = refl;
      long = refl;
      fits = c.if-at-out.false;
      unwritten = unwritten_start (not (nat_eq g.row.WRITES 0)) c.args.out.now;
      laying = λ h. laying_start (not (nat_eq g.row.WRITES 0)) c.args.out.now (remains_start c.new-stack.ensures.none h);
    }

pub returns-in_err-piece-clause-cases : goal.returns-in_err-piece-clause-cases
returns-in_err-piece-clause-cases g c =
    let small : length c.args.out.now < 2 ^ 64 = search rules in
    let refused = walked_refused c.loop-piece.invariant c.in_err-piece.field-0.0 c.in_err-piece.ensures
    (ap length c.new-stack.ensures.words) small in
    let p = err_from_is_err_and c.from_residual.result c.from_residual.ensures.1 in
    rw (p.1, p.2) refused

pub returns-then-bytes-out-clause-cases : goal.returns-then-bytes-out-clause-cases
returns-then-bytes-out-clause-cases g c =
    walked_long c.loop-piece.invariant c.in-Some.piece (length c.bytes-bytes.result.now)
    (steps_is c.in-Some.is c.in_ok-piece.ensures) (ap length c.bytes-bytes.ensures)
    (ap length c.new-stack.ensures.words) (omega (arith, c.if-bytes-out.true, c.loop-piece.invariant.fits, c.loop-piece.auto.out))

pub loop-piece-preserved : goal.loop-piece-preserved
loop-piece-preserved g c =
    walked_more c.loop-piece.invariant c.put.new.out c.in-Some.piece (length c.bytes-bytes.result.now)
    (steps_is c.in-Some.is c.in_ok-piece.ensures) (ap length c.bytes-bytes.ensures) c.if-at-out.false
    (omega (arith, c.if-bytes-out.false, c.loop-piece.invariant.fits, c.loop-piece.auto.out))
    (c.put.ensures ∙ ap (laid (not (nat_eq g.row.WRITES 0)) c.loop-piece.out c.loop-piece.end) c.bytes-bytes.ensures)

pub returns-clause-cases : goal.returns-clause-cases
returns-clause-cases g c = walked_end c.loop-piece.invariant (steps_is c.in_default.is c.in_ok-piece.ensures)
    (ap length c.new-stack.ensures.words)
