use Rattle.std.proofs.Common.{length, sym, ap, ◌∙◌, arith}
use Rattle.values.proofs.Walking.{resumed, popped, bar_goes, brace_goes, comma_after, popped_keeps, opened_moves}
use Rattle.values.proofs.walk.Walk.pop.Goals as goal

pub returns-then-right-eq-PAIR : goal.returns-then-right-eq-PAIR
returns-then-right-eq-PAIR c =
    record {
      keeps = popped_keeps c.pop.ensures.words;
      so = λ r.
          bar_goes c.number-closing.result
          (popped c.in-Some.ensures.cases c.requires.closing (resumed c.requires.next r))
          c.if-right-eq-PAIR.true (sym c.number-closing.ensures);
      moves = λ ns. omega arith;
    }

pub returns-then-left-eq-EMPTY_TUPLE : goal.returns-then-left-eq-EMPTY_TUPLE
returns-then-left-eq-EMPTY_TUPLE c =
    record {
      keeps = popped_keeps c.pop.ensures.words;
      so = λ r.
          brace_goes c.number-closing.result c.requires.next
          (popped c.in-Some.ensures.cases c.requires.closing (resumed c.requires.next r))
          c.if-right-eq-PAIR.false c.if-left-eq-EMPTY_TUPLE.true (sym c.number-closing.ensures);
      moves = λ ns. omega arith;
    }

pub returns : goal.returns
returns c =
    record {
      keeps = record {
        same = c.open.ensures.keeps.same;
        long = c.open.ensures.keeps.long ∙ ap (λ w. length w.now) c.pop.ensures.words;
      };
      so = λ r.
          comma_after (popped c.in-Some.ensures.cases c.requires.closing (resumed c.requires.next r))
          c.if-right-eq-PAIR.false c.if-left-eq-EMPTY_TUPLE.false (ap (λ w. length w.now) c.pop.ensures.words) _
          c.open.result c.open.ensures.opened;
      moves = opened_moves _ _ _ _ _ _ _ c.args.self.now.cursor _ c.open.result c.open.ensures.opened;
    }
