use Rattle.std.proofs.Common.{◌≡◌, not, ◌+ℤ◌, ◌-ℤ◌, ◌*ℤ◌, ap}
use Rattle.meaning.specs.Values.{quotient, remainder, less_int, same_int}
use Rattle.numbers.specs.Exact.{Exact}
use Rattle.numbers.specs.Divided.{Divided}
use Rattle.code.specs.declared.operation.Operator.TheVariants.{Plus, Minus, Times, Divide, Modulo, Equal, Unequal, Less, AtMost}
use Rattle.machine.proofs.Operating.{both_back, calculates_as, truth_as}
use Rattle.machine.proofs.operators.calculate.Goals as goal

pub returns-in-Plus : goal.returns-in-Plus
returns-in-Plus c =
    let e = both_back (λ a b. Exact c.add.result (a +ℤ b)) c.args.a c.args.b c.ranges.a c.ranges.b c.add.ensures in
    calculates_as Plus c.in-Plus.is (record { to = λ x m. c.number.ensures.to x m (c.args.a +ℤ c.args.b) e })

pub returns-in-Minus : goal.returns-in-Minus
returns-in-Minus c =
    let e = both_back (λ a b. Exact c.subtract.result (a -ℤ b)) c.args.a c.args.b c.ranges.a c.ranges.b c.subtract.ensures in
    calculates_as Minus c.in-Minus.is (record { to = λ x m. c.number-in-Minus.ensures.to x m (c.args.a -ℤ c.args.b) e })

pub returns-in-Times : goal.returns-in-Times
returns-in-Times c =
    let e = both_back (λ a b. Exact c.multiply.result (a *ℤ b)) c.args.a c.args.b c.ranges.a c.ranges.b c.multiply.ensures in
    calculates_as Times c.in-Times.is (record { to = λ x m. c.number-in-Times.ensures.to x m (c.args.a *ℤ c.args.b) e })

pub returns-in-Divide : goal.returns-in-Divide
returns-in-Divide c =
    let e = both_back (λ a b. Divided c.divide.result b (quotient a b)) c.args.a c.args.b c.ranges.a c.ranges.b c.divide.ensures in
    calculates_as Divide c.in-Divide.is (record { to = λ x m. c.quotient.ensures.to x m c.args.b (quotient c.args.a c.args.b) e })

pub returns-in-Modulo : goal.returns-in-Modulo
returns-in-Modulo c =
    let e = both_back (λ a b. Divided c.modulo.result b (remainder a b)) c.args.a c.args.b c.ranges.a c.ranges.b c.modulo.ensures in
    calculates_as Modulo c.in-Modulo.is (record { to = λ x m. c.quotient-in-Modulo.ensures.to x m c.args.b (remainder c.args.a c.args.b) e })

pub returns-in-Equal : goal.returns-in-Equal
returns-in-Equal c =
    let e = both_back (λ a b. c.equal.result ≡ (same_int a b)) c.args.a c.args.b c.ranges.a c.ranges.b c.equal.ensures in
    calculates_as Equal c.in-Equal.is (record { to = λ x m. truth_as x m (same_int c.args.a c.args.b) c.truth.ensures e })

pub returns-in-Unequal : goal.returns-in-Unequal
returns-in-Unequal c =
    let e = both_back (λ a b. c.equal-in-Unequal.result ≡ (same_int a b)) c.args.a c.args.b c.ranges.a c.ranges.b c.equal-in-Unequal.ensures in
    calculates_as Unequal c.in-Unequal.is (record { to = λ x m. truth_as x m (not (same_int c.args.a c.args.b)) c.truth-in-Unequal.ensures (ap not e) })

pub returns-in-Less : goal.returns-in-Less
returns-in-Less c =
    let e = both_back (λ a b. c.less.result ≡ (less_int a b)) c.args.a c.args.b c.ranges.a c.ranges.b c.less.ensures in
    calculates_as Less c.in-Less.is (record { to = λ x m. truth_as x m (less_int c.args.a c.args.b) c.truth-in-Less.ensures e })

pub returns-in-AtMost : goal.returns-in-AtMost
returns-in-AtMost c =
    let e = both_back (λ a b. c.at_most.result ≡ (not (less_int b a))) c.args.a c.args.b c.ranges.a c.ranges.b c.at_most.ensures in
    calculates_as AtMost c.in-AtMost.is (record { to = λ x m. truth_as x m (not (less_int c.args.b c.args.a)) c.truth-in-AtMost.ensures e })
