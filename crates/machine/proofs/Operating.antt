-- Operators: the numbers' own contracts say which clause of the meaning applies.
use Rattle.std.proofs.Common.{◌≡◌, ℕ, Bool, true, false, cond, not, List, [], ◌∷◌, ℤ, ◌+ℤ◌, ◌-ℤ◌, ◌*ℤ◌, Some, None, Ok, Err, Option, Result, MatchResult, length, ◌+◌, ◌*◌, ◌<◌, sym, refl, ap, ◌∙◌, subst, inl, inr, arith, w64, SFits, to_z, of_z}
use mathlib.Core.Option.{Option as Maybe, some, none}
use Rattle.std.proofs.lemmas.Int.{to_z-of_z}
use Rattle.meaning.specs.Basics.{Name, opt}
use Rattle.meaning.specs.Atoms.{a_type, a_zero, a_big, a_true, a_false}
use Rattle.meaning.specs.Syntax.{plus, minus, times, divide, modulo, less, at_most}
use Rattle.meaning.specs.Values.{Value, v_int, v_atom, as_int, same_v, less_int, fits, quotient, remainder, is_zero}
use Rattle.meaning.specs.System.{give, fail, Frame, System}
use Rattle.meaning.specs.Turns.{Outcome as Means, error, gives, truth, number, divided, on_numbers, operate_on}
use Rattle.code.specs.Environment.{Chain}
use Rattle.code.specs.Operation.{operator_of}
use Rattle.code.specs.declared.operation.Operator.{Operator}
use Rattle.code.specs.declared.operation.Operator.TheVariants.{
  Plus,
  Minus,
  Times,
  Divide,
  Modulo,
  Equal,
  Unequal,
  Less,
  AtMost,
}
use Rattle.machine.specs.Operators.{
  Leads,
  Numbers,
  Divides,
  Truly,
  Calculates,
  AsNumber,
  SameSim,
  Apart,
  Compared,
  OperateSim,
  Paired,
}
use Rattle.machine.specs.State.{World, give_is, fail_is}
use Rattle.machine.specs.declared.state.Control.{Control}
use Rattle.machine.specs.declared.state.Control.TheVariants.{Give, Fail}
use Rattle.machine.specs.declared.state.Refusal.{Refusal}
use Rattle.numbers.specs.Divided.{Divided}
use Rattle.numbers.specs.Exact.{Exact}
use Rattle.numbers.specs.declared.division.DivisionError.{DivisionError}
use Rattle.numbers.specs.declared.division.DivisionError.TheVariants.{TooBig, ByZero}
use Rattle.store.specs.Heap.{Store, Put, Lacks, left_of, right_of}
use Rattle.store.specs.declared.slot.Full.{Full as NoRoom}
use Rattle.store.specs.declared.slot.Slot.{Slot}
use Rattle.values.specs.Encoding.{Fine, Holds}
use Rattle.values.specs.Shape.{Stands}
use Rattle.values.specs.declared.value.Value.TheVariants.{Number}
use Rattle.store.proofs.Laws.{node_left, node_right}
use Rattle.values.proofs.Shapes.{sfits}
use Rattle.machine.proofs.Stepping.{atom_holds}

-- a fixed error
module _ (x : World) (m : Store) where
  pub fails_big : (f : List Frame → System → Means) → ((k : List Frame) (s : System) → f k s ≡ error k s a_big) →
      Leads x m (Fail (record { kind = 1; low = 4; high = 0 })) f
  fails_big f e = record {
    control = fail (v_atom a_big);
    is = e;
    stands =
        fail_is (v_atom a_big) (atom_holds x a_big 4 x.atoms.big_at (omega arith));
  }

  pub fails_zero : (f : List Frame → System → Means) → ((k : List Frame) (s : System) → f k s ≡ error k s a_zero) →
      Leads x m (Fail (record { kind = 1; low = 3; high = 0 })) f
  fails_zero f e = record {
    control = fail (v_atom a_zero);
    is = e;
    stands =
        fail_is (v_atom a_zero) (atom_holds x a_zero 3 x.atoms.zero_at (omega arith));
  }

  pub fails_type : (f : List Frame → System → Means) → ((k : List Frame) (s : System) → f k s ≡ error k s a_type) →
      Leads x m (Fail (record { kind = 1; low = 0; high = 0 })) f
  fails_type f e = record {
    control = fail (v_atom a_type);
    is = e;
    stands =
        fail_is (v_atom a_type) (atom_holds x a_type 0 x.atoms.type_at (omega arith));
  }

  -- a number that fits
  gives-number : {n z : ℤ} {s : Slot} (f : List Frame → System → Means) → fits z ≡ true → n ≡ z →
      Stands (Number n) s → ((k : List Frame) (t : System) → f k t ≡ gives k t (v_int z)) → Leads x m (Give s) f
  gives-number {n} {z} f h q st e =
      record { control = give (v_int z); is = e; stands = give_is (v_int z) (st.value {m = m} h (ap v_int (sym q))) }

  pub number_leads : {n : ℤ} (z : ℤ) {s : Slot} → Exact (Some n) z → Stands (Number n) s → Leads x m (Give s)
      (λ k t. number k t z)
  number_leads z h st = gives-number (λ k t. number k t z) h.0 h.1 st
      (λ k t. ap (λ b. cond b (gives k t (v_int z)) (error k t a_big)) h.0)

  pub number_big : (z : ℤ) → Exact None z → Leads x m (Fail (record { kind = 1; low = 4; high = 0 }))
      (λ k t. number k t z)
  number_big z h = fails_big (λ k t. number k t z) (λ k t. ap (λ b. cond b (gives k t (v_int z)) (error k t a_big)) h)

  divided_by : (b z : ℤ) → is_zero b ≡ false → (k : List Frame) (t : System) → divided k t b z ≡ number k t z
  divided_by b z h k t = ap (λ q. cond q (error k t a_zero) (number k t z)) h

  pub quotient_leads : {n : ℤ} (b z : ℤ) {s : Slot} → Divided (Ok n) b z → Stands (Number n) s →
      Leads x m (Give s) (λ k t. divided k t b z)
  quotient_leads b z h st = gives-number (λ k t. divided k t b z) h.1 h.2 st
      (λ k t. divided_by b z h.0 k t ∙ ap (λ q. cond q (gives k t (v_int z)) (error k t a_big)) h.1)

  pub quotient_big : (b z : ℤ) → Divided (Err TooBig) b z → Leads x m (Fail (record { kind = 1; low = 4; high = 0 }))
      (λ k t. divided k t b z)
  quotient_big b z h = fails_big (λ k t. divided k t b z)
      (λ k t. divided_by b z h.0 k t ∙ ap (λ q. cond q (gives k t (v_int z)) (error k t a_big)) h.1)

  pub quotient_zero : (b z : ℤ) → Divided (Err ByZero) b z → Leads x m (Fail (record { kind = 1; low = 3; high = 0 }))
      (λ k t. divided k t b z)
  quotient_zero b z h = fails_zero (λ k t. divided k t b z)
      (λ k t. ap (λ q. cond q (error k t a_zero) (number k t z)) h)

  pub truth_true : {b : Bool} → b ≡ true → Leads x m (Give (record { kind = 1; low = 13; high = 0 }))
      (λ k t. gives k t (truth b))
  truth_true {b} h = record {
    control = give (v_atom a_true);
    is = λ k t. ap (λ q. gives k t (truth q)) h;
    stands =
        give_is (v_atom a_true) (atom_holds x a_true 13 x.atoms.true_at (omega arith));
  }

  pub truth_false : {b : Bool} → b ≡ false → Leads x m (Give (record { kind = 1; low = 14; high = 0 }))
      (λ k t. gives k t (truth b))
  truth_false {b} h = record {
    control = give (v_atom a_false);
    is = λ k t. ap (λ q. gives k t (truth q)) h;
    stands =
        give_is (v_atom a_false) (atom_holds x a_false 14 x.atoms.false_at (omega arith));
  }

  pub truth_as : {b : Bool} {r : Control} (a : Bool) → Truly b r → b ≡ a → Leads x m r (λ k t. gives k t (truth a))
  truth_as {b} {r} a t e = subst (λ (q : Bool). Leads x m r (λ k t. gives k t (truth q))) e (t.to x m)

-- an operator on numbers, of values that are not both numbers
pub not_numbers : (u v : Value) (f : List Frame → System → ℤ → ℤ → Means) → Apart u v →
    (k : List Frame) (s : System) → on_numbers k s u v (f k s) ≡ error k s a_type
not_numbers u v f (inl h) k s =
    ap (λ o. opt o (error k s a_type) (λ a. opt (as_int v) (error k s a_type) (λ b. f k s a b))) h
not_numbers u v f (inr h) k s = go (as_int u)
  where
    go : (o : Maybe ℤ) → opt o (error k s a_type)
        (λ a. opt (as_int v) (error k s a_type) (λ b. f k s a b)) ≡ error k s a_type
    go none = refl
    go (some a) = ap (λ o. opt o (error k s a_type) (λ b. f k s a b)) h

-- numbers of 64 bits are what they are
at_both : (P : ℤ → ℤ → Type 0) {a b a' b' : ℤ} → a' ≡ a → b' ≡ b → P a' b' → P a b
at_both P {a} {b} {a'} {b'} p q h = subst (λ z. P a z) q (subst (λ z. P z b') p h)

pub both_back : (P : ℤ → ℤ → Type 0) (a b : ℤ) → SFits w64 a → SFits w64 b →
    P (to_z w64 (of_z w64 a)) (to_z w64 (of_z w64 b)) → P a b
both_back P a b f g h = at_both P (to_z-of_z w64 a f) (to_z-of_z w64 b g) h

stands_back : {n z : ℤ} {s : Slot} → fits z ≡ true → n ≡ z → Stands (Number (to_z w64 (of_z w64 n))) s →
    Stands (Number n) s
stands_back {n} {z} {s} h e st =
    subst (λ q. Stands (Number q) s) (to_z-of_z w64 n (subst (SFits w64) (sym e) (sfits z h))) st

pub numbers_some : {o : Option ℤ} {n : ℤ} {s : Slot} → o ≡ Some n → Stands (Number (to_z w64 (of_z w64 n))) s →
    Numbers o (Give s)
numbers_some {o} {n} {s} e st =
    subst (λ p. Numbers p (Give s)) (sym e)
    (record { to = λ x m z h. number_leads x m z h (stands_back h.0 h.1 st) })

pub numbers_none : {o : Option ℤ} → o ≡ None → Numbers o (Fail (record { kind = 1; low = 4; high = 0 }))
numbers_none {o} e = subst (λ p. Numbers p (Fail (record { kind = 1; low = 4; high = 0 }))) (sym e)
    (record { to = λ x m z h. number_big x m z h })

pub divides_result : {d : Result ℤ DivisionError} {n : ℤ} {s : Slot} → d ≡ Ok n → Stands (Number (to_z w64 (of_z w64 n))) s →
    Divides d (Give s)
divides_result {d} {n} {s} e st =
    subst (λ p. Divides p (Give s)) (sym e)
    (record { to = λ x m b z h. quotient_leads x m b z h (stands_back h.1 h.2 st) })

pub divides_big : {d : Result ℤ DivisionError} {e : DivisionError} → d ≡ Err e → e ≡ TooBig →
    Divides d (Fail (record { kind = 1; low = 4; high = 0 }))
divides_big {d} q h = subst (λ p. Divides p (Fail (record { kind = 1; low = 4; high = 0 }))) (sym (q ∙ ap Err h))
    (record { to = λ x m b z h. quotient_big x m b z h })

pub divides_zero : {d : Result ℤ DivisionError} {e : DivisionError} → d ≡ Err e → e ≡ ByZero →
    Divides d (Fail (record { kind = 1; low = 3; high = 0 }))
divides_zero {d} q h = subst (λ p. Divides p (Fail (record { kind = 1; low = 3; high = 0 }))) (sym (q ∙ ap Err h))
    (record { to = λ x m b z h. quotient_zero x m b z h })

pub calculates_as : {o : Operator} (p : Operator) {a b : ℤ} {r : Control} → o ≡ p → Calculates p a b r →
    Calculates o a b r
calculates_as {o} p {a} {b} {r} e h = subst (λ q. Calculates q a b r) (sym e) h

-- values that are not both numbers
pub compared_type : {m : Store} {scratch : List ℕ} {a b : Slot} (o : Operator) → (o ≡ Equal → ⊥) →
    (o ≡ Unequal → ⊥) → Compared m scratch o a b (Ok (Fail (record { kind = 1; low = 0; high = 0 })))
compared_type {m} Plus e n = record {
  to =
      λ x u v hu hv d. fails_type x m
      (λ k s. operate_on k s plus u v) (not_numbers u v (λ k s a b. number k s (a +ℤ b)) d);
}
compared_type {m} Minus e n = record {
  to =
      λ x u v hu hv d. fails_type x m
      (λ k s. operate_on k s minus u v) (not_numbers u v (λ k s a b. number k s (a -ℤ b)) d);
}
compared_type {m} Times e n = record {
  to =
      λ x u v hu hv d. fails_type x m
      (λ k s. operate_on k s times u v) (not_numbers u v (λ k s a b. number k s (a *ℤ b)) d);
}
compared_type {m} Divide e n = record {
  to =
      λ x u v hu hv d. fails_type x m
      (λ k s. operate_on k s divide u v) (not_numbers u v (λ k s a b. divided k s b (quotient a b)) d);
}
compared_type {m} Modulo e n = record {
  to =
      λ x u v hu hv d. fails_type x m
      (λ k s. operate_on k s modulo u v) (not_numbers u v (λ k s a b. divided k s b (remainder a b)) d);
}
compared_type {m} Equal e n = absurd (e refl)
compared_type {m} Unequal e n = absurd (n refl)
compared_type {m} Less e n = record {
  to =
      λ x u v hu hv d. fails_type x m
      (λ k s. operate_on k s less u v) (not_numbers u v (λ k s a b. gives k s (truth (less_int a b))) d);
}
compared_type {m} AtMost e n = record {
  to =
      λ x u v hu hv d. fails_type x m
      (λ k s. operate_on k s at_most u v) (not_numbers u v (λ k s a b. gives k s (truth (not (less_int b a)))) d);
}

pub compared_equal : {m : Store} {scratch : List ℕ} {a b : Slot} {o : Operator} {t : Bool} {r : Control} →
    o ≡ Equal → SameSim m scratch a b (Ok t) → Truly t r → Compared m scratch o a b (Ok r)
compared_equal {m} {scratch} {a} {b} {o} {t} {r} e h q =
    subst (λ p. Compared m scratch p a b (Ok r)) (sym e)
    (record { to = λ x u v hu hv d. truth_as x m (same_v u v) q (h.to x u v hu hv) })

pub compared_unequal : {m : Store} {scratch : List ℕ} {a b : Slot} {o : Operator} {t : Bool} {r : Control} →
    o ≡ Unequal → SameSim m scratch a b (Ok t) → Truly (not t) r → Compared m scratch o a b (Ok r)
compared_unequal {m} {scratch} {a} {b} {o} {t} {r} e h q =
    subst (λ p. Compared m scratch p a b (Ok r)) (sym e)
    (record { to = λ x u v hu hv d. truth_as x m (not (same_v u v)) q (ap not (h.to x u v hu hv)) })

-- two operands, the last one first
module _ {m : Store} {st one two rest : Slot} (p : two ≡ left_of m.words st) (q : rest ≡ right_of m.words st)
    (r : one ≡ left_of m.words rest) where
  second_held : {ns : List Name} {u v : Value} → Chain ns m st (v ∷ u ∷ []) → Holds ns m two v
  second_held {ns} {u} {v} c = subst
      (λ z. Holds ns m z v) (sym p) (record { fine = c.fine.0; stands = node_left c.stands })

  first_held : {ns : List Name} {u v : Value} → Chain ns m st (v ∷ u ∷ []) → Holds ns m one u
  first_held {ns} {u} {v} c = subst
      (λ z. Holds ns m z u) (sym (r ∙ ap (left_of m.words) q))
      (record { fine = c.fine.1.0; stands = node_left (node_right c.stands) })

  pub operate_first : {scratch : List ℕ} {o : Operator} {w : Result Control Refusal} → AsNumber one None →
      Compared m scratch o one two w → OperateSim m scratch o st w
  operate_first n h = record {
    to =
        λ x u v c. h.to x u v (first_held c) (second_held c) (inl (n.is (first_held c)));
  }

  pub operate_second : {scratch : List ℕ} {o : Operator} {w : Result Control Refusal} → AsNumber two None →
      Compared m scratch o one two w → OperateSim m scratch o st w
  operate_second n h = record {
    to =
        λ x u v c. h.to x u v (first_held c) (second_held c) (inr (n.is (second_held c)));
  }

  pub operate_both : {scratch : List ℕ} {o : Operator} {a b : ℤ} {w : Control} → AsNumber one (Some a) →
      AsNumber two (Some b) → Calculates o (to_z w64 (of_z w64 a)) (to_z w64 (of_z w64 b)) w →
      OperateSim m scratch o st (Ok w)
  operate_both {scratch} {o} {a} {b} {w} n n' h = record {
    to = λ x u v c.
        let e : u ≡ v_int a = n.is (first_held c) in
        let e' : v ≡ v_int b = n'.is (second_held c) in
        let f : fits a ≡ true = subst (Fine x.names) e (first_held c).fine in
        let f' : fits b ≡ true = subst (Fine x.names) e' (second_held c).fine in
        subst (λ z. Leads x m w (λ k s. operate_on k s (operator_of o) z v)) (sym e)
        (subst (λ z. Leads x m w (λ k s. operate_on k s (operator_of o) (v_int a) z)) (sym e')
        ((both_back (λ a b. Calculates o a b w) a b (sfits a f) (sfits b f') h).to x m));
  }

  -- a pair of the two
  pub pair_made : {m' : Store} {s : Slot} → Put m m' 16 one two s → Paired m m' st s
  pair_made h = record {
    holds = λ c. record {
      fine = (c.fine.1.0, c.fine.0);
      stands =
          h.stands (omega arith) (first_held c).stands (second_held c).stands;
    };
    count = h.count;
  }

pub pair_by : (m m' : Store) (st : Slot) {one two rest : Slot} (r : Result Slot NoRoom) → two ≡ left_of m.words st →
    rest ≡ right_of m.words st → one ≡ left_of m.words rest →
    MatchResult r (λ s. Put m m' 16 one two s) (λ e. Lacks m m') →
    MatchResult r (λ s. Paired m m' st s) (λ e. length m.words < 6 * (m.used + 1))
pair_by m m' st (Ok s) p q r h = pair_made p q r h
pair_by m m' st (Err e) p q r h = h.short
