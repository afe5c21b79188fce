-- An expression is taken up as the meaning says: the instruction that was read tells which clause of it applies.
use Rattle.std.proofs.Common.{◌≡◌, ℕ, suc, ◌+◌, ◌≤◌, List, [], reverse, length, Ok, Err, Result, sym, ap, ◌∙◌, subst, arith}
use Rattle.meaning.specs.Basics.{Name, opt}
use Rattle.meaning.specs.Syntax.{
  Operation as Done,
  make_tuple,
  make_pair,
  call,
  far_call,
  spawn,
  far_spawn,
  operate,
  built_in,
  Expr,
  Exprs,
  no_e,
  and_e,
}
use Rattle.meaning.specs.Values.{Value}
use Rattle.meaning.specs.System.{Scope, Frame, Worker, System}
use Rattle.meaning.specs.Turns.{Outcome as Means, stuck, gives, operands, evaluate}
use Rattle.meaning.specs.Grammar.{count}
use Rattle.code.specs.Code.{CodeE, CodeEs}
use Rattle.code.specs.Environment.{Chain, LooksUp}
use Rattle.code.specs.Instruction.{
  instruction_at,
  IsConstant,
  number_is,
  atom_is,
  nil_is,
  Constantly,
  InstructionIs,
  constant_is,
  variable_is,
  apply_is,
  case_is,
  receive_is,
  until_is,
  catch_is,
}
use Rattle.code.specs.Trees.{tree_o, nothing}
use Rattle.code.specs.declared.instruction.Instruction.{Instruction}
use Rattle.code.specs.declared.instruction.Instruction.TheVariants.{Constant, Variable, Apply, Case, Receive, ReceiveUntil, Catch}
use Rattle.machine.specs.Frames.{Framing}
use Rattle.machine.specs.Outcomes.{goes_on_is, Reached, Runs}
use Rattle.machine.specs.State.{
  World,
  SiteIs,
  FramesAt,
  operands_at,
  case_at,
  until_at,
  catch_at,
  eval_is,
  give_is,
  enter_is,
  wait_is,
}
use Rattle.machine.specs.Steps.{Answer, OperandsSim, EvaluateSim}
use Rattle.machine.specs.declared.state.Control.TheVariants.{Eval, Give, Enter, Wait}
use Rattle.machine.specs.declared.state.Outcome.{Outcome}
use Rattle.machine.specs.declared.state.Outcome.TheVariants.{GoesOn}
use Rattle.machine.specs.declared.state.Refusal.{Refusal}
use Rattle.machine.specs.declared.state.Refusal.TheVariants.{Full, TooLarge}
use Rattle.machine.specs.declared.state.Site.{Site}
use Rattle.store.specs.Heap.{Store, Den, Kept, Put, left_of}
use Rattle.store.specs.declared.slot.Slot.{Slot}
use Rattle.store.proofs.Laws.{leaf_stands, node_is, node_left, keeps}
use Rattle.code.proofs.Instructions.{leaf_has_kind, instruction_as}
use Rattle.machine.proofs.Standing.{site_kept, placed_case, placed_until, placed_operand}

-- a larger bound is a bound, also from a store with fewer cells in use
pub answer_from : (x : World) (s : System) (me : Worker) (m m₁ m' : Store) (scratch : List ℕ) (a b : ℕ)
    (vs : List Value) (o : Means) (r : Result Outcome Refusal) → m₁.used + a ≤ m.used + b →
    length m₁.words ≡ length m.words → Answer x s me m₁ m' scratch a vs r o →
    Answer x s me m m' scratch b vs r o
answer_from x s me m m₁ m' scratch a b vs o (Ok r) h l d =
    record { outcome = d.outcome; most = omega (arith, h, d.most) }
answer_from x s me m m₁ m' scratch a b vs o (Err Full) h l d = omega (arith, h, l, d)
answer_from x s me m m₁ m' scratch a b vs o (Err TooLarge) h l d = d

-- an operation is no operand
not_operand : (ns : List Name) {code : Store} {s : Slot} (o : Done) (n : ℕ) → Den code s (tree_o ns o n) →
    s.kind ≡ 18 → ⊥
not_operand ns make_tuple n d k = omega (arith, k, leaf_has_kind d)
not_operand ns make_pair n d k = omega (arith, k, leaf_has_kind d)
not_operand ns (call f) n d k = omega (arith, k, leaf_has_kind d)
not_operand ns (far_call m f) n d k = omega (arith, k, node_is d)
not_operand ns (spawn f) n d k = omega (arith, k, leaf_has_kind d)
not_operand ns (far_spawn m f) n d k = omega (arith, k, node_is d)
not_operand ns (operate o) n d k = omega (arith, k, leaf_has_kind d)
not_operand ns (built_in b) n d k = omega (arith, k, leaf_has_kind d)

module _ (x : World) (s : System) (me : Worker) {m : Store} {k : List Frame} {sc : List Name} {f : Slot} {a : Site}
    {w : Scope} (si : SiteIs x m sc a w) (fs : FramesAt x m f k) where
  -- one more operand
  pub operands_more : {code functions : List ℕ} {m₁ m₂ : Store} {q st l v t : Slot} {o : Done} (vs : List Value)
      (es : Exprs) → Runs x code functions → q.kind ≡ 18 →
      CodeEs x.names sc x.code q o (length vs + count es) es → Chain x.names m st (reverse vs) →
      l ≡ left_of code q → Put m m₁ 37 a.env st v → Kept m₁ m₂ → Framing m₁ m₂ 32 q.low a.section v f t →
      Reached x s me m m₂ (3 + length vs) (GoesOn (Eval l a) t) (operands x.program k s me.pid w o vs es)
  operands_more {o = o} vs no_e ru kq c ch e p g h = absurd (not_operand x.names o (length vs + 0) c.stands kq)
  operands_more {code} {functions} {m₁} {m₂} {q} {st} {l} {v} {t} {o} vs (and_e d es) ru kq c ch e p g h =
      let n : length vs + count (and_e d es) ≡ length vs + suc (count es) = omega arith in
      let c' : CodeEs x.names sc x.code q o (length vs + suc (count es)) (and_e d es) =
      subst (λ z. CodeEs x.names sc x.code q o z (and_e d es)) n c in
      let le : l ≡ left_of x.code.words q = e ∙ ap (λ z. left_of z q) (sym ru.code_is) in
      let ce : CodeE x.names sc x.code l d =
      subst (λ z. CodeE x.names sc x.code z d) (sym le)
      (record { stands = node_left c.stands; fine = c.fine.0 }) in
      record {
        outcome = goes_on_is (eval_is sc ce (site_kept g (site_kept p.kept si)))
            (record {
              tree = _;
              stands = h.stands (omega arith)
                  (p.stands (omega arith) si.env.holds.stands ch.stands) (keeps p.kept fs.stands);
              are =
                  operands_at sc si.env.values vs (placed_operand x c')
                  (record { sited = si.sited; fine = si.env.holds.fine; binds = si.env.binds }) ch.fine
                  fs.are;
            });
        most = omega (arith, p.count, h.count);
      }

  constantly : {p : Slot} {e : Expr} {v : Value} → IsConstant e v → Constantly x.names p v →
      Reached x s me m m 3 (GoesOn (Give p) f) (evaluate x.program k s me.pid e w)
  constantly number_is h = record { outcome = goes_on_is (give_is _ h.holds) fs; most = omega arith }
  constantly atom_is h = record { outcome = goes_on_is (give_is _ h.holds) fs; most = omega arith }
  constantly nil_is h = record { outcome = goes_on_is (give_is _ h.holds) fs; most = omega arith }

  pub evaluate_constant : {p : Slot} {e : Expr} → InstructionIs x.names sc x.code p Constant e →
      Reached x s me m m 3 (GoesOn (Give p) f) (evaluate x.program k s me.pid e w)
  evaluate_constant (constant_is v i h) = constantly i h

  pub evaluate_variable : {p r : Slot} {i : ℕ} {e : Expr} → InstructionIs x.names sc x.code p (Variable i) e →
      LooksUp m.words a.env i r →
      Reached x s me m m 3 (GoesOn (Give r) f) (evaluate x.program k s me.pid e w)
  evaluate_variable {r = r} (variable_is {y = y} q kn) l =
      let o = l.is y si.env kn q in
      subst (λ z. Reached x s me m m 3 (GoesOn (Give r) f) (opt z stuck (gives k s))) (sym o.1)
      (record { outcome = goes_on_is (give_is o.0 o.2) fs; most = omega arith })

  pub evaluate_apply : {code functions scratch : List ℕ} {m' : Store} {pid : ℕ} {p : Slot} {e : Expr}
      (r : Result Outcome Refusal) → InstructionIs x.names sc x.code p Apply e → Runs x code functions →
      me.pid ≡ pid → OperandsSim code functions m m' scratch pid p (record { kind = 2; low = 0; high = 0 }) a f r →
      Answer x s me m m' scratch 3 [] r (evaluate x.program k s me.pid e w)
  evaluate_apply {p = p} r (apply_is {o = o} {es = es} c) ru q h =
      let z : 0 + count es ≡ count es = omega arith in
      h.to x s me k sc o [] es w ru q (subst (λ n. CodeEs x.names sc x.code p o n es) (sym z) c)
      (record { fine = tt; stands = leaf_stands 2 0 0 (omega arith) }) si fs

  pub evaluate_case : {m' : Store} {p q t : Slot} {e : Expr} → InstructionIs x.names sc x.code p (Case q) e →
      Kept m m' → Framing m m' 34 p.low a.section a.env f t →
      Reached x s me m m' 3 (GoesOn (Eval q a) t) (evaluate x.program k s me.pid e w)
  evaluate_case (case_is ce c) g h = record {
    outcome = goes_on_is (eval_is sc ce (site_kept g si))
        (record {
          tree = _;
          stands = h.stands (omega arith) si.env.holds.stands fs.stands;
          are =
              case_at sc si.env.values (placed_case x c)
              (record { sited = si.sited; fine = si.env.holds.fine; binds = si.env.binds }) fs.are;
        });
    most = omega (arith, h.count);
  }

  pub evaluate_until : {m' : Store} {p q t : Slot} {e : Expr} →
      InstructionIs x.names sc x.code p (ReceiveUntil q) e → Kept m m' →
      Framing m m' 35 p.low a.section a.env f t →
      Reached x s me m m' 3 (GoesOn (Eval q a) t) (evaluate x.program k s me.pid e w)
  evaluate_until (until_is ce c) g h = record {
    outcome = goes_on_is (eval_is sc ce (site_kept g si))
        (record {
          tree = _;
          stands = h.stands (omega arith) si.env.holds.stands fs.stands;
          are =
              until_at sc si.env.values (placed_until x c)
              (record { sited = si.sited; fine = si.env.holds.fine; binds = si.env.binds }) fs.are;
        });
    most = omega (arith, h.count);
  }

  pub evaluate_receive : {p : Slot} {e : Expr} → InstructionIs x.names sc x.code p Receive e →
      Reached x s me m m 3 (GoesOn (Wait p a) f) (evaluate x.program k s me.pid e w)
  evaluate_receive (receive_is c) = record { outcome = goes_on_is (wait_is sc c si) fs; most = omega arith }

  pub evaluate_catch : {m' : Store} {p q t : Slot} {e : Expr} → InstructionIs x.names sc x.code p (Catch q) e →
      Put m m' 36 (record { kind = 2; low = 0; high = 0 }) f t →
      Reached x s me m m' 3 (GoesOn (Enter q a) t) (evaluate x.program k s me.pid e w)
  evaluate_catch (catch_is c) h = record {
    outcome = goes_on_is (enter_is sc c (site_kept h.kept si))
        (record {
          tree = _;
          stands = h.stands {s = nothing} (omega arith) (leaf_stands 2 0 0 (omega arith))
              fs.stands;
          are = catch_at fs.are;
        });
    most = omega (arith, h.count);
  }

-- the instruction that the decoder gives
pub instruction_in : {x : World} {code functions : List ℕ} {sc : List Name} {p : Slot} {e : Expr} {r : Instruction} →
    Runs x code functions → r ≡ instruction_at code p → CodeE x.names sc x.code p e →
    InstructionIs x.names sc x.code p r e
instruction_in {p = p} q i c = instruction_as (i ∙ ap (λ z. instruction_at z p) (sym q.code_is)) c

-- whatever the expression is that has the instruction read
pub evaluated : {code functions scratch : List ℕ} {m m' : Store} {pid : ℕ} {p f : Slot} {a : Site}
    {r : Result Outcome Refusal} {i : Instruction} → i ≡ instruction_at code p →
    ((x : World) (s : System) (me : Worker) (k : List Frame) (sc : List Name) (e : Expr) (w : Scope) →
    Runs x code functions → me.pid ≡ pid → SiteIs x m sc a w → FramesAt x m f k →
    InstructionIs x.names sc x.code p i e →
    Answer x s me m m' scratch 3 [] r (evaluate x.program k s me.pid e w)) →
    EvaluateSim code functions m m' scratch pid p a f r
evaluated h step =
    record { to = λ x s me k sc e w q pid_is ce si fs. step x s me k sc e w q pid_is si fs (instruction_in q h ce) }
