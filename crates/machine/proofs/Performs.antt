-- An operation does what the meaning says: a tuple is the operands turned round, a call's operands are the environment of
-- the function's body, and what concerns others is asked for.
use Rattle.std.proofs.Common.{◌≡◌, ℕ, ◌+◌, ◌^◌, ◌<◌, ◌⊎◌, List, [], ◌∷◌, reverse, length, Some, None, Ok, Err, Option, Result, IsErrAnd, sym, refl, ap, ◌∙◌, subst, inl, inr, arith}
use mathlib.Core.List.{reverse-reverse}
use mathlib.Core.Option.{Option as Maybe, some}
use lib.ListN.{length-reverse}
use Rattle.meaning.specs.Basics.{Name, on_some}
use Rattle.meaning.specs.Atoms.{a_undef}
use Rattle.meaning.specs.Syntax.{Function, Operation as Done}
use Rattle.meaning.specs.Values.{Value, v_tuple, v_pid, tuple}
use Rattle.meaning.specs.System.{Scope, Control as Meant, enter, Frame, Worker, System, functions_of, function_of}
use Rattle.meaning.specs.Turns.{enter_function, call_code, spawn_code, call_builtin, bind_params, perform}
use Rattle.code.specs.Environment.{FineValues, Chain}
use Rattle.code.specs.Fine.{FineO}
use Rattle.code.specs.Function.{Finds, FunctionIs, no_function_is, function_is}
use Rattle.code.specs.Operation.{
  builtin_of,
  operation_at,
  OperationIs,
  make_tuple_is,
  make_pair_is,
  call_is,
  spawn_is,
  far_call_is,
  far_spawn_is,
  operate_is,
  built_in_is,
}
use Rattle.code.specs.Trees.{tree_o}
use Rattle.code.specs.Turning.{Turned}
use Rattle.code.specs.declared.operation.Builtin.{Builtin}
use Rattle.code.specs.declared.operation.Builtin.TheVariants.{Itself, Exit}
use Rattle.code.specs.declared.operation.Far.{Far}
use Rattle.code.specs.declared.operation.Operation.{Operation}
use Rattle.code.specs.declared.operation.Operation.TheVariants.{
  MakeTuple,
  MakePair,
  Call,
  Spawn,
  FarCall,
  FarSpawn,
  Operate,
  BuiltIn,
  Unknown,
}
use Rattle.code.specs.declared.operation.Operator.{Operator}
use Rattle.machine.specs.Operators.{OperateSim, Paired}
use Rattle.machine.specs.Outcomes.{OutcomeIs, goes_on_is, spawns_is, asks_is, calls_is, spawns_far_is, Reached, Runs}
use Rattle.machine.specs.Performing.{Enters, no_entry, entry, entered, EnterSim, AskSim, PerformSim}
use Rattle.machine.specs.State.{World, Sited, FramesAt, give_is, enter_is, fail_is}
use Rattle.machine.specs.Steps.{Refused, Answer}
use Rattle.machine.specs.declared.state.Control.{Control}
use Rattle.machine.specs.declared.state.Control.TheVariants.{Give, Fail}
use Rattle.machine.specs.declared.state.Outcome.{Outcome}
use Rattle.machine.specs.declared.state.Outcome.TheVariants.{GoesOn, Spawns, Asks, Calls, SpawnsFar}
use Rattle.machine.specs.declared.state.Refusal.{Refusal}
use Rattle.machine.specs.declared.state.Refusal.TheVariants.{Full, TooLarge}
use Rattle.store.specs.Heap.{Store, Den, Kept, left_of, right_of}
use Rattle.store.specs.Tree.{leaf, node}
use Rattle.store.specs.declared.slot.Slot.{Slot}
use Rattle.values.specs.Encoding.{index_of, Known, Holds, tree_v, tree_vs, Fines}
use Rattle.values.specs.Shape.{Stands}
use Rattle.values.specs.Space.{chain}
use Rattle.values.specs.declared.value.Value.TheVariants.{Worker as Pid}
use Rattle.store.proofs.Laws.{leaf_stands, node_is, node_left, node_right}
use Rattle.code.proofs.Operations.{operation_as}
use Rattle.code.proofs.Functions.{functions_at}
use Rattle.code.proofs.Turning.{fine_reverse}
use Rattle.code.proofs.Variables.{operands_bind}
use Rattle.machine.proofs.Standing.{frames_kept}
use Rattle.machine.proofs.Stepping.{atom_holds}

-- the operands, turned round before the empty tuple, are the tuple
tuple_is : (ns : List Name) (vs : List Value) → chain ns 17 (leaf 4 0 0) vs ≡ tree_vs ns (tuple vs)
tuple_is ns [] = refl
tuple_is ns (v ∷ vs) = ap (node 17 (tree_v ns v)) (tuple_is ns vs)

tuple_fine : (ns : List Name) (vs : List Value) → FineValues ns vs → Fines ns (tuple vs)
tuple_fine ns [] f = tt
tuple_fine ns (v ∷ vs) f = (f.0, tuple_fine ns vs f.1)

turned_tuple : {ns : List Name} {m m' : Store} {st r : Slot} (vs : List Value) →
    Turned 17 m m' st (record { kind = 4; low = 0; high = 0 }) r → Chain ns m st (reverse vs) →
    Holds ns m' r (v_tuple (tuple vs))
turned_tuple {ns} {m'} {r} vs t ch = record {
  fine = tuple_fine ns vs (subst (FineValues ns) (reverse-reverse vs) (fine_reverse ns (reverse vs) ch.fine));
  stands = subst (λ z. Den m' r z) (ap (chain ns 17 (leaf 4 0 0)) (reverse-reverse vs) ∙ tuple_is ns vs)
      (t.stands (omega arith) ch (leaf_stands 4 0 0 (omega arith)));
}

-- a function's body
found_in : {code functions : List ℕ} {n i c : ℕ} {r : Option Slot} (x : World) (y : Name) (w : Scope) →
    Finds code functions n i c r → Runs x code functions → (sw : Sited x.program n w) → Known x.names y →
    i ≡ index_of x.names y → FunctionIs x.names x.code c r (function_of sw.at_work.functions y c)
found_in {code} {functions} {n} {i} {c} {r} x y w f q sw kn ix =
    let h : Finds x.code.words x.functions n i c r =
    subst (λ z. Finds x.code.words z n i c r) (sym q.functions_is)
    (subst (λ z. Finds z functions n i c r) (sym q.code_is) f) in
    h.is y x.stands sw.there kn ix

functions_here : {n : ℕ} (x : World) (w : Scope) (sw : Sited x.program n w) →
    functions_of x.program w.home w.version ≡ some sw.at_work.functions
functions_here {n} x w sw =
    subst (λ h. functions_of x.program h w.version ≡ some sw.at_work.functions) (sym sw.home)
    (subst (λ v. functions_of x.program sw.at_work.name v ≡ some sw.at_work.functions) (sym sw.version)
    (functions_at x.program n sw.there))

enters : {m : Store} {n c : ℕ} {st : Slot} {r : Option Slot} {o : Maybe Function} (x : World) (vs : List Value)
    (w : Scope) → Sited x.program n w → c ≡ length vs → Chain x.names m st (reverse vs) →
    FunctionIs x.names x.code c r o →
    Enters x m (entered st n r) (on_some o
    (λ fn. some (enter fn.body (record {
      vars = bind_params fn.params vs;
      home = w.home;
      version =
          w.version;
    }))))
enters x vs w sw ct ch no_function_is = no_entry
enters x vs w sw ct ch (function_is {f = f} len diff cb) = entry (enter_is (reverse f.params) cb (record {
  env = record { values = reverse vs; holds = ch; binds = operands_bind f.params vs diff (sym ct ∙ sym len) };
  sited = record { at_work = sw.at_work; there = sw.there; home = sw.home; version = sw.version };
}))

pub enter_as : {code functions : List ℕ} {n i c : ℕ} {st : Slot} {r : Option Slot} {e : Option Control} →
    e ≡ entered st n r → Finds code functions n i c r → EnterSim code functions n i c st e
enter_as {code} {functions} {n} {i} {c} {st} {r} {e} q f = record {
  to = λ x {m} y vs w ru sw kn ix ct ch.
      let o = enters x vs w sw ct ch (found_in x y w f ru sw kn ix) in
      let fits = ap (λ fs. on_some fs
      (λ gs. on_some (function_of gs y (length vs))
      (λ fn. some (enter fn.body (record {
        vars = bind_params fn.params vs;
        home = w.home;
        version =
            w.version;
      }))))) (functions_here x w sw) in
      subst (λ z. Enters x m z (enter_function x.program w.home w.version y vs)) (sym q)
      (subst (Enters x m (entered st n r)) (sym fits)
      (subst (λ j. Enters x m (entered st n r) (on_some (function_of sw.at_work.functions y j)
      (λ fn. some (enter fn.body (record {
        vars = bind_params fn.params vs;
        home = w.home;
        version =
            w.version;
      }))))) ct o));
}

-- built-in functions
pub ask_asks : {m : Store} {pid : ℕ} {b : Builtin} {st f : Slot} → AskSim m pid b st f (Asks b st f)
ask_asks = record { to = λ x s me k vs p t ch fs. asks_is vs t ch fs }

pub ask_self : {m : Store} {pid : ℕ} {b : Builtin} {st f r : Slot} → b ≡ Itself → pid < 2 ^ 64 →
    Stands (Pid (record { 0 = pid })) r → AskSim m pid b st f (GoesOn (Give r) f)
ask_self {m} {pid} {b} {st} {f} {r} e h sd =
    subst (λ z. AskSim m pid z st f (GoesOn (Give r) f)) (sym e)
    (record { to = λ x s me k vs p t ch fs. go x s me k vs p t fs })
  where
    go : (x : World) (s : System) (me : Worker) (k : List Frame) (vs : List Value) → me.pid ≡ pid → length vs ≡ 0 →
        FramesAt x m f k → OutcomeIs x s me m (GoesOn (Give r) f)
        (call_builtin x.program k s me.pid (builtin_of Itself) vs)
    go x s me k [] p t fs = goes_on_is
        (give_is (v_pid me.pid) (sd.value {m = m} (omega (arith, p, h)) (ap v_pid p))) fs
    go x s me k (v ∷ vs) p t fs = absurd (omega arith)

pub ask_exit : {m : Store} {pid : ℕ} {b : Builtin} {st f next v : Slot} → b ≡ Exit → next ≡ right_of m.words st →
    (next.kind ≡ 31 → ⊥) → v ≡ left_of m.words st → AskSim m pid b st f (GoesOn (Fail v) f)
ask_exit {m} {pid} {b} {st} {f} {next} {v} e q nk l =
    subst (λ z. AskSim m pid z st f (GoesOn (Fail v) f)) (sym e)
    (record { to = λ x s me k vs p t ch fs. go x s me k vs t ch fs })
  where
    go : (x : World) (s : System) (me : Worker) (k : List Frame) (vs : List Value) →
        (length vs ≡ 1) ⊎ (length vs ≡ 2) → Chain x.names m st (reverse vs) → FramesAt x m f k →
        OutcomeIs x s me m (GoesOn (Fail v) f) (call_builtin x.program k s me.pid (builtin_of Exit) vs)
    go x s me k [] (inl t) ch fs = absurd (omega arith)
    go x s me k [] (inr t) ch fs = absurd (omega arith)
    go x s me k (u ∷ []) t ch fs = goes_on_is
        (fail_is u (subst (λ z. Holds x.names m z u) (sym l)
        (record { fine = ch.fine.0; stands = node_left ch.stands }))) fs
    go x s me k (u ∷ u' ∷ []) t ch fs = absurd (nk (ap (λ (z : Slot). z.kind) q ∙ node_is (node_right ch.stands)))
    go x s me k (u ∷ u' ∷ u'' ∷ us) (inl t) ch fs = absurd (omega arith)
    go x s me k (u ∷ u' ∷ u'' ∷ us) (inr t) ch fs = absurd (omega arith)

-- the operation that the decoder gives
pub operation_in : {x : World} {code functions : List ℕ} {s : Slot} {n : ℕ} {o : Done} {r : Operation} →
    Runs x code functions → r ≡ operation_at code s → FineO x.names o n → Den x.code s (tree_o x.names o n) →
    OperationIs x.names r o n
operation_in {s = s} q e f d = operation_as (e ∙ ap (λ z. operation_at z s) (sym q.code_is)) f d

-- each operation
module _ (x : World) (s : System) (me : Worker) {m : Store} {k : List Frame} (w : Scope) {f : Slot}
    (fs : FramesAt x m f k) where
  pub perform-tuple : {st : Slot} {m' : Store} {r : Slot} {o : Done} (vs : List Value) →
      OperationIs x.names MakeTuple o (length vs) → Chain x.names m st (reverse vs) → Kept m m' →
      Turned 17 m m' st (record { kind = 4; low = 0; high = 0 }) r → Reached x s me m m' (1 + length vs) (GoesOn (Give r) f)
      (perform x.program k s me.pid w o vs)
  perform-tuple vs make_tuple_is ch g t =
      record {
        outcome = goes_on_is (give_is _ (turned_tuple vs t ch)) (frames_kept g fs);
        most =
            omega (arith, t.count ch, length-reverse vs);
      }

  pub perform-pair : {st : Slot} {m' : Store} {r : Slot} {o : Done} (vs : List Value) →
      OperationIs x.names MakePair o (length vs) → Chain x.names m st (reverse vs) → Kept m m' →
      Paired m m' st r → Reached x s me m m' (1 + length vs) (GoesOn (Give r) f)
      (perform x.program k s me.pid w o vs)
  perform-pair [] (make_pair_is e) ch g t = absurd (omega (arith, e))
  perform-pair (u ∷ []) (make_pair_is e) ch g t = absurd (omega (arith, e))
  perform-pair (u ∷ v ∷ []) (make_pair_is e) ch g t =
      record { outcome = goes_on_is (give_is _ (t.holds ch)) (frames_kept g fs); most = omega (arith, t.count) }
  perform-pair (u ∷ v ∷ v' ∷ vs) (make_pair_is e) ch g t = absurd (omega (arith, e))

  called : {c : Control} {o : Maybe Meant} (j : ℕ) → Enters x m (Some c) o →
      Reached x s me m m j (GoesOn c f) (call_code k s o)
  called j (entry h) = record { outcome = goes_on_is h fs; most = omega arith }

  not_called : {o : Maybe Meant} (j : ℕ) → Enters x m None o →
      Reached x s me m m j (GoesOn (Fail (record { kind = 1; low = 5; high = 0 })) f) (call_code k s o)
  not_called j no_entry = record {
    outcome =
        goes_on_is (fail_is _ (atom_holds x a_undef 5 x.atoms.undef_at (omega arith))) fs;
    most = omega arith;
  }

  spawned : {c : Control} {o : Maybe Meant} (j : ℕ) → Enters x m (Some c) o →
      Reached x s me m m j (Spawns c f) (spawn_code k s o)
  spawned j (entry h) = record { outcome = spawns_is h fs; most = omega arith }

  not_spawned : {o : Maybe Meant} (j : ℕ) → Enters x m None o →
      Reached x s me m m j (GoesOn (Fail (record { kind = 1; low = 5; high = 0 })) f) (spawn_code k s o)
  not_spawned j no_entry = record {
    outcome =
        goes_on_is (fail_is _ (atom_holds x a_undef 5 x.atoms.undef_at (omega arith))) fs;
    most = omega arith;
  }

  module _ {code functions : List ℕ} {n : ℕ} (q : Runs x code functions) (sw : Sited x.program n w) where
    pub perform_call : {st : Slot} {i c : ℕ} {b : Control} {o : Done} (vs : List Value) →
        OperationIs x.names (Call (record { 0 = i }) c) o (length vs) → Chain x.names m st (reverse vs) →
        EnterSim code functions n i c st (Some b) →
        Reached x s me m m (1 + length vs) (GoesOn b f) (perform x.program k s me.pid w o vs)
    perform_call vs (call_is {y = y} fi kn ct) ch h = called _ (h.to x y vs w q sw kn fi ct ch)

    pub perform_no_call : {st : Slot} {i c : ℕ} {o : Done} (vs : List Value) →
        OperationIs x.names (Call (record { 0 = i }) c) o (length vs) → Chain x.names m st (reverse vs) →
        EnterSim code functions n i c st None →
        Reached x s me m m (1 + length vs) (GoesOn (Fail (record { kind = 1; low = 5; high = 0 })) f)
        (perform x.program k s me.pid w o vs)
    perform_no_call vs (call_is {y = y} fi kn ct) ch h = not_called _ (h.to x y vs w q sw kn fi ct ch)

    pub perform_spawn : {st : Slot} {i c : ℕ} {b : Control} {o : Done} (vs : List Value) →
        OperationIs x.names (Spawn (record { 0 = i }) c) o (length vs) → Chain x.names m st (reverse vs) →
        EnterSim code functions n i c st (Some b) →
        Reached x s me m m (1 + length vs) (Spawns b f) (perform x.program k s me.pid w o vs)
    perform_spawn vs (spawn_is {y = y} fi kn ct) ch h = spawned _ (h.to x y vs w q sw kn fi ct ch)

    pub perform_no_spawn : {st : Slot} {i c : ℕ} {o : Done} (vs : List Value) →
        OperationIs x.names (Spawn (record { 0 = i }) c) o (length vs) → Chain x.names m st (reverse vs) →
        EnterSim code functions n i c st None →
        Reached x s me m m (1 + length vs) (GoesOn (Fail (record { kind = 1; low = 5; high = 0 })) f)
        (perform x.program k s me.pid w o vs)
    perform_no_spawn vs (spawn_is {y = y} fi kn ct) ch h = not_spawned _ (h.to x y vs w q sw kn fi ct ch)

  pub perform_far_call : {st : Slot} {h : Far} {o : Done} (vs : List Value) →
      OperationIs x.names (FarCall h) o (length vs) → Chain x.names m st (reverse vs) →
      Reached x s me m m (1 + length vs) (Calls h st f) (perform x.program k s me.pid w o vs)
  perform_far_call vs (far_call_is fa) ch = record { outcome = calls_is vs fa ch fs; most = omega arith }

  pub perform_far_spawn : {st : Slot} {h : Far} {o : Done} (vs : List Value) →
      OperationIs x.names (FarSpawn h) o (length vs) → Chain x.names m st (reverse vs) →
      Reached x s me m m (1 + length vs) (SpawnsFar h st f) (perform x.program k s me.pid w o vs)
  perform_far_spawn vs (far_spawn_is fa) ch = record { outcome = spawns_far_is vs fa ch fs; most = omega arith }

  pub perform_operate : {st : Slot} {scratch : List ℕ} {p : Operator} {c : Control} {o : Done} (vs : List Value) →
      OperationIs x.names (Operate p) o (length vs) → Chain x.names m st (reverse vs) →
      OperateSim m scratch p st (Ok c) →
      Reached x s me m m (1 + length vs) (GoesOn c f) (perform x.program k s me.pid w o vs)
  perform_operate [] (operate_is p e) ch h = absurd (omega (arith, e))
  perform_operate (u ∷ []) (operate_is p e) ch h = absurd (omega (arith, e))
  perform_operate {c = c} (u ∷ v ∷ []) (operate_is p e) ch h =
      let l = h.to x u v ch in
      subst (λ z. Reached x s me m m 3 (GoesOn c f) z) (sym (l.is k s))
      (record { outcome = goes_on_is l.stands fs; most = omega arith })
  perform_operate (u ∷ v ∷ v' ∷ vs) (operate_is p e) ch h = absurd (omega (arith, e))

  large : {st : Slot} {scratch : List ℕ} {p : Operator} {o : Done} (e : Refusal) (vs : List Value) →
      OperationIs x.names (Operate p) o (length vs) → Chain x.names m st (reverse vs) →
      OperateSim m scratch p st (Err e) → Refused x m scratch (1 + length vs) vs e
  large e [] (operate_is p q) ch h = absurd (omega (arith, q))
  large e (u ∷ []) (operate_is p q) ch h = absurd (omega (arith, q))
  large Full (u ∷ v ∷ []) (operate_is p q) ch h = absurd (h.to x u v ch)
  large TooLarge (u ∷ v ∷ []) (operate_is p q) ch h = h.to x u v ch
  large e (u ∷ v ∷ v' ∷ vs) (operate_is p q) ch h = absurd (omega (arith, q))

  pub perform_large : {st : Slot} {scratch : List ℕ} {p : Operator} {e : Refusal} {o : Done}
      (r : Result Outcome Refusal) → IsErrAnd r (λ z. z ≡ e) → (vs : List Value) →
      OperationIs x.names (Operate p) o (length vs) → Chain x.names m st (reverse vs) →
      OperateSim m scratch p st (Err e) →
      Answer x s me m m scratch (1 + length vs) vs r (perform x.program k s me.pid w o vs)
  perform_large (Ok r) i vs j ch h = absurd i
  perform_large {scratch = scratch} (Err r) i vs j ch h =
      subst (Refused x m scratch (1 + length vs) vs) (sym i) (large _ vs j ch h)

  pub perform-ask : {st : Slot} {b : Builtin} {pid : ℕ} {r : Outcome} {o : Done} (vs : List Value) →
      OperationIs x.names (BuiltIn b) o (length vs) → me.pid ≡ pid → Chain x.names m st (reverse vs) →
      AskSim m pid b st f r → Reached x s me m m (1 + length vs) r (perform x.program k s me.pid w o vs)
  perform-ask vs (built_in_is b t) p ch h = record { outcome = h.to x s me k vs p t ch fs; most = omega arith }

pub perform_unknown : {ns : List Name} {A : Type 0} {o : Done} {n : ℕ} → OperationIs ns Unknown o n → A
perform_unknown i = elim i [ ]

-- whatever the operation is that was read
pub performed : {code functions scratch : List ℕ} {m m' : Store} {pid n : ℕ} {p st f : Slot}
    {r : Result Outcome Refusal} {i : Operation} → i ≡ operation_at code p →
    ((x : World) (s : System) (me : Worker) (k : List Frame) (o : Done) (vs : List Value) (w : Scope) →
    Runs x code functions → me.pid ≡ pid → Sited x.program n w → Chain x.names m st (reverse vs) →
    FramesAt x m f k → OperationIs x.names i o (length vs) →
    Answer x s me m m' scratch (1 + length vs) vs r (perform x.program k s me.pid w o vs)) →
    PerformSim code functions m m' scratch pid p st n f r
performed h step = record {
  to = λ x s me k o vs w q pid_is d fine ch sw fs. step x s me k o vs w q pid_is sw ch fs (operation_in q h fine d);
}
