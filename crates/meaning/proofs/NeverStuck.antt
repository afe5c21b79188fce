-- No program that is read comes to where nothing is meant: every move keeps all controls and frames good, that is,
-- their names are bound and their operations have as many operands as they take; and what is good is never stuck.
use mathlib.Core.Path.{◌≡◌, sym, subst}
use mathlib.Core.List.{List, [], ◌∷◌, ◌++◌}
use mathlib.Core.Option.{some, none}
use Prim.Native.Nat.{ℕ, ◌+◌}
use native.Mathlib.Omega.{arith}
use lib.ListN.{length, length-append}
use lib.IntN.{ℤ, pos, negsuc}
use lib.Dec.{leb}
use Rattle.meaning.specs.Basics.{Name}
use Rattle.meaning.specs.Atoms.{a_type, a_match, a_clause, a_main}
use Rattle.meaning.specs.Syntax.{Operation, Expr, int, atom, var, nil, apply, case, receive, receive_until, catch}
use Rattle.meaning.specs.Syntax.{Exprs, no_e, and_e, Body, last, bind, Clauses, Function, Program}
use Rattle.meaning.specs.Values.{Value, as_int, look_up, match}
use Rattle.meaning.specs.System.{Scope, Until, for_ever, until, Control, eval, give, enter, fail, wait, Frame}
use Rattle.meaning.specs.System.{operands_frame, bind_frame, case_frame, until_frame, catch_frame, Worker, System}
use Rattle.meaning.specs.System.{on_worker, set_mail, gone, Apart, swapped, with_signals}
use Rattle.meaning.specs.Turns.{Outcome, goes_on, stuck, error, gives, Chosen, Taken, choose, take_first, rebind}
use Rattle.meaning.specs.Turns.{enter_function, perform, operands, evaluate, begin_body, wait_until, resume, unwind}
use Rattle.meaning.specs.Turns.{timed_out, turn_with}
use Rattle.meaning.specs.Moves.{begin, moves, Move, turn, signal, tick, settle, move, first_name}
use Rattle.meaning.specs.Bound.{bound_by}
use Rattle.meaning.specs.Grammar.{count}
use Rattle.meaning.specs.Promise.{Reached, NeverStuck}
use Rattle.meaning.specs.Effects.{From, own, other, took, Turned, turn_goes, turn_ends, turn_swaps, turn_swapped_out}
use Rattle.meaning.specs.Effects.{turn_stuck}
use Rattle.std.proofs.lemmas.Bool.{cond_both}
use Rattle.meaning.proofs.Splits.{opt_all, OnSome}
use Rattle.meaning.proofs.Effects.{Arity, perform_view, entered_is}
use Rattle.meaning.proofs.Links.{Sound, move-sound, first_sound}
use Rattle.meaning.proofs.OwnCode.{AsBeforeOrNew, EveryWorker, within_every, settle_every, Onward, act_onward}
use Rattle.meaning.proofs.OwnCode.{effect_code, all_as_before, signal_every}
use Rattle.meaning.proofs.Finding.{gone-within, find_only}
use Rattle.meaning.proofs.Results.{OnResult, moves_all, turn_all, tick_all, at_first, begin_all, on_both}
use Rattle.meaning.proofs.Results.{first_worker, deliver_all}
use Rattle.meaning.proofs.Swapping.{swapped-within}
use Rattle.meaning.proofs.GoodPrograms.{reads_good, names_of_params, match-names, GoodFunctions, GoodExprs}
use Rattle.meaning.proofs.GoodPrograms.{choose_good, take_first_good, GoodProgram, listed_found, names_of}
use Rattle.meaning.proofs.GoodPrograms.{function_of_good, GoodExpr, GoodBody, functions_of_good, GoodClauses}

-- controls and frames that are good under the names that their scopes bind
abbrev pub GoodUntil : List Name → Until → Type 0
GoodUntil ys for_ever = Unit {0}
GoodUntil ys (until t b) = GoodBody ys b

abbrev pub GoodControl : Control → Type 0
GoodControl (eval e w) = GoodExpr (names_of w.vars) e
GoodControl (give v) = Unit {0}
GoodControl (enter b w) = GoodBody (names_of w.vars) b
GoodControl (fail v) = Unit {0}
GoodControl (wait cs u w) = GoodClauses (names_of w.vars) cs × GoodUntil (names_of w.vars) u

abbrev pub GoodFrame : Frame → Type 0
GoodFrame (operands_frame j vs es w) = Arity j (length vs + (1 + count es)) × GoodExprs (names_of w.vars) es
GoodFrame (bind_frame p b w) = GoodBody (bound_by p (names_of w.vars)) b
GoodFrame (case_frame cs w) = GoodClauses (names_of w.vars) cs
GoodFrame (until_frame cs b w) = GoodClauses (names_of w.vars) cs × GoodBody (names_of w.vars) b
GoodFrame catch_frame = Unit {0}

abbrev pub GoodFrames : List Frame → Type 0
GoodFrames [] = Unit {0}
GoodFrames (f ∷ k) = GoodFrame f × GoodFrames k

pub entered_good : (g : Program) (m : Name) (n : ℕ) (f : Name) (vs : List Value) (c : Control) → GoodProgram g →
    enter_function g m n f vs ≡ some c → GoodControl c
entered_good g m n f vs c h e =
    let r = entered_is g m n f vs c e in
    let fs = subst (OnSome GoodFunctions) r.2 (functions_of_good g m n h) in
    let fn = subst (OnSome (λ (f : Function). GoodBody f.params f.body × (length f.params ≡ length vs)))
    r.3 (function_of_good r.0 f (length vs) fs) in
    subst GoodControl r.4 (
    subst (λ (ys : List Name). GoodBody ys r.1.body) (sym (names_of_params r.1.params vs fn.1)) fn.0)

module _ (g : Program) (gd : GoodProgram g) (s : System) (u : Apart s.workers) where
  abbrev Meant : Outcome → Type 0
  Meant o = Onward GoodControl GoodFrames ⊥ s o

  unchanged : AsBeforeOrNew GoodControl s s
  unchanged = all_as_before GoodControl s

  from_good : (w : Scope) (c : Control) → From g s w c → GoodControl c
  from_good w c (own f vs e) = entered_good g w.home w.version f vs c gd e
  from_good w c (other m n f vs e d) = entered_good g m n f vs c gd d

  operands_meant : (k : List Frame) (me : ℕ) (w : Scope) (j : Operation) (vs : List Value) (es : Exprs) →
      GoodFrames k → Arity j (length vs + count es) → GoodExprs (names_of w.vars) es →
      Meant (operands g k s me w j vs es)
  operands_meant k me w j vs no_e h a q =
      act_onward GoodControl GoodFrames ⊥ g k s me w j (length vs) (perform g k s me w j vs) (λ v. tt)
      (λ v. tt) (from_good w) h (λ z. z (let e : length vs + 0 ≡ length vs = omega arith in subst (Arity j) e a)) u
      (perform_view g k s me w j vs)
  operands_meant k me w j vs (and_e e es) h a q = (q.0, ((a, q.1), h), unchanged)

  evaluate_meant : (k : List Frame) (me : ℕ) (e : Expr) (w : Scope) → GoodFrames k →
      GoodExpr (names_of w.vars) e → Meant (evaluate g k s me e w)
  evaluate_meant k me (int n) w h q = (tt, h, unchanged)
  evaluate_meant k me (atom x) w h q = (tt, h, unchanged)
  evaluate_meant k me (var x) w h q = opt_all Meant (look_up w.vars x) stuck (gives k s)
      (λ e. listed_found w.vars x q e) (λ v e. (tt, h, unchanged))
  evaluate_meant k me nil w h q = (tt, h, unchanged)
  evaluate_meant k me (apply j es) w h q =
      operands_meant k me w j [] es h (let e : count es ≡ 0 + count es = omega arith in subst (Arity j) e q.0)
      q.1
  evaluate_meant k me (case e cs) w h q = (q.0, (q.1, h), unchanged)
  evaluate_meant k me (receive cs) w h q = ((q, tt), h, unchanged)
  evaluate_meant k me (receive_until cs e b) w h q = (q.1, ((q.0, q.2), h), unchanged)
  evaluate_meant k me (catch b) w h q = (q, (tt, h), unchanged)

  body_meant : (k : List Frame) (b : Body) (w : Scope) → GoodFrames k → GoodBody (names_of w.vars) b →
      Meant (begin_body k s b w)
  body_meant k (last e) w h q = (q, h, unchanged)
  body_meant k (bind p e b) w h q = (q.0, (q.1, h), unchanged)

  until_meant : (k : List Frame) (cs : Clauses) (b : Body) (w : Scope) (n : ℤ) → GoodFrames k →
      GoodClauses (names_of w.vars) cs → GoodBody (names_of w.vars) b → Meant (wait_until k s cs b w n)
  until_meant k cs b w (pos n) h q r = ((q, r), h, unchanged)
  until_meant k cs b w (negsuc n) h q r = (tt, h, unchanged)

  one_operand_more : (j : Operation) (vs : List Value) (v : Value) (n : ℕ) → Arity j (length vs + (1 + n)) →
      Arity j (length (vs ++ (v ∷ [])) + n)
  one_operand_more j vs v n a =
      let e : length vs + (1 + n) ≡ length (vs ++ (v ∷ [])) + n = simp length-append (omega arith) in
      subst (Arity j) e a

  resume_meant : (me : Worker) (v : Value) (k : List Frame) → GoodFrames k → Meant (resume g s me v k)
  resume_meant me v [] h = tt
  resume_meant me v (operands_frame j vs es w ∷ k) h =
      operands_meant k me.pid w j (vs ++ (v ∷ [])) es h.1 (one_operand_more j vs v (count es) h.0.0)
      h.0.1
  resume_meant me v (bind_frame p b w ∷ k) h = opt_all Meant (match p v w.vars) (error k s a_match)
      (λ bs. goes_on (enter b (rebind w bs)) k s) (λ e. (tt, h.1, unchanged))
      (λ bs e. (
        subst (λ (ys : List Name). GoodBody ys b)
            (sym (subst (OnSome (λ cs. names_of cs ≡ bound_by p (names_of w.vars))) e (match-names p v w.vars)))
            h.0,
        h.1,
        unchanged,
      ))
  resume_meant me v (case_frame cs w ∷ k) h = opt_all Meant (choose cs v w.vars) (error k s a_clause)
      (λ c. goes_on (enter c.body (rebind w c.vars)) k s) (λ e. (tt, h.1, unchanged))
      (λ c e. (
        subst (OnSome (λ (c : Chosen). GoodBody (names_of c.vars) c.body)) e
            (choose_good cs v w.vars h.0),
        h.1,
        unchanged,
      ))
  resume_meant me v (until_frame cs b w ∷ k) h = opt_all Meant (as_int v) (error k s a_type) (wait_until k s cs b w)
      (λ e. (tt, h.1, unchanged)) (λ n e. until_meant k cs b w n h.1 h.0.0 h.0.1)
  resume_meant me v (catch_frame ∷ k) h = (tt, h.1, unchanged)

  unwind_meant : (me : Worker) (r : Value) (k : List Frame) → GoodFrames k → Meant (unwind s me r k)
  unwind_meant me r [] h = tt
  unwind_meant me r (operands_frame j vs es w ∷ k) h = (tt, h.1, unchanged)
  unwind_meant me r (bind_frame p b w ∷ k) h = (tt, h.1, unchanged)
  unwind_meant me r (case_frame cs w ∷ k) h = (tt, h.1, unchanged)
  unwind_meant me r (until_frame cs b w ∷ k) h = (tt, h.1, unchanged)
  unwind_meant me r (catch_frame ∷ k) h = (tt, h.1, unchanged)

  timed_out_meant : (k : List Frame) (un : Until) (w : Scope) → GoodFrames k → GoodUntil (names_of w.vars) un →
      OnSome Meant (timed_out s k un w)
  timed_out_meant k for_ever w h q = tt
  timed_out_meant k (until t b) w h q =
      cond_both (leb t s.clock) (some (goes_on (enter b w) k s)) none (OnSome Meant) (λ e. (q, h, unchanged))
      (λ e. tt)

  turn_with_meant : (me : Worker) (c : Control) → GoodControl c → GoodFrames me.frames →
      OnSome Meant (turn_with g s me c)
  turn_with_meant me (eval e w) q h = evaluate_meant me.frames me.pid e w h q
  turn_with_meant me (give v) q h = resume_meant me v me.frames h
  turn_with_meant me (enter b w) q h = body_meant me.frames b w h q
  turn_with_meant me (fail r) q h = unwind_meant me r me.frames h
  turn_with_meant me (wait cs un w) q h =
      opt_all (OnSome Meant) (take_first cs w.vars me.mail) (timed_out s me.frames un w)
      (λ t. some (goes_on (enter t.chosen.body (rebind w t.chosen.vars)) me.frames
      (on_worker s me.pid (set_mail t.rest)))) (λ e. timed_out_meant me.frames un w h q.1)
      (λ t e. (
        subst (OnSome (λ (t : Taken). GoodBody (names_of t.chosen.vars) t.chosen.body)) e
            (take_first_good cs w.vars me.mail q.0),
        h,
        effect_code GoodControl g s w me.pid _ (from_good w)
            (took t.rest),
      ))

abbrev pub GoodSystem : System → Type 0
GoodSystem s = EveryWorker GoodControl GoodFrames s.workers

turned_good : (g : Program) (s : System) (n : ℕ) (me : Worker) (o : Outcome) → Apart s.workers → Turned g s me o →
    Onward GoodControl GoodFrames ⊥ s o → GoodSystem s → OnResult GoodSystem ⊥ (settle n o)
turned_good g s n me o u (turn_goes c k w {t} d) r h =
    settle_every GoodControl GoodFrames s t n c k tt r.2 h r.0 r.1
turned_good g s n me o u (turn_ends x why) r h =
    within_every GoodControl GoodFrames (gone s.workers me.pid) s.workers
    (gone-within s.workers me.pid u) h
turned_good g s n me o u (turn_swaps c k x m y d f wo) r h =
    settle_every GoodControl GoodFrames s (swapped s x m) n c k tt r.2 h r.0 r.1
turned_good g s n me o u (turn_swapped_out x m d f wo) r h =
    within_every GoodControl GoodFrames (swapped s x m).workers s.workers (swapped-within s x m u) h
turned_good g s n me o u turn_stuck r h = r

pub move_good : (g : Program) → GoodProgram g → (s : System) (m : Move) → Apart s.workers → GoodSystem s →
    OnResult GoodSystem ⊥ (move g s m)
move_good g gd s (turn n) u h =
    turn_all g s n (OnResult GoodSystem ⊥) tt
    (λ me o p e d v. let mine = h me.pid me e in
    turned_good g s n me o u v (subst (OnSome (Onward GoodControl GoodFrames ⊥ s)) d
    (turn_with_meant g gd s u me me.control mine.0 mine.1)) h)
move_good g gd s signal u h = deliver_all GoodSystem ⊥ s s.signals (λ x gs i. h)
    (λ x gs w i e. signal_every GoodControl GoodFrames (with_signals s gs) x w u h)
move_good g gd s tick u h = tick_all GoodSystem ⊥ s (λ t l. h)

first_good : (g : Program) (c : Control) → GoodProgram g → enter_function g (first_name g) 1 a_main [] ≡ some c →
    GoodSystem (at_first g c)
first_good g c gd e q x d =
    subst (λ (z : Worker). GoodControl z.control × GoodFrames z.frames) (find_only (first_worker c) x q d).1
    (entered_good g (first_name g) 1 a_main [] c gd e, tt)

moves_good : (g : Program) → GoodProgram g → (b : System) → begin g ≡ some b → (l : List Move) →
    OnResult (λ t. Sound t × GoodSystem t) ⊥ (moves g b l)
moves_good g gd b e l = moves_all g (λ t. Sound t × GoodSystem t) ⊥
    (λ t m h. on_both Sound GoodSystem ⊥ (move g t m) (move-sound g t m h.0)
    (move_good g gd t m h.0.apart h.1)) l b
    (begin_all g (λ t. Sound t × GoodSystem t) (λ c i. (first_sound g c, first_good g c gd i)) b e)

pub reached_good : (g : Program) → GoodProgram g → (l : List Move) (s : System) → Reached g l s → GoodSystem s
reached_good g gd l s (b, e, m) = (subst (OnResult (λ t. Sound t × GoodSystem t) ⊥) m (moves_good g gd b e l)).1

pub never_stuck : NeverStuck
never_stuck t g s l rd b e = subst (OnResult (λ t. Sound t × GoodSystem t) ⊥) e
    (moves_good g (reads_good t g rd) s b l)
