-- Every turn is one of the cases of `Turned`. The walk follows the definition of a turn: first what an operation
-- does once its operands are there (`Act`), then expressions, frames and waiting.
use mathlib.Core.Path.{◌≡◌, refl, sym, ap}
use mathlib.Core.Bool.{not, cond}
use mathlib.Core.List.{List, [], ◌∷◌, ◌++◌}
use mathlib.Core.Option.{Option, some, none}
use Prim.Native.Nat.{ℕ, ◌+◌, ◌≤◌}
use native.Mathlib.Omega.{arith}
use lib.ListN.{length}
use lib.IntN.{ℤ, pos, negsuc, ◌+ℤ◌, ◌-ℤ◌, ◌*ℤ◌}
use lib.Dec.{eqb, leb}
use Rattle.meaning.specs.Basics.{opt, Name}
use Rattle.meaning.specs.Atoms.{a_type, a_match, a_clause, a_zero, a_big, a_undef, a_normal, a_old, a_ok, a_error}
use Rattle.meaning.specs.Atoms.{a_none, a_true}
use Rattle.meaning.specs.Syntax.{Operator, plus, minus, times, divide, modulo, equal, unequal, less, at_most, Builtin}
use Rattle.meaning.specs.Syntax.{send, self, link, exit, trap, show, register, whereis, swap, Operation, make_tuple}
use Rattle.meaning.specs.Syntax.{make_pair, call, far_call, spawn, far_spawn, operate, built_in, Expr, int, atom, var}
use Rattle.meaning.specs.Syntax.{nil, apply, case, receive, receive_until, catch, Exprs, no_e, and_e, Body, last}
use Rattle.meaning.specs.Syntax.{bind, Clauses, Program, Function}
use Rattle.meaning.specs.Values.{Value, v_int, v_atom, v_tuple, v_nil, v_cons, v_pid, as_int, as_atom, as_pid, same_v}
use Rattle.meaning.specs.Values.{less_int, tuple, look_up, match, text_v, fits, quotient, remainder, is_zero}
use Rattle.meaning.specs.System.{Scope, Until, for_ever, until, Control, eval, give, enter, fail, wait, Frame}
use Rattle.meaning.specs.System.{operands_frame, bind_frame, case_frame, until_frame, catch_frame, Worker, System}
use Rattle.meaning.specs.System.{with_signals, with_name, find, on_worker, set_mail, add_mail, current, functions_of}
use Rattle.meaning.specs.System.{pid_of, swapped, function_of}
use Rattle.meaning.specs.Turns.{Outcome, goes_on, leaves, stuck, error, gives, pair, truth, choose, take_first}
use Rattle.meaning.specs.Turns.{rebind, enter_function, enter_current, call_code, spawn_code, number, on_numbers}
use Rattle.meaning.specs.Turns.{divided, operate_on, target, link_found, link_to, after_swap, swap_module, with_none}
use Rattle.meaning.specs.Turns.{with_one, with_two, call_builtin, on_two, perform, operands, evaluate, begin_body}
use Rattle.meaning.specs.Turns.{wait_until, resume, unwind, timed_out, turn_with, turn_of, bind_params}
use Rattle.meaning.specs.Promise.{end_reason}
use Rattle.meaning.specs.Effects.{From, own, other, Effect, nothing, took, spawned, showed, sent, linked, linked_gone}
use Rattle.meaning.specs.Effects.{exited, trapped, named, Turned, turn_goes, turn_ends, turn_swaps, turn_swapped_out}
use Rattle.meaning.specs.Effects.{turn_stuck}
use Rattle.std.proofs.lemmas.Bool.{cond_both, eqb-false}
use Rattle.meaning.proofs.Splits.{opt_all, OnSome, on_some_is, some_is}

-- how many operands an operation takes
abbrev pub Arity : Operation → ℕ → Type 0
Arity make_tuple n = Unit {0}
Arity make_pair n = n ≡ 2
Arity (call f) n = Unit {0}
Arity (far_call m f) n = Unit {0}
Arity (spawn f) n = Unit {0}
Arity (far_spawn m f) n = Unit {0}
Arity (operate o) n = n ≡ 2
Arity (built_in b) n = Unit {0}

-- what an operation on n operands leads to: a value, after an effect; an error; a call; a swap; no meaning
pub data Act (g : Program) (k : List Frame) (s : System) (me : ℕ) (w : Scope) (o : Operation) (n : ℕ) : Outcome →
    Type 0 where
  acts_value : (v : Value) {t : System} → Effect g s w me t → Act g k s me w o n (goes_on (give v) k t)
  acts_error : (r : Value) → Act g k s me w o n (goes_on (fail r) k s)
  acts_call : (c : Control) → From g s w c → Act g k s me w o n (goes_on c k s)
  acts_swap : (x : Name) (m : ℕ) (v : Value) (y : Worker) → current s.loaded x ≡ some m →
      find (swapped s x m).workers me ≡ some y → Act g k s me w o n (goes_on (give v) k (swapped s x m))
  acts_swapped_out : (x : Name) (m : ℕ) → current s.loaded x ≡ some m → find (swapped s x m).workers me ≡ none →
      Act g k s me w o n (leaves (swapped s x m))
  acts_stuck : (Arity o n → ⊥) → Act g k s me w o n stuck

module _ (g : Program) (k : List Frame) (s : System) (me : ℕ) (w : Scope) (o : Operation) (i : ℕ) where
  abbrev Acts : Outcome → Type 0
  Acts x = Act g k s me w o i x

  acts_atom_error : (x : Name) → Acts (error k s x)
  acts_atom_error x = acts_error (v_atom x)

  acts_gives : (v : Value) → Acts (gives k s v)
  acts_gives v = acts_value v nothing

  acts_number : (n : ℤ) → Acts (number k s n)
  acts_number n = cond_both (fits n) (gives k s (v_int n)) (error k s a_big) Acts (λ h. acts_gives (v_int n))
      (λ h. acts_atom_error a_big)

  acts_divided : (b q : ℤ) → Acts (divided k s b q)
  acts_divided b q = cond_both (is_zero b) (error k s a_zero) (number k s q) Acts (λ h. acts_atom_error a_zero)
      (λ h. acts_number q)

  acts_on_numbers : (u v : Value) (f : ℤ → ℤ → Outcome) → ((a b : ℤ) → Acts (f a b)) → Acts (on_numbers k s u v f)
  acts_on_numbers u v f h = opt_all Acts (as_int u) (error k s a_type)
      (λ a. opt (as_int v) (error k s a_type) (λ b. f a b)) (λ e. acts_atom_error a_type)
      (λ a e. opt_all Acts (as_int v) (error k s a_type) (λ b. f a b) (λ d. acts_atom_error a_type) (λ b d. h a b))

  acts_operate : (p : Operator) (u v : Value) → Acts (operate_on k s p u v)
  acts_operate plus u v = acts_on_numbers u v _ (λ a b. acts_number (a +ℤ b))
  acts_operate minus u v = acts_on_numbers u v _ (λ a b. acts_number (a -ℤ b))
  acts_operate times u v = acts_on_numbers u v _ (λ a b. acts_number (a *ℤ b))
  acts_operate divide u v = acts_on_numbers u v _ (λ a b. acts_divided b (quotient a b))
  acts_operate modulo u v = acts_on_numbers u v _ (λ a b. acts_divided b (remainder a b))
  acts_operate equal u v = acts_gives (truth (same_v u v))
  acts_operate unequal u v = acts_gives (truth (not (same_v u v)))
  acts_operate less u v = acts_on_numbers u v _ (λ a b. acts_gives (truth (less_int a b)))
  acts_operate at_most u v = acts_on_numbers u v _ (λ a b. acts_gives (truth (not (less_int b a))))

  -- what takes a worker or an atom fails on anything else
  acts_opt : {A : Type 0} (x : Option A) (f : A → Outcome) → ((a : A) → Acts (f a)) →
      Acts (opt x (error k s a_type) f)
  acts_opt x f h = opt_all Acts x (error k s a_type) f (λ e. acts_atom_error a_type) (λ a e. h a)

  acts_link_found : (q : ℕ) (x : Option Worker) → find s.workers q ≡ x → (q ≡ me → ⊥) →
      Acts (link_found k s me q x)
  acts_link_found q none e h = acts_value (v_atom a_ok) (linked_gone q h e)
  acts_link_found q (some x) e h = acts_value (v_atom a_ok) (linked q x h e)

  acts_link : (v : Value) → Acts (link_to k s me v)
  acts_link v = acts_opt (as_pid v)
      (λ q. cond (eqb q me) (gives k s (v_atom a_ok)) (link_found k s me q (find s.workers q)))
      (λ q. cond_both (eqb q me) (gives k s (v_atom a_ok)) (link_found k s me q (find s.workers q)) Acts
      (λ e. acts_gives (v_atom a_ok)) (λ e. acts_link_found q (find s.workers q) refl (eqb-false q me e)))

  acts_after_swap : (x : Name) (m : ℕ) (y : Option Worker) → find (swapped s x m).workers me ≡ y →
      current s.loaded x ≡ some m →
      Acts (opt y (leaves (swapped s x m)) (λ z. gives k (swapped s x m) (v_atom a_ok)))
  acts_after_swap x m none e h = acts_swapped_out x m h e
  acts_after_swap x m (some y) e h = acts_swap x m (v_atom a_ok) y h e

  acts_swap_module : (x : Name) → Acts (swap_module g k s me x)
  acts_swap_module x = opt_all Acts (current s.loaded x) (error k s a_undef)
      (λ n. opt (functions_of g x (n + 1)) (gives k s (v_atom a_none)) (λ fs. after_swap k me (swapped s x n)))
      (λ h. acts_atom_error a_undef)
      (λ n h. opt_all Acts (functions_of g x (n + 1)) (gives k s (v_atom a_none))
      (λ fs. after_swap k me (swapped s x n)) (λ e. acts_gives (v_atom a_none))
      (λ fs e. acts_after_swap x n (find (swapped s x n).workers me) refl h))

  acts_with_none : (b : Builtin) → Acts (with_none k s me b)
  acts_with_none send = acts_atom_error a_undef
  acts_with_none self = acts_gives (v_pid me)
  acts_with_none link = acts_atom_error a_undef
  acts_with_none exit = acts_atom_error a_undef
  acts_with_none trap = acts_atom_error a_undef
  acts_with_none show = acts_atom_error a_undef
  acts_with_none register = acts_atom_error a_undef
  acts_with_none whereis = acts_atom_error a_undef
  acts_with_none swap = acts_atom_error a_undef

  acts_with_one : (b : Builtin) (v : Value) → Acts (with_one g k s me b v)
  acts_with_one send v = acts_atom_error a_undef
  acts_with_one self v = acts_atom_error a_undef
  acts_with_one link v = acts_link v
  acts_with_one exit v = acts_error v
  acts_with_one trap v = acts_value (v_atom a_ok) (trapped (same_v v (v_atom a_true)))
  acts_with_one show v = acts_value v (showed (text_v v))
  acts_with_one register v = acts_opt (as_atom v) (λ x. gives k (with_name s x me) (v_atom a_ok))
      (λ x. acts_value (v_atom a_ok) (named x))
  acts_with_one whereis v = acts_opt (as_atom v) (λ x. gives k s (opt (pid_of s.names x) (v_atom a_none) v_pid))
      (λ x. acts_gives (opt (pid_of s.names x) (v_atom a_none) v_pid))
  acts_with_one swap v = acts_opt (as_atom v) (swap_module g k s me) acts_swap_module

  acts_with_two : (b : Builtin) (u v : Value) → Acts (with_two k s me b u v)
  acts_with_two send u v = acts_opt (target s u) (λ q. gives k (on_worker s q (add_mail v)) v)
      (λ q. acts_value v (sent q v))
  acts_with_two self u v = acts_atom_error a_undef
  acts_with_two link u v = acts_atom_error a_undef
  acts_with_two exit u v = acts_opt (as_pid u)
      (λ q. gives k (with_signals s (s.signals ++ (record { to = q; from = me; reason = v } ∷ []))) (v_atom a_ok))
      (λ q. acts_value (v_atom a_ok) (exited q v))
  acts_with_two trap u v = acts_atom_error a_undef
  acts_with_two show u v = acts_atom_error a_undef
  acts_with_two register u v = acts_atom_error a_undef
  acts_with_two whereis u v = acts_atom_error a_undef
  acts_with_two swap u v = acts_atom_error a_undef

  acts_builtin : (b : Builtin) (vs : List Value) → Acts (call_builtin g k s me b vs)
  acts_builtin b [] = acts_with_none b
  acts_builtin b (v ∷ []) = acts_with_one b v
  acts_builtin b (u ∷ v ∷ []) = acts_with_two b u v
  acts_builtin b (u ∷ v ∷ x ∷ vs) = acts_atom_error a_undef

  acts_call_code : (x : Option Control) → ((c : Control) → x ≡ some c → From g s w c) → Acts (call_code k s x)
  acts_call_code none h = acts_atom_error a_undef
  acts_call_code (some c) h = acts_call c (h c refl)

  acts_spawn_code : (x : Option Control) → ((c : Control) → x ≡ some c → From g s w c) → Acts (spawn_code k s x)
  acts_spawn_code none h = acts_atom_error a_undef
  acts_spawn_code (some c) h = acts_value (v_pid s.next) (spawned c (h c refl))

  from_current : (m f : Name) (vs : List Value) (c : Control) → enter_current g s m f vs ≡ some c → From g s w c
  from_current m f vs c e =
      let r = on_some_is (current s.loaded m) (λ n. enter_function g m n f vs) c e in
      other m r.0 f vs r.1 r.2

acts_on_two : (g : Program) (k : List Frame) (s : System) (me : ℕ) (w : Scope) (o : Operation) (vs : List Value)
    (f : Value → Value → Outcome) → ((n : ℕ) → Arity o n → n ≡ 2) → ((a b : Value) → Act g k s me w o 2 (f a b)) →
    Act g k s me w o (length vs) (on_two vs f)
acts_on_two g k s me w o [] f two h = acts_stuck (λ a. let z = two 0 a in omega arith)
acts_on_two g k s me w o (a ∷ []) f two h = acts_stuck (λ b. let z = two 1 b in omega arith)
acts_on_two g k s me w o (a ∷ b ∷ []) f two h = h a b
acts_on_two g k s me w o (a ∷ b ∷ c ∷ cs) f two h =
    acts_stuck (λ d. let z = two (length (a ∷ b ∷ c ∷ cs)) d in omega arith)

pub perform_view : (g : Program) (k : List Frame) (s : System) (me : ℕ) (w : Scope) (o : Operation)
    (vs : List Value) → Act g k s me w o (length vs) (perform g k s me w o vs)
perform_view g k s me w make_tuple vs = acts_value (v_tuple (tuple vs)) nothing
perform_view g k s me w make_pair vs = acts_on_two g k s me w make_pair vs (λ a b. gives k s (v_cons a b)) (λ n h. h)
    (λ a b. acts_value (v_cons a b) nothing)
perform_view g k s me w (call f) vs =
    acts_call_code g k s me w (call f) (length vs) (enter_function g w.home w.version f vs) (λ c e. own f vs e)
perform_view g k s me w (far_call m f) vs =
    acts_call_code g k s me w (far_call m f) (length vs) (enter_current g s m f vs)
    (from_current g k s me w (far_call m f) (length vs) m f vs)
perform_view g k s me w (spawn f) vs =
    acts_spawn_code g k s me w (spawn f) (length vs) (enter_function g w.home w.version f vs)
    (λ c e. own f vs e)
perform_view g k s me w (far_spawn m f) vs =
    acts_spawn_code g k s me w (far_spawn m f) (length vs) (enter_current g s m f vs)
    (from_current g k s me w (far_spawn m f) (length vs) m f vs)
perform_view g k s me w (operate p) vs = acts_on_two g k s me w (operate p) vs (operate_on k s p)
    (λ n h. h) (acts_operate g k s me w (operate p) 2 p)
perform_view g k s me w (built_in b) vs = acts_builtin g k s me w (built_in b) (length vs) b vs

-- the turn as a whole
turned_act : (g : Program) (k : List Frame) (s : System) (me : Worker) (w : Scope) (o : Operation) (n : ℕ)
    (x : Outcome) → end_reason me.control me.frames ≡ v_atom a_old → Act g k s me.pid w o n x →
    Turned g s me x
turned_act g k s me w o n x r (acts_value v d) = turn_goes (give v) k w d
turned_act g k s me w o n x r (acts_error e) = turn_goes (fail e) k w nothing
turned_act g k s me w o n x r (acts_call c f) = turn_goes c k w nothing
turned_act g k s me w o n x r (acts_swap y m v z e h) = turn_swaps (give v) k y m z e h r
turned_act g k s me w o n x r (acts_swapped_out y m e h) = turn_swapped_out y m e h r
turned_act g k s me w o n x r (acts_stuck h) = turn_stuck

module _ (g : Program) (s : System) (me : Worker) where
  turned-operands : (k : List Frame) (w : Scope) (o : Operation) (vs : List Value) (es : Exprs) →
      end_reason me.control me.frames ≡ v_atom a_old → Turned g s me (operands g k s me.pid w o vs es)
  turned-operands k w o vs no_e r =
      turned_act g k s me w o (length vs) (perform g k s me.pid w o vs) r (perform_view g k s me.pid w o vs)
  turned-operands k w o vs (and_e e es) r = turn_goes (eval e w) (operands_frame o vs es w ∷ k) w nothing

  turned-evaluate : (e : Expr) (w : Scope) → end_reason me.control me.frames ≡ v_atom a_old →
      Turned g s me (evaluate g me.frames s me.pid e w)
  turned-evaluate (int n) w r = turn_goes (give (v_int (pos n))) me.frames w nothing
  turned-evaluate (atom x) w r = turn_goes (give (v_atom x)) me.frames w nothing
  turned-evaluate (var x) w r = opt_all (Turned g s me) (look_up w.vars x) stuck (gives me.frames s)
      (λ h. turn_stuck) (λ v h. turn_goes (give v) me.frames w nothing)
  turned-evaluate nil w r = turn_goes (give v_nil) me.frames w nothing
  turned-evaluate (apply o es) w r = turned-operands me.frames w o [] es r
  turned-evaluate (case e cs) w r = turn_goes (eval e w) (case_frame cs w ∷ me.frames) w nothing
  turned-evaluate (receive cs) w r = turn_goes (wait cs for_ever w) me.frames w nothing
  turned-evaluate (receive_until cs e b) w r = turn_goes (eval e w) (until_frame cs b w ∷ me.frames) w nothing
  turned-evaluate (catch b) w r = turn_goes (enter b w) (catch_frame ∷ me.frames) w nothing

  turned_body : (b : Body) (w : Scope) → Turned g s me (begin_body me.frames s b w)
  turned_body (last e) w = turn_goes (eval e w) me.frames w nothing
  turned_body (bind p e b) w = turn_goes (eval e w) (bind_frame p b w ∷ me.frames) w nothing

  turned_until : (k : List Frame) (cs : Clauses) (b : Body) (w : Scope) (n : ℤ) →
      Turned g s me (wait_until k s cs b w n)
  turned_until k cs b w (pos n) = turn_goes (wait cs (until (s.clock + n) b) w) k w nothing
  turned_until k cs b w (negsuc n) = turn_goes (fail (v_atom a_type)) k w nothing

  -- where no code is at work
  nowhere : Scope
  nowhere = record { vars = []; home = []; version = 0 }

  turned-resume : (v : Value) (k : List Frame) → end_reason me.control me.frames ≡ end_reason (give v) k →
      Turned g s me (resume g s me v k)
  turned-resume v [] r = turn_ends (v_atom a_normal) (sym r)
  turned-resume v (operands_frame o vs es w ∷ k) r = turned-operands k w o (vs ++ (v ∷ [])) es r
  turned-resume v (bind_frame p b w ∷ k) r = opt_all (Turned g s me) (match p v w.vars) (error k s a_match)
      (λ bs. goes_on (enter b (rebind w bs)) k s) (λ h. turn_goes (fail (v_atom a_match)) k w nothing)
      (λ bs h. turn_goes (enter b (rebind w bs)) k w nothing)
  turned-resume v (case_frame cs w ∷ k) r = opt_all (Turned g s me) (choose cs v w.vars) (error k s a_clause)
      (λ c. goes_on (enter c.body (rebind w c.vars)) k s) (λ h. turn_goes (fail (v_atom a_clause)) k w nothing)
      (λ c h. turn_goes (enter c.body (rebind w c.vars)) k w nothing)
  turned-resume v (until_frame cs b w ∷ k) r =
      opt_all (Turned g s me) (as_int v) (error k s a_type) (wait_until k s cs b w)
      (λ h. turn_goes (fail (v_atom a_type)) k w nothing) (λ n h. turned_until k cs b w n)
  turned-resume v (catch_frame ∷ k) r = turn_goes (give (pair (v_atom a_ok) v)) k nowhere nothing

  turned-unwind : (e : Value) (k : List Frame) → end_reason me.control me.frames ≡ end_reason (fail e) k →
      Turned g s me (unwind s me e k)
  turned-unwind e [] r = turn_ends e (sym r)
  turned-unwind e (operands_frame o vs es w ∷ k) r = turn_goes (fail e) k w nothing
  turned-unwind e (bind_frame p b w ∷ k) r = turn_goes (fail e) k w nothing
  turned-unwind e (case_frame cs w ∷ k) r = turn_goes (fail e) k w nothing
  turned-unwind e (until_frame cs b w ∷ k) r = turn_goes (fail e) k w nothing
  turned-unwind e (catch_frame ∷ k) r = turn_goes (give (pair (v_atom a_error) e)) k nowhere nothing

  turned_timed_out : (u : Until) (w : Scope) → OnSome (Turned g s me) (timed_out s me.frames u w)
  turned_timed_out for_ever w = tt
  turned_timed_out (until t b) w =
      cond_both (leb t s.clock) (some (goes_on (enter b w) me.frames s)) none (OnSome (Turned g s me))
      (λ h. turn_goes (enter b w) me.frames w nothing) (λ h. tt)

  turned_with : (c : Control) → me.control ≡ c → OnSome (Turned g s me) (turn_with g s me c)
  turned_with (eval e w) i = turned-evaluate e w (ap (λ (z : Control). end_reason z me.frames) i)
  turned_with (give v) i = turned-resume v me.frames (ap (λ (z : Control). end_reason z me.frames) i)
  turned_with (enter b w) i = turned_body b w
  turned_with (fail e) i = turned-unwind e me.frames (ap (λ (z : Control). end_reason z me.frames) i)
  turned_with (wait cs u w) i = opt_all (OnSome (Turned g s me)) (take_first cs w.vars me.mail)
      (timed_out s me.frames u w) (λ t. some
      (goes_on (enter t.chosen.body (rebind w t.chosen.vars)) me.frames
      (on_worker s me.pid (set_mail t.rest)))) (λ h. turned_timed_out u w)
      (λ t h. turn_goes (enter t.chosen.body (rebind w t.chosen.vars)) me.frames w (took t.rest))

  pub turn_view : OnSome (Turned g s me) (turn_of g s me)
  turn_view = turned_with me.control refl

-- code that begins is the body of a function, in the module and version asked for
pub entered_is : (g : Program) (m : Name) (n : ℕ) (f : Name) (vs : List Value) (c : Control) →
    enter_function g m n f vs ≡ some c → (fs : List Function) × (fn : Function) × (functions_of g m n ≡ some fs)
    × (function_of fs f (length vs) ≡ some fn)
    × (enter fn.body (record { vars = bind_params fn.params vs; home = m; version = n }) ≡ c)
entered_is g m n f vs c e =
    let r = on_some_is (functions_of g m n) _ c e in
    let o = on_some_is (function_of r.0 f (length vs)) _ c r.2 in
    (r.0, o.0, r.1, o.1, some_is o.2)

-- an effect loads nothing, and gives out at most one number
pub effect_bounds : (g : Program) (s : System) (w : Scope) (me : ℕ) (t : System) → Effect g s w me t →
    (t.loaded ≡ s.loaded) × (t.next ≤ s.next + 1)
effect_bounds g s w me t nothing = (refl, omega arith)
effect_bounds g s w me t (took ms) = (refl, omega arith)
effect_bounds g s w me t (spawned c f) = (refl, omega arith)
effect_bounds g s w me t (showed l) = (refl, omega arith)
effect_bounds g s w me t (sent q v) = (refl, omega arith)
effect_bounds g s w me t (linked q x d f) = (refl, omega arith)
effect_bounds g s w me t (linked_gone p d f) = (refl, omega arith)
effect_bounds g s w me t (exited p r) = (refl, omega arith)
effect_bounds g s w me t (trapped b) = (refl, omega arith)
effect_bounds g s w me t (named x) = (refl, omega arith)
