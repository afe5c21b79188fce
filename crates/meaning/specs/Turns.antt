-- One turn of one worker: taking up an expression, working with values, coming back to what waits.
use Rattle.std.specs.Prelude.{Bool, true, false, not, cond, List, [], ◌∷◌, ◌++◌, ℕ, ◌+◌, length, ℤ, pos, negsuc, ◌+ℤ◌, ◌-ℤ◌, ◌*ℤ◌, eqb, leb}
use Rattle.std.proofs.Math.Option.{Option, some, none}
use Rattle.meaning.specs.Basics.{opt, on_some, Name}
use Rattle.meaning.specs.Atoms.{a_type, a_match, a_clause, a_zero, a_big, a_undef, a_normal, a_gone, a_ok, a_error}
use Rattle.meaning.specs.Atoms.{a_none, a_true, a_false}
use Rattle.meaning.specs.Syntax.{Operator, plus, minus, times, divide, modulo, equal, unequal, less, at_most}
use Rattle.meaning.specs.Syntax.{Builtin, send, self, link, exit, trap, show, register, whereis, swap, Operation}
use Rattle.meaning.specs.Syntax.{make_tuple, make_pair, call, far_call, spawn, far_spawn, operate, built_in, Expr}
use Rattle.meaning.specs.Syntax.{int, atom, var, nil, apply, case, receive, receive_until, catch, Exprs, no_e, and_e}
use Rattle.meaning.specs.Syntax.{Body, last, bind, Clauses, no_c, clause, Program}
use Rattle.meaning.specs.Values.{Value, v_int, v_atom, v_tuple, v_nil, v_cons, v_pid, no_v, and_v, as_int, as_atom}
use Rattle.meaning.specs.Values.{as_pid, same_v, less_int, tuple, Binding, look_up, match, text_v, fits, quotient}
use Rattle.meaning.specs.Values.{remainder, is_zero}
use Rattle.meaning.specs.System.{Scope, Until, for_ever, until, Control, eval, give, enter, fail, wait, Frame}
use Rattle.meaning.specs.System.{operands_frame, bind_frame, case_frame, until_frame, catch_frame, Worker, System}
use Rattle.meaning.specs.System.{with_line, with_name, with_new, find, on_worker, set_mail, set_traps, send_mail}
use Rattle.meaning.specs.System.{link_both, send_signal, ended, functions_of, function_of, current, pid_of, swapped}

-- what a turn leads to: the worker goes on, with a control and frames; it is no more; or there is no meaning
pub data Outcome : Type 0 where
  goes_on : Control → List Frame → System → Outcome
  leaves : System → Outcome
  stuck : Outcome

abbrev pub error : List Frame → System → Name → Outcome
error k s x = goes_on (fail (v_atom x)) k s

abbrev pub gives : List Frame → System → Value → Outcome
gives k s v = goes_on (give v) k s

abbrev pub pair : Value → Value → Value
pair a b = v_tuple (and_v a (and_v b no_v))

abbrev pub truth : Bool → Value
truth b = v_atom (cond b a_true a_false)

-- the first clause that matches a value: what its names are bound to, and its body
pub record Chosen : Type 0 where
  pub vars : List Binding
  pub body : Body

abbrev pub choose : Clauses → Value → List Binding → Option Chosen
choose no_c v bs = none
choose (clause p b cs) v bs = opt (match p v bs) (choose cs v bs) (λ ds. some (record { vars = ds; body = b }))

-- the first message that some clause matches, and the mailbox without it, in the same order
pub record Taken : Type 0 where
  pub chosen : Chosen
  pub rest : List Value

abbrev pub keep_front : Value → Option Taken → Option Taken
keep_front v none = none
keep_front v (some t) = some (record { chosen = t.chosen; rest = v ∷ t.rest })

abbrev pub take_first : Clauses → List Binding → List Value → Option Taken
take_first cs bs [] = none
take_first cs bs (m ∷ ms) = opt (choose cs m bs) (keep_front m (take_first cs bs ms)) (λ c. some (record {
  chosen = c;
  rest = ms;
}))

abbrev pub rebind : Scope → List Binding → Scope
rebind w bs = record { vars = bs; home = w.home; version = w.version }

abbrev pub bind_params : List Name → List Value → List Binding
bind_params [] vs = []
bind_params (x ∷ xs) [] = []
bind_params (x ∷ xs) (v ∷ vs) = record { name = x; value = v } ∷ bind_params xs vs

-- a function's body on arguments: of a module in a given version, or in the current one
abbrev pub enter_function : Program → Name → ℕ → Name → List Value → Option Control
enter_function g m n f vs = on_some (functions_of g m n)
    (λ fs. on_some (function_of fs f (length vs)) (λ fn. some (enter fn.body (record {
      vars = bind_params fn.params vs;
      home = m;
      version = n;
    }))))

abbrev pub enter_current : Program → System → Name → Name → List Value → Option Control
enter_current g s m f vs = on_some (current s.loaded m) (λ n. enter_function g m n f vs)

abbrev pub call_code : List Frame → System → Option Control → Outcome
call_code k s none = error k s a_undef
call_code k s (some c) = goes_on c k s

abbrev pub spawn_code : List Frame → System → Option Control → Outcome
spawn_code k s none = error k s a_undef
spawn_code k s (some c) = gives k (with_new s c) (v_pid s.next)

-- operators: a wrong kind of operand comes before a divisor 0
abbrev pub number : List Frame → System → ℤ → Outcome
number k s n = cond (fits n) (gives k s (v_int n)) (error k s a_big)

abbrev pub on_numbers : List Frame → System → Value → Value → (ℤ → ℤ → Outcome) → Outcome
on_numbers k s u v f = opt (as_int u) (error k s a_type) (λ a. opt (as_int v) (error k s a_type) (λ b. f a b))

abbrev pub divided : List Frame → System → ℤ → ℤ → Outcome
divided k s b q = cond (is_zero b) (error k s a_zero) (number k s q)

abbrev pub operate_on : List Frame → System → Operator → Value → Value → Outcome
operate_on k s plus u v = on_numbers k s u v (λ a b. number k s (a +ℤ b))
operate_on k s minus u v = on_numbers k s u v (λ a b. number k s (a -ℤ b))
operate_on k s times u v = on_numbers k s u v (λ a b. number k s (a *ℤ b))
operate_on k s divide u v = on_numbers k s u v (λ a b. divided k s b (quotient a b))
operate_on k s modulo u v = on_numbers k s u v (λ a b. divided k s b (remainder a b))
operate_on k s equal u v = gives k s (truth (same_v u v))
operate_on k s unequal u v = gives k s (truth (not (same_v u v)))
operate_on k s less u v = on_numbers k s u v (λ a b. gives k s (truth (less_int a b)))
operate_on k s at_most u v = on_numbers k s u v (λ a b. gives k s (truth (not (less_int b a))))

-- send(w, v): to a worker, or to whom an atom names
abbrev pub or_else : Option ℕ → Option ℕ → Option ℕ
or_else none o = o
or_else (some n) o = some n

abbrev pub target : System → Value → Option ℕ
target s v = or_else (as_pid v) (on_some (as_atom v) (pid_of s.names))

abbrev pub send_to : List Frame → System → Value → Value → Outcome
send_to k s u v = opt (target s u) (error k s a_type) (λ q. gives k (send_mail s q v) v)

-- link(w): both ways; if w is no more, a signal with 'gone is sent at once
abbrev pub link_found : List Frame → System → ℕ → ℕ → Option Worker → Outcome
link_found k s me q none = gives k (send_signal s me q (v_atom a_gone)) (v_atom a_ok)
link_found k s me q (some w) = gives k (link_both s me q) (v_atom a_ok)

abbrev pub link_to : List Frame → System → ℕ → Value → Outcome
link_to k s me v = opt (as_pid v) (error k s a_type)
    (λ q. cond (eqb q me) (gives k s (v_atom a_ok)) (link_found k s me q (find s.workers q)))

-- exit(w, r): a signal with r
abbrev pub exit_to : List Frame → System → ℕ → Value → Value → Outcome
exit_to k s me u v = opt (as_pid u) (error k s a_type) (λ q. gives k (send_signal s q me v) (v_atom a_ok))

-- name(x) and where(x)
abbrev pub register_as : List Frame → System → ℕ → Value → Outcome
register_as k s me v = opt (as_atom v) (error k s a_type) (λ x. gives k (with_name s x me) (v_atom a_ok))

abbrev pub where_is : List Frame → System → Value → Outcome
where_is k s v = opt (as_atom v) (error k s a_type) (λ x. gives k s (opt (pid_of s.names x) (v_atom a_none) v_pid))

-- swap(m): the next version becomes current, if there is one; the worker itself may end by it
abbrev pub after_swap : List Frame → ℕ → System → Outcome
after_swap k me s = opt (find s.workers me) (leaves s) (λ w. gives k s (v_atom a_ok))

abbrev pub swap_module : Program → List Frame → System → ℕ → Name → Outcome
swap_module g k s me x = opt (current s.loaded x) (error k s a_undef)
    (λ n. opt (functions_of g x (n + 1)) (gives k s (v_atom a_none)) (λ fs. after_swap k me (swapped s x n)))

abbrev pub swap_to : Program → List Frame → System → ℕ → Value → Outcome
swap_to g k s me v = opt (as_atom v) (error k s a_type) (swap_module g k s me)

-- built-in functions by their number of arguments; a text has them only with the right number
abbrev pub with_none : List Frame → System → ℕ → Builtin → Outcome
with_none k s me send = error k s a_undef
with_none k s me self = gives k s (v_pid me)
with_none k s me link = error k s a_undef
with_none k s me exit = error k s a_undef
with_none k s me trap = error k s a_undef
with_none k s me show = error k s a_undef
with_none k s me register = error k s a_undef
with_none k s me whereis = error k s a_undef
with_none k s me swap = error k s a_undef

abbrev pub with_one : Program → List Frame → System → ℕ → Builtin → Value → Outcome
with_one g k s me send v = error k s a_undef
with_one g k s me self v = error k s a_undef
with_one g k s me link v = link_to k s me v
with_one g k s me exit v = goes_on (fail v) k s
with_one g k s me trap v = gives k (on_worker s me (set_traps (same_v v (v_atom a_true)))) (v_atom a_ok)
with_one g k s me show v = gives k (with_line s (text_v v)) v
with_one g k s me register v = register_as k s me v
with_one g k s me whereis v = where_is k s v
with_one g k s me swap v = swap_to g k s me v

abbrev pub with_two : List Frame → System → ℕ → Builtin → Value → Value → Outcome
with_two k s me send u v = send_to k s u v
with_two k s me self u v = error k s a_undef
with_two k s me link u v = error k s a_undef
with_two k s me exit u v = exit_to k s me u v
with_two k s me trap u v = error k s a_undef
with_two k s me show u v = error k s a_undef
with_two k s me register u v = error k s a_undef
with_two k s me whereis u v = error k s a_undef
with_two k s me swap u v = error k s a_undef

abbrev pub call_builtin : Program → List Frame → System → ℕ → Builtin → List Value → Outcome
call_builtin g k s me b [] = with_none k s me b
call_builtin g k s me b (v ∷ []) = with_one g k s me b v
call_builtin g k s me b (u ∷ v ∷ []) = with_two k s me b u v
call_builtin g k s me b (u ∷ v ∷ w ∷ ws) = error k s a_undef

-- what takes exactly two operands
abbrev pub on_two : List Value → (Value → Value → Outcome) → Outcome
on_two [] f = stuck
on_two (a ∷ []) f = stuck
on_two (a ∷ b ∷ []) f = f a b
on_two (a ∷ b ∷ c ∷ cs) f = stuck

-- all operands are there: the operation is done. Own functions are those of the version at work
abbrev pub perform : Program → List Frame → System → ℕ → Scope → Operation → List Value → Outcome
perform g k s me w make_tuple vs = gives k s (v_tuple (tuple vs))
perform g k s me w make_pair vs = on_two vs (λ a b. gives k s (v_cons a b))
perform g k s me w (call f) vs = call_code k s (enter_function g w.home w.version f vs)
perform g k s me w (far_call m f) vs = call_code k s (enter_current g s m f vs)
perform g k s me w (spawn f) vs = spawn_code k s (enter_function g w.home w.version f vs)
perform g k s me w (far_spawn m f) vs = spawn_code k s (enter_current g s m f vs)
perform g k s me w (operate o) vs = on_two vs (operate_on k s o)
perform g k s me w (built_in b) vs = call_builtin g k s me b vs

-- the next operand, or the operation
abbrev pub operands : Program → List Frame → System → ℕ → Scope → Operation → List Value → Exprs → Outcome
operands g k s me w o vs no_e = perform g k s me w o vs
operands g k s me w o vs (and_e e es) = goes_on (eval e w) (operands_frame o vs es w ∷ k) s

-- an expression is taken up
abbrev pub evaluate : Program → List Frame → System → ℕ → Expr → Scope → Outcome
evaluate g k s me (int n) w = gives k s (v_int (pos n))
evaluate g k s me (atom x) w = gives k s (v_atom x)
evaluate g k s me (var x) w = opt (look_up w.vars x) stuck (gives k s)
evaluate g k s me nil w = gives k s v_nil
evaluate g k s me (apply o es) w = operands g k s me w o [] es
evaluate g k s me (case e cs) w = goes_on (eval e w) (case_frame cs w ∷ k) s
evaluate g k s me (receive cs) w = goes_on (wait cs for_ever w) k s
evaluate g k s me (receive_until cs e b) w = goes_on (eval e w) (until_frame cs b w ∷ k) s
evaluate g k s me (catch b) w = goes_on (enter b w) (catch_frame ∷ k) s

abbrev pub begin_body : List Frame → System → Body → Scope → Outcome
begin_body k s (last e) w = goes_on (eval e w) k s
begin_body k s (bind p e b) w = goes_on (eval e w) (bind_frame p b w ∷ k) s

-- the time of `until n` counts from this turn
abbrev pub wait_until : List Frame → System → Clauses → Body → Scope → ℤ → Outcome
wait_until k s cs b w (pos n) = goes_on (wait cs (until (s.clock + n) b) w) k s
wait_until k s cs b w (negsuc n) = error k s a_type

-- a value comes back to the frame that waits for it; with no frame left the worker ends
abbrev pub resume : Program → System → Worker → Value → List Frame → Outcome
resume g s me v [] = leaves (ended s me (v_atom a_normal))
resume g s me v (operands_frame o vs es w ∷ k) = operands g k s me.pid w o (vs ++ (v ∷ [])) es
resume g s me v (bind_frame p b w ∷ k) =
    opt (match p v w.vars) (error k s a_match) (λ bs. goes_on (enter b (rebind w bs)) k s)
resume g s me v (case_frame cs w ∷ k) = opt (choose cs v w.vars) (error k s a_clause)
    (λ c. goes_on (enter c.body (rebind w c.vars)) k s)
resume g s me v (until_frame cs b w ∷ k) = opt (as_int v) (error k s a_type) (wait_until k s cs b w)
resume g s me v (catch_frame ∷ k) = gives k s (pair (v_atom a_ok) v)

-- an error goes outward to the next catch; with no frame left the worker ends with it
abbrev pub unwind : System → Worker → Value → List Frame → Outcome
unwind s me r [] = leaves (ended s me r)
unwind s me r (operands_frame o vs es w ∷ k) = goes_on (fail r) k s
unwind s me r (bind_frame p b w ∷ k) = goes_on (fail r) k s
unwind s me r (case_frame cs w ∷ k) = goes_on (fail r) k s
unwind s me r (until_frame cs b w ∷ k) = goes_on (fail r) k s
unwind s me r (catch_frame ∷ k) = gives k s (pair (v_atom a_error) r)

-- waiting: a message is taken, or the time has come; otherwise there is no turn
abbrev pub timed_out : System → List Frame → Until → Scope → Option Outcome
timed_out s k for_ever w = none
timed_out s k (until t b) w = cond (leb t s.clock) (some (goes_on (enter b w) k s)) none

abbrev pub look_at_mail : System → Worker → Clauses → Until → Scope → Option Outcome
look_at_mail s me cs u w = opt (take_first cs w.vars me.mail) (timed_out s me.frames u w)
    (λ t. some (goes_on (enter t.chosen.body (rebind w t.chosen.vars)) me.frames
    (on_worker s me.pid (set_mail t.rest))))

abbrev pub turn_with : Program → System → Worker → Control → Option Outcome
turn_with g s me (eval e w) = some (evaluate g me.frames s me.pid e w)
turn_with g s me (give v) = some (resume g s me v me.frames)
turn_with g s me (enter b w) = some (begin_body me.frames s b w)
turn_with g s me (fail r) = some (unwind s me r me.frames)
turn_with g s me (wait cs u w) = look_at_mail s me cs u w

abbrev pub turn_of : Program → System → Worker → Option Outcome
turn_of g s me = turn_with g s me me.control

-- can the worker take a turn
abbrev pub can : Program → System → Worker → Bool
can g s me = opt (turn_of g s me) false (λ o. true)
