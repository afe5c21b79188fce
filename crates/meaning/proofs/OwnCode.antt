-- What a worker goes on with: a property of controls and frames that a worker's own turn keeps is kept by every move,
-- since others change no code. So for where code is at work: in which module, in which version.
use mathlib.Core.Bool.{Bool, ◌||◌, false}
use mathlib.Core.Option.{Option, some, none}
use mathlib.Core.Path.{◌≡◌, refl, sym, ap, subst, ◌∙◌}
use mathlib.Core.Logic.{◌⊎◌, inl, inr}
use mathlib.Core.List.{List, [], ◌∷◌, ◌++◌}
use Prim.Native.Nat.{ℕ}
use lib.ListN.{length}
use lib.IntN.{ℤ, pos, negsuc}
use lib.Dec.{leb}
use Rattle.meaning.specs.Basics.{opt, Name}
use Rattle.meaning.specs.Atoms.{a_type, a_match, a_clause}
use Rattle.meaning.specs.Syntax.{Operation, Expr, int, atom, var, nil, apply, case, receive, receive_until, catch}
use Rattle.meaning.specs.Syntax.{Exprs, no_e, and_e, Body, last, bind, Clauses, Program}
use Rattle.meaning.specs.Values.{Value, as_int, look_up, match}
use Rattle.meaning.specs.System.{cut_link, Scope, Until, for_ever, until, Control, eval, give, enter, fail, wait}
use Rattle.meaning.specs.System.{Frame, operands_frame, bind_frame, case_frame, until_frame, catch_frame, Worker}
use Rattle.meaning.specs.System.{Signal, System, find, change, on_worker, set_control, set_mail, add_mail, set_links}
use Rattle.meaning.specs.System.{set_traps, add_link, gone, current, among, Apart}
use Rattle.meaning.specs.Turns.{Outcome, goes_on, leaves, stuck, error, gives, choose, take_first, rebind}
use Rattle.meaning.specs.Turns.{enter_function, perform, operands, evaluate, begin_body, wait_until, resume, unwind}
use Rattle.meaning.specs.Turns.{timed_out, turn_with, turn_of}
use Rattle.meaning.specs.Moves.{take_signal}
use Rattle.meaning.specs.Effects.{From, own, other, Effect, nothing, sent, spawned, linked_gone, exited, linked}
use Rattle.meaning.specs.Effects.{trapped, showed, named, took}
use Rattle.std.proofs.lemmas.Bool.{cond_both, or_parts}
use Rattle.meaning.proofs.Splits.{OnSome, opt_all}
use Rattle.meaning.proofs.Finding.{KeepsNumber, found_before-change, found_before_new, Within, gone-within}
use Rattle.meaning.proofs.Effects.{Arity, Act, acts_value, acts_error, acts_call, acts_swap, acts_swapped_out}
use Rattle.meaning.proofs.Effects.{acts_stuck, perform_view, entered_is}
use Rattle.meaning.proofs.Links.{add_link_keeps}
use Rattle.meaning.proofs.Results.{take_signal_all}
use Rattle.meaning.proofs.Swapping.{swapped-within}

-- every worker of t was there with the same code and frames, or is new and has the property
abbrev pub AsBeforeOrNew : (Control → Type 0) → System → System → Type 0
AsBeforeOrNew OnControl s t = (q : ℕ) (x : Worker) → find t.workers q ≡ some x →
    ((y : Worker) × (find s.workers q ≡ some y) × (x.control ≡ y.control) × (x.frames ≡ y.frames))
    ⊎ (OnControl x.control × (x.frames ≡ []))

pub all_as_before : (OnControl : Control → Type 0) (s : System) → AsBeforeOrNew OnControl s s
all_as_before OnControl s q x e = inl (x, e, refl, refl)

-- a change that leaves code and frames
abbrev pub KeepsCode : (Worker → Worker) → Type 0
KeepsCode f = (w : Worker) → ((f w).control ≡ w.control) × ((f w).frames ≡ w.frames)

pub code_before-change : (ws : List Worker) (n : ℕ) (f : Worker → Worker) → KeepsNumber f → KeepsCode f →
    (q : ℕ) (x : Worker) → find (change ws n f) q ≡ some x →
    (y : Worker) × (find ws q ≡ some y) × (x.control ≡ y.control) × (x.frames ≡ y.frames)
code_before-change ws n f kp kc q x e =
    let r = found_before-change ws n f kp q x e in (
      r.0,
      r.1,
      elim r.2 [
        | inl h ↦ ap (λ (z : Worker). z.control) h.1
        | inr h ↦ ap (λ (z : Worker). z.control) h.1 ∙ (kc r.0).0
      ],
      elim r.2 [
        | inl h ↦ ap (λ (z : Worker). z.frames) h.1
        | inr h ↦ ap (λ (z : Worker). z.frames) h.1
            ∙ (kc r.0).1
      ],
    )

pub add_link_keeps_code : (n : ℕ) → KeepsCode (add_link n)
add_link_keeps_code n w =
    cond_both (among n w.links) w (set_links (w.links ++ (n ∷ [])) w) (λ (x : Worker). (x.control ≡ w.control) × (x.frames ≡ w.frames)) (λ h. (refl, refl)) (λ h. (refl, refl))

pub effect_code : (OnControl : Control → Type 0) (g : Program) (s : System) (w : Scope) (me : ℕ) (t : System) →
    ((c : Control) → From g s w c → OnControl c) → Effect g s w me t → AsBeforeOrNew OnControl s t
effect_code OnControl g s w me t fr nothing q x e = inl (x, e, refl, refl)
effect_code OnControl g s w me t fr (sent p v) q x e =
    inl (code_before-change s.workers p (add_mail v) (λ y. refl) (λ y. (refl, refl)) q x e)
effect_code OnControl g s w me t fr (spawned c f) q x e =
    elim (found_before_new s.workers
    (record { pid = s.next; control = c; frames = []; mail = []; links = []; traps = false }) q x e) [
      | inl a ↦ inl (x, a, refl, refl)
      | inr a ↦ inr (
        subst (λ (z : Worker). OnControl z.control) (sym a.1) (fr c f),
        ap (λ (z : Worker). z.frames) a.1,
      )
    ]
effect_code OnControl g s w me t fr (linked_gone p d f) q x e = inl (x, e, refl, refl)
effect_code OnControl g s w me t fr (exited p r) q x e = inl (x, e, refl, refl)
effect_code OnControl g s w me t fr (linked p y d f) q x e =
    let r = code_before-change (change s.workers me (add_link p)) p (add_link me) (add_link_keeps me)
    (add_link_keeps_code me) q x e in
    let o = code_before-change s.workers me (add_link p) (add_link_keeps p) (add_link_keeps_code p) q r.0
    r.1 in
    inl (o.0, o.1, r.2 ∙ o.2, r.3 ∙ o.3)
effect_code OnControl g s w me t fr (trapped b) q x e =
    inl (code_before-change s.workers me (set_traps b) (λ y. refl) (λ y. (refl, refl)) q x e)
effect_code OnControl g s w me t fr (showed l) q x e = inl (x, e, refl, refl)
effect_code OnControl g s w me t fr (named y) q x e = inl (x, e, refl, refl)
effect_code OnControl g s w me t fr (took ms) q x e =
    inl (code_before-change s.workers me (set_mail ms) (λ y. refl) (λ y. (refl, refl)) q x e)

-- what a turn leads to: what the worker goes on with has the property, and so has what is new; `IfStuck` is for where
-- there is no meaning
abbrev pub Onward : (Control → Type 0) → (List Frame → Type 0) → Type 0 → System → Outcome → Type 0
Onward OnControl OnFrames IfStuck s (goes_on c k t) = OnControl c × OnFrames k × AsBeforeOrNew OnControl s t
Onward OnControl OnFrames IfStuck s (leaves t) = Unit {0}
Onward OnControl OnFrames IfStuck s stuck = IfStuck

pub act_onward : (OnControl : Control → Type 0) (OnFrames : List Frame → Type 0) (IfStuck : Type 0) (g : Program)
    (k : List Frame)
    (s : System) (me : ℕ) (w : Scope) (j : Operation) (n : ℕ) (o : Outcome) → ((v : Value) → OnControl (give v)) →
    ((v : Value) → OnControl (fail v)) → ((c : Control) → From g s w c → OnControl c) → OnFrames k →
    ((Arity j n → ⊥) → IfStuck) →
    Apart s.workers → Act g k s me w j n o → Onward OnControl OnFrames IfStuck s o
act_onward OnControl OnFrames IfStuck g k s me w j n o pv pf fr pk st u (acts_value v d) =
    (pv v, pk, effect_code OnControl g s w me _ fr d)
act_onward OnControl OnFrames IfStuck g k s me w j n o pv pf fr pk st u (acts_error r) =
    (pf r, pk, all_as_before OnControl s)
act_onward OnControl OnFrames IfStuck g k s me w j n o pv pf fr pk st u (acts_call c f) =
    (fr c f, pk, all_as_before OnControl s)
act_onward OnControl OnFrames IfStuck g k s me w j n o pv pf fr pk st u (acts_swap x m v y e h) =
    (pv v, pk, λ q z d. inl (z, swapped-within s x m u q z d, refl, refl))
act_onward OnControl OnFrames IfStuck g k s me w j n o pv pf fr pk st u (acts_swapped_out x m e h) = tt
act_onward OnControl OnFrames IfStuck g k s me w j n o pv pf fr pk st u (acts_stuck h) = st h

-- code and frames of all workers have the property
abbrev pub EveryWorker : (Control → Type 0) → (List Frame → Type 0) → List Worker → Type 0
EveryWorker OnControl OnFrames ws = (q : ℕ) (x : Worker) → find ws q ≡ some x →
    OnControl x.control × OnFrames x.frames

module _ (OnControl : Control → Type 0) (OnFrames : List Frame → Type 0) where
  same_code : (x y : Worker) → x.control ≡ y.control → x.frames ≡ y.frames →
      OnControl y.control × OnFrames y.frames →
      OnControl x.control × OnFrames x.frames
  same_code x y e d h = (subst OnControl (sym e) h.0, subst OnFrames (sym d) h.1)

  pub within_every : (vs ws : List Worker) → Within vs ws → EveryWorker OnControl OnFrames ws →
      EveryWorker OnControl OnFrames vs
  within_every vs ws sub h q x e = h q x (sub q x e)

  pub change_every : (ws : List Worker) (n : ℕ) (f : Worker → Worker) → KeepsNumber f → KeepsCode f →
      EveryWorker OnControl OnFrames ws → EveryWorker OnControl OnFrames (change ws n f)
  change_every ws n f kp kc h q x e =
      let r = code_before-change ws n f kp kc q x e in
      same_code x r.0 r.2 r.3 (h q r.0 r.1)

  -- what was there is as before, what is new has it, and the one that moved has it
  pub settle_every : (s t : System) (n : ℕ) (c : Control) (k : List Frame) → OnFrames [] →
      AsBeforeOrNew OnControl s t →
      EveryWorker OnControl OnFrames s.workers → OnControl c → OnFrames k →
      EveryWorker OnControl OnFrames (change t.workers n (set_control c k))
  settle_every s t n c k nl od h pc pk q x e =
      let r = found_before-change t.workers n (set_control c k) (λ y. refl) q x e in
      go r.0 r.1 r.2
    where
      was : (y : Worker) → find t.workers q ≡ some y →
          ((z : Worker) × (find s.workers q ≡ some z) × (y.control ≡ z.control) × (y.frames ≡ z.frames))
          ⊎ (OnControl y.control × (y.frames ≡ [])) → OnControl y.control × OnFrames y.frames
      was y d (inl i) = same_code y i.0 i.2 i.3 (h q i.0 i.1)
      was y d (inr i) = (i.0, subst OnFrames (sym i.1) nl)

      go : (y : Worker) → find t.workers q ≡ some y →
          ((q ≡ n → ⊥) × (x ≡ y)) ⊎ ((q ≡ n) × (x ≡ set_control c k y)) →
          OnControl x.control × OnFrames x.frames
      go y d (inl i) = subst (λ (z : Worker). OnControl z.control × OnFrames z.frames) (sym i.1)
          (was y d (od q y d))
      go y d (inr i) = subst (λ (z : Worker). OnControl z.control × OnFrames z.frames) (sym i.1) (pc, pk)

  -- signals and the clock change no code
  pub signal_every : (s : System) (g : Signal) (w : Worker) → Apart s.workers →
      EveryWorker OnControl OnFrames s.workers →
      EveryWorker OnControl OnFrames (take_signal s g w).workers
  signal_every s g w u h = take_signal_all (λ t. EveryWorker OnControl OnFrames t.workers) s g w
      (change_every s.workers w.pid (add_mail _) (λ x. refl) (λ x. (refl, refl)) h)
      (change_every (change s.workers w.pid (cut_link g.from)) g.from (cut_link w.pid) (λ x. refl)
      (λ x. (refl, refl))
      (change_every s.workers w.pid (cut_link g.from) (λ x. refl) (λ x. (refl, refl)) h))
      (within_every (gone s.workers w.pid) s.workers (gone-within s.workers w.pid u) h)

-- the scope in which a control or a frame is at work, if it is code
abbrev pub control_scope : Control → Option Scope
control_scope (eval e w) = some w
control_scope (give v) = none
control_scope (enter b w) = some w
control_scope (fail v) = none
control_scope (wait cs u w) = some w

abbrev pub frame_scope : Frame → Option Scope
frame_scope (operands_frame j vs es w) = some w
frame_scope (bind_frame p b w) = some w
frame_scope (case_frame cs w) = some w
frame_scope (until_frame cs b w) = some w
frame_scope catch_frame = none

-- a property of each module and version at work
abbrev pub InScope : (Name → ℕ → Type 0) → Option Scope → Type 0
InScope Q o = OnSome (λ w. Q w.home w.version) o

abbrev pub InControl : (Name → ℕ → Type 0) → Control → Type 0
InControl Q c = InScope Q (control_scope c)

abbrev pub InFrame : (Name → ℕ → Type 0) → Frame → Type 0
InFrame Q f = InScope Q (frame_scope f)

abbrev pub InFrames : (Name → ℕ → Type 0) → List Frame → Type 0
InFrames Q [] = Unit {0}
InFrames Q (f ∷ fs) = InFrame Q f × InFrames Q fs

-- a test that holds somewhere in a worker's code
abbrev pub any_scope : (Scope → Bool) → Option Scope → Bool
any_scope t o = opt o false t

abbrev pub any_frame : (Scope → Bool) → List Frame → Bool
any_frame t [] = false
any_frame t (f ∷ k) = any_scope t (frame_scope f) || any_frame t k

abbrev pub any_code : (Scope → Bool) → Worker → Bool
any_code t w = any_scope t (control_scope w.control) || any_frame t w.frames

-- where Q rules a test out, it holds nowhere
none_in_scope : (Q : Name → ℕ → Type 0) (t : Scope → Bool) → ((w : Scope) → Q w.home w.version → t w ≡ false) →
    (o : Option Scope) → InScope Q o → any_scope t o ≡ false
none_in_scope Q t f none h = refl
none_in_scope Q t f (some w) h = f w h

none_in_frames : (Q : Name → ℕ → Type 0) (t : Scope → Bool) →
    ((w : Scope) → Q w.home w.version → t w ≡ false) → (k : List Frame) → InFrames Q k → any_frame t k ≡ false
none_in_frames Q t f [] h = refl
none_in_frames Q t f (x ∷ k) h = ap (λ (b : Bool). b || any_frame t k) (none_in_scope Q t f (frame_scope x) h.0)
    ∙ none_in_frames Q t f k h.1

pub none_in_code : (Q : Name → ℕ → Type 0) (t : Scope → Bool) →
    ((w : Scope) → Q w.home w.version → t w ≡ false) → (w : Worker) →
    InControl Q w.control × InFrames Q w.frames → any_code t w ≡ false
none_in_code Q t f w h = ap (λ (b : Bool). b || any_frame t w.frames)
    (none_in_scope Q t f (control_scope w.control) h.0) ∙ none_in_frames Q t f w.frames h.1

-- where a test holds nowhere, Q becomes R
kept_in_scope : (Q R : Name → ℕ → Type 0) (t : Scope → Bool) →
    ((w : Scope) → Q w.home w.version → t w ≡ false → R w.home w.version) → (o : Option Scope) →
    InScope Q o → any_scope t o ≡ false → InScope R o
kept_in_scope Q R t f none h e = tt
kept_in_scope Q R t f (some w) h e = f w h e

kept_in_frames : (Q R : Name → ℕ → Type 0) (t : Scope → Bool) →
    ((w : Scope) → Q w.home w.version → t w ≡ false → R w.home w.version) → (k : List Frame) →
    InFrames Q k → any_frame t k ≡ false → InFrames R k
kept_in_frames Q R t f [] h e = tt
kept_in_frames Q R t f (x ∷ k) h e =
    let z = or_parts (any_scope t (frame_scope x)) (any_frame t k) e in
    (kept_in_scope Q R t f (frame_scope x) h.0 z.0, kept_in_frames Q R t f k h.1 z.1)

pub kept_in_code : (Q R : Name → ℕ → Type 0) (t : Scope → Bool) →
    ((w : Scope) → Q w.home w.version → t w ≡ false → R w.home w.version) → (w : Worker) →
    InControl Q w.control × InFrames Q w.frames → any_code t w ≡ false →
    InControl R w.control × InFrames R w.frames
kept_in_code Q R t f w h e =
    let z = or_parts (any_scope t (control_scope w.control)) (any_frame t w.frames) e in (
      kept_in_scope Q R t f (control_scope w.control) h.0 z.0,
      kept_in_frames Q R t f w.frames h.1
          z.1,
    )

-- calls and spawns enter code in their own version, or in a current one
pub entered_in : (Q : Name → ℕ → Type 0) (g : Program) (m : Name) (n : ℕ) (f : Name) (vs : List Value)
    (c : Control) → enter_function g m n f vs ≡ some c → Q m n → InControl Q c
entered_in Q g m n f vs c e q = subst (InControl Q) (entered_is g m n f vs c e).4 q

module _ (g : Program) (s : System) (Q : Name → ℕ → Type 0)
    (now : (m : Name) (n : ℕ) → current s.loaded m ≡ some n → Q m n) (u : Apart s.workers) where
  abbrev OnwardIn : Outcome → Type 0
  OnwardIn o = Onward (InControl Q) (InFrames Q) (Unit {0}) s o

  unchanged : AsBeforeOrNew (InControl Q) s s
  unchanged = all_as_before (InControl Q) s

  from_in : (w : Scope) → Q w.home w.version → (c : Control) → From g s w c → InControl Q c
  from_in w q c (own f vs e) = entered_in Q g w.home w.version f vs c e q
  from_in w q c (other m n f vs e d) = entered_in Q g m n f vs c d (now m n e)

  operands_onward : (k : List Frame) (me : ℕ) (w : Scope) (j : Operation) (vs : List Value) (es : Exprs) →
      InFrames Q k → Q w.home w.version → OnwardIn (operands g k s me w j vs es)
  operands_onward k me w j vs no_e h q =
      act_onward (InControl Q) (InFrames Q) (Unit {0}) g k s me w j (length vs) (perform g k s me w j vs) (λ v. tt)
      (λ v. tt) (from_in w q) h (λ z. tt) u (perform_view g k s me w j vs)
  operands_onward k me w j vs (and_e e es) h q = (q, (q, h), unchanged)

  evaluate_onward : (k : List Frame) (me : ℕ) (e : Expr) (w : Scope) → InFrames Q k → Q w.home w.version →
      OnwardIn (evaluate g k s me e w)
  evaluate_onward k me (int n) w h q = (tt, h, unchanged)
  evaluate_onward k me (atom x) w h q = (tt, h, unchanged)
  evaluate_onward k me (var x) w h q = opt_all OnwardIn (look_up w.vars x) stuck (gives k s) (λ e. tt)
      (λ v e. (tt, h, unchanged))
  evaluate_onward k me nil w h q = (tt, h, unchanged)
  evaluate_onward k me (apply j es) w h q = operands_onward k me w j [] es h q
  evaluate_onward k me (case e cs) w h q = (q, (q, h), unchanged)
  evaluate_onward k me (receive cs) w h q = (q, h, unchanged)
  evaluate_onward k me (receive_until cs e b) w h q = (q, (q, h), unchanged)
  evaluate_onward k me (catch b) w h q = (q, (tt, h), unchanged)

  body_onward : (k : List Frame) (b : Body) (w : Scope) → InFrames Q k → Q w.home w.version →
      OnwardIn (begin_body k s b w)
  body_onward k (last e) w h q = (q, h, unchanged)
  body_onward k (bind p e b) w h q = (q, (q, h), unchanged)

  until_onward : (k : List Frame) (cs : Clauses) (b : Body) (w : Scope) (n : ℤ) → InFrames Q k →
      Q w.home w.version → OnwardIn (wait_until k s cs b w n)
  until_onward k cs b w (pos n) h q = (q, h, unchanged)
  until_onward k cs b w (negsuc n) h q = (tt, h, unchanged)

  resume_onward : (me : Worker) (v : Value) (k : List Frame) → InFrames Q k → OnwardIn (resume g s me v k)
  resume_onward me v [] h = tt
  resume_onward me v (operands_frame j vs es w ∷ k) h =
      operands_onward k me.pid w j (vs ++ (v ∷ [])) es h.1 h.0
  resume_onward me v (bind_frame p b w ∷ k) h = opt_all OnwardIn (match p v w.vars) (error k s a_match)
      (λ bs. goes_on (enter b (rebind w bs)) k s) (λ e. (tt, h.1, unchanged)) (λ bs e. (h.0, h.1, unchanged))
  resume_onward me v (case_frame cs w ∷ k) h = opt_all OnwardIn (choose cs v w.vars) (error k s a_clause)
      (λ c. goes_on (enter c.body (rebind w c.vars)) k s) (λ e. (tt, h.1, unchanged))
      (λ c e. (h.0, h.1, unchanged))
  resume_onward me v (until_frame cs b w ∷ k) h =
      opt_all OnwardIn (as_int v) (error k s a_type) (wait_until k s cs b w) (λ e. (tt, h.1, unchanged))
      (λ n e. until_onward k cs b w n h.1 h.0)
  resume_onward me v (catch_frame ∷ k) h = (tt, h.1, unchanged)

  unwind_onward : (me : Worker) (r : Value) (k : List Frame) → InFrames Q k → OnwardIn (unwind s me r k)
  unwind_onward me r [] h = tt
  unwind_onward me r (operands_frame j vs es w ∷ k) h = (tt, h.1, unchanged)
  unwind_onward me r (bind_frame p b w ∷ k) h = (tt, h.1, unchanged)
  unwind_onward me r (case_frame cs w ∷ k) h = (tt, h.1, unchanged)
  unwind_onward me r (until_frame cs b w ∷ k) h = (tt, h.1, unchanged)
  unwind_onward me r (catch_frame ∷ k) h = (tt, h.1, unchanged)

  timed_out_onward : (k : List Frame) (un : Until) (w : Scope) → InFrames Q k → Q w.home w.version →
      OnSome OnwardIn (timed_out s k un w)
  timed_out_onward k for_ever w h q = tt
  timed_out_onward k (until t b) w h q =
      cond_both (leb t s.clock) (some (goes_on (enter b w) k s)) none (OnSome OnwardIn) (λ e. (q, h, unchanged))
      (λ e. tt)

  turn_with_onward : (me : Worker) (c : Control) → InControl Q c → InFrames Q me.frames →
      OnSome OnwardIn (turn_with g s me c)
  turn_with_onward me (eval e w) q h = evaluate_onward me.frames me.pid e w h q
  turn_with_onward me (give v) q h = resume_onward me v me.frames h
  turn_with_onward me (enter b w) q h = body_onward me.frames b w h q
  turn_with_onward me (fail r) q h = unwind_onward me r me.frames h
  turn_with_onward me (wait cs un w) q h =
      opt_all (OnSome OnwardIn) (take_first cs w.vars me.mail) (timed_out s me.frames un w)
      (λ t. some (goes_on (enter t.chosen.body (rebind w t.chosen.vars)) me.frames
      (on_worker s me.pid (set_mail t.rest)))) (λ e. timed_out_onward me.frames un w h q)
      (λ t e. (q, h, effect_code (InControl Q) g s w me.pid _ (from_in w q) (took t.rest)))

  pub turn_onward : (me : Worker) → InControl Q me.control → InFrames Q me.frames →
      OnSome OnwardIn (turn_of g s me)
  turn_onward me q h = turn_with_onward me me.control q h
