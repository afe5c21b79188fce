-- Of each module at most two versions are at work, the current one and the one before it: every scope is in that
-- span. Calls enter the current version or stay in their own, and a swap ends whatever would fall behind.
use mathlib.Core.Path.{◌≡◌, refl, sym, ap, subst, ◌∙◌}
use mathlib.Core.Logic.{inl}
use mathlib.Core.Bool.{Bool, true, false, ◌&&◌, not, cond}
use mathlib.Core.List.{List, [], ◌∷◌, ◌++◌}
use mathlib.Core.Option.{Option, some}
use Prim.Native.Nat.{ℕ, ◌+◌, ◌-◌, ◌≤◌}
use native.Mathlib.Omega.{arith}
use lib.Dec.{ltb, T, ltb→lt, nltb→le}
use Rattle.meaning.specs.Basics.{opt, Name, same}
use Rattle.meaning.specs.Atoms.{a_main}
use Rattle.meaning.specs.Syntax.{Program}
use Rattle.meaning.specs.System.{old_scope, Control, eval, give, enter, fail, wait, Frame, operands_frame, bind_frame}
use Rattle.meaning.specs.System.{case_frame, until_frame, catch_frame, Worker, Loaded, System, with_signals, find}
use Rattle.meaning.specs.System.{change, set_control, gone, current, now_loaded, old_control, old_frame, old_frames}
use Rattle.meaning.specs.System.{old, Apart, swapped}
use Rattle.meaning.specs.Turns.{Outcome, enter_function}
use Rattle.meaning.specs.Moves.{Move, turn, signal, tick, settle, take_signal, move, first_versions, first_name}
use Rattle.meaning.specs.Promise.{ahead_scope, Reached, TwoVersions, ahead_control, ahead_frame, ahead_frames}
use Rattle.meaning.specs.Promise.{NoneAhead}
use Rattle.meaning.specs.Effects.{Turned, turn_goes, turn_ends, turn_swaps, turn_swapped_out, turn_stuck}
use Rattle.meaning.proofs.OwnCode.{any_scope, any_frame, any_code, control_scope, frame_scope, none_in_code}
use Rattle.meaning.proofs.OwnCode.{kept_in_code, EveryWorker, within_every, settle_every, signal_every, Onward}
use Rattle.meaning.proofs.OwnCode.{InControl, InFrames, entered_in, turn_onward}
use Rattle.std.proofs.lemmas.Bool.{cond-false, cond_both}
use Rattle.meaning.proofs.Splits.{or_both, T_of, is_false, no_clash, opt_all, bool_all, some_is, none_some, same_is, same_refl, OnSome, same_and_false}
use Rattle.meaning.proofs.Links.{Sound, move-sound, first_sound}
use Rattle.meaning.proofs.Finding.{gone-within, find_only}
use Rattle.meaning.proofs.Results.{OnIs, turn_all, tick_all, at_first, reached_all, deliver_all, take_signal_all}
use Rattle.meaning.proofs.Results.{on_both, first_worker}
use Rattle.meaning.proofs.Swapping.{current-now_loaded, swapped_loaded, swapped_not_old}
use Rattle.meaning.proofs.Effects.{effect_bounds}

-- the current version, or the one before it
abbrev pub Span : List Loaded → Name → ℕ → Type 0
Span ls h v = (n : ℕ) → current ls h ≡ some n → (n ≤ v + 1) × (v ≤ n)

abbrev pub EveryIn : (Name → ℕ → Type 0) → List Worker → Type 0
EveryIn Q ws = EveryWorker (InControl Q) (InFrames Q) ws

span_now : (ls : List Loaded) (m : Name) (n : ℕ) → current ls m ≡ some n → Span ls m n
span_now ls m n e i d = let z : n ≡ i = some_is (sym e ∙ d) in (omega arith, omega arith)

-- a version that is not old stays within the span when the next one becomes current
current_other : (ls : List Loaded) (x y : Name) (m : ℕ) → same y x ≡ false →
    current (now_loaded ls x m) y ≡ current ls y
current_other [] x y m h = refl
current_other (l ∷ ls) x y m h =
    bool_all (λ b. same l.name x ≡ b →
    current (cond b (record { name = x; version = m } ∷ ls) (l ∷ now_loaded ls x m)) y ≡ cond (same l.name y)
    (some l.version) (current ls y)) (same l.name x)
    (λ e i. let z = same_is l.name x (T_of e) in
    cond-false (same x y) (some m) (current ls y) (apart x y h)
    ∙ sym (cond-false (same l.name y) (some l.version) (current ls y)
    (subst (λ (u : Name). same u y ≡ false) (sym z) (apart x y h))))
    (λ e i. ap (λ (o : Option ℕ). cond (same l.name y) (some l.version) o) (current_other ls x y m h)) refl
  where
    apart : (x y : Name) → same y x ≡ false → same x y ≡ false
    apart x y h = is_false (same x y)
        (λ t. no_clash (subst (λ (z : Name). same y z ≡ true) (sym (same_is x y t)) (same_refl y)) h)

span_after_swap : (ls : List Loaded) (x : Name) (m : ℕ) (h : Name) (v : ℕ) → current ls x ≡ some m → Span ls h v →
    (same h x && ltb v m) ≡ false → Span (now_loaded ls x (m + 1)) h v
span_after_swap ls x m h v e sp o n d =
    bool_all (λ b. same h x ≡ b → (b && ltb v m) ≡ false → (n ≤ v + 1) × (v ≤ n)) (same h x)
    (λ i j f. let z = same_is h x (T_of i) in let now = current-now_loaded ls x (m + 1) m e in
    let next : m + 1 ≡ n = some_is (sym now
    ∙ subst (λ (u : Name). current (now_loaded ls x (m + 1)) u ≡ some n) z d) in
    let lo : m ≤ v = nltb→le v m (subst (λ (b : Bool). T (not b)) (sym f) tt) in
    let hi = sp m (subst (λ (u : Name). current ls u ≡ some m) (sym z) e) in (omega arith, omega arith))
    (λ i j f. sp n (sym (current_other ls x h (m + 1) i) ∙ d)) refl o

-- `old`, and what is ahead, as tests of scopes
old_control-scope : (x : Name) (n : ℕ) (c : Control) → old_control x n c ≡ any_scope (old_scope x n) (control_scope c)
old_control-scope x n (eval e w) = refl
old_control-scope x n (give v) = refl
old_control-scope x n (enter b w) = refl
old_control-scope x n (fail v) = refl
old_control-scope x n (wait cs u w) = refl

old_frame-scope : (x : Name) (n : ℕ) (f : Frame) → old_frame x n f ≡ any_scope (old_scope x n) (frame_scope f)
old_frame-scope x n (operands_frame j vs es w) = refl
old_frame-scope x n (bind_frame p b w) = refl
old_frame-scope x n (case_frame cs w) = refl
old_frame-scope x n (until_frame cs b w) = refl
old_frame-scope x n catch_frame = refl

old_frames-scope : (x : Name) (n : ℕ) (k : List Frame) → old_frames x n k ≡ any_frame (old_scope x n) k
old_frames-scope x n [] = refl
old_frames-scope x n (f ∷ k) = or_both (old_frame-scope x n f) (old_frames-scope x n k)

old_is_scope : (x : Name) (n : ℕ) (w : Worker) → old x n w ≡ any_code (old_scope x n) w
old_is_scope x n w = or_both (old_control-scope x n w.control) (old_frames-scope x n w.frames)

ahead_control-scope : (x : Name) (n : ℕ) (c : Control) →
    ahead_control x n c ≡ any_scope (ahead_scope x n) (control_scope c)
ahead_control-scope x n (eval e w) = refl
ahead_control-scope x n (give v) = refl
ahead_control-scope x n (enter b w) = refl
ahead_control-scope x n (fail v) = refl
ahead_control-scope x n (wait cs u w) = refl

ahead_frame-scope : (x : Name) (n : ℕ) (f : Frame) → ahead_frame x n f ≡ any_scope (ahead_scope x n) (frame_scope f)
ahead_frame-scope x n (operands_frame j vs es w) = refl
ahead_frame-scope x n (bind_frame p b w) = refl
ahead_frame-scope x n (case_frame cs w) = refl
ahead_frame-scope x n (until_frame cs b w) = refl
ahead_frame-scope x n catch_frame = refl

ahead_frames-scope : (x : Name) (n : ℕ) (k : List Frame) → ahead_frames x n k ≡ any_frame (ahead_scope x n) k
ahead_frames-scope x n [] = refl
ahead_frames-scope x n (f ∷ k) = or_both (ahead_frame-scope x n f) (ahead_frames-scope x n k)

worker_after_swap : (ls : List Loaded) (x : Name) (m : ℕ) → current ls x ≡ some m → (w : Worker) →
    InControl (Span ls) w.control × InFrames (Span ls) w.frames → old x m w ≡ false →
    InControl (Span (now_loaded ls x (m + 1))) w.control × InFrames (Span (now_loaded ls x (m + 1))) w.frames
worker_after_swap ls x m e w h o = kept_in_code (Span ls) (Span (now_loaded ls x (m + 1))) (old_scope x m)
    (λ v sp d. span_after_swap ls x m v.home v.version e sp d) w h (sym (old_is_scope x m w) ∙ o)

abbrev pub Spans : System → Type 0
Spans s = EveryIn (Span s.loaded) s.workers

swapped_spans : (s : System) (x : Name) (m : ℕ) → Apart s.workers → current s.loaded x ≡ some m → Spans s →
    EveryIn (Span (now_loaded s.loaded x (m + 1))) (swapped s x m).workers
swapped_spans s x m u e h q y d =
    let r = swapped_not_old s x m q y u d in
    worker_after_swap s.loaded x m e y (h q y r.0) r.1

current-after_swap : (s : System) (x : Name) (m : ℕ) → current s.loaded x ≡ some m → (h : Name) (n : ℕ) →
    current s.loaded h ≡ some n → Span (now_loaded s.loaded x (m + 1)) h n
current-after_swap s x m e h n d =
    span_after_swap s.loaded x m h n e (span_now s.loaded h n d)
    (same_and_false h x (ltb n m) (λ i. let z : n ≡ m = some_is (sym d ∙ ap (current s.loaded) i ∙ e) in
    is_false (ltb n m) (λ t. let y = ltb→lt n m t in omega arith)))

OnwardInAll : Program → System → Worker → Outcome → Type 1
OnwardInAll g s me o = (Q : Name → ℕ → Type 0) → ((m : Name) (n : ℕ) → current s.loaded m ≡ some n → Q m n) →
    InControl Q me.control → InFrames Q me.frames → Onward (InControl Q) (InFrames Q) (Unit {0}) s o

turned_spans : (g : Program) (s : System) (n : ℕ) (me : Worker) (o : Outcome) → Apart s.workers →
    find s.workers me.pid ≡ some me → Turned g s me o → OnwardInAll g s me o → Spans s →
    OnIs Spans (settle n o)
unfolding OnwardInAll
turned_spans g s n me o u e (turn_goes c k w {t} d) go h =
    let mine = h me.pid me e in
    let r = go (Span s.loaded) (span_now s.loaded) mine.0 mine.1 in
    subst (λ (ls : List Loaded). EveryIn (Span ls) (change t.workers n (set_control c k)))
    (sym (effect_bounds g s w me.pid t d).0)
    (settle_every (InControl (Span s.loaded)) (InFrames (Span s.loaded)) s t n c k tt r.2 h r.0
    r.1)
turned_spans g s n me o u e (turn_ends r why) go h =
    within_every (InControl (Span s.loaded)) (InFrames (Span s.loaded)) (gone s.workers me.pid)
    s.workers (gone-within s.workers me.pid u) h
turned_spans g s n me o u e (turn_swaps c k x m y d f wo) go h =
    let Q = Span (now_loaded s.loaded x (m + 1)) in
    let mine = swapped_not_old s x m me.pid y u f in
    let same-me : y ≡ me = some_is (sym mine.0 ∙ e) in
    let still-mine = worker_after_swap s.loaded x m d me (h me.pid me e) (ap (old x m) (sym same-me) ∙ mine.1)
    in
    let r = go Q (current-after_swap s x m d) still-mine.0 still-mine.1 in
    subst (λ (ls : List Loaded). EveryIn (Span ls) (change (swapped s x m).workers n (set_control c k)))
    (sym (swapped_loaded s x m)) (settle_every (InControl Q) (InFrames Q) (swapped s x m) (swapped s x m) n c k
    tt (λ q z i. inl (z, i, refl, refl)) (swapped_spans s x m u d h) r.0 r.1)
turned_spans g s n me o u e (turn_swapped_out x m d f wo) go h =
    subst (λ (ls : List Loaded). EveryIn (Span ls) (swapped s x m).workers) (sym (swapped_loaded s x m))
    (swapped_spans s x m u d h)
turned_spans g s n me o u e turn_stuck go h = tt

move_spans : (g : Program) (s : System) (m : Move) → Apart s.workers → Spans s → OnIs Spans (move g s m)
unfolding OnwardInAll
move_spans g s (turn n) u h = turn_all g s n (OnIs Spans) tt
    (λ me o p e d v. turned_spans g s n me o u e v
    (λ Q now pc pk. subst (OnSome (Onward (InControl Q) (InFrames Q) (Unit {0}) s)) d
    (turn_onward g s Q now u me pc pk)) h)
move_spans g s signal u h = deliver_all Spans (Unit {0}) s s.signals (λ x gs i. h)
    (λ x gs w i e. subst (λ (ls : List Loaded). EveryIn (Span ls) (take_signal (with_signals s gs) x w).workers)
    (sym (take_signal_all (λ t. t.loaded ≡ s.loaded) (with_signals s gs) x w refl refl refl))
    (signal_every (InControl (Span s.loaded)) (InFrames (Span s.loaded)) (with_signals s gs) x w u h))
move_spans g s tick u h = tick_all Spans (Unit {0}) s (λ t l. h)

-- at first every module is in version 1
abbrev Ones : List Loaded → Type 0
Ones [] = Unit {0}
Ones (l ∷ ls) = (l.version ≡ 1) × Ones ls

ones_new : (ls : List Loaded) (x : Name) → Ones ls → Ones (ls ++ (record { name = x; version = 1 } ∷ []))
ones_new [] x h = (refl, tt)
ones_new (l ∷ ls) x h = (h.0, ones_new ls x h.1)

ones_first_versions : (g : Program) (ls : List Loaded) → Ones ls → Ones (first_versions g ls)
ones_first_versions [] ls h = h
ones_first_versions (m ∷ g) ls h =
    ones_first_versions g (opt (current ls m.name) (ls ++ (record { name = m.name; version = 1 } ∷ []))
    (λ n. ls)) (opt_all Ones (current ls m.name) (ls ++ (record { name = m.name; version = 1 } ∷ [])) (λ n. ls)
    (λ e. ones_new ls m.name h) (λ n e. h))

ones_current : (ls : List Loaded) (x : Name) (n : ℕ) → Ones ls → current ls x ≡ some n → n ≡ 1
ones_current [] x n h e = absurd (none_some e)
ones_current (l ∷ ls) x n h e =
    cond_both (same l.name x) (some l.version) (current ls x) (λ o. o ≡ some n → n ≡ 1)
    (λ i d. sym (some_is d) ∙ h.0) (λ i d. ones_current ls x n h.1 d) e

first_spans : (g : Program) (c : Control) → enter_function g (first_name g) 1 a_main [] ≡ some c →
    Spans (at_first g c)
first_spans g c e q x d = subst (λ (z : Worker). InControl (Span (first_versions g [])) z.control
    × InFrames (Span (first_versions g [])) z.frames) (find_only (first_worker c) x q d).1 (
      entered_in (Span (first_versions g [])) g (first_name g) 1 a_main [] c e
          (λ n i. let z = ones_current (first_versions g []) (first_name g) n (ones_first_versions g [] tt) i in
          (omega arith, omega arith)),
      tt,
    )

pub reached_spans : (g : Program) (l : List Move) (s : System) → Reached g l s → Spans s
reached_spans g l s r = (reached_all g (λ t. Sound t × Spans t) (λ c e. (first_sound g c, first_spans g c e))
    (λ t m h. on_both Sound Spans (Unit {0}) (move g t m) (move-sound g t m h.0)
    (move_spans g t m h.0.apart h.1)) l s r).1

-- nothing in the span is older than the version before the current one, or ahead of the current one
not_old : (ls : List Loaded) (x : Name) (n : ℕ) (h : Name) (v : ℕ) → current ls x ≡ some n → Span ls h v →
    (same h x && ltb v (n - 1)) ≡ false
not_old ls x n h v e sp = same_and_false h x (ltb v (n - 1))
    (λ i. let z = sp n (ap (current ls) i ∙ e) in
    is_false (ltb v (n - 1)) (λ t. let y = ltb→lt v (n - 1) t in omega arith))

not_ahead : (ls : List Loaded) (x : Name) (n : ℕ) (h : Name) (v : ℕ) → current ls x ≡ some n → Span ls h v →
    (same h x && ltb n v) ≡ false
not_ahead ls x n h v e sp = same_and_false h x (ltb n v)
    (λ i. let z = sp n (ap (current ls) i ∙ e) in is_false (ltb n v) (λ t. let y = ltb→lt n v t in omega arith))

pub two_versions : TwoVersions
two_versions g l s x n p w r e f = old_is_scope x (n - 1) w ∙ none_in_code (Span s.loaded) (old_scope x (n - 1))
    (λ v sp. not_old s.loaded x n v.home v.version e sp) w (reached_spans g l s r p w f)

pub none_ahead : NoneAhead
none_ahead g l s x n p w r e f = or_both (ahead_control-scope x n w.control) (ahead_frames-scope x n w.frames)
    ∙ none_in_code (Span s.loaded) (ahead_scope x n)
    (λ v sp. not_ahead s.loaded x n v.home v.version e sp) w (reached_spans g l s r p w f)
