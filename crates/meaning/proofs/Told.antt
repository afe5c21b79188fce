-- Whoever is linked to a worker that ends is told, behind the signals that were there: a worker ends by its own turn,
-- by a swap or by a signal, and each appends a signal to all its links.
use mathlib.Core.Path.{◌≡◌, refl, sym, ap, subst, ◌∙◌}
use mathlib.Core.Logic.{inl, inr}
use mathlib.Core.Bool.{true}
use mathlib.Core.List.{List, ◌++◌}
use mathlib.Core.Option.{Option, some, none}
use Prim.Native.Nat.{ℕ}
use lib.Dec.{eqb}
use Rattle.meaning.specs.Basics.{Name}
use Rattle.meaning.specs.Atoms.{a_old}
use Rattle.meaning.specs.Syntax.{Program}
use Rattle.meaning.specs.Values.{Value, v_atom}
use Rattle.meaning.specs.System.{cut_link, Worker, Signal, System, with_signals, find, change, set_control, add_mail}
use Rattle.meaning.specs.System.{among, gone, told, old, Apart, swapped}
use Rattle.meaning.specs.Turns.{Outcome}
use Rattle.meaning.specs.Moves.{Move, turn, signal, tick, settle, deliver, move}
use Rattle.meaning.specs.Promise.{Behind, LinkedTold, end_reason, oldest_reason, reason_of, ToldOf}
use Rattle.meaning.specs.Effects.{Turned, turn_goes, turn_ends, turn_swaps, turn_swapped_out, turn_stuck}
use Rattle.std.proofs.lemmas.Bool.{cond-true, cond_both, eq-eqb, eqb-false, eqb-true}
use Rattle.meaning.proofs.Splits.{bool_all, some_is, none_some}
use Rattle.meaning.proofs.Finding.{find_pid, find-gone_other, stays_after-change, change_ends_nobody}
use Rattle.meaning.proofs.Links.{Sound, reached_sound}
use Rattle.meaning.proofs.Results.{OnIs, on_is_of, turn_all, deliver_all, take_signal_all, tick_all}
use Rattle.meaning.proofs.Swapping.{told_each, swapped_tells, swapped_spares}
use Rattle.meaning.proofs.Alone.{effect_others}

-- q is told of the end of p, if p is no more
abbrev ToldIfGone : System → ℕ → ℕ → Value → System → Type 0
ToldIfGone s p q y t = find t.workers p ≡ none → (gs : List Signal) × Behind s t gs × ToldOf q p y gs

swap_told : (s : System) (x : Name) (m p q : ℕ) (w : Worker) (y : Value) → y ≡ v_atom a_old → Apart s.workers →
    find s.workers p ≡ some w → among q w.links ≡ true → ToldIfGone s p q y (swapped s x m)
swap_told s x m p q w y yo u e a gn =
    let r = swapped_tells s x m in
    bool_all (λ b. old x m w ≡ b → (gs : List Signal) × Behind s (swapped s x m) gs × ToldOf q p y gs) (old x m w)
    (λ h i. (
      r.0,
      (s.signals, r.1, inl refl),
      subst (λ (z : Value). ToldOf q p z r.0) (sym yo) (r.2 p q w e h a),
    ))
    (λ h i. absurd (none_some (sym gn ∙ swapped_spares s x m p w u e h))) refl

end_told : (s : System) (me : Worker) (r : Value) (p q : ℕ) (w : Worker) (hs : List Signal) → s.signals ≡ hs →
    find s.workers me.pid ≡ some me → find s.workers p ≡ some w → among q w.links ≡ true →
    find (gone s.workers me.pid) p ≡ none →
    (gs : List Signal) × (s.signals ++ told me.pid r me.links ≡ hs ++ gs) × ToldOf q p r gs × (me ≡ w)
end_told s me r p q w hs sg fm fp a gn =
    bool_all (λ b. (gs : List Signal) × (s.signals ++ told me.pid r me.links ≡ hs ++ gs) × ToldOf q p r gs
    × (me ≡ w)) (eqb p me.pid)
    (λ h. let i = eqb-true p me.pid h in
    let z : me ≡ w = some_is (sym fm ∙ subst (λ (j : ℕ). find s.workers j ≡ some w) i fp) in (
      told me.pid r me.links,
      ap (λ (y : List Signal). y ++ told me.pid r me.links) sg,
      subst (λ (j : ℕ). ToldOf q p r (told j r me.links)) i
          (told_each p q r me.links (ap (λ (y : Worker). among q y.links) z ∙ a)),
      z,
    ))
    (λ h. absurd (none_some (sym gn ∙ find-gone_other s.workers me.pid p (eqb-false p me.pid h) ∙ fp)))

-- a swap ends with 'old, whoever's turn it was
swap_reason : (s : System) (n p : ℕ) (me w : Worker) → me.pid ≡ n → find s.workers me.pid ≡ some me →
    find s.workers p ≡ some w → end_reason me.control me.frames ≡ v_atom a_old →
    reason_of s (turn n) w ≡ v_atom a_old
swap_reason s n p me w pn fm fp wo =
    cond_both (eqb n w.pid) (end_reason w.control w.frames) (v_atom a_old) (λ (y : Value). y ≡ v_atom a_old)
    (λ h. let z : me ≡ w = some_is (sym fm ∙ subst (λ (j : ℕ). find s.workers j ≡ some w)
    (sym (find_pid s.workers p w fp) ∙ sym (eqb-true n w.pid h) ∙ sym pn) fp) in
    subst (λ (v : Worker). end_reason v.control v.frames ≡ v_atom a_old) z wo) (λ h. refl)

turned-told : (g : Program) (s : System) (n p q : ℕ) (w me : Worker) (o : Outcome) → Sound s → me.pid ≡ n →
    find s.workers me.pid ≡ some me → find s.workers p ≡ some w → among q w.links ≡ true →
    Turned g s me o → OnIs (ToldIfGone s p q (reason_of s (turn n) w)) (settle n o)
turned-told g s n p q w me o sd pn fm e a (turn_goes c k v {t} d) = λ gn.
    let r = effect_others g s v me.pid t d p w e in
    absurd (change_ends_nobody t.workers n (set_control c k) (λ x. refl) p r.0 r.1 gn)
turned-told g s n p q w me o sd pn fm e a (turn_ends r why) = λ gn.
    let z = end_told s me r p q w s.signals refl fm e a gn in
    let same_end : reason_of s (turn n) w ≡ r =
    cond-true (eqb n w.pid) (end_reason w.control w.frames) (v_atom a_old)
    (eq-eqb n w.pid (sym pn ∙ ap (λ (v : Worker). v.pid) z.3))
    ∙ sym (ap (λ (v : Worker). end_reason v.control v.frames) z.3) ∙ sym why in
    (z.0, (s.signals, z.1, inl refl), subst (λ (y : Value). ToldOf q p y z.0) (sym same_end) z.2)
turned-told g s n p q w me o sd pn fm e a (turn_swaps c k x m y d f wo) =
    λ gn. swap_told s x m p q w (reason_of s (turn n) w) (swap_reason s n p me w pn fm e wo) sd.apart e a
    (go (find (swapped s x m).workers p) refl gn)
  where
    go : (i : Option Worker) → find (swapped s x m).workers p ≡ i →
        find (change (swapped s x m).workers n (set_control c k)) p ≡ none → find (swapped s x m).workers p ≡ none
    go none r gn = r
    go (some v) r gn = absurd (change_ends_nobody (swapped s x m).workers n (set_control c k) (λ x. refl) p v r gn)
turned-told g s n p q w me o sd pn fm e a (turn_swapped_out x m d f wo) =
    swap_told s x m p q w (reason_of s (turn n) w) (swap_reason s n p me w pn fm e wo) sd.apart e a
turned-told g s n p q w me o sd pn fm e a turn_stuck = tt

signal_told : (s : System) (p q : ℕ) (w : Worker) → find s.workers p ≡ some w → among q w.links ≡ true →
    OnIs (ToldIfGone s p q (oldest_reason s.signals)) (deliver s s.signals)
signal_told s p q w e a = deliver_all (ToldIfGone s p q (oldest_reason s.signals)) (Unit {0}) s s.signals
    (λ g hs i gn. absurd (none_some (sym gn ∙ e)))
    (λ g hs v i h. take_signal_all (ToldIfGone s p q (oldest_reason s.signals)) (with_signals s hs) g v
    (λ gn. absurd (change_ends_nobody s.workers v.pid (add_mail _) (λ x. refl) p w e gn))
    (λ gn. let r = stays_after-change s.workers v.pid (cut_link g.from) (λ x. refl) p w e in
    absurd (change_ends_nobody (change s.workers v.pid (cut_link g.from)) g.from (cut_link v.pid)
    (λ x. refl) p r.0 r.1 gn))
    (λ gn. let z = end_told (with_signals s hs) v g.reason p q w hs refl
    (subst (λ (j : ℕ). find s.workers j ≡ some v) (sym (find_pid s.workers g.to v h)) h) e a gn in (
      z.0,
      (hs, z.1, inr (g, i)),
      subst (λ (y : Value). ToldOf q p y z.0) (sym (ap oldest_reason i)) z.2,
    )))

pub linked_told : LinkedTold
linked_told g l s s' m p q w r e f gn a = on_is_of (ToldIfGone s p q (reason_of s m w)) (move g s m) s' (go m) e gn
  where
    go : (m : Move) → OnIs (ToldIfGone s p q (reason_of s m w)) (move g s m)
    go (turn n) = turn_all g s n (OnIs (ToldIfGone s p q (reason_of s (turn n) w))) tt
        (λ me o i j d v. turned-told g s n p q w me o (reached_sound g l s r) i j f a v)
    go signal = signal_told s p q w f a
    go tick = tick_all (ToldIfGone s p q (v_atom a_old)) (Unit {0}) s (λ t i gn. absurd (none_some (sym gn ∙ f)))
