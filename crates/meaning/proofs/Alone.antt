-- A turn leaves the other workers alone: an effect adds at most one message, and links; the end of the worker whose
-- turn it is touches nobody; a swap spares whoever has no old code.
use mathlib.Core.Path.{◌≡◌, refl, sym, subst, ◌∙◌}
use mathlib.Core.Logic.{inl, inr}
use mathlib.Core.List.{List, [], ◌∷◌, ◌++◌, append-nil}
use mathlib.Core.Option.{some}
use Prim.Native.Nat.{ℕ}
use native.Mathlib.Omega.{arith}
use Rattle.meaning.specs.Basics.{Name}
use Rattle.meaning.specs.Syntax.{Program}
use Rattle.meaning.specs.System.{Scope, Control, Frame, Worker, System, find, change, on_worker, set_control}
use Rattle.meaning.specs.System.{set_mail, add_mail, set_links, set_traps, among, add_link, current, old, Apart}
use Rattle.meaning.specs.System.{swapped}
use Rattle.meaning.specs.Turns.{Outcome}
use Rattle.meaning.specs.Moves.{turn, settle, move}
use Rattle.meaning.specs.Promise.{LeftAlone, Alone, AloneOrSwapped}
use Rattle.meaning.specs.Effects.{Effect, nothing, sent, spawned, linked_gone, exited, linked, trapped, showed, named}
use Rattle.meaning.specs.Effects.{took, Turned, turn_goes, turn_ends, turn_swaps, turn_swapped_out, turn_stuck}
use Rattle.std.proofs.lemmas.Bool.{cond_both}
use Rattle.meaning.proofs.Splits.{bool_all}
use Rattle.meaning.proofs.Finding.{KeepsNumber, find-change_other, find-gone_other, find-append_some}
use Rattle.meaning.proofs.Finding.{found_after-change}
use Rattle.meaning.proofs.Links.{add_link_keeps, Sound, reached_sound}
use Rattle.meaning.proofs.Results.{OnIs, on_is_of, turn_all}
use Rattle.meaning.proofs.Swapping.{swapped_loads_another, swapped_ends, swapped_spares}

left_alone_same : (w : Worker) → LeftAlone w w
left_alone_same w = (refl, refl, refl, ([], sym (append-nil w.mail), omega arith))

change_left_alone : (ws : List Worker) (n : ℕ) (f : Worker → Worker) → KeepsNumber f →
    ((w : Worker) → LeftAlone w (f w)) → (q : ℕ) (w : Worker) → find ws q ≡ some w →
    (x : Worker) × (find (change ws n f) q ≡ some x) × LeftAlone w x
change_left_alone ws n f kp al q w e =
    let r = found_after-change ws n f kp q w e in (
      r.0,
      r.1,
      elim r.2 [
        | inl h ↦ subst (LeftAlone w) (sym h.1) (left_alone_same w)
        | inr h ↦ subst (LeftAlone w) (sym h.1) (al w)
      ],
    )

add_link_left_alone : (n : ℕ) (w : Worker) → LeftAlone w (add_link n w)
add_link_left_alone n w = cond_both (among n w.links) w (set_links (w.links ++ (n ∷ [])) w) (LeftAlone w)
    (λ h. left_alone_same w) (λ h. (refl, refl, refl, ([], sym (append-nil w.mail), omega arith)))

-- a change of the worker n is nothing to others
change-own : (ws : List Worker) (n : ℕ) (f : Worker → Worker) → KeepsNumber f → (q : ℕ) (w : Worker) →
    find ws q ≡ some w → (x : Worker) × (find (change ws n f) q ≡ some x) × ((q ≡ n → ⊥) → x ≡ w)
change-own ws n f kp q w e =
    let r = found_after-change ws n f kp q w e in
    (r.0, r.1, λ d. elim r.2 [ inl h ↦ h.1 | inr h ↦ absurd (d h.0) ])

-- nobody ends by an effect, and others are left alone
pub effect_others : (g : Program) (s : System) (v : Scope) (me : ℕ) (t : System) → Effect g s v me t →
    (q : ℕ) (w : Worker) → find s.workers q ≡ some w → (x : Worker) × (find t.workers q ≡ some x)
    × ((q ≡ me → ⊥) → LeftAlone w x)
effect_others g s v me t nothing q w e = (w, e, λ d. left_alone_same w)
effect_others g s v me t (took ms) q w e =
    let r = change-own s.workers me (set_mail ms) (λ x. refl) q w e in
    (r.0, r.1, λ d. subst (LeftAlone w) (sym (r.2 d)) (left_alone_same w))
effect_others g s v me t (spawned c f) q w e = (w, find-append_some s.workers _ q w e, λ d. left_alone_same w)
effect_others g s v me t (showed l) q w e = (w, e, λ d. left_alone_same w)
effect_others g s v me t (sent p m) q w e =
    let r = change_left_alone s.workers p (add_mail m) (λ x. refl)
    (λ x. (refl, refl, refl, (m ∷ [], refl, omega arith))) q w e in
    (r.0, r.1, λ d. r.2)
effect_others g s v me t (linked p x d f) q w e =
    let o = change-own s.workers me (add_link p) (add_link_keeps p) q w e in
    let r = change_left_alone (change s.workers me (add_link p)) p (add_link me) (add_link_keeps me)
    (add_link_left_alone me) q o.0 o.1 in
    (r.0, r.1, λ d. subst (λ (z : Worker). LeftAlone z r.0) (o.2 d) r.2)
effect_others g s v me t (linked_gone p d f) q w e = (w, e, λ d. left_alone_same w)
effect_others g s v me t (exited p r) q w e = (w, e, λ d. left_alone_same w)
effect_others g s v me t (trapped b) q w e =
    let r = change-own s.workers me (set_traps b) (λ x. refl) q w e in
    (r.0, r.1, λ d. subst (LeftAlone w) (sym (r.2 d)) (left_alone_same w))
effect_others g s v me t (named x) q w e = (w, e, λ d. left_alone_same w)

swap_alone : (s : System) (x : Name) (m q : ℕ) (w : Worker) → Apart s.workers → current s.loaded x ≡ some m →
    find s.workers q ≡ some w → AloneOrSwapped s q w (swapped s x m)
swap_alone s x m q w a e f = bool_all (λ b. old x m w ≡ b → AloneOrSwapped s q w (swapped s x m)) (old x m w)
    (λ h i. inr (swapped_loads_another s x m e, swapped_ends s x m q w a f h))
    (λ h i. inl (w, swapped_spares s x m q w a f h, left_alone_same w)) refl

settle_alone : (s t : System) (n q : ℕ) (w : Worker) (c : Control) (k : List Frame) → (q ≡ n → ⊥) →
    AloneOrSwapped s q w t → AloneOrSwapped s q w (on_worker t n (set_control c k))
settle_alone s t n q w c k h (inl r) =
    inl (r.0, find-change_other t.workers n q (set_control c k) (λ x. refl) h ∙ r.1, r.2)
settle_alone s t n q w c k h (inr r) =
    inr (r.0, find-change_other t.workers n q (set_control c k) (λ x. refl) h ∙ r.1)

pub turned_alone : (g : Program) (s : System) (n q : ℕ) (w me : Worker) (o : Outcome) → Sound s → me.pid ≡ n →
    (q ≡ n → ⊥) → find s.workers q ≡ some w → Turned g s me o → OnIs (AloneOrSwapped s q w) (settle n o)
turned_alone g s n q w me o sd p h e (turn_goes c k v {t} d) =
    settle_alone s t n q w c k h (inl (let r = effect_others g s v me.pid t d q w e in
    (r.0, r.1, r.2 (λ i. h (i ∙ p)))))
turned_alone g s n q w me o sd p h e (turn_ends r why) =
    inl (w, find-gone_other s.workers me.pid q (λ r. h (r ∙ p)) ∙ e, left_alone_same w)
turned_alone g s n q w me o sd p h e (turn_swaps c k x m y d f wo) =
    settle_alone s (swapped s x m) n q w c k h (swap_alone s x m q w sd.apart d e)
turned_alone g s n q w me o sd p h e (turn_swapped_out x m d f wo) = swap_alone s x m q w sd.apart d e
turned_alone g s n q w me o sd p h e turn_stuck = tt

pub alone : Alone
alone g l s s' n q w r e h f = on_is_of (AloneOrSwapped s q w) (move g s (turn n)) s'
    (turn_all g s n (OnIs (AloneOrSwapped s q w)) tt
    (λ me o p i d v. turned_alone g s n q w me o (reached_sound g l s r) p h f v)) e
