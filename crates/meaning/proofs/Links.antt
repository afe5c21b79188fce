-- The invariant `Sound`: numbers are apart and below the next one, and links go both ways. Links are made and cut on
-- both sides at once, so the relation that tells which links are new, or cut, is symmetric (`relinked_sound`).
use mathlib.Core.Path.{◌≡◌, refl, sym, ap, subst, ◌∙◌}
use mathlib.Core.Logic.{◌⊎◌, inl, inr}
use mathlib.Core.Bool.{Bool, true, false, ◌||◌, cond}
use mathlib.Core.List.{List, [], ◌∷◌, ◌++◌}
use mathlib.Core.Option.{Option, some, none}
use Prim.Native.Nat.{ℕ, ◌+◌, ◌<◌, ◌≤◌}
use native.Mathlib.Omega.{arith}
use lib.Dec.{eqb}
use Rattle.meaning.specs.Basics.{Name}
use Rattle.meaning.specs.Syntax.{Program}
use Rattle.meaning.specs.System.{cut_link, Scope, Control, Frame, Worker, Signal, System, with_signals, find, change}
use Rattle.meaning.specs.System.{on_worker, set_control, set_mail, add_mail, set_links, set_traps, among, without}
use Rattle.meaning.specs.System.{add_link, gone, Apart, swapped}
use Rattle.meaning.specs.Turns.{Outcome}
use Rattle.meaning.specs.Moves.{Move, turn, signal, tick, settle, take_signal, move}
use Rattle.meaning.specs.Promise.{Reached, LinksBoth}
use Rattle.meaning.specs.Effects.{Effect, nothing, sent, spawned, linked_gone, exited, linked, trapped, showed, named}
use Rattle.meaning.specs.Effects.{took, Turned, turn_goes, turn_ends, turn_swaps, turn_swapped_out, turn_stuck}
use Rattle.meaning.specs.Scheduler.{Numbered}
use Rattle.std.proofs.lemmas.Bool.{cond_both, eq-eqb, eqb-true, ne_eqb}
use Rattle.meaning.proofs.Splits.{no_clash, bool_all}
use Rattle.meaning.proofs.Finding.{KeepsNumber, apart-change, apart-gone, apart_new, found_before-change}
use Rattle.meaning.proofs.Finding.{gone-within, found_before_new, find_only}
use Rattle.meaning.proofs.Results.{OnIs, turn_all, reached_all, at_first, take_signal_all, deliver_all, tick_all}
use Rattle.meaning.proofs.Results.{first_worker}
use Rattle.meaning.proofs.Swapping.{swapped_all}

-- members of lists of numbers
pub among_add : (l x : ℕ) (ls : List ℕ) → among l (ls ++ (x ∷ [])) ≡ (among l ls || eqb l x)
among_add l x [] = bool_all (λ b. (b || false) ≡ (false || b)) (eqb l x) (λ h. refl) (λ h. refl)
among_add l x (y ∷ ls) = bool_all (λ b. (b || among l (ls ++ (x ∷ []))) ≡ ((b || among l ls) || eqb l x)) (eqb l y)
    (λ h. refl) (λ h. among_add l x ls)

pub among-without : (l x : ℕ) (ls : List ℕ) → (l ≡ x → ⊥) → among l (without x ls) ≡ among l ls
among-without l x [] h = refl
among-without l x (y ∷ ls) h = bool_all
    (λ b. eqb x y ≡ b → among l (cond b (without x ls) (y ∷ without x ls)) ≡ (eqb l y || among l ls)) (eqb x y)
    (λ e r. among-without l x ls h
    ∙ ap (λ (b : Bool). b || among l ls) (sym (ne_eqb l y (λ q. h (q ∙ sym (eqb-true x y e))))))
    (λ e r. ap (λ (b : Bool). eqb l y || b) (among-without l x ls h)) refl

pub among-gone : (x : ℕ) (ls : List ℕ) → among x (without x ls) ≡ false
among-gone x [] = refl
among-gone x (y ∷ ls) =
    bool_all (λ b. eqb x y ≡ b → among x (cond b (without x ls) (y ∷ without x ls)) ≡ false) (eqb x y)
    (λ e r. among-gone x ls)
    (λ e r. ap (λ (b : Bool). b || among x (without x ls)) e ∙ among-gone x ls) refl

-- what `add_link` does to links
pub add_link_keeps : (n : ℕ) → KeepsNumber (add_link n)
add_link_keeps n w = cond_both (among n w.links) w (set_links (w.links ++ (n ∷ [])) w) (λ x. x.pid ≡ w.pid)
    (λ h. refl) (λ h. refl)

pub add_link_in : (l n : ℕ) (w : Worker) → among l (add_link n w).links ≡ true →
    (among l w.links ≡ true) ⊎ (l ≡ n)
add_link_in l n w = cond_both (among n w.links) w (set_links (w.links ++ (n ∷ [])) w) (λ x. among l x.links ≡ true → (among l w.links ≡ true) ⊎ (l ≡ n)) (λ h e. inl e)
    (λ h e. bool_all (λ b. (b || eqb l n) ≡ true → (b ≡ true) ⊎ (l ≡ n)) (among l w.links) (λ p q. inl refl)
    (λ p q. inr (eqb-true l n q)) (sym (among_add l n w.links) ∙ e))

pub add_link_more : (l n : ℕ) (w : Worker) → among l w.links ≡ true → among l (add_link n w).links ≡ true
add_link_more l n w a =
    cond_both (among n w.links) w (set_links (w.links ++ (n ∷ [])) w) (λ x. among l x.links ≡ true) (λ h. a)
    (λ h. among_add l n w.links ∙ ap (λ (b : Bool). b || eqb l n) a)

pub add_link_new : (n : ℕ) (w : Worker) → among n (add_link n w).links ≡ true
add_link_new n w = cond_both (among n w.links) w (set_links (w.links ++ (n ∷ [])) w) (λ x. among n x.links ≡ true) (λ h. h)
    (λ h. among_add n n w.links ∙ ap (λ (b : Bool). b || eqb n n) h ∙ eq-eqb n n refl)

-- the invariant, of the workers and the next number
pub record SoundWorkers (ws : List Worker) (next : ℕ) : Type 0 where
  pub apart : Apart ws
  pub below : (q : ℕ) (x : Worker) → find ws q ≡ some x → q < next
  pub links_below : (q l : ℕ) (x : Worker) → find ws q ≡ some x → among l x.links ≡ true → l < next
  pub both : (p q : ℕ) (x y : Worker) → find ws p ≡ some x → find ws q ≡ some y → among q x.links ≡ true →
      among p y.links ≡ true

abbrev pub Sound : System → Type 0
Sound s = SoundWorkers s.workers s.next

-- nobody has the next number, or a later one
pub sound_free : (ws : List Worker) (k : ℕ) → SoundWorkers ws k → (q : ℕ) → k ≤ q → find ws q ≡ none
sound_free ws k h q l = go (find ws q) refl
  where
    go : (o : Option Worker) → find ws q ≡ o → find ws q ≡ none
    go none e = e
    go (some x) e = let z = h.below q x e in absurd (omega arith)

pub sound_numbered : (s : System) → Sound s → Numbered s
sound_numbered s h = (h.apart, sound_free s.workers s.next h)

-- links that are made, or cut: from p to l
abbrev None : ℕ → ℕ → Type 0
None p l = ⊥

abbrev One : ℕ → ℕ → ℕ → ℕ → Type 0
One n a p l = (p ≡ n) × (l ≡ a)

-- the worker p, x before and y now, has the links that it had but for those cut, and those made
record RelinkedWorker (Made Cut : ℕ → ℕ → Type 0) (p : ℕ) (x y : Worker) : Type 0 where
  from : (l : ℕ) → among l y.links ≡ true → ((among l x.links ≡ true) × (Cut p l → ⊥)) ⊎ Made p l
  kept : (l : ℕ) → among l x.links ≡ true → (Cut p l → ⊥) → among l y.links ≡ true
  made : (l : ℕ) → Made p l → among l y.links ≡ true

abbrev Relinked : (ℕ → ℕ → Type 0) → (ℕ → ℕ → Type 0) → List Worker → List Worker → Type 0
Relinked Made Cut vs ws = (p : ℕ) (y : Worker) → find vs p ≡ some y →
    (x : Worker) × (find ws p ≡ some x) × RelinkedWorker Made Cut p x y

relinked_sound : (Made Cut : ℕ → ℕ → Type 0) (vs ws : List Worker) (k : ℕ) → ((p l : ℕ) → Made p l → Made l p) →
    ((p l : ℕ) → Cut p l → Cut l p) → ((p l : ℕ) → Made p l → l < k) → Apart vs → Relinked Made Cut vs ws →
    SoundWorkers ws k → SoundWorkers vs k
relinked_sound Made Cut vs ws k made-back cut-back low apart was h = record {
  apart = apart;
  below = λ q y e. let r = was q y e in h.below q r.0 r.1;
  links_below = λ q l y e a. let r = was q y e in
      elim (r.2.from l a) [ inl b ↦ h.links_below q l r.0 r.1 b.0 | inr m ↦ low q l m ];
  both = λ p q x y e d a. let r = was p x e in let t = was q y d in elim (r.2.from q a) [
    | inl b ↦ t.2.kept p (h.both p q r.0 t.0 r.1 t.1 b.0) (λ c. b.1 (cut-back q p c))
    | inr m ↦ t.2.made p (made-back p q m)
  ];
}

relinked_twice : (Made Cut Made' Cut' : ℕ → ℕ → Type 0) (us vs ws : List Worker) →
    ((p l : ℕ) → Made' p l → Cut p l → ⊥) → Relinked Made Cut us vs → Relinked Made' Cut' vs ws →
    Relinked (λ p l. Made p l ⊎ Made' p l) (λ p l. Cut p l ⊎ Cut' p l) us ws
relinked_twice Made Cut Made' Cut' us vs ws apart second first p y e =
    let i = second p y e in
    let o = first p i.0 i.1 in (
      o.0,
      o.1,
      record {
        from = λ l a. elim (i.2.from l a) [
          | inl b ↦ elim (o.2.from l b.0) [
            | inl c ↦ inl (c.0, λ z. elim z [ inl u ↦ b.1 u | inr u ↦ c.1 u ])
            | inr m ↦ inr (inr m)
          ]
          | inr m ↦ inr (inl m)
        ];
        kept = λ l a c. i.2.kept l (o.2.kept l a (λ u. c (inr u))) (λ u. c (inl u));
        made = λ l m. elim m [ inl u ↦ i.2.made l u | inr u ↦ i.2.kept l (o.2.made l u) (apart p l u) ];
      },
    )

-- the same links: after a change that leaves them, and of fewer workers
same_links_sound : (vs ws : List Worker) (k : ℕ) → Apart vs → Relinked None None vs ws → SoundWorkers ws k →
    SoundWorkers vs k
same_links_sound vs ws k apart was h = relinked_sound None None vs ws k (λ p l m. m) (λ p l c. c)
    (λ p l m. absurd m) apart was h

same_links : (p : ℕ) (x y : Worker) → y.links ≡ x.links → RelinkedWorker None None p x y
same_links p x y e = record {
  from = λ l b. inl (ap (among l) (sym e) ∙ b, λ z. z);
  kept = λ l b c. ap (among l) e ∙ b;
  made = λ l m. absurd m;
}

pub change-sound : (ws : List Worker) (n k : ℕ) (f : Worker → Worker) → KeepsNumber f →
    ((w : Worker) → (f w).links ≡ w.links) → SoundWorkers ws k → SoundWorkers (change ws n f) k
change-sound ws n k f kp kl h = same_links_sound (change ws n f) ws k (apart-change ws n f kp h.apart)
    (λ p y e. let r = found_before-change ws n f kp p y e in (
      r.0,
      r.1,
      same_links p r.0 y
          (elim r.2 [
            | inl a ↦ ap (λ (z : Worker). z.links) a.1
            | inr a ↦ ap (λ (z : Worker). z.links) a.1 ∙ kl r.0
          ]),
    )) h

pub gone-sound : (ws : List Worker) (n k : ℕ) → SoundWorkers ws k → SoundWorkers (gone ws n) k
gone-sound ws n k h = same_links_sound (gone ws n) ws k (apart-gone ws n h.apart)
    (λ p y e. (y, gone-within ws n h.apart p y e, same_links p y y refl)) h

-- a new worker, with the next number and no links
pub new_sound : (ws : List Worker) (k : ℕ) (v : Worker) → v.pid ≡ k → v.links ≡ [] → SoundWorkers ws k →
    SoundWorkers (ws ++ (v ∷ [])) (k + 1)
new_sound ws k v p n h = record {
  apart = apart_new ws v (subst (λ (z : ℕ). find ws z ≡ none) (sym p) free) h.apart;
  below = λ q x e. elim (was q x e) [
    | inl a ↦ let z = h.below q x a in omega arith
    | inr a ↦ let z = a.0 in
        omega arith
  ];
  links_below = λ q l x e a. elim (was q x e) [
    | inl b ↦ let z = h.links_below q l x b a in
        omega arith
    | inr b ↦ absurd (no_links l x b.1 a)
  ];
  both = λ q r x y e d a. elim (was q x e) [
    | inl b ↦ elim (was r y d) [
      | inl c ↦ h.both q r x y b c a
      | inr c ↦ let z = h.links_below q r x b a in
          let z2 = c.0 in absurd (omega arith)
    ]
    | inr b ↦ absurd (no_links r x b.1 a)
  ];
}
  where
    free : find ws k ≡ none
    free = sound_free ws k h k (omega arith)

    no_links : (l : ℕ) (x : Worker) → x ≡ v → among l x.links ≡ true → ⊥
    no_links l x e a = no_clash a (ap (λ (z : Worker). among l z.links) e ∙ ap (among l) n)

    was : (q : ℕ) (x : Worker) → find (ws ++ (v ∷ [])) q ≡ some x → (find ws q ≡ some x) ⊎ ((q ≡ k) × (x ≡ v))
    was q x e = elim (found_before_new ws v q x e) [ inl a ↦ inl a | inr a ↦ inr (a.0 ∙ p, a.1) ]

-- a link is made, or cut, on one side and then on the other
add_link_relinked : (ws : List Worker) (n a : ℕ) → Relinked (One n a) None (change ws n (add_link a)) ws
add_link_relinked ws n a p y e =
    let r = found_before-change ws n (add_link a) (add_link_keeps a) p y e in (
      r.0,
      r.1,
      elim r.2 [
        | inl h ↦ subst (RelinkedWorker (One n a) None p r.0) (sym h.1) (record {
          from = λ l b. inl (b, λ z. z);
          kept = λ l b c. b;
          made = λ l m. absurd (h.0 m.0);
        })
        | inr h ↦ subst (RelinkedWorker (One n a) None p r.0) (sym h.1) (record {
          from = λ l b. elim (add_link_in l a r.0 b) [ inl c ↦ inl (c, λ z. z) | inr c ↦ inr (h.0, c) ];
          kept = λ l b c. add_link_more l a r.0 b;
          made = λ l m. subst (λ (z : ℕ). among z (add_link a r.0).links ≡ true) (sym m.1)
              (add_link_new a r.0);
        })
      ],
    )

cut_link_relinked : (ws : List Worker) (n a : ℕ) → Relinked None (One n a) (change ws n (cut_link a)) ws
cut_link_relinked ws n a p y e =
    let r = found_before-change ws n (cut_link a) (λ w. refl) p y e in (
      r.0,
      r.1,
      elim r.2 [
        | inl h ↦ subst (RelinkedWorker None (One n a) p r.0) (sym h.1) (record {
          from = λ l b. inl (b, λ c. h.0 c.0);
          kept = λ l b c. b;
          made = λ l m. absurd m;
        })
        | inr h ↦ subst (RelinkedWorker None (One n a) p r.0) (sym h.1) (record {
          from = λ l b. let other : l ≡ a → ⊥ =
              λ z. no_clash b (subst (λ (z : ℕ). among z (without a r.0.links) ≡ false) (sym z)
              (among-gone a r.0.links)) in
              inl (sym (among-without l a r.0.links other) ∙ b, λ c. other c.1);
          kept = λ l b c. among-without l a r.0.links (λ z. c (h.0, z)) ∙ b;
          made = λ l m. absurd m;
        })
      ],
    )

either_way : (a b p l : ℕ) → One a b p l ⊎ One b a p l → One a b l p ⊎ One b a l p
either_way a b p l (inl c) = inr (c.1, c.0)
either_way a b p l (inr c) = inl (c.1, c.0)

neither_way : (p l : ℕ) → None p l ⊎ None p l → None l p ⊎ None l p
neither_way p l (inl c) = inl c
neither_way p l (inr c) = inr c

pub link_sound : (ws : List Worker) (me q k : ℕ) (u v : Worker) → find ws me ≡ some u → find ws q ≡ some v →
    SoundWorkers ws k → SoundWorkers (change (change ws me (add_link q)) q (add_link me)) k
link_sound ws me q k u v fu fv h = relinked_sound (λ p l. One q me p l ⊎ One me q p l)
    (λ p l. None p l ⊎ None p l) (change (change ws me (add_link q)) q (add_link me)) ws k (either_way q me)
    neither_way low
    (apart-change (change ws me (add_link q)) q (add_link me) (add_link_keeps me)
    (apart-change ws me (add_link q) (add_link_keeps q) h.apart))
    (relinked_twice (One q me) None (One me q) None (change (change ws me (add_link q)) q (add_link me))
    (change ws me (add_link q)) ws (λ p l m c. c) (add_link_relinked (change ws me (add_link q)) q me)
    (add_link_relinked ws me q)) h
  where
    low : (p l : ℕ) → One q me p l ⊎ One me q p l → l < k
    low p l (inl c) = subst (λ (z : ℕ). z < k) (sym c.1) (h.below me u fu)
    low p l (inr c) = subst (λ (z : ℕ). z < k) (sym c.1) (h.below q v fv)

pub cut-sound : (ws : List Worker) (a b k : ℕ) → SoundWorkers ws k →
    SoundWorkers (change (change ws a (cut_link b)) b (cut_link a)) k
cut-sound ws a b k h = relinked_sound (λ p l. None p l ⊎ None p l)
    (λ p l. One b a p l ⊎ One a b p l) (change (change ws a (cut_link b)) b (cut_link a)) ws k neither_way
    (either_way b a) (λ p l m. elim m [ inl z ↦ absurd z | inr z ↦ absurd z ])
    (apart-change (change ws a (cut_link b)) b (cut_link a)
    (λ w. refl) (apart-change ws a (cut_link b) (λ w. refl) h.apart))
    (relinked_twice None (One b a) None (One a b) (change (change ws a (cut_link b)) b (cut_link a))
    (change ws a (cut_link b)) ws (λ p l m c. m) (cut_link_relinked (change ws a (cut_link b)) b a)
    (cut_link_relinked ws a b)) h

-- kept by every effect of a turn, by swaps, by signals and by the clock
pub effect_sound : (g : Program) (s : System) (w : Scope) (me : ℕ) (u : Worker) (t : System) →
    find s.workers me ≡ some u → Effect g s w me t → Sound s → Sound t
effect_sound g s w me u t e nothing h = h
effect_sound g s w me u t e (sent q v) h = change-sound s.workers q s.next (add_mail v) (λ x. refl)
    (λ x. refl) h
effect_sound g s w me u t e (spawned c f) h =
    new_sound s.workers s.next
    (record { pid = s.next; control = c; frames = []; mail = []; links = []; traps = false }) refl refl h
effect_sound g s w me u t e (linked_gone q d f) h = h
effect_sound g s w me u t e (exited q r) h = h
effect_sound g s w me u t e (linked q x d f) h = link_sound s.workers me q s.next u x e f h
effect_sound g s w me u t e (trapped b) h = change-sound s.workers me s.next (set_traps b) (λ x. refl)
    (λ x. refl) h
effect_sound g s w me u t e (showed l) h = h
effect_sound g s w me u t e (named x) h = h
effect_sound g s w me u t e (took ms) h = change-sound s.workers me s.next (set_mail ms) (λ x. refl)
    (λ x. refl) h

pub swapped-sound : (s : System) (x : Name) (n : ℕ) → Sound s → Sound (swapped s x n)
swapped-sound s x n h = swapped_all Sound (λ t w i. gone-sound t.workers w.pid t.next i) s x n h

pub control_sound : (s : System) (n : ℕ) (c : Control) (k : List Frame) → Sound s →
    Sound (on_worker s n (set_control c k))
control_sound s n c k h = change-sound s.workers n s.next (set_control c k) (λ x. refl) (λ x. refl) h

turned-sound : (g : Program) (s : System) (n : ℕ) (me : Worker) (o : Outcome) →
    find s.workers me.pid ≡ some me → Turned g s me o → Sound s → OnIs Sound (settle n o)
turned-sound g s n me o e (turn_goes c k w {t} d) h = control_sound t n c k (effect_sound g s w me.pid me t e d h)
turned-sound g s n me o e (turn_ends r why) h = gone-sound s.workers me.pid s.next h
turned-sound g s n me o e (turn_swaps c k x m y d f wo) h =
    control_sound (swapped s x m) n c k (swapped-sound s x m h)
turned-sound g s n me o e (turn_swapped_out x m d f wo) h = swapped-sound s x m h
turned-sound g s n me o e turn_stuck h = tt

signal_sound : (s : System) (g : Signal) (w : Worker) → Sound s → Sound (take_signal s g w)
signal_sound s g w h = take_signal_all Sound s g w
    (change-sound s.workers w.pid s.next _ (λ x. refl) (λ x. refl) h)
    (cut-sound s.workers w.pid g.from s.next h)
    (gone-sound s.workers w.pid s.next h)

pub move-sound : (g : Program) (s : System) (m : Move) → Sound s → OnIs Sound (move g s m)
move-sound g s (turn n) h = turn_all g s n (OnIs Sound) tt (λ me o p e d v. turned-sound g s n me o e v h)
move-sound g s signal h = deliver_all Sound (Unit {0}) s s.signals (λ x gs i. h)
    (λ x gs w i e. signal_sound (with_signals s gs) x w h)
move-sound g s tick h = tick_all Sound (Unit {0}) s (λ t l. h)

-- so it holds of every system that a program comes to
pub first_sound : (g : Program) (c : Control) → Sound (at_first g c)
first_sound g c = record {
  apart = (refl, tt);
  below = λ q x e. let z = (find_only (first_worker c) x q e).0 in omega arith;
  links_below = λ q l x e a. absurd (bare q x l e a);
  both = λ p q x y e d a. absurd (bare p x q e a);
}
  where
    bare : (q : ℕ) (x : Worker) (l : ℕ) → find (first_worker c ∷ []) q ≡ some x → among l x.links ≡ true → ⊥
    bare q x l e a = no_clash a (sym (ap (λ (z : Worker). among l z.links) (find_only (first_worker c) x q e).1))

pub reached_sound : (g : Program) (l : List Move) (s : System) → Reached g l s → Sound s
reached_sound g l s r = reached_all g Sound (λ c e. first_sound g c) (move-sound g) l s r

pub links_both : LinksBoth
links_both g l s p q x y r e d a = (reached_sound g l s r).both p q x y e d a
