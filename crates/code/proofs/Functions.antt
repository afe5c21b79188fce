-- A chain of functions of one name has them in the program's order turned round. Since no two functions of a section are alike,
-- the first in the chain of a section and a number of parameters is the one that the section's list gives.
use Rattle.std.proofs.Common.{◌≡◌, ℕ, zero, suc, pred, ◌+◌, ◌<◌, ◌≤◌, Bool, true, false, cond, ◌&&◌, eqb, ◌⊎◌, List, [], ◌∷◌, length, Some, None, sym, refl, ap, ◌∙◌, subst, inl, inr, arith}
use mathlib.Core.Option.{Option as Maybe, some, none}
use Rattle.meaning.specs.Basics.{opt, Name, same}
use Rattle.meaning.specs.Syntax.{Function, Module, Program}
use Rattle.meaning.specs.System.{functions_of, function_of}
use Rattle.meaning.specs.Bound.{all_different, no_function, sound_functions, sound_modules}
use Rattle.code.specs.Code.{CodeB}
use Rattle.code.specs.Function.{Finds, FunctionIs, no_function_is, function_is}
use Rattle.code.specs.Kinds.{signature_kind, functions_kind, function_kind}
use Rattle.code.specs.Program.{section, version_at, Definition, define, definitions, newest_first, scope_of, tree_d, nth, FineDefinitions, Stands}
use Rattle.code.specs.Trees.{tree_b}
use Rattle.store.specs.Heap.{Store, store_of, Den, left_of, right_of}
use Rattle.store.specs.Slots.{slot_at}
use Rattle.store.specs.Tree.{leaf, node, spine}
use Rattle.store.specs.declared.slot.Slot.{Slot}
use Rattle.values.specs.Encoding.{index_of, Known}
use Rattle.std.proofs.lemmas.Bool.{and_parts, eq-eqb, eqb-true, ne_eqb}
use Rattle.meaning.proofs.Splits.{T_of, no_clash, none_some, some_is, same_is, same_refl}
use Rattle.store.proofs.Laws.{node_is, node_left, node_right, spine-fits}
use Rattle.code.proofs.Firsts.{first, Once, first_reverse}
use Rattle.code.proofs.Instructions.{leaf_has_kind, leaf_has_low, leaf_has_high}

-- is a definition the function y with c parameters of the section n
abbrev wanted : ℕ → Name → ℕ → Definition → Bool
wanted n y c d = eqb d.place n && (same d.function.name y && eqb (length d.function.params) c)

abbrev function : Definition → Function
function d = d.function

abbrev pub seek : ℕ → Name → ℕ → List Definition → Maybe Function
seek n y c ds = first (wanted n y c) function ds

-- sections ahead have no functions of this one
seek-define_other : (k n : ℕ) (y : Name) (c : ℕ) (fs : List Function) (ds : List Definition) → (k ≡ n → ⊥) → seek n y c (define k fs ds) ≡ seek n y c ds
seek-define_other k n y c [] ds h = refl
seek-define_other k n y c (f ∷ fs) ds h = rw (ne_eqb k n h) (seek-define_other k n y c fs ds h)

seek_ahead : (k n : ℕ) (y : Name) (c : ℕ) (g : Program) → n < k → seek n y c (definitions k g) ≡ none
seek_ahead k n y c [] h = refl
seek_ahead k n y c (m ∷ ms) h = seek-define_other k n y c m.functions (definitions (suc k) ms) (λ e. omega arith) ∙ seek_ahead (suc k) n y c ms (omega arith)

seek-define : (n : ℕ) (y : Name) (c : ℕ) (fs : List Function) (ds : List Definition) → seek n y c ds ≡ none → seek n y c (define n fs ds) ≡ function_of fs y c
seek-define n y c [] ds h = h
seek-define n y c (f ∷ fs) ds h = rw (eq-eqb n n refl, seek-define n y c fs ds h) refl

pub seek-section : (k n : ℕ) (y : Name) (c : ℕ) (g : Program) {m : Module} → section g n ≡ some m → seek (k + n) y c (definitions k g) ≡ function_of m.functions y c
seek-section k n y c [] e = absurd (none_some e)
seek-section k zero y c (m ∷ ms) e =
    let z : k + 0 ≡ k = omega arith in
    rw z (seek-define k y c m.functions (definitions (suc k) ms) (seek_ahead (suc k) k y c ms (omega arith)) ∙ ap (λ (q : Module). function_of q.functions y c) (some_is e))
seek-section k (suc n) y c (m ∷ ms) e =
    let z : k + suc n ≡ suc k + n = omega arith in
    rw z (seek-define_other k (suc k + n) y c m.functions (definitions (suc k) ms) (λ q. omega arith) ∙ seek-section (suc k) n y c ms e)

-- no two are alike
alike_none : (fs : List Function) (x : Name) (n : ℕ) → no_function fs x n ≡ true → function_of fs x n ≡ none
alike_none fs x n h = go (function_of fs x n) h
  where
    go : (o : Maybe Function) → opt o true (λ f. false) ≡ true → o ≡ none
    go none h = refl
    go (some f) h = no_clash {b = false} h refl

once_define : (k n : ℕ) (y : Name) (c : ℕ) (fs : List Function) (ds : List Definition) → sound_functions fs ≡ true → (k ≡ n → seek n y c ds ≡ none) → Once (wanted n y c) function ds → Once (wanted n y c) function (define k fs ds)
once_define k n y c [] ds s h o = o
once_define k n y c (f ∷ fs) ds s h o =
    let p = and_parts (no_function fs f.name (length f.params)) _ s in
    let q = and_parts (all_different f.params) _ p.1 in
    let r = and_parts _ (sound_functions fs) q.1 in (
      λ w.
          let a = and_parts (eqb k n) _ w in
          let b = and_parts (same f.name y) _ a.1 in
          let e : k ≡ n = eqb-true k n a.0 in
          let l : length f.params ≡ c = eqb-true _ _ b.1 in
          let z : f.name ≡ y = same_is f.name y (T_of b.0) in
          subst (λ j. seek n y c (define j fs ds) ≡ none) (sym e) (seek-define n y c fs ds (h e) ∙ subst (λ x. function_of fs x c ≡ none) z (subst (λ i. function_of fs f.name i ≡ none) l (alike_none fs f.name (length f.params) p.0))),
      once_define k n y c fs ds r.1 h o,
    )

once_definitions : (k n : ℕ) (y : Name) (c : ℕ) (g : Program) → sound_modules g ≡ true → Once (wanted n y c) function (definitions k g)
once_definitions k n y c [] s = tt
once_definitions k n y c (m ∷ ms) s =
    let p = and_parts (sound_functions m.functions) _ s in
    once_define k n y c m.functions (definitions (suc k) ms) p.0 (λ e. seek_ahead (suc k) n y c ms (omega arith)) (once_definitions (suc k) n y c ms p.1)

pub seek-newest : (n : ℕ) (y : Name) (c : ℕ) (g : Program) {m : Module} → sound_modules g ≡ true → section g n ≡ some m → seek n y c (newest_first g) ≡ function_of m.functions y c
seek-newest n y c g s e =
    let z : 0 + n ≡ n = omega arith in
    first_reverse (wanted n y c) function (definitions 0 g) (once_definitions 0 n y c g s) ∙ (rw z at (seek-section 0 n y c g e))

-- the parameters of a function differ
function_different : (fs : List Function) (y : Name) (c : ℕ) {f : Function} → sound_functions fs ≡ true → function_of fs y c ≡ some f → (length f.params ≡ c) × (all_different f.params ≡ true)
function_different [] y c s e = absurd (none_some e)
function_different (h ∷ fs) y c {f} s e =
    let p = and_parts (no_function fs h.name (length h.params)) _ s in
    let q = and_parts (all_different h.params) _ p.1 in
    let r = and_parts _ (sound_functions fs) q.1 in
    go (same h.name y && eqb (length h.params) c) refl e q.0 (function_different fs y c r.1)
  where
    go : (t : Bool) → (same h.name y && eqb (length h.params) c) ≡ t → cond t (some h) (function_of fs y c) ≡ some f → all_different h.params ≡ true → (function_of fs y c ≡ some f → (length f.params ≡ c) × (all_different f.params ≡ true)) → (length f.params ≡ c) × (all_different f.params ≡ true)
    go true w e d more = let z : h ≡ f = some_is e in (subst (λ (i : Function). length i.params ≡ c) z (eqb-true _ _ (and_parts _ _ w).1), subst (λ (i : Function). all_different i.params ≡ true) z d)
    go false w e d more = more e

sound-section : (g : Program) (n : ℕ) {m : Module} → sound_modules g ≡ true → section g n ≡ some m → sound_functions m.functions ≡ true
sound-section [] n s e = absurd (none_some e)
sound-section (m ∷ ms) zero s e = subst (λ (q : Module). sound_functions q.functions ≡ true) (some_is e) (and_parts _ _ s).0
sound-section (m ∷ ms) (suc n) s e = sound-section ms n (and_parts (sound_functions m.functions) _ s).1 e

-- the chain of a name
pub record Link (ns : List Name) (code : Store) (s : Slot) (n : ℕ) (y : Name) (c : ℕ) (ds : List Definition) : Type 0 where
  pub head : Definition
  pub others : List Definition
  pub signed : Den code (left_of code.words (left_of code.words s)) (leaf signature_kind head.place (length head.function.params))
  pub body : CodeB ns (scope_of head.function) code (right_of code.words (left_of code.words s)) head.function.body
  pub next : Den code (right_of code.words s) (tree_d ns y others)
  pub fine : FineDefinitions ns others
  pub sought : seek n y c ds ≡ cond (eqb head.place n && eqb (length head.function.params) c) (some head.function) (seek n y c others)
  pub shorter : spine (tree_d ns y ds) ≡ 1 + spine (tree_d ns y others)

and_skip : (a b : Bool) → (a && (true && b)) ≡ (a && b)
and_skip true b = refl
and_skip false b = refl

and_none : (a b : Bool) → (a && (false && b)) ≡ false
and_none true b = refl
and_none false b = refl

pub link_of : {ns : List Name} {code : Store} {s : Slot} (n : ℕ) (y : Name) (c : ℕ) (ds : List Definition) → s.kind ≡ 29 → FineDefinitions ns ds → Den code s (tree_d ns y ds) → Link ns code s n y c ds
link_of n y c [] k f d = absurd (omega (arith, k, leaf_has_kind d))
link_of {ns} {code} {s} n y c (a ∷ ds) k f d = go (same a.function.name y) refl d (link_of {ns = ns} {code = code} {s = s} n y c ds k f.1)
  where
    go : (t : Bool) → same a.function.name y ≡ t → Den code s (cond t (node functions_kind (node function_kind (leaf signature_kind a.place (length a.function.params)) (tree_b ns (scope_of a.function) a.function.body)) (tree_d ns y ds)) (tree_d ns y ds)) → (Den code s (tree_d ns y ds) → Link ns code s n y c ds) → Link ns code s n y c (a ∷ ds)
    go true e d more = record {
      head = a;
      others = ds;
      signed = node_left (node_left d);
      body = record { stands = node_right (node_left d); fine = f.0 };
      next = node_right d;
      fine = f.1;
      sought = ap (λ t. cond t (some a.function) (seek n y c ds)) (ap (λ t. eqb a.place n && (t && eqb (length a.function.params) c)) e ∙ and_skip (eqb a.place n) (eqb (length a.function.params) c));
      shorter = rw e refl;
    }
    go false e d more =
        let l = more d in
        record {
          head = l.head;
          others = l.others;
          signed = l.signed;
          body = l.body;
          next = l.next;
          fine = l.fine;
          sought = ap (λ t. cond t (some a.function) (seek n y c ds)) (ap (λ t. eqb a.place n && (t && eqb (length a.function.params) c)) e ∙ and_none (eqb a.place n) (eqb (length a.function.params) c)) ∙ l.sought;
          shorter = rw e l.shorter;
        }

-- a chain that ends here has nothing more
pub seek_end : (ns : List Name) {code : Store} {s : Slot} (n : ℕ) (y : Name) (c : ℕ) (ds : List Definition) → (s.kind ≡ 29 → ⊥) → Den code s (tree_d ns y ds) → seek n y c ds ≡ none
seek_end ns n y c [] k d = refl
seek_end ns {code} {s} n y c (a ∷ ds) k d = go (same a.function.name y) refl d (seek_end ns {code = code} {s = s} n y c ds k)
  where
    go : (t : Bool) → same a.function.name y ≡ t → Den code s (cond t (node functions_kind (node function_kind (leaf signature_kind a.place (length a.function.params)) (tree_b ns (scope_of a.function) a.function.body)) (tree_d ns y ds)) (tree_d ns y ds)) → (Den code s (tree_d ns y ds) → seek n y c ds ≡ none) → seek n y c (a ∷ ds) ≡ none
    go true e d more = absurd (k (node_is d))
    go false e d more = ap (λ t. cond t (some a.function) (seek n y c ds)) (ap (λ t. eqb a.place n && (t && eqb (length a.function.params) c)) e ∙ and_none (eqb a.place n) (eqb (length a.function.params) c)) ∙ more d

-- where a walk along the chain has come after i steps: what is sought is found in what is left
pub record Walked (ns : List Name) (code : Store) (t : Slot) (i n : ℕ) (y : Name) (c : ℕ) (ds : List Definition) : Type 0 where
  pub left : List Definition
  pub stands : Den code t (tree_d ns y left)
  pub fine : FineDefinitions ns left
  pub sought : seek n y c ds ≡ seek n y c left
  pub steps : i + spine (tree_d ns y left) ≤ code.used

-- .. from the slot s, whatever functions stand there
pub record Walks (code : List ℕ) (s t : Slot) (i n c : ℕ) : Type 0 where
  pub to : {ns : List Name} {used : ℕ} (y : Name) (ds : List Definition) → FineDefinitions ns ds → Den (store_of code used) s (tree_d ns y ds) → Walked ns (store_of code used) t i n y c ds

pub walk_starts : {code : List ℕ} {s : Slot} {n c : ℕ} → Walks code s s 0 n c
walk_starts = record { to = λ y ds f d. record { left = ds; stands = d; fine = f; sought = refl; steps = omega (arith, spine-fits d) } }

-- the signature at a link of the chain
signature_is : {ns : List Name} {code : Store} {s u v : Slot} {n c : ℕ} {y : Name} {ds : List Definition} → (l : Link ns code s n y c ds) → u ≡ left_of code.words s → v ≡ left_of code.words u → (eqb v.low n && eqb v.high c) ≡ (eqb l.head.place n && eqb (length l.head.function.params) c)
signature_is {code = code} {v = v} {n = n} {c = c} l p q =
    let d : Den code v (leaf signature_kind l.head.place (length l.head.function.params)) = subst (λ (z : Slot). Den code z (leaf signature_kind l.head.place (length l.head.function.params))) (sym (q ∙ ap (left_of code.words) p)) l.signed in
    ap (λ z. eqb z n && eqb v.high c) (leaf_has_low d) ∙ ap (λ z. eqb l.head.place n && eqb z c) (leaf_has_high d)

pub walk_on : {code : List ℕ} {s t u v w : Slot} {i n c : ℕ} {b : Bool} → Walks code s t i n c → t.kind ≡ 29 → u ≡ left_of code t → v ≡ left_of code u → b ≡ (eqb v.low n && eqb v.high c) → b ≡ false → w ≡ right_of code t → Walks code s w (i + 1) n c
walk_on {code} {s} {t} {u} {v} {w} {i} {n} {c} ws k p q b h e = record {
  to = λ {ns} {used} y ds f d.
      let a = ws.to y ds f d in
      let l = link_of n y c a.left k a.fine a.stands in
      record {
        left = l.others;
        stands = subst (λ z. Den (store_of code used) z (tree_d ns y l.others)) (sym e) l.next;
        fine = l.fine;
        sought = a.sought ∙ (l.sought ∙ ap (λ z. cond z (some l.head.function) (seek n y c l.others)) (sym (signature_is l p q) ∙ (sym b ∙ h)));
        steps = omega (arith, a.steps, l.shorter);
      };
}

nth_index : (ns : List Name) (y : Name) → Known ns y → nth ns (index_of ns y) ≡ some y
nth_index [] y k = absurd k
nth_index (x ∷ ns) y k = go (same x y) refl k (nth_index ns y)
  where
    go : (t : Bool) → same x y ≡ t → (t ≡ true) ⊎ Known ns y → (Known ns y → nth ns (index_of ns y) ≡ some y) → nth (x ∷ ns) (cond t 0 (suc (index_of ns y))) ≡ some y
    go true e k more = ap some (same_is x y (T_of e))
    go false e (inl h) more = no_clash h refl
    go false e (inr k) more = more k

module _ {code : List ℕ} (functions : List ℕ) {s t : Slot} {i n : ℕ} (f : ℕ) {c : ℕ} (ws : Walks code s t i n c) (start : s ≡ slot_at functions f) where
  -- the walk in a program that stands there
  in_program : {ns : List Name} {used : ℕ} {g : Program} (y : Name) → Stands ns (store_of code used) functions g → Known ns y → f ≡ index_of ns y → Walked ns (store_of code used) t i n y c (newest_first g)
  in_program {ns} {used} {g} y st k e = ws.to y (newest_first g) st.fine (subst (λ z. Den (store_of code used) z (tree_d ns y (newest_first g))) (sym start) (st.chains f y (ap (nth ns) e ∙ nth_index ns y k)))

  pub walk_finds : {u v r : Slot} {b : Bool} → t.kind ≡ 29 → u ≡ left_of code t → v ≡ left_of code u → b ≡ (eqb v.low n && eqb v.high c) → b ≡ true → r ≡ right_of code u → Finds code functions n f c (Some r)
  walk_finds {u} {v} {r} k p q b h e = record {
    is = λ {ns} {used} {g} {m} y st se kn ix.
        let a = in_program y st kn ix in
        let l = link_of n y c a.left k a.fine a.stands in
        let o : function_of m.functions y c ≡ some l.head.function = sym (seek-newest n y c g st.sound se) ∙ (a.sought ∙ (l.sought ∙ ap (λ z. cond z (some l.head.function) (seek n y c l.others)) (sym (signature_is l p q) ∙ (sym b ∙ h)))) in
        let w = function_different m.functions y c (sound-section g n st.sound se) o in
        let body : CodeB ns (scope_of l.head.function) (store_of code used) r l.head.function.body = subst (λ z. CodeB ns (scope_of l.head.function) (store_of code used) z l.head.function.body) (sym (e ∙ ap (right_of code) p)) l.body in
        subst (λ z. FunctionIs ns (store_of code used) c (Some r) z) (sym o) (function_is w.0 w.1 body);
  }

  ends_at : {ns : List Name} {used : ℕ} {g : Program} {m : Module} (y : Name) → Stands ns (store_of code used) functions g → section g n ≡ some m → Walked ns (store_of code used) t i n y c (newest_first g) → (t.kind ≡ 29 → ⊥) → FunctionIs ns (store_of code used) c None (function_of m.functions y c)
  ends_at {ns} {used} {g} {m} y st se a k =
      let o : function_of m.functions y c ≡ none = sym (seek-newest n y c g st.sound se) ∙ (a.sought ∙ seek_end ns n y c a.left k a.stands) in
      subst (λ z. FunctionIs ns (store_of code used) c None z) (sym o) no_function_is

  pub walk_ends : (t.kind ≡ 29 → ⊥) → Finds code functions n f c None
  walk_ends k = record { is = λ y st se kn ix. ends_at y st se (in_program y st kn ix) k }

  -- the chain is no longer than the code has cells
  pub walk_over : length code ≤ i → Finds code functions n f c None
  walk_over long = record {
    is = λ {ns} {used} {g} {m} y st se kn ix.
        let a = in_program y st kn ix in
        ends_at y st se a (λ k. let l = link_of n y c a.left k a.fine a.stands in omega (arith, a.steps, l.shorter, st.within, long));
  }

-- a section's functions are those of its name and version
version_counts : (g : Program) (n : ℕ) (y : Name) {m : Module} → section g n ≡ some m → 1 ≤ version_at g y n
version_counts [] n y e = absurd (none_some e)
version_counts (m ∷ ms) zero y e = omega arith
version_counts (m ∷ ms) (suc n) y e = omega (arith, version_counts ms n y e)

pub functions_at : (g : Program) (n : ℕ) {m : Module} → section g n ≡ some m → functions_of g m.name (version_at g m.name n) ≡ some m.functions
functions_at [] n e = absurd (none_some e)
functions_at (a ∷ ms) zero {m} e =
    let z : a ≡ m = some_is e in
    rw (ap (λ (q : Module). same q.name m.name) z ∙ same_refl m.name) (ap (λ (q : Module). some q.functions) z)
functions_at (a ∷ ms) (suc n) {m} e = go (same a.name m.name) (version_counts ms n m.name e) (functions_at ms n e)
  where
    v : ℕ
    v = version_at ms m.name n

    go : (t : Bool) → 1 ≤ v → functions_of ms m.name v ≡ some m.functions → cond t (cond (eqb (cond t 1 0 + v) 1) (some a.functions) (functions_of ms m.name (pred (cond t 1 0 + v)))) (functions_of ms m.name (cond t 1 0 + v)) ≡ some m.functions
    go true h more =
        let z : eqb (1 + v) 1 ≡ false = ne_eqb (1 + v) 1 (λ q. omega arith) in
        let p : pred (1 + v) ≡ v = omega arith in
        rw (z, p) more
    go false h more = let p : 0 + v ≡ v = omega arith in rw p more
