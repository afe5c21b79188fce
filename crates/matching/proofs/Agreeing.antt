-- A pattern's tree fits a value's tree where the pattern matches the value, and binds the same.
-- The two trees are shaped alike, so this is an induction on the pattern; a pattern that stands for one value has the tree
-- of that value, and trees of values are the same where the values are.
use Rattle.std.proofs.Common.{◌≡◌, ℕ, suc, ◌+◌, ◌≤◌, max, Bool, true, false, cond, List, ◌∷◌, pos, Some, None, Option as Maybe, is_some, not, Ok, Err, Result, MatchResult, sym, refl, ap, ◌∙◌, subst, arith, lt-ltb}
use Rattle.std.specs.Option.{option_flatten}
use Rattle.std.specs.Result.{result_ok}
use mathlib.Core.Option.{Option, some, none}
use Rattle.meaning.specs.Basics.{on_some, Name, same}
use Rattle.meaning.specs.Bound.{bound_by, bound_by_all}
use Rattle.meaning.specs.Syntax.{Pattern, p_any, p_var, p_int, p_atom, p_tuple, p_nil, p_cons, Patterns, no_p, and_p}
use Rattle.meaning.specs.Space.{size_v}
use Rattle.meaning.specs.Values.{Value, v_int, v_atom, v_tuple, v_nil, v_cons, v_pid, Values, no_v, and_v, same_v, Binding, match, matches}
use Rattle.store.specs.Heap.{Store, Den}
use Rattle.store.specs.Tree.{Tree, node, same_tree}
use Rattle.store.specs.declared.slot.Full.{Full}
use Rattle.store.specs.declared.slot.Slot.{Slot}
use Rattle.values.specs.Encoding.{tree_v, tree_vs, Fine, Fines}
use Rattle.values.specs.Space.{chain}
use Rattle.code.specs.Code.{CodeP}
use Rattle.code.specs.Environment.{values_kind, FineValues, Binds, Environment}
use Rattle.code.specs.Fine.{deep_p, deep_ps, FineP, FinePs}
use Rattle.code.specs.Trees.{nothing, tree_p, tree_ps}
use Rattle.matching.specs.Fit.{fit, binders, deep, FitTo, FitLacks}
use Rattle.matching.specs.Matches.{names, names_all, Matches, MatchLacks}
use Rattle.meaning.proofs.Splits.{no_clash}
use Rattle.values.proofs.Comparing.{value_same}

-- the tree t is an environment for the names sc that is as good as the bindings bs
record Bindings (ns sc : List Name) (bs : List Binding) (t : Tree) : Type 0 where
  values : List Value
  fine : FineValues ns values
  binds : Binds sc values bs
  is : t ≡ chain ns values_kind nothing values

-- both give nothing, or both give the same
abbrev Agree : List Name → List Name → Option (List Binding) → Option Tree → Type 0
Agree ns sc none none = Unit {0}
Agree ns sc none (some t) = ⊥
Agree ns sc (some bs) none = ⊥
Agree ns sc (some bs) (some t) = Bindings ns sc bs t

agree_cond : {ns sc : List Name} {bs : List Binding} {t : Tree} (b c : Bool) → c ≡ b → Bindings ns sc bs t
    → Agree ns sc (cond b (some bs) none) (cond c (some t) none)
agree_cond true true e h = h
agree_cond true false e h = no_clash e refl
agree_cond false true e h = no_clash (sym e) refl
agree_cond false false e h = tt

agree_then : (ns sc sc' : List Name) (o : Option (List Binding)) (u : Option Tree)
    (f : List Binding → Option (List Binding)) (g : Tree → Option Tree)
    → Agree ns sc o u → ((bs : List Binding) (t : Tree) → Bindings ns sc bs t → Agree ns sc' (f bs) (g t))
    → Agree ns sc' (on_some o f) (on_some u g)
agree_then ns sc sc' none none f g h k = tt
agree_then ns sc sc' none (some t) f g h k = absurd h
agree_then ns sc sc' (some bs) none f g h k = absurd h
agree_then ns sc sc' (some bs) (some t) f g h k = k bs t h

-- one more name
bind_one : {ns sc : List Name} {bs : List Binding} {t : Tree} (x : Name) (v : Value) → Fine ns v → Bindings ns sc bs t
    → Bindings ns (x ∷ sc) (record { name = x; value = v } ∷ bs) (node 31 (tree_v ns v) t)
bind_one {ns} x v f h =
    record {
      values = v ∷ h.values;
      fine = (f, h.fine);
      binds = record {
        long = ap suc h.binds.long;
        finds = λ y. ap (λ o. cond (same x y) (some v) o) (h.binds.finds y);
        size = ap (λ n. (4 + size_v v) + n) h.binds.size;
      };
      is = ap (λ z. node 31 (tree_v ns v) z) h.is;
    }

mutual
  agrees : (ns sc : List Name) (p : Pattern) (v : Value) (bs : List Binding) (t : Tree) → FineP ns p → Fine ns v
      → Bindings ns sc bs t
      → Agree ns (bound_by p sc) (match p v bs) (fit (tree_p ns p) (tree_v ns v) t)
  agrees ns sc p_any v bs t f g h = h
  agrees ns sc (p_var x) v bs t f g h = bind_one x v g h
  agrees ns sc (p_int n) v bs t f g h =
      agree_cond (same_v (v_int (pos n)) v) (same_tree (tree_v ns (v_int (pos n))) (tree_v ns v))
      (value_same ns (v_int (pos n)) v (lt-ltb n _ f) g) h
  agrees ns sc (p_atom x) v bs t f g h =
      agree_cond (same_v (v_atom x) v) (same_tree (tree_v ns (v_atom x)) (tree_v ns v)) (value_same ns (v_atom x) v f g) h
  agrees ns sc (p_tuple no_p) (v_int z) bs t f g h = tt
  agrees ns sc (p_tuple (and_p p ps)) (v_int z) bs t f g h = tt
  agrees ns sc (p_tuple no_p) (v_atom x) bs t f g h = tt
  agrees ns sc (p_tuple (and_p p ps)) (v_atom x) bs t f g h = tt
  agrees ns sc (p_tuple ps) (v_tuple vs) bs t f g h = agree_all ns sc ps vs bs t f g h
  agrees ns sc (p_tuple no_p) v_nil bs t f g h = tt
  agrees ns sc (p_tuple (and_p p ps)) v_nil bs t f g h = tt
  agrees ns sc (p_tuple no_p) (v_cons a b) bs t f g h = tt
  agrees ns sc (p_tuple (and_p p ps)) (v_cons a b) bs t f g h = tt
  agrees ns sc (p_tuple no_p) (v_pid n) bs t f g h = tt
  agrees ns sc (p_tuple (and_p p ps)) (v_pid n) bs t f g h = tt
  agrees ns sc p_nil v bs t f g h =
      agree_cond (same_v v_nil v) (same_tree (tree_v ns v_nil) (tree_v ns v)) (value_same ns v_nil v tt g) h
  agrees ns sc (p_cons a b) (v_int z) bs t f g h = tt
  agrees ns sc (p_cons a b) (v_atom x) bs t f g h = tt
  agrees ns sc (p_cons a b) (v_tuple no_v) bs t f g h = tt
  agrees ns sc (p_cons a b) (v_tuple (and_v v vs)) bs t f g h = tt
  agrees ns sc (p_cons a b) v_nil bs t f g h = tt
  agrees ns sc (p_cons a b) (v_cons u w) bs t f g h =
      agree_then ns (bound_by a sc) (bound_by b (bound_by a sc)) (match a u bs) (fit (tree_p ns a) (tree_v ns u) t)
      (λ cs. match b w cs) (fit (tree_p ns b) (tree_v ns w))
      (agrees ns sc a u bs t f.0 g.0 h) (λ cs t' k. agrees ns (bound_by a sc) b w cs t' f.1 g.1 k)
  agrees ns sc (p_cons a b) (v_pid n) bs t f g h = tt

  agree_all : (ns sc : List Name) (ps : Patterns) (vs : Values) (bs : List Binding) (t : Tree) → FinePs ns ps
      → Fines ns vs → Bindings ns sc bs t
      → Agree ns (bound_by_all ps sc) (matches ps vs bs) (fit (tree_ps ns ps) (tree_vs ns vs) t)
  agree_all ns sc no_p no_v bs t f g h = h
  agree_all ns sc no_p (and_v v vs) bs t f g h = tt
  agree_all ns sc (and_p p ps) no_v bs t f g h = tt
  agree_all ns sc (and_p p ps) (and_v v vs) bs t f g h =
      agree_then ns (bound_by p sc) (bound_by_all ps (bound_by p sc)) (match p v bs) (fit (tree_p ns p) (tree_v ns v) t)
      (λ cs. matches ps vs cs) (fit (tree_ps ns ps) (tree_vs ns vs))
      (agrees ns sc p v bs t f.0 g.0 h) (λ cs t' k. agree_all ns (bound_by p sc) ps vs cs t' f.1 g.1 k)

-- a pattern binds as many values as it has names, and nests as deep as its tree
mutual
  binders-names : (ns : List Name) (p : Pattern) → binders (tree_p ns p) ≡ names p
  binders-names ns p_any = refl
  binders-names ns (p_var x) = refl
  binders-names ns (p_int n) = refl
  binders-names ns (p_atom x) = refl
  binders-names ns (p_tuple ps) = binders_all ns ps
  binders-names ns p_nil = refl
  binders-names ns (p_cons a b) = ap (λ n. n + binders (tree_p ns b)) (binders-names ns a)
      ∙ ap (λ n. names a + n) (binders-names ns b)

  binders_all : (ns : List Name) (ps : Patterns) → binders (tree_ps ns ps) ≡ names_all ps
  binders_all ns no_p = refl
  binders_all ns (and_p p ps) = ap (λ n. n + binders (tree_ps ns ps)) (binders-names ns p)
      ∙ ap (λ n. names p + n) (binders_all ns ps)

mutual
  deep_tree : (ns : List Name) (p : Pattern) → deep (tree_p ns p) ≡ deep_p p
  deep_tree ns p_any = refl
  deep_tree ns (p_var x) = refl
  deep_tree ns (p_int n) = refl
  deep_tree ns (p_atom x) = refl
  deep_tree ns (p_tuple ps) = deep_trees ns ps
  deep_tree ns p_nil = refl
  deep_tree ns (p_cons a b) = ap (λ n. max (suc n) (deep (tree_p ns b))) (deep_tree ns a)
      ∙ ap (λ n. max (suc (deep_p a)) n) (deep_tree ns b)

  deep_trees : (ns : List Name) (ps : Patterns) → deep (tree_ps ns ps) ≡ deep_ps ps
  deep_trees ns no_p = refl
  deep_trees ns (and_p p ps) = ap (λ n. max (suc n) (deep (tree_ps ns ps))) (deep_tree ns p)
      ∙ ap (λ n. max (suc (deep_p p)) n) (deep_trees ns ps)

-- an environment as a tree
env_tree : {ns sc : List Name} {m : Store} {s : Slot} {bs : List Binding} (h : Environment ns m s sc bs)
    → Bindings ns sc bs (chain ns values_kind nothing h.values)
env_tree h = record { values = h.values; fine = h.holds.fine; binds = h.binds; is = refl }

shallow : {ns : List Name} {code : Store} {s : Slot} {p : Pattern} → CodeP ns code s p → deep (tree_p ns p) ≤ 100
shallow {ns} {p = p} c = omega (arith, deep_tree ns p, c.fine.shallow)

agreed_none : (ns sc : List Name) (o : Option (List Binding)) (u : Option Tree) → Agree ns sc o u → u ≡ none
    → o ≡ none
agreed_none ns sc none u h e = refl
agreed_none ns sc (some bs) none h e = absurd h
agreed_none ns sc (some bs) (some t) h e = cc

record Agreed (ns sc : List Name) (o : Option (List Binding)) (t : Tree) : Type 0 where
  bindings : List Binding
  is : o ≡ some bindings
  env : Bindings ns sc bindings t

agreed_some : (ns sc : List Name) (o : Option (List Binding)) (u : Option Tree) (t : Tree) → Agree ns sc o u
    → u ≡ some t → Agreed ns sc o t
agreed_some ns sc none none t h e = absurd (let z : ◌≡◌ {A = ℕ} 0 1 = cc in omega arith)
agreed_some ns sc none (some t') t h e = absurd h
agreed_some ns sc (some bs) none t h e = absurd h
agreed_some ns sc (some bs) (some t') t h e =
    let q : t' ≡ t = cc in record { bindings = bs; is = refl; env = subst (λ z. Bindings ns sc bs z) q h }

-- what a walk over the trees says of the pattern and the value
matches_none : {code : List ℕ} {m m₁ m' : Store} {pattern value env : Slot}
    → FitTo code m m₁ 100 pattern value env None → m'.used ≡ m.used
    → Matches code m m' pattern value env None
matches_none f n =
    record {
      to = λ {ns} {sc} {used} {bs} {p} {v} a b c.
          agreed_none ns (bound_by p sc) (match p v bs) _
          (agrees ns sc p v bs _ a.fine.fine b.fine (env_tree c))
          (f.to a.stands b.stands c.holds.stands (shallow a));
      spared = λ e. n;
    }

matches_some : {code : List ℕ} {m m' : Store} {pattern value env r : Slot}
    → FitTo code m m' 100 pattern value env (Some r) → Matches code m m' pattern value env (Some r)
matches_some {m' = m'} {r = r} f =
    record {
      to = λ {ns} {sc} {used} {bs} {p} {v} a b c.
          let y = f.to a.stands b.stands c.holds.stands (shallow a) in
          let z = agreed_some ns (bound_by p sc) (match p v bs) _ y.tree
          (agrees ns sc p v bs _ a.fine.fine b.fine (env_tree c)) y.is in
          record {
            bindings = z.bindings;
            is = z.is;
            env = record {
              values = z.env.values;
              holds = record { fine = z.env.fine; stands = subst (λ t. Den m' r t) z.env.is y.stands };
              binds = z.env.binds;
            };
            count = omega (arith, y.count, binders-names ns p);
          };
      spared = λ e. absurd (let z : ◌≡◌ {A = ℕ} 0 1 = cc in omega arith);
    }

match_lacks : {code : List ℕ} {m m' : Store} {pattern value env : Slot} → FitLacks code m 100 pattern value env
    → m'.used ≡ m.used
    → MatchLacks code m m' pattern value env
match_lacks f n =
    record {
      short = λ {ns} {sc} {used} {bs} {p} {v} a b c.
          omega (arith, f.short a.stands b.stands c.holds.stands (shallow a), binders-names ns p);
      spared = n;
    }

-- how a match ends: the cells that a walk has made are given back unless it ends with an environment
pub ends_without : (code : List ℕ) (m m₁ m' : Store) (pattern value env : Slot) (r : Result (Maybe Slot) Full)
    {x : Maybe (Maybe Slot)} {y : Maybe Slot} {b : Bool}
    → x ≡ result_ok r → y ≡ option_flatten x → is_some y ≡ not b → b ≡ true
    → MatchResult r (λ found. FitTo code m m₁ 100 pattern value env found) (λ f. FitLacks code m 100 pattern value env)
    → m'.used ≡ m.used
    → MatchResult r (λ found. Matches code m m' pattern value env found) (λ f. MatchLacks code m m' pattern value env)
ends_without code m m₁ m' pattern value env (Ok None) p q o i h n = matches_none h n
ends_without code m m₁ m' pattern value env (Ok (Some z)) p q o i h n = cc
ends_without code m m₁ m' pattern value env (Err f) p q o i h n = match_lacks h n

pub ends_with : (code : List ℕ) (m m' : Store) (pattern value env : Slot) (r : Result (Maybe Slot) Full)
    {x : Maybe (Maybe Slot)} {y : Maybe Slot} {b : Bool}
    → x ≡ result_ok r → y ≡ option_flatten x → is_some y ≡ not b → b ≡ false
    → MatchResult r (λ found. FitTo code m m' 100 pattern value env found) (λ f. FitLacks code m 100 pattern value env)
    → MatchResult r (λ found. Matches code m m' pattern value env found) (λ f. MatchLacks code m m' pattern value env)
ends_with code m m' pattern value env (Ok None) p q o i h = cc
ends_with code m m' pattern value env (Ok (Some z)) p q o i h = matches_some h
ends_with code m m' pattern value env (Err f) p q o i h = cc
