-- Names may be bound in another order, and more may be bound: what is fine under some names is fine under those that know as
-- much. By induction over the form; a function's parameters stand in its scope from the last one on.
use Rattle.std.proofs.Common.{◌≡◌, true, ◌⊎◌, List, [], ◌∷◌, ◌++◌, reverse, sym, subst, inl, inr}
use mathlib.Core.List.{reverse-cons}
use Rattle.meaning.specs.Basics.{Name, same}
use Rattle.meaning.specs.Syntax.{Pattern, p_any, p_var, p_int, p_atom, p_tuple, p_nil, p_cons, Patterns, no_p, and_p, Expr, int, atom, var, nil, apply, case, receive, receive_until, catch, Exprs, no_e, and_e, Body, last, bind, Clauses, no_c, clause}
use Rattle.meaning.specs.Bound.{bound_by, bound_by_all}
use Rattle.code.specs.Fine.{FineE, FineEs, FineB, FineCs}
use Rattle.values.specs.Encoding.{Known}

-- names may be bound in another order, and more may be bound
abbrev pub Wider : List Name → List Name → Type 0
Wider ys zs = (x : Name) → Known ys x → Known zs x

wider_one : (y : Name) (ys zs : List Name) → Wider ys zs → Wider (y ∷ ys) (y ∷ zs)
wider_one y ys zs f x (inl e) = inl e
wider_one y ys zs f x (inr k) = inr (f x k)

mutual
  wider_by : (p : Pattern) (ys zs : List Name) → Wider ys zs → Wider (bound_by p ys) (bound_by p zs)
  wider_by p_any ys zs f = f
  wider_by (p_var x) ys zs f = wider_one x ys zs f
  wider_by (p_int n) ys zs f = f
  wider_by (p_atom x) ys zs f = f
  wider_by (p_tuple ps) ys zs f = wider_by_all ps ys zs f
  wider_by p_nil ys zs f = f
  wider_by (p_cons a b) ys zs f = wider_by b (bound_by a ys) (bound_by a zs) (wider_by a ys zs f)

  wider_by_all : (ps : Patterns) (ys zs : List Name) → Wider ys zs → Wider (bound_by_all ps ys) (bound_by_all ps zs)
  wider_by_all no_p ys zs f = f
  wider_by_all (and_p p ps) ys zs f = wider_by_all ps (bound_by p ys) (bound_by p zs) (wider_by p ys zs f)

known_left : (xs ys : List Name) (x : Name) → Known xs x → Known (xs ++ ys) x
known_left [] ys x k = absurd k
known_left (y ∷ xs) ys x (inl e) = inl e
known_left (y ∷ xs) ys x (inr k) = inr (known_left xs ys x k)

known_right : (xs ys : List Name) (x : Name) → Known ys x → Known (xs ++ ys) x
known_right [] ys x k = k
known_right (y ∷ xs) ys x k = inr (known_right xs ys x k)

pub known_reverse : (xs : List Name) → Wider xs (reverse xs)
known_reverse [] x k = absurd k
known_reverse (y ∷ xs) x k = subst
    (λ (l : List Name). Known l x) (sym (reverse-cons y xs)) (go k (λ h. known_reverse xs x h))
  where
    go : (same y x ≡ true) ⊎ Known xs x → (Known xs x → Known (reverse xs) x) → Known (reverse xs ++ (y ∷ [])) x
    go (inl e) f = known_right (reverse xs) (y ∷ []) x (inl e)
    go (inr h) f = known_left (reverse xs) (y ∷ []) x (f h)

module _ (ns : List Name) where
  mutual
    fine_wider : (e : Expr) (ys zs : List Name) → Wider ys zs → FineE ns ys e → FineE ns zs e
    fine_wider (int n) ys zs f h = h
    fine_wider (atom x) ys zs f h = h
    fine_wider (var x) ys zs f h = f x h
    fine_wider nil ys zs f h = h
    fine_wider (apply o es) ys zs f h = (h.0, fine_wider_all es ys zs f h.1)
    fine_wider (case e cs) ys zs f h = (fine_wider e ys zs f h.0, fine_wider_clauses cs ys zs f h.1)
    fine_wider (receive cs) ys zs f h = fine_wider_clauses cs ys zs f h
    fine_wider (receive_until cs e b) ys zs f h =
        (fine_wider_clauses cs ys zs f h.0, fine_wider e ys zs f h.1, fine_wider_body b ys zs f h.2)
    fine_wider (catch b) ys zs f h = fine_wider_body b ys zs f h

    fine_wider_all : (es : Exprs) (ys zs : List Name) → Wider ys zs → FineEs ns ys es → FineEs ns zs es
    fine_wider_all no_e ys zs f h = tt
    fine_wider_all (and_e e es) ys zs f h = (fine_wider e ys zs f h.0, fine_wider_all es ys zs f h.1)

    pub fine_wider_body : (b : Body) (ys zs : List Name) → Wider ys zs → FineB ns ys b → FineB ns zs b
    fine_wider_body (last e) ys zs f h = fine_wider e ys zs f h
    fine_wider_body (bind p e b) ys zs f h = (
      h.0,
      fine_wider e ys zs f h.1,
      fine_wider_body b (bound_by p ys) (bound_by p zs) (wider_by p ys zs f)
          h.2,
    )

    fine_wider_clauses : (cs : Clauses) (ys zs : List Name) → Wider ys zs → FineCs ns ys cs → FineCs ns zs cs
    fine_wider_clauses no_c ys zs f h = tt
    fine_wider_clauses (clause p b cs) ys zs f h = (
      h.0,
      fine_wider_body b (bound_by p ys) (bound_by p zs) (wider_by p ys zs f) h.1,
      fine_wider_clauses cs
          ys zs f h.2,
    )
