-- The first of x list that passes x test. Where only one passes it, the list may xs well be turned round.
use Rattle.std.proofs.Common.{◌≡◌, Bool, true, false, cond, List, [], ◌∷◌, ◌++◌, reverse, refl, ap, ◌∙◌}
use mathlib.Core.List.{reverse-cons}
use mathlib.Core.Option.{Option, some, none}
use Rattle.meaning.proofs.Splits.{bool_all}

module _ {A B : Type 0} (test : A → Bool) (give : A → B) where
  abbrev pub first : List A → Option B
  first [] = none
  first (x ∷ xs) = cond (test x) (some (give x)) (first xs)

  -- behind one that passes the test, no other does
  abbrev pub Once : List A → Type 0
  Once [] = Unit {0}
  Once (x ∷ xs) = (test x ≡ true → first xs ≡ none) × Once xs

  abbrev or_else : Option B → Option B → Option B
  or_else none p = p
  or_else (some b) p = some b

  first_append : (xs bs : List A) → first (xs ++ bs) ≡ or_else (first xs) (first bs)
  first_append [] bs = refl
  first_append (x ∷ xs) bs = bool_all (λ t. cond t (some (give x)) (first (xs ++ bs)) ≡ or_else (cond t (some (give x)) (first xs)) (first bs)) (test x) (λ h. refl) (λ h. first_append xs bs)

  or_none : (o : Option B) → or_else o none ≡ o
  or_none none = refl
  or_none (some b) = refl

  pub first_reverse : (xs : List A) → Once xs → first (reverse xs) ≡ first xs
  first_reverse [] o = refl
  first_reverse (x ∷ xs) o = ap first (reverse-cons x xs) ∙ (first_append (reverse xs) (x ∷ []) ∙ (ap (λ p. or_else p (first (x ∷ []))) (first_reverse xs o.1) ∙ last_one (test x) refl))
    where
      last_one : (t : Bool) → test x ≡ t → or_else (first xs) (cond t (some (give x)) none) ≡ cond t (some (give x)) (first xs)
      last_one true h = ap (λ p. or_else p (some (give x))) (o.0 h)
      last_one false h = or_none (first xs)
