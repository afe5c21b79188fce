-- Which class a keyword has: that of the first entry with the same word, and each entry has the right class.
-- Where no entry has the word, it is no keyword, since the entries have all of them.
use Rattle.std.proofs.Common.{◌≡◌, Bool, true, false, cond, ◌||◌, ◌⊎◌, inl, inr, map, List, [], ◌∷◌, Some, None, Option, sym, refl, ap, ◌∙◌, subst, Bor}
use Rattle.std.proofs.lemmas.Bool.{cases_Bool}
use Rattle.std.specs.Prelude.{find, IsSomeAnd, MatchOption}
use Rattle.std.specs.Option.{option_map}
use Rattle.meaning.specs.Basics.{Name, same, listed}
use Rattle.meaning.specs.Grammar.{keywords}
use Rattle.meaning.proofs.Splits.{T_of, same_is}
use Rattle.grammar.specs.Classes.{class_of}
use Rattle.reader.specs.Classes.{Classified, Reserved, class_means}
use Rattle.reader.specs.declared.class.Class.{Class}

-- what is right of a keyword is right of the word that is the same
pub same_class : {w : Name} (k : Name) {r : Class} → Classified k r → true ≡ same w k → Classified w r
same_class {w} k {r} h e = subst (λ x. Classified x r) (sym (same_is w k (T_of (sym e)))) h

-- a keyword and its class
abbrev pub Labelled : Type 0
Labelled = Name × Class

abbrev pub EachRight : List Labelled → Type 0
EachRight [] = Unit {0}
EachRight (e ∷ es) = Classified e.0 e.1 × EachRight es

pub is_right : {w : Name} {r : Class} → class_means r w ≡ class_of w → Classified w r
is_right e = record { class = e }

-- the first entry with the word gives its class; where none has it, it is none of the words
pub reserved_more : (e : Labelled) (ks : List Name) (w : Name) (o : Option Class) → same w e.0 ≡ false
    → Reserved ks w o → Reserved (e.0 ∷ ks) w o
reserved_more e ks w None other free = ap (λ b. b || listed w ks) other ∙ free
reserved_more e ks w (Some r) other class = class

pub reserved_by_find : (w : Name) (es : List Labelled) → EachRight es
    → Reserved (map (λ e. e.0) es) w (option_map (λ e. e.1) (find (λ e. same w e.0) es))
reserved_by_find w [] right = refl
reserved_by_find w (e ∷ es) (here, others) = way (cases_Bool (same w e.0)) (reserved_by_find w es others)
  where
    found : Bool → Option Class
    found b = option_map (λ x. x.1) (cond b (Some e) (find (λ x. same w x.0) es))

    way : (same w e.0 ≡ true) ⊎ (same w e.0 ≡ false)
        → Reserved (map (λ x. x.0) es) w (found false) → Reserved (map (λ x. x.0) (e ∷ es)) w (found (same w e.0))
    way (inl hit) rest = subst (λ b. Reserved (map (λ x. x.0) (e ∷ es)) w (found b)) (sym hit)
        (same_class e.0 here (sym hit))
    way (inr miss) rest = subst (λ b. Reserved (map (λ x. x.0) (e ∷ es)) w (found b)) (sym miss)
        (reserved_more e (map (λ x. x.0) es) w (found false) miss rest)

-- the same of the entries that the code keeps
abbrev pub entry_of : Bor Name × Class → Labelled
entry_of e = (e.0.now, e.1)

pub find-entries : (w : Name) (es : List (Bor Name × Class))
    → option_map (λ e. e.1) (find (λ e. same w e.0.now) es)
    ≡ option_map (λ e. e.1) (find (λ e. same w e.0) (map entry_of es))
find-entries w [] = refl
find-entries w (e ∷ es) = way (same w e.0.now) (find-entries w es)
  where
    way : (b : Bool)
        → option_map (λ e. e.1) (find (λ e. same w e.0.now) es)
        ≡ option_map (λ e. e.1) (find (λ e. same w e.0) (map entry_of es))
        → option_map (λ e. e.1) (cond b (Some e) (find (λ e. same w e.0.now) es))
        ≡ option_map (λ e. e.1) (cond b (Some (entry_of e)) (find (λ e. same w e.0) (map entry_of es)))
    way true rest = refl
    way false rest = rest

module _ (Gives : Bor (Bor Name × Class) → Class → Type 0) (gives : (e : _) (r : _) → Gives e r → r ≡ e.now.1) where
  pub class_of_found : (o : Option (Bor (Bor Name × Class))) (r : Option Class)
      → MatchOption o (r ≡ None) (λ e. IsSomeAnd r (Gives e))
      → r ≡ option_map (λ e. e.1) (option_map (λ e. e.now) o)
  class_of_found None r is = is
  class_of_found (Some e) (Some r) is = ap Some (gives e r is)
  class_of_found (Some e) None is = absurd is

pub reserved_by_entries : (w : Name) (es : List (Bor Name × Class)) (o : Option (Bor Name × Class)) (r : Option Class)
    → EachRight (map entry_of es) → map (λ e. e.0) (map entry_of es) ≡ keywords
    → o ≡ find (λ e. same w e.0.now) es → r ≡ option_map (λ e. e.1) o → Reserved keywords w r
reserved_by_entries w es o r right all found is =
    let entries = map entry_of es in
    let result : r ≡ option_map (λ e. e.1) (find (λ e. same w e.0) entries) =
    is ∙ (ap (option_map (λ e. e.1)) found ∙ find-entries w es) in
    subst (Reserved keywords w) (sym result)
    (subst (λ ks. Reserved ks w (option_map (λ e. e.1) (find (λ e. same w e.0) entries))) all
    (reserved_by_find w entries right))
