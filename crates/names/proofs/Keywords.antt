-- Words by bytes: std's tests of lists and slices are those of the meaning, head by head.
use Rattle.std.proofs.Common.{◌≡◌, ℕ, zero, suc, nat_eq, Bool, true, false, ◌&&◌, ◌||◌, List, [], ◌∷◌, get_or, map, Bor, refl, ap, ◌∙◌, arith}
use Rattle.std.proofs.lemmas.Bool.Decides.{nat_tests}
use Rattle.std.specs.List.{list_all, list_any}
use Rattle.std.specs.Cmp.Lexicographic.{pointwise}
use Rattle.meaning.specs.Basics.{Name, same, listed}
use Rattle.meaning.specs.Grammar.{all_letters}
use Rattle.meaning.specs.Tokens.{is_letter}

pub letters_all : (w : Name) → all_letters w ≡ list_all is_letter w
letters_all [] = refl
letters_all (c ∷ cs) = ap (λ b. is_letter c && b) (letters_all cs)

nat_eq-sym : (x y : ℕ) → nat_eq x y ≡ nat_eq y x
nat_eq-sym x y = grind (arith, nat_tests)

-- `==` of two words is `same`, whichever stands first
pub same-pointwise : (x y : Name) → pointwise nat_eq x y ≡ same x y
same-pointwise [] [] = refl
same-pointwise [] (y ∷ ys) = refl
same-pointwise (x ∷ xs) [] = refl
same-pointwise (x ∷ xs) (y ∷ ys) = ap (λ b. nat_eq x y && b) (same-pointwise xs ys)

pub same_swapped : (x y : Name) → pointwise nat_eq y x ≡ same x y
same_swapped [] [] = refl
same_swapped [] (y ∷ ys) = refl
same_swapped (x ∷ xs) [] = refl
same_swapped (x ∷ xs) (y ∷ ys) =
    ap (λ b. b && pointwise nat_eq ys xs) (nat_eq-sym y x) ∙ ap (λ b. nat_eq x y && b) (same_swapped xs ys)

pub listed-list_any : (w : Name) (ks : List (Bor (List ℕ)))
    → list_any (λ k. pointwise nat_eq k.now w) ks ≡ listed w (map (λ (k : Bor (List ℕ)). k.now) ks)
listed-list_any w [] = refl
listed-list_any w (k ∷ ks) =
    ap (λ b. b || list_any (λ k. pointwise nat_eq k.now w) ks) (same_swapped w k.now)
    ∙ ap (λ b. same w k.now || b) (listed-list_any w ks)

-- the word at a place of a table of words
pub get_or_now : (ks : List (Bor (List ℕ))) (i : ℕ) (d : Bor (List ℕ))
    → (get_or ks i d).now ≡ get_or (map (λ (k : Bor (List ℕ)). k.now) ks) i d.now
get_or_now [] i d = refl
get_or_now (k ∷ ks) zero d = refl
get_or_now (k ∷ ks) (suc i) d = get_or_now ks i d

-- the tests of an atom, and one more
pub and_one_more : (a b c d e : Bool) → true ≡ (a && (b && (c && d))) → e ≡ (a && (b && (c && (d && e))))
and_one_more true true true true e h = refl
and_one_more true true true false e h = cc
and_one_more true true false d e h = cc
and_one_more true false c d e h = cc
and_one_more false b c d e h = cc
