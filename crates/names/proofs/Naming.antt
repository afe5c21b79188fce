-- The laws of the names of a text. A word that is added was not known, so no name stands twice; names go to the end, so
-- the atoms of the language keep their numbers, and what is known stays known.
use Rattle.std.proofs.Common.{◌≡◌, ℕ, suc, ◌+◌, ◌<◌, ◌≤◌, Bool, true, false, cond, not, ◌&&◌, T, ◌⊎◌, List, [], ◌∷◌, ◌++◌, length, sym, refl, ap, ◌∙◌, subst, inl, inr, append_assoc, append-nil, arith}
use Rattle.std.specs.List.{AllByRecursion}
use Rattle.std.proofs.ByRecursion.{All-weaker}
use Rattle.std.proofs.lemmas.List.{length-append}
use Rattle.std.proofs.lemmas.Bool.{false≢true, both_ways, not-true, cases_Bool, and_parts, or_cases, or_left, or_right, cond-true, cond-false}
use Rattle.meaning.specs.Basics.{Name, same, listed}
use Rattle.meaning.specs.Grammar.{is_atom}
use Rattle.meaning.specs.Tokens.{gap, tokens}
use Rattle.meaning.proofs.Splits.{T_of, same_is, same_refl}
use Rattle.values.specs.Encoding.{index_of, Known}
use Rattle.code.specs.Reading.{Knows}
use Rattle.names.specs.Names.{own_atoms, with_word, with_words, names_of, Distinct, OwnNumbers, NamesOf}
use Rattle.names.proofs.Counting.{atoms_in, atoms_in-tokens}

pub same_sym : (x y : Name) → same x y ≡ true → same y x ≡ true
same_sym x y e = subst (λ z. same z x ≡ true) (same_is x y (T_of e)) (same_refl x)

-- a name is known where it is listed
pub listed_from_known : (ns : List Name) (w : Name) → Known ns w → listed w ns ≡ true
listed_from_known [] w k = absurd k
listed_from_known (y ∷ ys) w (inl e) = or_left (same w y) (listed w ys) (same_sym y w e)
listed_from_known (y ∷ ys) w (inr k) = or_right (same w y) (listed w ys) (listed_from_known ys w k)

pub known_from_listed : (ns : List Name) (w : Name) → listed w ns ≡ true → Known ns w
known_from_listed [] w e = absurd (false≢true e)
known_from_listed (y ∷ ys) w e =
    elim (or_cases (same w y) (listed w ys) e) [ inl s ↦ inl (same_sym w y s) | inr l ↦ inr (known_from_listed ys w l) ]

pub known_or_not : (ns : List Name) (w : Name) → Known ns w ⊎ (Known ns w → ⊥)
known_or_not ns w = elim (cases_Bool (listed w ns)) [
  | inl l ↦ inl (known_from_listed ns w l)
  | inr l ↦ inr (λ k. both_ways (listed w ns) l (listed_from_known ns w k))
]

pub known_later : (y : Name) (ys : List Name) (w : Name) → same y w ≡ false → Known (y ∷ ys) w → Known ys w
known_later y ys w n (inl e) = absurd (both_ways (same y w) n e)
known_later y ys w n (inr k) = k

-- the number of a name is below the number of names
pub index_below : (ns : List Name) (w : Name) → Known ns w → index_of ns w < length ns
index_below [] w k = absurd k
index_below (y ∷ ys) w k = elim (cases_Bool (same y w)) [
  | inl e ↦ omega (arith, cond-true (same y w) 0 (suc (index_of ys w)) e)
  | inr n ↦ omega (arith, cond-false (same y w) 0 (suc (index_of ys w)) n, index_below ys w (known_later y ys w n k))
]

-- a table that grows at its end
pub known_left : (xs ys : List Name) (w : Name) → Known xs w → Known (xs ++ ys) w
known_left [] ys w k = absurd k
known_left (x ∷ xs) ys w (inl e) = inl e
known_left (x ∷ xs) ys w (inr k) = inr (known_left xs ys w k)

pub known_last : (xs : List Name) (w : Name) → Known (xs ++ (w ∷ [])) w
known_last [] w = inl (same_refl w)
known_last (x ∷ xs) w = inr (known_last xs w)

pub known_push : (xs : List Name) (y w : Name) → Known (xs ++ (y ∷ [])) w → Known xs w ⊎ (same y w ≡ true)
known_push [] y w (inl e) = inr e
known_push [] y w (inr k) = inl k
known_push (x ∷ xs) y w (inl e) = inl (inl e)
known_push (x ∷ xs) y w (inr k) = elim (known_push xs y w k) [ inl k' ↦ inl (inr k') | inr e ↦ inr e ]

pub distinct_push : (xs : List Name) (w : Name) → Distinct xs → (Known xs w → ⊥) → Distinct (xs ++ (w ∷ []))
distinct_push [] w d n = ((λ k. k), tt)
distinct_push (x ∷ xs) w d n = (
  (λ k. elim (known_push xs w x k) [ inl k' ↦ d.0 k' | inr e ↦ n (inl (same_sym w x e)) ]),
  distinct_push xs w d.1 (λ k. n (inr k)),
)

-- a word either goes to the end or leaves the names as they are
pub record Added (ns : List Name) (w : Name) : Type 0 where
  pub atom : is_atom w ≡ true
  pub new : Known ns w → ⊥
  pub is : with_word ns w ≡ ns ++ (w ∷ [])

pub record Left (ns : List Name) (w : Name) : Type 0 where
  pub known : T (is_atom w) → Known ns w
  pub is : with_word ns w ≡ ns

pub added : (ns : List Name) (w : Name) → is_atom w ≡ true → (Known ns w → ⊥) → Added ns w
added ns w a n = way (cases_Bool (listed w ns))
  where
    way : (listed w ns ≡ true) ⊎ (listed w ns ≡ false) → Added ns w
    way (inl l) = absurd (n (known_from_listed ns w l))
    way (inr l) = record { atom = a; new = n; is = rw (a, l) refl }

pub left_known : (ns : List Name) (w : Name) → Known ns w → Left ns w
left_known ns w k = record { known = λ t. k; is = way (cases_Bool (is_atom w)) }
  where
    way : (is_atom w ≡ true) ⊎ (is_atom w ≡ false) → with_word ns w ≡ ns
    way (inl a) = rw (a, listed_from_known ns w k) refl
    way (inr a) = rw a refl

pub left_no_atom : (ns : List Name) (w : Name) → is_atom w ≡ false → Left ns w
left_no_atom ns w a = record { known = λ t. absurd (subst T a t); is = rw a refl }

pub with_word_is : (ns : List Name) (w : Name) → Added ns w ⊎ Left ns w
with_word_is ns w = way (cases_Bool (is_atom w)) (cases_Bool (listed w ns))
  where
    way : (is_atom w ≡ true) ⊎ (is_atom w ≡ false) → (listed w ns ≡ true) ⊎ (listed w ns ≡ false)
        → Added ns w ⊎ Left ns w
    way (inr a) l = inr (left_no_atom ns w a)
    way (inl a) (inl l) = inr (left_known ns w (known_from_listed ns w l))
    way (inl a) (inr l) = inl (added ns w a (λ k. both_ways (listed w ns) l (listed_from_known ns w k)))

-- what holds of the names so far holds of them with more words
pub record Grown (ns ms : List Name) : Type 0 where
  pub more : List Name
  pub is : ms ≡ ns ++ more

grown_word : (ns : List Name) (w : Name) → Grown ns (with_word ns w)
grown_word ns w = elim (with_word_is ns w) [
  | inl a ↦ record { more = w ∷ []; is = a.is }
  | inr l ↦ record { more = []; is = l.is ∙ sym (append-nil ns) }
]

pub grown_words : (ns ws : List Name) → Grown ns (with_words ns ws)
grown_words ns [] = record { more = []; is = sym (append-nil ns) }
grown_words ns (w ∷ ws) =
    let one = grown_word ns w in
    let others = grown_words (with_word ns w) ws in
    record {
      more = one.more ++ others.more;
      is = others.is ∙ (ap (λ l. l ++ others.more) one.is ∙ append_assoc ns one.more others.more);
    }

pub grown_known : {ns ms : List Name} (w : Name) → Grown ns ms → Known ns w → Known ms w
grown_known {ns} {ms} w g k = subst (λ l. Known l w) (sym g.is) (known_left ns g.more w k)

distinct_word : (ns : List Name) (w : Name) → Distinct ns → Distinct (with_word ns w)
distinct_word ns w d = elim (with_word_is ns w) [
  | inl a ↦ subst Distinct (sym a.is) (distinct_push ns w d a.new)
  | inr l ↦ subst Distinct (sym l.is) d
]

pub distinct_words : (ns ws : List Name) → Distinct ns → Distinct (with_words ns ws)
distinct_words ns [] d = d
distinct_words ns (w ∷ ws) d = distinct_words (with_word ns w) ws (distinct_word ns w d)

known_word : (ns : List Name) (w : Name) → T (is_atom w) → Known (with_word ns w) w
known_word ns w t = elim (with_word_is ns w) [
  | inl a ↦ subst (λ l. Known l w) (sym a.is) (known_last ns w)
  | inr l ↦ subst (λ l. Known l w) (sym l.is) (l.known t)
]

pub knows_words : (ns ws : List Name) → Knows (with_words ns ws) ws
knows_words ns [] = tt
knows_words ns (w ∷ ws) = (
  (λ t. grown_known w (grown_words (with_word ns w) ws) (known_word ns w t)),
  knows_words (with_word ns w) ws,
)

-- how many there are
length_word : (ns : List Name) (w : Name) → length (with_word ns w) ≤ length ns + cond (is_atom w) 1 0
length_word ns w = elim (with_word_is ns w) [
  | inl a ↦ omega (arith, ap length a.is, length-append ns (w ∷ []), ap {B = ℕ} (λ b. cond b 1 0) a.atom)
  | inr l ↦ omega (arith, ap length l.is)
]

pub length_words : (ns ws : List Name) → length (with_words ns ws) ≤ length ns + atoms_in ws
length_words ns [] = omega arith
length_words ns (w ∷ ws) = omega (arith, length_words (with_word ns w) ws, length_word ns w)

-- the atoms of the language
apart : List Name → Bool
apart [] = true
apart (x ∷ xs) = not (listed x xs) && apart xs

distinct_from_apart : (xs : List Name) → apart xs ≡ true → Distinct xs
unfolding apart
distinct_from_apart [] e = tt
distinct_from_apart (x ∷ xs) e =
    let both = and_parts (not (listed x xs)) (apart xs) e in (
      (λ k. both_ways (listed x xs) (not-true (listed x xs) both.0) (listed_from_known xs x k)),
      distinct_from_apart xs both.1,
    )

pub own_distinct : Distinct own_atoms
unfolding own_atoms apart
own_distinct = distinct_from_apart own_atoms refl

pub own-length : length own_atoms ≡ 16
unfolding own_atoms
own-length = refl

own_numbers : (more : List Name) → OwnNumbers (own_atoms ++ more)
unfolding own_atoms
own_numbers more =
    record {
      type_is = refl;
      match_is = refl;
      clause_is = refl;
      zero_is = refl;
      big_is = refl;
      undef_is = refl;
      normal_is = refl;
      old_is = refl;
      gone_is = refl;
      ok_is = refl;
      error_is = refl;
      exit_is = refl;
      none_is = refl;
      true_is = refl;
      false_is = refl;
      main_is = refl;
    }

all_known : (xs : List Name) → AllByRecursion (Known xs) xs
all_known [] = tt
all_known (x ∷ xs) = (inl (same_refl x), All-weaker (Known xs) (Known (x ∷ xs)) (λ w k. inr k) xs (all_known xs))

pub names_stand : (text : List ℕ) → NamesOf text
names_stand text =
    let grown = grown_words own_atoms (tokens gap text) in
    record {
      knows = knows_words own_atoms (tokens gap text);
      own_known = All-weaker (Known own_atoms) (Known (names_of text)) (λ w k. grown_known w grown k) own_atoms
          (all_known own_atoms);
      own_numbers = subst OwnNumbers (sym grown.is) (own_numbers grown.more);
      distinct = distinct_words own_atoms (tokens gap text) own_distinct;
      least = omega (arith, ap length grown.is, length-append own_atoms grown.more, own-length);
      most = omega (arith, length_words own_atoms (tokens gap text), atoms_in-tokens text, own-length);
    }
