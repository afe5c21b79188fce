-- A text has at most one word for each two bytes and one more: between two words stands a byte that is in neither.
use Rattle.std.proofs.Common.{◌≡◌, ℕ, ◌+◌, ◌*◌, ◌≤◌, true, false, cond, not, eqb, leb, ◌⊎◌, List, [], ◌∷◌, ◌++◌, length, ap, inl, inr, arith}
use Rattle.std.proofs.lemmas.Bool.{cases_Bool, and_left, and_right}
use Rattle.meaning.specs.Basics.{Name}
use Rattle.meaning.specs.Grammar.{all_letters, digit_first, is_atom}
use Rattle.meaning.specs.Tokens.{is_letter, is_blank, begins_sign, joins, gap, word, sign, comment, tokens}
use Rattle.tokens.specs.Cutting.{Begins}
use Rattle.tokens.proofs.Reading.{blank_skips, comment_begins, comment_skips, comment_ends, word_begins, word_more, word_ends, sign_begins, sign_joins, sign_alone, byte_alone}

-- how many words can be atoms
abbrev pub atoms_in : List Name → ℕ
atoms_in [] = 0
atoms_in (w ∷ ws) = cond (is_atom w) 1 0 + atoms_in ws

no_atom : (c : ℕ) (cs : Name) → is_letter c ≡ false → is_atom (c ∷ cs) ≡ false
no_atom c cs n =
    and_right (leb 1 (length (c ∷ cs))) _ (and_right (leb (length (c ∷ cs)) 32) _
    (and_left (all_letters (c ∷ cs)) (not (digit_first (c ∷ cs))) (and_left (is_letter c) (all_letters cs) n)))

passes_no_atom : (c : ℕ) (cs : Name) (ws : List Name) → is_letter c ≡ false → atoms_in ((c ∷ cs) ∷ ws) ≡ atoms_in ws
passes_no_atom c cs ws n = omega (arith, ap {B = ℕ} (λ b. cond b 1 0) (no_atom c cs n))

at_most_one : (w : Name) (ws : List Name) → atoms_in (w ∷ ws) ≤ 1 + atoms_in ws
at_most_one w ws = way (cases_Bool (is_atom w))
  where
    way : (is_atom w ≡ true) ⊎ (is_atom w ≡ false) → atoms_in (w ∷ ws) ≤ 1 + atoms_in ws
    way (inl a) = omega (arith, ap {B = ℕ} (λ b. cond b 1 0) a)
    way (inr a) = omega (arith, ap {B = ℕ} (λ b. cond b 1 0) a)

-- in each way of reading: twice the words that are to come against the bytes that are to come
pub record Few (t : List ℕ) : Type 0 where
  pub in_gap : 2 * atoms_in (tokens gap t) ≤ 1 + length t
  pub in_word : (w : Name) → 2 * atoms_in (tokens (word w) t) ≤ 2 + length t
  pub in_sign : (d : ℕ) → is_letter d ≡ false → 2 * atoms_in (tokens (sign d) t) ≤ 1 + length t
  pub in_comment : 2 * atoms_in (tokens comment t) ≤ 1 + length t

module _ (c : ℕ) (t : List ℕ) (few : Few t) where
  begun : is_blank c ≡ false → eqb c 35 ≡ false → Begins c
  begun p q = record { no_blank = p; no_comment = q }

  -- a byte that is no letter begins no word
  gap_no_letter : is_letter c ≡ false → 2 * atoms_in (tokens gap (c ∷ t)) ≤ length (c ∷ t)
  gap_no_letter n = way (cases_Bool (is_blank c)) (cases_Bool (eqb c 35)) (cases_Bool (begins_sign c))
    where
      way : (is_blank c ≡ true) ⊎ (is_blank c ≡ false) → (eqb c 35 ≡ true) ⊎ (eqb c 35 ≡ false)
          → (begins_sign c ≡ true) ⊎ (begins_sign c ≡ false) → 2 * atoms_in (tokens gap (c ∷ t)) ≤ length (c ∷ t)
      way (inl p) q s = omega (arith, ap atoms_in (blank_skips c p t), few.in_gap)
      way (inr p) (inl q) s = omega (arith, ap atoms_in (comment_begins c p q t), few.in_comment)
      way (inr p) (inr q) (inl s) = omega (arith, ap atoms_in (sign_begins c t (begun p q) n s), few.in_sign c n)
      way (inr p) (inr q) (inr s) = omega (
        arith,
        ap atoms_in (byte_alone c t (begun p q) n s),
        passes_no_atom c []
            (tokens gap t) n,
        few.in_gap,
      )

  gap_letter : is_letter c ≡ true → 2 * atoms_in (tokens gap (c ∷ t)) ≤ 1 + length (c ∷ t)
  gap_letter l = way (cases_Bool (is_blank c)) (cases_Bool (eqb c 35))
    where
      way : (is_blank c ≡ true) ⊎ (is_blank c ≡ false) → (eqb c 35 ≡ true) ⊎ (eqb c 35 ≡ false)
          → 2 * atoms_in (tokens gap (c ∷ t)) ≤ 1 + length (c ∷ t)
      way (inl p) q = omega (arith, ap atoms_in (blank_skips c p t), few.in_gap)
      way (inr p) (inl q) = omega (arith, ap atoms_in (comment_begins c p q t), few.in_comment)
      way (inr p) (inr q) = omega (arith, ap atoms_in (word_begins c t (begun p q) l), few.in_word (c ∷ []))

  gap_any : 2 * atoms_in (tokens gap (c ∷ t)) ≤ 1 + length (c ∷ t)
  gap_any = elim (cases_Bool (is_letter c)) [ inl l ↦ gap_letter l | inr n ↦ omega (arith, gap_no_letter n) ]

  word_any : (w : Name) → 2 * atoms_in (tokens (word w) (c ∷ t)) ≤ 2 + length (c ∷ t)
  word_any w = elim (cases_Bool (is_letter c)) [
    | inl l ↦ omega (arith, ap atoms_in (word_more w c t l), few.in_word (w ++ (c ∷ [])))
    | inr n ↦ omega (arith, ap atoms_in (word_ends w c t n), at_most_one w (tokens gap (c ∷ t)), gap_no_letter n)
  ]

  sign_any : (d : ℕ) → is_letter d ≡ false → 2 * atoms_in (tokens (sign d) (c ∷ t)) ≤ 1 + length (c ∷ t)
  sign_any d n = elim (cases_Bool (joins d c)) [
    | inl j ↦ omega (arith, ap atoms_in (sign_joins d c t j), passes_no_atom d (c ∷ []) (tokens gap t) n, few.in_gap)
    | inr j ↦ omega (arith, ap atoms_in (sign_alone d c t j), passes_no_atom d [] (tokens gap (c ∷ t)) n, gap_any)
  ]

  comment_any : 2 * atoms_in (tokens comment (c ∷ t)) ≤ 1 + length (c ∷ t)
  comment_any = elim (cases_Bool (eqb c 10)) [
    | inl e ↦ omega (arith, ap atoms_in (comment_ends c e t), few.in_gap)
    | inr e ↦ omega (arith, ap atoms_in (comment_skips c e t), few.in_comment)
  ]

  few_more : Few (c ∷ t)
  few_more = record { in_gap = gap_any; in_word = word_any; in_sign = sign_any; in_comment = comment_any }

few_atoms : (t : List ℕ) → Few t
few_atoms [] =
    record {
      in_gap = omega arith;
      in_word = λ w. omega (arith, at_most_one w []);
      in_sign = λ d n. omega (arith, passes_no_atom d [] [] n);
      in_comment = omega arith;
    }
few_atoms (c ∷ t) = few_more c t (few_atoms t)

pub atoms_in-tokens : (t : List ℕ) → 2 * atoms_in (tokens gap t) ≤ 1 + length t
atoms_in-tokens t = (few_atoms t).in_gap
