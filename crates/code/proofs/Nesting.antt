-- How many brackets are open behind some tokens, and so how deep a pattern nests: one that stands under n open brackets nests
-- at most 97 - 2 n deep, since each level of a pattern beyond one pair takes a bracket, and words and numbers are no brackets.
use Rattle.std.proofs.Common.{◌≡◌, ℕ, zero, suc, ◌+◌, ◌-◌, ◌*◌, ◌^◌, ◌<◌, ◌≤◌, Bool, true, false, cond, not, ◌&&◌, ◌||◌, T, eqb, leb, List, [], ◌∷◌, ◌++◌, length, sym, refl, ap, ◌∙◌, subst, inl, inr, mul-le-mul_right, mul_assoc, mul-le-mul_left, mul-one, arith, eqb→eq, leb→le}
use mathlib.Core.Option.{some, none}
use Rattle.meaning.specs.Basics.{Name, same, listed}
use Rattle.meaning.specs.Syntax.{Pattern, Patterns}
use Rattle.meaning.specs.Tokens.{is_letter, is_digit}
use Rattle.meaning.specs.Grammar.{underscore, is_name, is_atom, all_letters, digit_first, keywords, opens, closes, shallow, Number, number_from, open_paren, close_paren, open_bracket, close_bracket, open_brace, close_brace, comma, quote, double_colon, PatternAt, cons_x, plain_x, any_x, var_x, int_x, atom_x, tuple_x, nil_x, brackets_x, PatternsOf, no_x, one_x, more_x}
use Rattle.code.specs.Fine.{deep_p, deep_ps}
use Rattle.values.specs.Encoding.{Known}
use Rattle.meaning.proofs.Splits.{none_some, and_T, bool_all, T_of, same_is, same_refl, no_clash}

both-T : (a b : Bool) → T a → T b → T (a && b)
both-T true b p q = q
both-T false b p q = absurd p

-- a name can be an atom
pub name_atom : (x : Name) → T (is_name x) → T (is_atom x)
name_atom x t =
    let a = and_T (leb 1 (length x))
    (leb (length x) 32 && (all_letters x && (not (digit_first x) && not (listed x keywords)))) t in
    let b = and_T (leb (length x) 32) (all_letters x && (not (digit_first x) && not (listed x keywords))) a.1 in
    let c = and_T (all_letters x) (not (digit_first x) && not (listed x keywords)) b.1 in
    let d = and_T (not (digit_first x)) (not (listed x keywords)) c.1 in
    both-T (leb 1 (length x)) (leb (length x) 32 && (all_letters x && not (digit_first x))) a.0
    (both-T (leb (length x) 32) (all_letters x && not (digit_first x)) b.0
    (both-T (all_letters x) (not (digit_first x)) c.0 d.0))

atom_letters : (x : Name) → T (is_atom x) → (1 ≤ length x) × T (all_letters x)
atom_letters x t =
    let a = and_T (leb 1 (length x)) (leb (length x) 32 && (all_letters x && not (digit_first x))) t in
    let b = and_T (leb (length x) 32) (all_letters x && not (digit_first x)) a.1 in
    let c = and_T (all_letters x) (not (digit_first x)) b.1 in
    (leb→le 1 (length x) a.0, c.0)

pub listed_known : (x : Name) (ys : List Name) → T (listed x ys) → Known ys x
listed_known x [] t = absurd t
listed_known x (y ∷ ys) t = bool_all (λ b. T (b || listed x ys) → Known (y ∷ ys) x) (same x y)
    (λ e h. inl (subst (λ (z : Name). same y z ≡ true) (sym (same_is x y (T_of e))) (same_refl y)))
    (λ e h. inr (listed_known x ys h)) t

-- brackets: how many are open behind some tokens
abbrev pub turned : ℕ → Name → ℕ
turned n w = cond (opens w) (n + 1) (cond (closes w) (n - 1) n)

abbrev pub after : ℕ → List Name → ℕ
after n [] = n
after n (w ∷ ws) = after (turned n w) ws

after-append : (n : ℕ) (s t : List Name) → after n (s ++ t) ≡ after (after n s) t
after-append n [] t = refl
after-append n (w ∷ s) t = after-append (turned n w) s t

pub shallow_split : (n : ℕ) (s t : List Name) → T (shallow n (s ++ t)) → T (shallow n s) × T (shallow (after n s) t)
shallow_split n [] t h = (tt, h)
shallow_split n (w ∷ s) t h = let a = and_T (leb n 48) (shallow (turned n w) (s ++ t)) h in
    let b = shallow_split (turned n w) s t a.1 in (both-T (leb n 48) (shallow (turned n w) s) a.0 b.0, b.1)

pub shallow_head : (n : ℕ) (w : Name) (s : List Name) → T (shallow n (w ∷ s)) → (n ≤ 48) × T (shallow (turned n w) s)
shallow_head n w s h = let a = and_T (leb n 48) (shallow (turned n w) s) h in (leb→le n 48 a.0, a.1)

-- words of letters and digits are no brackets
no_bracket : (c d : ℕ) (cs : List ℕ) → T (is_letter c) → is_letter d ≡ false → same (c ∷ cs) (d ∷ []) ≡ false
no_bracket c d cs l e = bool_all (λ b. (b && same cs []) ≡ false) (eqb c d)
    (λ h. no_clash (is_true_of (is_letter c) l) (ap is_letter (eqb→eq c d (T_of h)) ∙ e)) (λ h. refl)
  where
    is_true_of : (b : Bool) → T b → b ≡ true
    is_true_of true t = refl
    is_true_of false t = absurd t

letters_stay : (n : ℕ) (x : Name) → 1 ≤ length x → T (all_letters x) → turned n x ≡ n
letters_stay n [] h t = absurd (omega arith)
letters_stay n (c ∷ cs) h t =
    let l = (and_T (is_letter c) (all_letters cs) t).0 in
    ap (λ b. cond b (n + 1) (cond (closes (c ∷ cs)) (n - 1) n))
    (three _ _ _ (no_bracket c 40 cs l refl) (no_bracket c 91 cs l refl) (no_bracket c 123 cs l refl))
    ∙ ap (λ b. cond b (n - 1) n) (three _ _ _ (no_bracket c 41 cs l refl) (no_bracket c 93 cs l refl)
    (no_bracket c 125 cs l refl))
  where
    three : (a b c : Bool) → a ≡ false → b ≡ false → c ≡ false → (a || (b || c)) ≡ false
    three a b c p q r = rw (p, q, r) refl

-- a number of 18 digits fits 63 bits
abbrev tens : ℕ → ℕ
tens zero = 1
tens (suc k) = 10 * tens k

tens_positive : (k : ℕ) → 1 ≤ tens k
tens_positive zero = omega arith
tens_positive (suc k) = let h = tens_positive k in omega arith

number-below : (w : Name) (k a n : ℕ) → length w ≤ k → number_from a w ≡ some n →
    (n < (a + 1) * tens k) × T (all_letters w)
number-below [] k a n h e = let p = tens_positive k in let m : a + 1 ≤ (a + 1) * tens k = grow (a + 1) (tens k) p in
    let d : a ≡ n = cc in (omega arith, tt)
  where
    grow : (x y : ℕ) → 1 ≤ y → x ≤ x * y
    grow x y h = let g : x * 1 ≤ x * y = mul-le-mul_left x h in let i : x * 1 ≡ x = mul-one x in omega arith
number-below (c ∷ w) zero a n h e = absurd (omega arith)
number-below (c ∷ w) (suc k) a n h e =
    bool_all (λ b. is_digit c ≡ b → cond b (number_from (a * 10 + (c - 48)) w) none ≡ some n →
    (n < (a + 1) * tens (suc k)) × T (all_letters (c ∷ w))) (is_digit c)
    (λ d i f. let r = number-below w k (a * 10 + (c - 48)) n (omega arith) f in (
      let z = digit_small c (T_of d) in
          step (a * 10 + (c - 48)) (omega arith) r.0,
      both-T (is_letter c) (all_letters w) (digit_letter c (T_of d))
          r.1,
    ))
    (λ d i f. absurd (none_some f)) refl e
  where
    digit_small : (c : ℕ) → T (is_digit c) → c - 48 ≤ 9
    digit_small c t = let z = leb→le c 57 (and_T (leb 48 c) (leb c 57) t).1 in omega arith

    digit_letter : (c : ℕ) → T (is_digit c) → T (is_letter c)
    digit_letter c t = or_last (leb 97 c && leb c 122) (leb 65 c && leb c 90) (eqb c 95) (is_digit c) t
      where
        or_last : (a b d e : Bool) → T e → T (a || (b || (d || e)))
        or_last true b d e t = tt
        or_last false true d e t = tt
        or_last false false true e t = tt
        or_last false false false e t = t

    step : (b : ℕ) → b ≤ a * 10 + 9 → n < (b + 1) * tens k → n < (a + 1) * tens (suc k)
    step b s l = let m : (b + 1) * tens k ≤ ((a + 1) * 10) * tens k = mul-le-mul_right (tens k) (omega arith) in
        let r = mul_assoc (a + 1) 10 (tens k) in omega arith

pub number_fits : (w : Name) (n : ℕ) → Number w n → (n < 2 ^ 63) × (1 ≤ length w) × T (all_letters w)
number_fits w n h =
    let a = and_T (leb 1 (length w)) (leb (length w) 18) h.0 in
    let b = number-below w 18 0 n (leb→le (length w) 18 a.1) h.1 in
    (omega (arith, b.0), leb→le 1 (length w) a.0, b.1)

-- patterns: their brackets match, and they nest as deep as brackets allow
atom_stays : (n : ℕ) (x : Name) → T (is_atom x) → turned n x ≡ n
atom_stays n x t = let a = atom_letters x t in letters_stay n x a.0 a.1

number_stays : (n m : ℕ) (w : Name) → Number w m → turned n w ≡ n
number_stays n m w h = let a = number_fits w m h in letters_stay n w a.1 a.2

mutual
  pattern_closes : {l : ℕ} {s : List Name} {p : Pattern} → PatternAt l s p → (n : ℕ) → after n s ≡ n
  pattern_closes (cons_x {s = s} {t = t} x y) n =
      after-append n s (double_colon ∷ t) ∙ ap (λ m. after m (double_colon ∷ t)) (pattern_closes x n)
      ∙ pattern_closes y n
  pattern_closes (plain_x x) n = pattern_closes x n
  pattern_closes any_x n = refl
  pattern_closes (var_x {x = x} h) n = atom_stays n x (name_atom x h)
  pattern_closes (int_x {w = w} {n = m} h) n = number_stays n m w h
  pattern_closes (atom_x {x = x} h) n = atom_stays n x h
  pattern_closes (tuple_x {s = s} xs) n =
      after-append (n + 1) s (close_brace ∷ []) ∙ ap (λ m. m - 1) (patterns_close xs (n + 1)) ∙ omega arith
  pattern_closes nil_x n = omega arith
  pattern_closes (brackets_x {s = s} x) n =
      after-append (n + 1) s (close_paren ∷ []) ∙ ap (λ m. m - 1) (pattern_closes x (n + 1)) ∙ omega arith

  patterns_close : {s : List Name} {ps : Patterns} → PatternsOf s ps → (n : ℕ) → after n s ≡ n
  patterns_close no_x n = refl
  patterns_close (one_x x) n = pattern_closes x n
  patterns_close (more_x {s = s} {t = t} x xs) n =
      after-append n s (comma ∷ t) ∙ ap (λ m. after m (comma ∷ t)) (pattern_closes x n) ∙ patterns_close xs n

abbrev most : ℕ → ℕ
most zero = 97
most (suc l) = 96

-- the rest of a text behind a part whose brackets match
behind : (n : ℕ) (s t : List Name) → after n s ≡ n → T (shallow n (s ++ t)) → T (shallow n s) × T (shallow n t)
behind n s t e h = let a = shallow_split n s t h in (a.0, subst (λ (m : ℕ). T (shallow m t)) e a.1)

mutual
  pub pattern_shallow : {l : ℕ} {s : List Name} {p : Pattern} → PatternAt l s p → (n : ℕ) → T (shallow n s) →
      deep_p p + 2 * n ≤ most l
  pattern_shallow (cons_x {s = s} {t = t} {p = p} {q = q} x y) n h =
      let a = behind n s (double_colon ∷ t) (pattern_closes x n) h in
      let b = shallow_head n double_colon t a.1 in
      let c = pattern_shallow x n a.0 in let d = pattern_shallow y n b.1 in omega arith
  pattern_shallow (plain_x x) n h = let a = pattern_shallow x n h in omega arith
  pattern_shallow any_x n h = let a = (shallow_head n underscore [] h).0 in omega arith
  pattern_shallow (var_x {x = x} _) n h = let a = (shallow_head n x [] h).0 in omega arith
  pattern_shallow (int_x {w = w} _) n h = let a = (shallow_head n w [] h).0 in omega arith
  pattern_shallow (atom_x {x = x} _) n h = let a = (shallow_head n quote (x ∷ []) h).0 in omega arith
  pattern_shallow (tuple_x {s = s} {ps = ps} xs) n h =
      let a = shallow_head n open_brace (s ++ (close_brace ∷ [])) h in
      let b = behind (n + 1) s (close_brace ∷ []) (patterns_close xs (n + 1)) a.1 in
      let c = (shallow_head (n + 1) close_brace [] b.1).0 in
      let d = patterns_shallow xs (n + 1) b.0 c in omega arith
  pattern_shallow nil_x n h = let a = (shallow_head n open_bracket (close_bracket ∷ []) h).0 in omega arith
  pattern_shallow (brackets_x {s = s} x) n h =
      let a = shallow_head n open_paren (s ++ (close_paren ∷ [])) h in
      let b = behind (n + 1) s (close_paren ∷ []) (pattern_closes x (n + 1)) a.1 in
      let d = pattern_shallow x (n + 1) b.0 in omega arith

  patterns_shallow : {s : List Name} {ps : Patterns} → PatternsOf s ps → (n : ℕ) → T (shallow n s) → n ≤ 48 →
      deep_ps ps + 2 * n ≤ 98
  patterns_shallow no_x n h i = omega arith
  patterns_shallow (one_x x) n h i = let a = pattern_shallow x n h in omega arith
  patterns_shallow (more_x {s = s} {t = t} x xs) n h i =
      let a = behind n s (comma ∷ t) (pattern_closes x n) h in
      let b = shallow_head n comma t a.1 in
      let c = pattern_shallow x n a.0 in let d = patterns_shallow xs n b.1 i in omega arith
