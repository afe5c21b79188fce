-- How a text that begins with a token is cut: after its longest front of letters where it has one,
-- after two bytes where they join, after one byte else.
use Rattle.std.proofs.Common.{◌≡◌, ℕ, suc, ◌+◌, ◌<◌, true, false, cond, ◌⊎◌, List, [], ◌∷◌, ◌++◌, length, get_or, take, drop, sym, refl, ap, ◌∙◌, inl, inr, append_assoc, append-nil, one-add, arith, Bor}
use Rattle.std.specs.List.{prefix_len}
use Rattle.std.proofs.lemmas.Bool.{cases_Bool, and_from}
use Rattle.meaning.specs.Basics.{Name}
use Rattle.meaning.specs.Grammar.{all_letters}
use Rattle.meaning.specs.Tokens.{is_letter, begins_sign, gap, word, sign, tokens}
use Rattle.std.proofs.lemmas.List.{take-append-drop, length-take-le, length-append}
use Rattle.std.proofs.lemmas.List.Sums.{prefix_len-le-length}
use Rattle.tokens.specs.declared.token.Lexeme.{Lexeme}
use Rattle.tokens.specs.declared.token.Sign.TheVariants.{Arrow, DoubleColon, Equal, Unequal, AtMost}
use Rattle.tokens.specs.declared.token.Token.{Token}
use Rattle.tokens.specs.declared.token.Token.TheVariants as token
use Rattle.tokens.specs.Cutting.{spelling, Begins, Proper, Starts, Unjoined, Leads, First}
use Rattle.tokens.proofs.Reading.{word_begins, word_more, word_ends, sign_begins, sign_alone, byte_alone}

-- the longest front of letters
abbrev pub front : List ℕ → Name
front t = take (prefix_len is_letter t) t

abbrev pub behind : List ℕ → List ℕ
behind t = drop (prefix_len is_letter t) t

module _ (c : ℕ) (t : List ℕ) where
  pub leading_yes : is_letter c ≡ true → prefix_len is_letter (c ∷ t) ≡ suc (prefix_len is_letter t)
  leading_yes r = ap (λ b. cond b (1 + prefix_len is_letter t) 0) r ∙ one-add (prefix_len is_letter t)

  pub leading_no : is_letter c ≡ false → prefix_len is_letter (c ∷ t) ≡ 0
  leading_no r = ap (λ b. cond b (1 + prefix_len is_letter t) 0) r

-- a word goes on to the end of its letters
pub word_reads : (w : Name) (t : List ℕ) → tokens (word w) t ≡ (w ++ front t) ∷ tokens gap (behind t)
word_reads w [] = ap (λ v. v ∷ []) (sym (append-nil w))
word_reads w (c ∷ t) = way (cases_Bool (is_letter c)) (word_reads (w ++ (c ∷ [])) t)
  where
    way : (is_letter c ≡ true) ⊎ (is_letter c ≡ false)
        → tokens (word (w ++ (c ∷ []))) t ≡ ((w ++ (c ∷ [])) ++ front t) ∷ tokens gap (behind t)
        → tokens (word w) (c ∷ t) ≡ (w ++ front (c ∷ t)) ∷ tokens gap (behind (c ∷ t))
    way (inl r) longer =
        word_more w c t r
        ∙ (longer
        ∙ (ap (λ v. v ∷ tokens gap (behind t)) (append_assoc w (c ∷ []) (front t))
        ∙ ap (λ n. (w ++ take n (c ∷ t)) ∷ tokens gap (drop n (c ∷ t))) (sym (leading_yes c t r))))
    way (inr r) longer =
        word_ends w c t r
        ∙ (ap (λ v. v ∷ tokens gap (c ∷ t)) (sym (append-nil w))
        ∙ ap (λ n. (w ++ take n (c ∷ t)) ∷ tokens gap (drop n (c ∷ t))) (sym (leading_no c t r)))

pub front_letters : (t : List ℕ) → all_letters (front t) ≡ true
front_letters [] = refl
front_letters (c ∷ t) = way (cases_Bool (is_letter c)) (front_letters t)
  where
    way : (is_letter c ≡ true) ⊎ (is_letter c ≡ false) → all_letters (front t) ≡ true
        → all_letters (front (c ∷ t)) ≡ true
    way (inl r) e = ap (λ n. all_letters (take n (c ∷ t))) (leading_yes c t r)
        ∙ and_from (is_letter c) (all_letters (front t)) r e
    way (inr r) e = ap (λ n. all_letters (take n (c ∷ t))) (leading_no c t r)

-- the first byte is a letter exactly where there is a front
pub letter_first : (c : ℕ) (t : List ℕ) → 0 < prefix_len is_letter (c ∷ t) → is_letter c ≡ true
letter_first c t h = way (cases_Bool (is_letter c))
  where
    way : (is_letter c ≡ true) ⊎ (is_letter c ≡ false) → is_letter c ≡ true
    way (inl r) = r
    way (inr r) = absurd (omega (arith, h, leading_no c t r))

pub no_letter_first : (c : ℕ) (t : List ℕ) → prefix_len is_letter (c ∷ t) ≡ 0 → is_letter c ≡ false
no_letter_first c t e = way (cases_Bool (is_letter c))
  where
    way : (is_letter c ≡ true) ⊎ (is_letter c ≡ false) → is_letter c ≡ false
    way (inl r) = absurd (omega (arith, e, leading_yes c t r))
    way (inr r) = r

pub no_letter_at : (t : List ℕ) → 0 < length t → prefix_len is_letter t ≡ 0 → is_letter (get_or t 0 0) ≡ false
no_letter_at [] h e = absurd (omega (arith, h))
no_letter_at (c ∷ t) h e = no_letter_first c t e

pub take-one : (t : List ℕ) → 0 < length t → take 1 t ≡ get_or t 0 0 ∷ []
take-one [] h = absurd (omega (arith, h))
take-one (c ∷ t) h = refl

pub word_cut : (t : List ℕ) → 0 < prefix_len is_letter t → Begins (get_or t 0 0)
    → tokens gap t ≡ front t ∷ tokens gap (behind t)
word_cut [] h b = absurd (omega (arith, h))
word_cut (c ∷ t) h b =
    let r : is_letter c ≡ true = letter_first c t h in
    word_begins c t b r ∙ (word_reads (c ∷ []) t
    ∙ ap (λ n. take n (c ∷ t) ∷ tokens gap (drop n (c ∷ t))) (sym (leading_yes c t r)))

pub byte_cut : (t : List ℕ) → 0 < length t → prefix_len is_letter t ≡ 0 → Begins (get_or t 0 0) → Unjoined t
    → tokens gap t ≡ (get_or t 0 0 ∷ []) ∷ tokens gap (drop 1 t)
byte_cut [] h n b j = absurd (omega (arith, h))
byte_cut (c ∷ t) h n b j = way (cases_Bool (begins_sign c))
  where
    alone : (t : List ℕ) → Unjoined (c ∷ t) → tokens (sign c) t ≡ (c ∷ []) ∷ tokens gap t
    alone [] j = refl
    alone (d ∷ t) j = sign_alone c d t (j (omega arith))

    way : (begins_sign c ≡ true) ⊎ (begins_sign c ≡ false) → tokens gap (c ∷ t) ≡ (c ∷ []) ∷ tokens gap t
    way (inl s) = sign_begins c t b (no_letter_first c t n) s ∙ alone t j
    way (inr s) = byte_alone c t b (no_letter_first c t n) s

-- what a text leads with, in each of the three ways
pub word_leads : (t : List ℕ) (n : ℕ) (w rest : Bor (List ℕ)) → n ≡ prefix_len is_letter t → 0 < n
    → Begins (get_or t 0 0) → w.now ≡ take n t → rest.now ≡ drop n t → Leads t (token.Word w) rest.now
word_leads t n w rest is some b front-is rest-is =
    let letters : w.now ≡ front t = front-is ∙ ap (λ k. take k t) is in
    let behind-is : rest.now ≡ behind t = rest-is ∙ ap (λ k. drop k t) is in
    let long : length (front t) ≡ prefix_len is_letter t =
    length-take-le (prefix_len is_letter t) t (prefix_len-le-length is_letter t) in
    record {
      place = sym (take-append-drop n t) ∙ cc;
      cut = word_cut t (omega arith) b
          ∙ (sym (ap (λ v. v ∷ tokens gap (behind t)) letters) ∙ sym (ap (λ u. w.now ∷ tokens gap u) behind-is));
      proper = (omega (arith, ap length letters), ap all_letters letters ∙ front_letters t);
    }

pub byte_leads : (t rest : List ℕ) → 0 < length t → prefix_len is_letter t ≡ 0 → Begins (get_or t 0 0) → Unjoined t
    → rest ≡ drop 1 t → Leads t (token.Byte (get_or t 0 0)) rest
byte_leads t rest h n b j rest-is =
    record {
      place = sym (take-append-drop 1 t)
          ∙ (ap (λ u. u ++ drop 1 t) (take-one t h) ∙ sym (ap (λ u. get_or t 0 0 ∷ u) rest-is));
      cut = byte_cut t h n b j ∙ sym (ap (λ u. (get_or t 0 0 ∷ []) ∷ tokens gap u) rest-is);
      proper = (b, no_letter_at t h n);
    }

-- with where it begins known, what it leads with from there on is the first token
pub spelled : (t : Token) → Proper t → 0 < length (spelling t)
spelled (token.Word w) p = p.0
spelled (token.Sign Arrow) p = omega arith
spelled (token.Sign DoubleColon) p = omega arith
spelled (token.Sign Equal) p = omega arith
spelled (token.Sign Unequal) p = omega arith
spelled (token.Sign AtMost) p = omega arith
spelled (token.Byte b) p = omega arith

pub first_token : (t u : List ℕ) (l : Lexeme) → Starts t l.skipped → u ≡ drop l.skipped t
    → Leads u l.token l.rest.now → First t l
first_token t u l s is leads =
    let front = take l.skipped t in
    let whole : t ≡ front ++ u = sym (ap (λ v. front ++ v) is ∙ take-append-drop l.skipped t) in
    let long : length t ≡ length front + (length (spelling l.token) + length l.rest.now) =
    ap length whole ∙ simp length-append (ap (λ m. length front + m) (ap length leads.place ∙ simp length-append)) in
    record {
      before = sym (ap (tokens gap) (append-nil front)) ∙ s.skips [];
      place = whole ∙ ap (λ v. front ++ v) leads.place;
      cut = ap (tokens gap) whole ∙ (s.skips u ∙ leads.cut);
      proper = leads.proper;
      within = s.within;
      shorter = omega (arith, long, spelled l.token leads.proper);
    }
