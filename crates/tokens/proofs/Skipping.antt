-- The loops that skip: the bytes passed so far complete no token, and one more byte, or a comment, keeps that so.
use Rattle.std.proofs.Common.{◌≡◌, ℕ, ◌+◌, ◌<◌, ◌≤◌, true, false, List, [], ◌∷◌, ◌++◌, length, get_or, take, drop, sym, ap, ◌∙◌, append-nil}
use Rattle.std.proofs.lemmas.Bool.{eq-eqb, ne_eqb}
use Rattle.std.specs.List.{between}
use Rattle.std.proofs.lemmas.List.{take_more, take-take, take-append-drop, take_all}
use Rattle.std.proofs.lemmas.List.Edits.{between_more}
use Rattle.std.proofs.lemmas.Slice.{between_is, between_to_end}
use Rattle.meaning.specs.Tokens.{is_blank, Lexing, gap, comment, tokens}
use Rattle.tokens.specs.Cutting.{Skips}
use Rattle.tokens.proofs.Reading.{skips_append, blank_skips, comment_begins, comment_skips, comment_ends}

pub skips_then : (l m n : Lexing) (u s t : List ℕ) → u ≡ s ++ t → Skips l s m → Skips m t n → Skips l u n
skips_then l m n u s t is p q rest = ap (λ v. tokens l (v ++ rest)) is ∙ skips_append l m n s t p q rest

-- nothing is completed in bytes that are skipped
pub skipped_none : (l m : Lexing) (s : List ℕ) → Skips l s m → tokens l s ≡ tokens m []
skipped_none l m s p = sym (ap (tokens l) (append-nil s)) ∙ p []

-- one more byte of the text
module _ (t : List ℕ) (at : ℕ) (h : at < length t) where
  take_skips : (m : Lexing) → Skips gap (take at t) gap → Skips gap (get_or t at 0 ∷ []) m → Skips gap (take (at + 1) t) m
  take_skips m p q = skips_then gap gap m (take (at + 1) t) (take at t) (get_or t at 0 ∷ []) (take_more t at 0 h) p q

  pub blank_passed : is_blank (get_or t at 0) ≡ true → Skips gap (take at t) gap → Skips gap (take (at + 1) t) gap
  blank_passed blank p = take_skips gap p (blank_skips (get_or t at 0) blank)

  pub comment_entered : is_blank (get_or t at 0) ≡ false → get_or t at 0 ≡ 35 → Skips gap (take at t) gap
      → Skips gap (take (at + 1) t) comment
  comment_entered blank hash p = take_skips comment p
      (comment_begins (get_or t at 0) blank (eq-eqb (get_or t at 0) 35 hash))

  module _ (from : ℕ) (l : from ≤ at) (p : Skips comment (between from at t) comment) where
    between_skips : (m : Lexing) → Skips comment (get_or t at 0 ∷ []) m → Skips comment (between from (at + 1) t) m
    between_skips m q = skips_then comment comment m (between from (at + 1) t) (between from at t) (get_or t at 0 ∷ [])
        (between_more t from at 0 l h) p q

    pub comment_passed : (get_or t at 0 ≡ 10 → ⊥) → Skips comment (between from (at + 1) t) comment
    comment_passed other = between_skips comment (comment_skips (get_or t at 0) (ne_eqb (get_or t at 0) 10 other))

    pub comment_left : get_or t at 0 ≡ 10 → Skips comment (between from (at + 1) t) gap
    comment_left ends = between_skips gap (comment_ends (get_or t at 0) (eq-eqb (get_or t at 0) 10 ends))

-- a comment that is not ended holds the rest of the text
pub comment_open : (t : List ℕ) (from at : ℕ) → length t ≤ at → Skips comment (between from at t) comment
    → tokens comment (drop from t) ≡ []
comment_open t from at h p = sym (ap (tokens comment) (between_to_end t from at h))
    ∙ skipped_none comment comment (between from at t) p

pub take-between : (t : List ℕ) (at n : ℕ) → at ≤ n → take n t ≡ take at t ++ between at n t
take-between t at n l =
    sym (take-append-drop at (take n t))
    ∙ (ap (λ s. s ++ drop at (take n t)) (take-take at n t l) ∙ sym (ap (λ s. take at t ++ s) (between_is t at n)))

pub comment_past : (t : List ℕ) (at n : ℕ) → at ≤ n → Skips gap (take at t) comment
    → Skips comment (between at n t) gap → Skips gap (take n t) gap
comment_past t at n l p q = skips_then gap comment gap (take n t) (take at t) (between at n t)
    (take-between t at n l) p q

-- the end of a text with no token
pub skipped_all : (t : List ℕ) (at : ℕ) → length t ≤ at → Skips gap (take at t) gap → tokens gap t ≡ []
skipped_all t at h p = sym (ap (tokens gap) (take_all at t h)) ∙ skipped_none gap gap (take at t) p

pub comment_last : (t : List ℕ) (at : ℕ) → Skips gap (take at t) comment → tokens comment (drop at t) ≡ []
    → tokens gap t ≡ []
comment_last t at p e = sym (ap (tokens gap) (take-append-drop at t)) ∙ (p (drop at t) ∙ e)
