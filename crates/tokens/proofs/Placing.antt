-- Bytes that lead from one position to the next, one after another, lead from the first position to the last.
-- From where a text begins they lead to the position behind its first bytes.
use Rattle.std.proofs.Common.{◌≡◌, ℕ, min, List, [], ◌∷◌, ◌++◌, length, take, drop, sym, refl, ap, ◌∙◌, subst, append_assoc, append-nil}
use Rattle.std.proofs.lemmas.List.{take_at, take-append-drop, length-take}
use Rattle.tokens.specs.Position.{Behind, Passes}

pub begins_behind : Behind [] 1 1
begins_behind = record { lines = refl; columns = refl }

-- no bytes, and one more byte
pub passes_none : (line column : ℕ) → Passes line column [] line column
passes_none line column before b = rw (append-nil before) b

pub passes_then : {line column l k l' k' : ℕ} (bytes : List ℕ) (c : ℕ) → Passes line column bytes l k
    → Passes l k (c ∷ []) l' k' → Passes line column (bytes ++ (c ∷ [])) l' k'
passes_then {l' = l'} {k' = k'} bytes c f step before b = subst (λ s. Behind s l' k') (append_assoc before bytes (c ∷ [])) (step (before ++ bytes) (f before b))

pub take-length : (n : ℕ) (xs : List ℕ) → take (length (take n xs)) xs ≡ take n xs
take-length n xs = sym (ap (λ ys. take (length (take n xs)) ys) (take-append-drop n xs))
    ∙ take_at (take n xs) (drop n xs) (length (take n xs)) refl

-- a text's first bytes, from where it begins
pub behind-front : (text part : List ℕ) (at end line column : ℕ) → end ≡ min at (length text) → part ≡ take end text
    → Passes 1 1 part line column → Behind (take at text) line column
behind-front text part at end line column e is f =
    let all : part ≡ take at text =
    is ∙ (ap (λ n. take n text) (e ∙ sym (length-take at text)) ∙ take-length at text) in
    rw all at (f [] begins_behind)
