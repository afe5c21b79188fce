-- Bytes that are written one after another are written as one: behind the first stands what stood there before them,
-- which the second then take the place of.
use Rattle.std.proofs.Common.{◌≡◌, ℕ, ◌+◌, ◌≤◌, List, [], ◌++◌, length, take, drop, sym, ap, ◌∙◌, append_assoc, add_assoc, arith, length-append}
use Rattle.std.proofs.lemmas.List.{take_at, drop_at, drop-drop, length-take-le, take-append-drop}
use Rattle.values.specs.Output.{written}

pub written_none : (out : List ℕ) (at : ℕ) → written out at [] ≡ out
written_none out at = ap (λ n. take at out ++ drop n out) (omega arith) ∙ take-append-drop at out

-- the first part of what was written, and what stands behind
written-front : (out : List ℕ) (at : ℕ) (xs : List ℕ) → at ≤ length out →
    take (at + length xs) (written out at xs) ≡ take at out ++ xs
written-front out at xs h =
    ap (take (at + length xs)) (sym (append_assoc (take at out) xs (drop (at + length xs) out)))
    ∙ take_at (take at out ++ xs) (drop (at + length xs) out) (at + length xs)
    (length-append (take at out) xs ∙ ap (λ n. n + length xs) (length-take-le at out h))

written_behind : (out : List ℕ) (at : ℕ) (xs : List ℕ) → at ≤ length out →
    drop (at + length xs) (written out at xs) ≡ drop (at + length xs) out
written_behind out at xs h =
    ap (drop (at + length xs)) (sym (append_assoc (take at out) xs (drop (at + length xs) out)))
    ∙ drop_at (take at out ++ xs) (drop (at + length xs) out) (at + length xs)
    (length-append (take at out) xs ∙ ap (λ n. n + length xs) (length-take-le at out h))

pub written_after : (out : List ℕ) (at : ℕ) (xs ys : List ℕ) → at ≤ length out
    → written (written out at xs) (at + length xs) ys ≡ written out at (xs ++ ys)
written_after out at xs ys h =
    ap (λ t. t ++ (ys ++ drop (at + length xs + length ys) (written out at xs))) (written-front out at xs h)
    ∙ (ap (λ t. (take at out ++ xs) ++ (ys ++ t))
    (behind ∙ ap (λ n. drop n out) (add_assoc at (length xs) (length ys) ∙ ap
    (λ n. at + n) (sym (length-append xs ys))))
    ∙ simp append_assoc)
  where
    behind : drop (at + length xs + length ys) (written out at xs) ≡ drop (at + length xs + length ys) out
    behind = sym (drop-drop (length ys) (at + length xs) (written out at xs))
        ∙ (ap (drop (length ys)) (written_behind out at xs h) ∙ drop-drop (length ys) (at + length xs) out)
