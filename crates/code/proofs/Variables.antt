-- The value of a name is as far down the chain as the name's index says; and operands, the last one first, are an environment
-- for a function's parameters, the last one first, since parameters all differ.
use Rattle.std.proofs.Common.{◌≡◌, ℕ, zero, suc, ◌+◌, Bool, true, false, cond, not, ◌||◌, ◌⊎◌, List, [], ◌∷◌, ◌++◌, reverse, length, sym, refl, ap, ◌∙◌, subst, inl, inr, arith}
use mathlib.Core.List.{reverse-cons}
use mathlib.Core.Option.{some, none}
use Rattle.std.proofs.lemmas.List.{length-reverse}
use Rattle.std.proofs.lemmas.Bool.{and_parts}
use Rattle.meaning.specs.Basics.{Name, same, listed}
use Rattle.meaning.specs.Values.{Value, Binding, look_up}
use Rattle.meaning.specs.Turns.{bind_params}
use Rattle.meaning.specs.Bound.{all_different}
use Rattle.meaning.specs.Space.{size_values, size_bindings}
use Rattle.code.specs.Environment.{Chain, pair_up, Binds, LooksUp}
use Rattle.code.specs.Program.{nth}
use Rattle.store.specs.Heap.{Store, store_of, left_of, right_of}
use Rattle.store.specs.declared.slot.Slot.{Slot}
use Rattle.values.specs.Encoding.{index_of, Known, Holds}
use Rattle.meaning.proofs.Splits.{T_of, no_clash, bool_all, none_some, some_is, same_is, same_refl}
use Rattle.store.proofs.Laws.{node_left, node_right}
use Rattle.code.proofs.Firsts.{first, Once, first_reverse}

-- so many steps down a chain
abbrev pub descend : List ℕ → ℕ → Slot → Slot
descend words zero s = s
descend words (suc i) s = right_of words (descend words i s)

descend_first : (words : List ℕ) (i : ℕ) (s : Slot) → descend words (suc i) s ≡ descend words i (right_of words s)
descend_first words zero s = refl
descend_first words (suc i) s = ap (right_of words) (descend_first words i s)

chain_holds : {ns : List Name} {m : Store} {s : Slot} (i : ℕ) (vs : List Value) {v : Value} → nth vs i ≡ some v → Chain ns m s vs → Holds ns m (left_of m.words (descend m.words i s)) v
chain_holds i [] e c = absurd (none_some e)
chain_holds {ns} {m} {s} zero (u ∷ vs) e c = subst (λ v. Holds ns m (left_of m.words s) v) (some_is e) (record { fine = c.fine.0; stands = node_left c.stands })
chain_holds {ns} {m} {s} (suc i) (u ∷ vs) {v} e c =
    subst (λ z. Holds ns m (left_of m.words z) v) (sym (descend_first m.words i s))
    (chain_holds {s = right_of m.words s} i vs e (record { fine = c.fine.1; stands = node_right c.stands }))

index_finds : (sc : List Name) (vs : List Value) (y : Name) → Known sc y → length vs ≡ length sc → (v : Value) × (nth vs (index_of sc y) ≡ some v) × (look_up (pair_up sc vs) y ≡ some v)
index_finds [] vs y k l = absurd k
index_finds (x ∷ sc) [] y k l = absurd (omega arith)
index_finds (x ∷ sc) (u ∷ vs) y k l = go (same x y) k (λ h. index_finds sc vs y h (omega arith))
  where
    go : (t : Bool) → (t ≡ true) ⊎ Known sc y → (Known sc y → (v : Value) × (nth vs (index_of sc y) ≡ some v) × (look_up (pair_up sc vs) y ≡ some v)) →
        (v : Value) × (nth (u ∷ vs) (cond t 0 (suc (index_of sc y))) ≡ some v) × (cond t (some u) (look_up (pair_up sc vs) y) ≡ some v)
    go true k more = (u, refl, refl)
    go false (inl h) more = no_clash h refl
    go false (inr k) more = more k

pub looks_up : {words : List ℕ} {env rest r : Slot} {i : ℕ} → rest ≡ descend words i env → r ≡ left_of words rest → LooksUp words env i r
looks_up {words} {env} {rest} {r} {i} p q = record {
  is = λ {ns} {used} {sc} {bs} y e k n.
      let o = index_finds sc e.values y k e.binds.long in (
        o.0,
        e.binds.finds y ∙ o.2,
        subst (λ z. Holds ns (store_of words used) z o.0) (sym (q ∙ ap (left_of words) (p ∙ ap (λ j. descend words j env) n))) (chain_holds (index_of sc y) e.values o.1 e.holds),
      );
}

-- parameters and operands turned round
abbrev named : Name → Binding → Bool
named x b = same b.name x

abbrev valued : Binding → Value
valued b = b.value

look_first : (x : Name) (bs : List Binding) → look_up bs x ≡ first (named x) valued bs
look_first x [] = refl
look_first x (b ∷ bs) = ap (λ o. cond (same b.name x) (some b.value) o) (look_first x bs)

pair_up_push : (xs : List Name) (vs : List Value) (x : Name) (v : Value) → length vs ≡ length xs → pair_up (xs ++ (x ∷ [])) (vs ++ (v ∷ [])) ≡ pair_up xs vs ++ (record { name = x; value = v } ∷ [])
pair_up_push [] [] x v l = refl
pair_up_push [] (u ∷ vs) x v l = absurd (omega arith)
pair_up_push (y ∷ xs) [] x v l = absurd (omega arith)
pair_up_push (y ∷ xs) (u ∷ vs) x v l = ap (λ bs. record { name = y; value = u } ∷ bs) (pair_up_push xs vs x v (omega arith))

pair_up-reverse : (xs : List Name) (vs : List Value) → length vs ≡ length xs → pair_up (reverse xs) (reverse vs) ≡ reverse (pair_up xs vs)
pair_up-reverse [] [] l = refl
pair_up-reverse [] (u ∷ vs) l = absurd (omega arith)
pair_up-reverse (x ∷ xs) [] l = absurd (omega arith)
pair_up-reverse (x ∷ xs) (u ∷ vs) l =
    let e : length vs ≡ length xs = omega arith in
    let r : length (reverse vs) ≡ length (reverse xs) = length-reverse vs ∙ (e ∙ sym (length-reverse xs)) in
    ap (λ ys. pair_up ys (reverse (u ∷ vs))) (reverse-cons x xs) ∙ (ap (λ us. pair_up (reverse xs ++ (x ∷ [])) us) (reverse-cons u vs)
    ∙ (pair_up_push (reverse xs) (reverse vs) x u r ∙ (ap (λ bs. bs ++ (record { name = x; value = u } ∷ [])) (pair_up-reverse xs vs e) ∙ sym (reverse-cons (record { name = x; value = u }) (pair_up xs vs)))))

bind_pairs : (xs : List Name) (vs : List Value) → bind_params xs vs ≡ pair_up xs vs
bind_pairs [] vs = refl
bind_pairs (x ∷ xs) [] = refl
bind_pairs (x ∷ xs) (v ∷ vs) = ap (λ bs. record { name = x; value = v } ∷ bs) (bind_pairs xs vs)

or_false : (a b : Bool) → (a || b) ≡ false → (a ≡ false) × (b ≡ false)
or_false true b h = no_clash refl h
or_false false b h = (refl, h)

not-true : (a : Bool) → not a ≡ true → a ≡ false
not-true true h = no_clash h refl
not-true false h = refl

same_other : (x y : Name) → same x y ≡ false → same y x ≡ false
same_other x y h = bool_all (λ t. t ≡ false) (same y x) (λ e. no_clash (subst (λ z. same x z ≡ true) (sym (same_is y x (T_of e))) (same_refl x)) h) (λ e. refl)

unlisted : (x : Name) (xs : List Name) (vs : List Value) → listed x xs ≡ false → first (named x) valued (pair_up xs vs) ≡ none
unlisted x [] vs h = refl
unlisted x (y ∷ xs) [] h = refl
unlisted x (y ∷ xs) (v ∷ vs) h =
    let p = or_false (same x y) (listed x xs) h in
    ap (λ t. cond t (some v) (first (named x) valued (pair_up xs vs))) (same_other x y p.0) ∙ unlisted x xs vs p.1

once_named : (y : Name) (xs : List Name) (vs : List Value) → all_different xs ≡ true → Once (named y) valued (pair_up xs vs)
once_named y [] vs h = tt
once_named y (x ∷ xs) [] h = tt
once_named y (x ∷ xs) (v ∷ vs) h =
    let p = and_parts (not (listed x xs)) (all_different xs) h in
    (λ e. subst (λ z. first (named z) valued (pair_up xs vs) ≡ none) (same_is x y (T_of e)) (unlisted x xs vs (not-true (listed x xs) p.0)), once_named y xs vs p.1)

size_append : (us vs : List Value) → size_values (us ++ vs) ≡ size_values us + size_values vs
size_append [] vs = omega arith
size_append (u ∷ us) vs = omega (arith, size_append us vs)

size_reverse : (vs : List Value) → size_values (reverse vs) ≡ size_values vs
size_reverse [] = refl
size_reverse (v ∷ vs) = ap size_values (reverse-cons v vs) ∙ (size_append (reverse vs) (v ∷ []) ∙ omega (arith, size_reverse vs))

size_params : (xs : List Name) (vs : List Value) → length vs ≡ length xs → size_bindings (bind_params xs vs) ≡ size_values vs
size_params [] [] l = refl
size_params [] (v ∷ vs) l = absurd (omega arith)
size_params (x ∷ xs) [] l = absurd (omega arith)
size_params (x ∷ xs) (v ∷ vs) l = omega (arith, size_params xs vs (omega arith))

pub operands_bind : (xs : List Name) (vs : List Value) → all_different xs ≡ true → length vs ≡ length xs → Binds (reverse xs) (reverse vs) (bind_params xs vs)
operands_bind xs vs d l = record {
  long = length-reverse vs ∙ (l ∙ sym (length-reverse xs));
  finds = λ y.
      ap (λ bs. look_up bs y) (bind_pairs xs vs) ∙ (look_first y (pair_up xs vs) ∙ (sym (first_reverse (named y) valued (pair_up xs vs) (once_named y xs vs d))
      ∙ (sym (look_first y (reverse (pair_up xs vs))) ∙ ap (λ bs. look_up bs y) (sym (pair_up-reverse xs vs l)))));
  size = size_reverse vs ∙ sym (size_params xs vs l);
}
