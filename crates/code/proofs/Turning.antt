-- A chain is turned round by moving its values one by one onto what is done: whatever turning the rest onto that leads to,
-- turning the whole chain leads to. So what is turned before a chain is a chain.
use Rattle.std.proofs.Common.{◌≡◌, ℕ, List, [], ◌∷◌, ◌++◌, reverse, length, sym, refl, ap, ◌∙◌, subst, arith}
use mathlib.Core.List.{reverse_aux, reverse-cons}
use Rattle.meaning.specs.Basics.{Name}
use Rattle.meaning.specs.Values.{Value}
use Rattle.store.specs.Heap.{Store, Den, left_of, right_of, Put, Grows}
use Rattle.store.specs.Tree.{Tree, node}
use Rattle.store.specs.declared.slot.Slot.{Slot}
use Rattle.values.specs.Encoding.{tree_v}
use Rattle.values.specs.Space.{chain}
use Rattle.code.specs.Environment.{FineValues, Chain}
use Rattle.code.specs.Trees.{nothing}
use Rattle.code.specs.Turning.{Turned, TurnLacks}
use Rattle.code.proofs.Chains.{chain_kept, chain_none, chain_first}

-- how turning stands: what turning the rest leads to, turning the whole chain leads to
pub record Turning (kind : ℕ) (m₀ m : Store) (s onto rest done : Slot) : Type 0 where
  pub turned : {m' : Store} {r : Slot} → Turned kind m m' rest done r → Turned kind m₀ m' s onto r
  pub lacks : TurnLacks m rest → TurnLacks m₀ s

-- one value goes over
chain-append : (ns : List Name) (kind : ℕ) (end : Tree) (xs ys : List Value)
    → chain ns kind end (xs ++ ys) ≡ chain ns kind (chain ns kind end ys) xs
chain-append ns kind end [] ys = refl
chain-append ns kind end (x ∷ xs) ys = ap (node kind (tree_v ns x)) (chain-append ns kind end xs ys)

turn_one : (ns : List Name) (kind : ℕ) (t : Tree) (v : Value) (vs us : List Value) → us ≡ v ∷ vs
    → chain ns kind (node kind (tree_v ns v) t) (reverse vs) ≡ chain ns kind t (reverse us)
turn_one ns kind t v vs us e =
    sym (chain-append ns kind t (reverse vs) (v ∷ []))
    ∙ ap (chain ns kind t) (sym (reverse-cons v vs) ∙ ap reverse (sym e))

pub turning_goes_on : {kind : ℕ} {m₀ m m₁ : Store} {s onto rest done first next done' : Slot} → rest.kind ≡ 31
    → first ≡ left_of m.words rest
    → next ≡ right_of m.words rest → Grows m m₁ → Put m m₁ kind first done done'
    → Turning kind m₀ m s onto rest done → Turning kind m₀ m₁ s onto next done'
turning_goes_on {kind} {m₀} {m} {m₁} {s} {onto} {rest} {done} {first} {next} {done'} k l r g p t =
    record {
      turned = λ {m'} {r = q} u. t.turned
          (record {
            stands = λ {ns} {vs} {t = o} b h d.
                let f = chain_first vs k l r h in
                subst (λ z. Den m' q z) (turn_one ns kind o f.head f.tail vs f.is)
                (u.stands b (chain_kept p.kept f.tail_at) (p.stands b f.head_at.stands d));
            count = λ {ns} {vs} h.
                let f = chain_first vs k l r h in
                omega (arith, u.count (chain_kept p.kept f.tail_at), p.count, ap length f.is);
          });
      lacks = λ u. t.lacks
          (record {
            short = λ {ns} {vs} h.
                let f = chain_first vs k l r h in
                omega (arith, u.short (chain_kept p.kept f.tail_at), p.count, g.long, ap length f.is);
          });
    }

-- no value is left
pub turned : {kind : ℕ} {m₀ m : Store} {s onto rest done : Slot} → (rest.kind ≡ 31 → ⊥)
    → Turning kind m₀ m s onto rest done → Turned kind m₀ m s onto done
turned {kind} {m₀} {m} {done} n t =
    t.turned
    (record {
      stands = λ {ns} {vs} {t = o} b h d.
          subst (λ z. Den m done (chain ns kind o (reverse z))) (sym (chain_none vs n h)) d;
      count = λ {ns} {vs} h. omega (arith, ap length (chain_none vs n h));
    })

-- what is turned before a chain is a chain
fine_onto : (ns : List Name) (xs ys : List Value) → FineValues ns xs → FineValues ns ys
    → FineValues ns (reverse_aux xs ys)
fine_onto ns [] ys f g = g
fine_onto ns (x ∷ xs) ys f g = fine_onto ns xs (x ∷ ys) f.1 (f.0, g)

pub fine_reverse : (ns : List Name) (vs : List Value) → FineValues ns vs → FineValues ns (reverse vs)
fine_reverse ns vs f = fine_onto ns vs [] f tt

fine_append : (ns : List Name) (xs ys : List Value) → FineValues ns xs → FineValues ns ys → FineValues ns (xs ++ ys)
fine_append ns [] ys f g = g
fine_append ns (x ∷ xs) ys f g = (f.0, fine_append ns xs ys f.1 g)

pub turned_chain : {ns : List Name} {m m' : Store} {s onto r : Slot} {xs ys : List Value} → Turned 31 m m' s onto r
    → Chain ns m s xs → Chain ns m onto ys → Chain ns m' r (reverse xs ++ ys)
turned_chain {ns} {m'} {r} {xs} {ys} t h o =
    record {
      fine = fine_append ns (reverse xs) ys (fine_reverse ns xs h.fine) o.fine;
      stands = subst (λ z. Den m' r z) (sym (chain-append ns 31 nothing (reverse xs) ys))
          (t.stands (omega arith) h o.stands);
    }
