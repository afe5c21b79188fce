-- Chains of values and environments in the heap: how they are kept, read and made. All of it follows from the laws of the store,
-- since a chain is a tree whose nodes have the values to their left.
use Rattle.std.proofs.Common.{◌≡◌, List, [], ◌∷◌, refl, ap, arith}
use Rattle.meaning.specs.Basics.{Name}
use Rattle.meaning.specs.Values.{Value, Binding}
use Rattle.store.specs.Heap.{Store, left_of, right_of, Kept, Put}
use Rattle.store.specs.declared.slot.Slot.{Slot}
use Rattle.values.specs.Encoding.{Holds}
use Rattle.code.specs.Environment.{Chain, Environment}
use Rattle.store.proofs.Laws.{leaf_stands, leaf_is, node_is, left_at, right_at, keeps}

-- what stood there still does when cells are added
pub chain_kept : {ns : List Name} {m m' : Store} {s : Slot} {vs : List Value} → Kept m m' → Chain ns m s vs
    → Chain ns m' s vs
chain_kept g h = record { fine = h.fine; stands = keeps g h.stands }

pub environment_kept : {ns : List Name} {m m' : Store} {s : Slot} {sc : List Name} {bs : List Binding} → Kept m m'
    → Environment ns m s sc bs → Environment ns m' s sc bs
environment_kept g h = record { values = h.values; holds = chain_kept g h.holds; binds = h.binds }

-- no values
pub chain_end : {ns : List Name} {m : Store} → Chain ns m (record { kind = 2; low = 0; high = 0 }) []
chain_end = record { fine = tt; stands = leaf_stands 2 0 0 (omega arith) }

-- a slot of another kind has none
pub chain_none : {ns : List Name} {m : Store} {s : Slot} (vs : List Value) → (s.kind ≡ 31 → ⊥) → Chain ns m s vs
    → vs ≡ []
chain_none [] n h = refl
chain_none (v ∷ vs) n h = absurd (n (node_is h.stands))

-- a slot of the chains' kind has a first value
pub record FirstOf (ns : List Name) (m : Store) (first rest : Slot) (vs : List Value) : Type 0 where
  pub head : Value
  pub tail : List Value
  pub is : vs ≡ head ∷ tail
  pub head_at : Holds ns m first head
  pub tail_at : Chain ns m rest tail

pub chain_first : {ns : List Name} {m : Store} {s first rest : Slot} (vs : List Value) → s.kind ≡ 31
    → first ≡ left_of m.words s
    → rest ≡ right_of m.words s → Chain ns m s vs → FirstOf ns m first rest vs
chain_first {s} [] k l r h = absurd (omega (arith, k, ap (λ (q : Slot). q.kind) (leaf_is h.stands)))
chain_first (v ∷ vs) k l r h =
    record {
      head = v;
      tail = vs;
      is = refl;
      head_at = record { fine = h.fine.0; stands = left_at l h.stands };
      tail_at = record { fine = h.fine.1; stands = right_at r h.stands };
    }

-- a cell puts a value before others
pub chain_more : {ns : List Name} {m m' : Store} {a b r : Slot} {v : Value} {vs : List Value} → Put m m' 31 a b r
    → Holds ns m a v → Chain ns m b vs
    → Chain ns m' r (v ∷ vs)
chain_more p h c = record { fine = (h.fine, c.fine); stands = p.stands (omega arith) h.stands c.stands }
