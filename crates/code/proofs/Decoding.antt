-- A slot of clauses that are there has the kind of clauses, and its cell and the one to its left have the parts.
use Rattle.std.proofs.Common.{◌≡◌, ℕ, List, Some, None, refl, ap, arith}
use Rattle.meaning.specs.Basics.{Name}
use Rattle.meaning.specs.Syntax.{Clauses as Cls, no_c, clause}
use Rattle.store.specs.Heap.{store_of, left_of, right_of}
use Rattle.store.specs.declared.slot.Cell.{Cell}
use Rattle.store.specs.declared.slot.Slot.{Slot}
use Rattle.code.specs.Code.{CodeCs}
use Rattle.code.specs.Clauses.{ClausesAre}
use Rattle.store.proofs.Laws.{leaf_is, node_is, left_at, right_at}

pub no_clauses : {ns sc : List Name} {words : List ℕ} {used : ℕ} {s : Slot} (cs : Cls) → (s.kind ≡ 27 → ⊥)
    → CodeCs ns sc (store_of words used) s cs
    → ClausesAre ns sc (store_of words used) None cs
no_clauses no_c n c = refl
no_clauses (clause p b cs) n c = absurd (n (node_is c.stands))

pub first_clause : {ns sc : List Name} {words : List ℕ} {used : ℕ} {s : Slot} {x y : Cell} (cs : Cls) → s.kind ≡ 27
    → x.left ≡ left_of words s → x.right ≡ right_of words s → y.left ≡ left_of words x.left
    → y.right ≡ right_of words x.left
    → CodeCs ns sc (store_of words used) s cs
    → ClausesAre ns sc (store_of words used)
    (Some (record { pattern = y.left; body = y.right; rest = x.right })) cs
first_clause {s} no_c k l r l' r' c = absurd (omega (arith, k, ap (λ (q : Slot). q.kind) (leaf_is c.stands)))
first_clause {ns} {sc} {words} {used} {s} {x} {y} (clause p b cs) k l r l' r' c =
    record {
      pattern = p;
      body = b;
      rest = cs;
      is = refl;
      pattern_at = record { stands = left_at l' (left_at l c.stands); fine = c.fine.0 };
      body_at = record { stands = right_at r' (left_at l c.stands); fine = c.fine.1 };
      rest_at = record { stands = right_at r c.stands; fine = c.fine.2 };
    }
