-- What other crates use of patterns and mailboxes beside the contracts: what stands in the heap stays when cells are added,
-- a pattern binds as many names as its scope has more, and looking takes at most two cells for each message.
use Rattle.std.proofs.Common.{◌≡◌, ◌+◌, ◌*◌, ◌≤◌, List, ◌++◌, reverse, length, refl, ap, arith, length-append}
use lib.ListN.{length-reverse}
use Rattle.meaning.specs.Basics.{Name}
use Rattle.meaning.specs.Bound.{bound_by, bound_by_all}
use Rattle.meaning.specs.Syntax.{Pattern, p_any, p_var, p_int, p_atom, p_tuple, p_nil, p_cons, Patterns, no_p, and_p}
use Rattle.meaning.specs.Turns.{Chosen as Choice}
use Rattle.meaning.specs.Values.{Value}
use Rattle.store.specs.Heap.{Store, Kept}
use Rattle.matching.specs.Choices.{ChosenAt}
use Rattle.matching.specs.Mailboxes.{Mail, More}
use Rattle.matching.specs.Matches.{names, names_all}
use Rattle.matching.specs.Receives.{new_cells}
use Rattle.matching.specs.declared.clause.Chosen.{Chosen}
use Rattle.matching.specs.declared.mailbox.Mailbox.{Mailbox}
use Rattle.code.proofs.Chains.{chain_kept, environment_kept}

-- A mailbox still holds its messages, and what was seen is as it was.
pub mail_kept : {ns : List Name} {m m' : Store} {b : Mailbox} {mail : List Value} → Kept m m' → (h : Mail ns m b mail)
    → More ns m' b h.seen mail
mail_kept g h =
    record {
      after = record {
        seen = h.seen;
        front = h.front;
        back = h.back;
        seen_at = chain_kept g h.seen_at;
        front_at = chain_kept g h.front_at;
        back_at = chain_kept g h.back_at;
        order = h.order;
      };
      seen_is = refl;
    }

-- What was chosen still stands.
pub chosen_kept : {ns : List Name} {code m m' : Store} {r : Chosen} {c : Choice} → Kept m m' → ChosenAt ns code m r c
    → ChosenAt ns code m' r c
chosen_kept g h = record { scope = h.scope; body_at = h.body_at; env_at = environment_kept g h.env_at }

-- The scope behind a pattern has as many names more as the pattern binds.
mutual
  pub names_bound : (p : Pattern) (sc : List Name) → length (bound_by p sc) ≡ names p + length sc
  names_bound p_any sc = omega arith
  names_bound (p_var x) sc = omega arith
  names_bound (p_int n) sc = omega arith
  names_bound (p_atom x) sc = omega arith
  names_bound (p_tuple ps) sc = names_bound_all ps sc
  names_bound p_nil sc = omega arith
  names_bound (p_cons a b) sc = omega (arith, names_bound b (bound_by a sc), names_bound a sc)

  pub names_bound_all : (ps : Patterns) (sc : List Name) → length (bound_by_all ps sc) ≡ names_all ps + length sc
  names_bound_all no_p sc = omega arith
  names_bound_all (and_p p ps) sc = omega (arith, names_bound_all ps (bound_by p sc), names_bound p sc)

-- Looking at all messages takes at most two cells for each.
pub few_cells : {ns : List Name} {m : Store} {b : Mailbox} {mail : List Value} (h : Mail ns m b mail)
    → new_cells h ≤ 2 * length mail
few_cells h =
    omega (
      arith,
      ap length h.order,
      length-append (reverse h.seen) (h.front ++ reverse h.back),
      length-append h.front (reverse h.back),
      length-reverse h.back,
    )
