-- A walk stands at what is next and at a stack of what waits; together they are the text that is left.
-- Each step takes one piece off the front of that text. A node that is opened puts one cell on the stack, so the stack is
-- never higher than the value is nested.
use Rattle.std.proofs.Common.{◌≡◌, ℕ, suc, ◌+◌, ◌-◌, ◌*◌, ◌/◌, ◌^◌, ◌<◌, ◌≤◌, max, min, Bool, true, false, cond, ◌⊎◌, List, [], ◌∷◌, ◌++◌, length, get_or, Some, None, Ok, Option, Result, sym, refl, ap, ◌∙◌, subst, inl, inr, append_assoc, append-nil, add-one, arith, length-append}
use lib.ListN.{length-replicate, replicate-append-replicate}
use Rattle.meaning.specs.Basics.{Name, same}
use Rattle.meaning.specs.Values.{Value as Val, v_tuple, v_cons, no_v, and_v, text_v, text_vs}
use Rattle.store.specs.Heap.{Store, store_of, left_of, right_of}
use Rattle.store.specs.Slots.{place_of}
use Rattle.store.specs.declared.slot.Cell.{Cell}
use Rattle.store.specs.declared.slot.Slot.{Slot}
use Rattle.store.specs.declared.stack.Stack.{Stack as CellStack}
use Rattle.values.specs.Encoding.{tree_v, tree_vs, Fine, Holds, Known, index_of}
use Rattle.values.specs.Names.{name_at}
use Rattle.values.specs.Pieces.{closed, piece_text}
use Rattle.values.specs.Shape.{IsPair, IsTuple, IsAtom}
use Rattle.values.specs.Walk.{
  nesting,
  Waiting,
  tail,
  rest,
  stack_text,
  stack_need,
  Waits,
  Stack,
  HoldsNext,
  next_text,
  next_nesting,
  Remains,
  Goes,
  After,
  Moves,
  rank,
  inside,
  Pushed,
  Keeps,
  Opens,
  Steps,
}
use Rattle.values.specs.declared.piece.Piece.{Piece}
use Rattle.values.specs.declared.piece.Piece.TheVariants.{Sign, Signs, Closing, Atom}
use Rattle.values.specs.declared.value.Atom.{Atom as AtomNumber}
use Rattle.values.specs.declared.walk.Cursor.{Cursor}
use Rattle.values.specs.declared.walk.Unprinted.{Unprinted}
use Rattle.values.specs.declared.walk.Walk.{Walk}
use Rattle.meaning.proofs.Splits.{T_of, same_is, no_clash}
use Rattle.store.proofs.Laws.{node_left, node_right}
use Rattle.values.proofs.Shapes.{kind_is}

-- opening a node of nestings x and y at depth d
need_opened : (lim d x y z : ℕ) → max lim (max (d + max (1 + x) y) z) ≡ max lim (max (suc d + x) (max (d + y) z))
need_opened lim d x y z = omega arith

-- taking what waits off the stack
need_popped : (lim d x z : ℕ) → suc d ≤ lim → max lim (max (suc d + 0) (max (d + x) z)) ≡ max lim (max (d + x) z)
need_popped lim d x z h = omega arith

-- a name is found by its number
pub name_of : (ns : List Name) (x : Name) → Known ns x → name_at ns (index_of ns x) ≡ x
name_of [] x k = absurd k
name_of (y ∷ ys) x k = go (same y x) refl k (name_of ys x)
  where
    go : (b : Bool) → same y x ≡ b → (b ≡ true) ⊎ Known ys x → (Known ys x → name_at ys (index_of ys x) ≡ x)
        → get_or (y ∷ ys) (cond b 0 (suc (index_of ys x))) [] ≡ x
    go true e k' f = same_is y x (T_of e)
    go false e (inl q) f = no_clash q refl
    go false e (inr k') f = f k'

-- a stack has a cell for each that waits
stack_long : (ns : List Name) (m : Store) (xs : List Cell) (ws : List Waiting) → Stack ns m xs ws → length xs ≡ length ws
stack_long ns m [] [] s = refl
stack_long ns m [] (w ∷ ws) s = absurd s
stack_long ns m (x ∷ xs) [] s = absurd s
stack_long ns m (x ∷ xs) (w ∷ ws) s = omega (arith, stack_long ns m xs ws s.1)

-- a walk starts at the whole text
pub remains_start : {ns : List Name} {m : Store} {s : Slot} {v : Val} {room : ℕ} {xs : List Cell} → xs ≡ [] → Holds ns m s v
    → Remains ns m room xs (record { next = Some s; closing = 0 }) (text_v v) (nesting (tree_v ns v))
remains_start {ns} {m} {s} {v} z h =
    record {
      next = Some v;
      stack = [];
      here = h;
      fits = omega (arith, ap length z);
      waits = subst (λ q. Stack ns m q []) (sym z) tt;
      text_is =
          sym (append-nil (text_v v));
      need_is = omega arith;
    }

-- a walk that stands at a value
pub record Begun (ns : List Name) (m : Store) (room : ℕ) (xs : List Cell) (slot : Slot) (closing : ℕ) (text : List ℕ)
    (need : ℕ) : Type 0 where
  pub value : Val
  pub stack : List Waiting
  pub holds : Holds ns m slot value
  pub fits : 6 * length xs ≤ room
  pub waits : Stack ns m xs stack
  pub text_is : text ≡ text_v value ++ (closed closing ++ stack_text stack)
  pub need_is : need ≡ max (length stack + nesting (tree_v ns value)) (stack_need ns stack)

pub begun : {ns : List Name} {m : Store} {room : ℕ} {xs : List Cell} {c : Cursor} {slot : Slot} {text : List ℕ} {need : ℕ} →
    c.next ≡ Some slot
    → Remains ns m room xs c text need → Begun ns m room xs slot c.closing text need
begun {ns} {m} {room} {xs} {c} {slot} {text} {need} e r =
    go r.next (subst (λ (o : Option Slot). HoldsNext ns m o r.next) e r.here) r.text_is r.need_is
  where
    go : (o : Option Val) → HoldsNext ns m (Some slot) o →
        text ≡ next_text o ++ (closed c.closing ++ stack_text r.stack)
        → need ≡ max (length r.stack + next_nesting ns o) (stack_need ns r.stack) →
        Begun ns m room xs slot c.closing text need
    go None h t n = absurd h
    go (Some v) h t n = record {
      value = v;
      stack = r.stack;
      holds = h;
      fits = r.fits;
      waits =
          r.waits;
      text_is = t;
      need_is = n;
    }

-- a value that is one piece
piece_goes : {ns : List Name} {m : Store} {room : ℕ} {xs : List Cell} {slot : Slot} {closing : ℕ} {text : List ℕ}
    {need : ℕ}
    (b : Begun ns m room xs slot closing text need) (p : Piece) → text_v b.value ≡ piece_text ns p →
    nesting (tree_v ns b.value) ≡ 0
    → Goes ns m room xs text need p (record { next = None; closing = closing })
piece_goes {ns} {m} {room} {xs} {slot} {closing} {text} {need} b p e z =
    record {
      text' = closed closing ++ stack_text b.stack;
      need' = need;
      stands =
          record {
            next = None;
            stack = b.stack;
            here = tt;
            fits = b.fits;
            waits = b.waits;
            text_is = refl;
            need_is = b.need_is ∙ ap (λ n. max (length b.stack + n) (stack_need ns b.stack)) z;
          };
      text_is = b.text_is ∙ ap (λ t. t ++ (closed closing ++ stack_text b.stack)) e;
      need_is = refl;
    }

-- the piece that a value is, where the value is known, ..
pub known_piece : (ns : List Name) {v u : Val} (p : Piece) → v ≡ u → text_v u ≡ piece_text ns p →
    nesting (tree_v ns u) ≡ 0 → (text_v v ≡ piece_text ns p) × (nesting (tree_v ns v) ≡ 0)
known_piece ns p is t z = (ap text_v is ∙ t, ap (λ v. nesting (tree_v ns v)) is ∙ z)

-- .. and where it is an atom
pub atom_piece : {ns : List Name} {m : Store} {slot : Slot} {v : Val} (atom : AtomNumber) → Holds ns m slot v →
    IsAtom ns atom.0 v → (text_v v ≡ piece_text ns (Atom atom)) × (nesting (tree_v ns v) ≡ 0)
atom_piece {ns} atom h i =
    known_piece ns (Atom atom) i.is
    (sym (name_of ns i.name (subst (λ v. Fine ns v) i.is h.fine)) ∙ ap (name_at ns) i.numbered) refl

-- a node that is opened at a stack ws: its left part is next, and w waits
module _ (ns : List Name) (words : List ℕ) (room : ℕ) (xs xs' : List Cell) (used : ℕ) (node mark : Slot) (a : Val)
    (w : Waiting) (ws : List Waiting)
    (stack : Stack ns (store_of words used) xs ws)
    (left : Holds ns (store_of words used) (left_of words node) a)
    (right : Waits ns (store_of words used) (right_of words node) mark w) where
  opened_remains : Pushed words room xs xs' node mark
      → Remains ns (store_of words used) room xs' (inside words node) (text_v a ++ stack_text (w ∷ ws))
      (max (length (w ∷ ws) + nesting (tree_v ns a)) (stack_need ns (w ∷ ws)))
  opened_remains p =
      record {
        next = Some a;
        stack = w ∷ ws;
        here = left;
        fits = omega (arith, p.fits, ap length p.on_top);
        waits = subst (λ q. Stack ns (store_of words used) q (w ∷ ws)) (sym p.on_top) (right, stack);
        text_is = refl;
        need_is = refl;
      }

  pub opened_after : (sign : ℕ) (c' : Cursor) (text : List ℕ) (need : ℕ) (r : Result (Option Piece) Unprinted) →
      Opens words room xs xs' node mark sign c' r
      → text ≡ sign ∷ (text_v a ++ stack_text (w ∷ ws))
      → max (room / 6) need ≡ max (room / 6)
      (max (length (w ∷ ws) + nesting (tree_v ns a)) (stack_need ns (w ∷ ws)))
      → (room < 6 * (length ws + 1) → room < 6 * need)
      → After ns (store_of words used) room xs' c' text need r
  opened_after sign c' text need r (inl o) e grows short =
      subst (λ (q : Result (Option Piece) Unprinted). After ns (store_of words used) room xs' c' text need q) (sym o.0)
      (subst (λ (q : Cursor). Goes ns (store_of words used) room xs' text need (Sign sign) q) (sym o.1)
      (record {
        text' = text_v a ++ stack_text (w ∷ ws);
        need' =
            max (length (w ∷ ws) + nesting (tree_v ns a)) (stack_need ns (w ∷ ws));
        stands = opened_remains o.2;
        text_is = e;
        need_is = grows;
      }))
  opened_after sign c' text need r (inr o) e grows short =
      subst (λ (q : Result (Option Piece) Unprinted). After ns (store_of words used) room xs' c' text need q) (sym o.0)
      (short (omega (arith, o.1, stack_long ns (store_of words used) xs ws stack)))

closed_more : (n : ℕ) → closed (n + 1) ≡ 93 ∷ closed n
closed_more n = ap closed (add-one n)

pair_text : (a b c s : List ℕ) →
    (91 ∷ (a ++ (124 ∷ (b ++ (93 ∷ []))))) ++ (c ++ s) ≡ 91 ∷ (a ++ ((124 ∷ (b ++ (93 ∷ c))) ++ s))
pair_text a b c s = simp append_assoc

tuple_text : (a b c s : List ℕ) →
    (123 ∷ ((a ++ (44 ∷ b)) ++ (125 ∷ []))) ++ (c ++ s) ≡ 123 ∷ (a ++ ((44 ∷ (b ++ (125 ∷ c))) ++ s))
tuple_text a b c s = simp append_assoc

comma_text : (a b c s : List ℕ) →
    (44 ∷ ((a ++ (44 ∷ b)) ++ (125 ∷ c))) ++ s ≡ 44 ∷ (a ++ ((44 ∷ (b ++ (125 ∷ c))) ++ s))
comma_text a b c s = simp append_assoc

-- a pair is next
pub pair_after : {ns : List Name} {words : List ℕ} {room : ℕ} {xs xs' : List Cell} {used : ℕ} {slot node mark : Slot}
    {closing : ℕ} {text : List ℕ} {need : ℕ}
    (b : Begun ns (store_of words used) room xs slot closing text need)
    (i : IsPair ns (store_of words used) node b.value)
    → mark.kind ≡ 16 → place_of mark ≡ closing + 1
    → (c' : Cursor) (r : Result (Option Piece) Unprinted) → Opens words room xs xs' node mark 91 c' r →
    After ns (store_of words used) room xs' c' text need r
pair_after {ns} {words} {room} {xs} {xs'} {used} {slot} {node} {mark} {closing} {text} {need} b i k p c' r o =
    opened_after ns words room xs xs' used node mark i.head (tail i.tail (closing + 1)) b.stack b.waits i.left
    (i.right, k, p)
    91 c' text need r o
    (b.text_is ∙ (ap (λ v. text_v v ++ (closed closing ++ stack_text b.stack)) i.is
    ∙ (pair_text (text_v i.head) (text_v i.tail) (closed closing) (stack_text b.stack)
    ∙ ap (λ c. 91 ∷ (text_v i.head ++ ((124 ∷ (text_v i.tail ++ c)) ++ stack_text b.stack)))
    (sym (closed_more closing)))))
    (ap (max (room / 6)) needs
    ∙ need_opened (room / 6) (length b.stack) (nesting (tree_v ns i.head))
    (nesting (tree_v ns i.tail)) (stack_need ns b.stack))
    (λ h. omega (arith, needs))
  where
    needs : need ≡ max (length b.stack + max (1 + nesting (tree_v ns i.head)) (nesting (tree_v ns i.tail)))
        (stack_need ns b.stack)
    needs = b.need_is ∙ ap (λ v. max (length b.stack + nesting (tree_v ns v)) (stack_need ns b.stack)) i.is

-- a pair is next, after which so many pairs close that they can't be counted
pub pair_long : {ns : List Name} {words : List ℕ} {room : ℕ} {xs : List Cell} {used : ℕ} {slot node : Slot}
    {closing : ℕ} {text : List ℕ} {need : ℕ}
    (b : Begun ns (store_of words used) room xs slot closing text need)
    (i : IsPair ns (store_of words used) node b.value)
    → 2 ^ 64 ≤ closing + 1 → 2 ^ 64 ≤ length text
pair_long {ns} {words} {room} {xs} {used} {slot} {node} {closing} {text} {need} b i e =
    let whole = ap length (b.text_is ∙ ap (λ v. text_v v ++ (closed closing ++ stack_text b.stack)) i.is) in
    omega (
      arith,
      whole,
      length-append (text_v (v_cons i.head i.tail)) (closed closing ++ stack_text b.stack),
      length-append (closed closing) (stack_text b.stack),
      length-replicate {A = ℕ} closing 93,
    )

-- a tuple that has elements is next
pub tuple_after : {ns : List Name} {words : List ℕ} {room : ℕ} {xs xs' : List Cell} {used : ℕ} {slot node mark : Slot}
    {closing : ℕ} {text : List ℕ} {need : ℕ}
    (b : Begun ns (store_of words used) room xs slot closing text need)
    (i : IsTuple ns (store_of words used) node b.value)
    → mark.kind ≡ 17 → place_of mark ≡ closing
    → (c' : Cursor) (r : Result (Option Piece) Unprinted) → Opens words room xs xs' node mark 123 c' r →
    After ns (store_of words used) room xs' c' text need r
tuple_after {ns} {words} {room} {xs} {xs'} {used} {slot} {node} {mark} {closing} {text} {need} b i k p c' r o =
    opened_after ns words room xs xs' used node mark i.first (rest i.rest closing) b.stack b.waits i.left
    (i.right, k, p)
    123 c' text need r o
    (b.text_is ∙ (ap (λ v. text_v v ++ (closed closing ++ stack_text b.stack)) i.is
    ∙ tuple_text (text_v i.first) (text_vs i.rest) (closed closing) (stack_text b.stack)))
    (ap (max (room / 6)) needs
    ∙ need_opened (room / 6) (length b.stack) (nesting (tree_v ns i.first))
    (nesting (tree_vs ns i.rest)) (stack_need ns b.stack))
    (λ h. omega (arith, needs))
  where
    needs : need ≡ max (length b.stack + max (1 + nesting (tree_v ns i.first)) (nesting (tree_vs ns i.rest)))
        (stack_need ns b.stack)
    needs = b.need_is ∙ ap (λ v. max (length b.stack + nesting (tree_v ns v)) (stack_need ns b.stack)) i.is

-- a walk that stands behind a value
pub record Resumed (ns : List Name) (m : Store) (room : ℕ) (xs : List Cell) (closing : ℕ) (text : List ℕ) (need : ℕ) :
    Type 0 where
  pub stack : List Waiting
  pub fits : 6 * length xs ≤ room
  pub waits : Stack ns m xs stack
  pub text_is : text ≡ closed closing ++ stack_text stack
  pub need_is : need ≡ max (length stack + 0) (stack_need ns stack)

pub resumed : {ns : List Name} {m : Store} {room : ℕ} {xs : List Cell} {c : Cursor} {text : List ℕ} {need : ℕ}
    → c.next ≡ None → Remains ns m room xs c text need → Resumed ns m room xs c.closing text need
resumed {ns} {m} {room} {xs} {c} {text} {need} e r =
    go r.next (subst (λ (o : Option Slot). HoldsNext ns m o r.next) e r.here) r.text_is r.need_is
  where
    go : (o : Option Val) → HoldsNext ns m None o → text ≡ next_text o ++ (closed c.closing ++ stack_text r.stack)
        → need ≡ max (length r.stack + next_nesting ns o) (stack_need ns r.stack) →
        Resumed ns m room xs c.closing text need
    go None h t n = record { stack = r.stack; fits = r.fits; waits = r.waits; text_is = t; need_is = n }
    go (Some v) h t n = absurd h

-- where nothing is next
none_next : (ns : List Name) (m : Store) {next : Option Slot} → next ≡ None → HoldsNext ns m next None
none_next ns m e = subst (λ (o : Option Slot). HoldsNext ns m o None) (sym e) tt

-- the brackets of a piece
piece_closed : (ns : List Name) (closing count : ℕ) → count ≡ min closing 22
    → piece_text ns (Closing count) ≡ closed count
piece_closed ns closing count e = ap closed (omega arith)

-- .. and those that close after it
closed_split : (closing count : ℕ) → count ≡ min closing 22 → closed closing ≡ closed count ++ closed (closing - count)
closed_split closing count e = ap closed (omega arith) ∙ sym (replicate-append-replicate count (closing - count) 93)

-- as many of the brackets that close as a piece holds
pub closing_goes : {ns : List Name} {m : Store} {room : ℕ} {xs : List Cell} {next : Option Slot} {closing : ℕ}
    {text : List ℕ} {need : ℕ} (count : ℕ) → next ≡ None
    → count ≡ min closing 22 → Resumed ns m room xs closing text need →
    Goes ns m room xs text need (Closing count) (record { next = next; closing = closing - count })
closing_goes {ns} {m} {closing = closing} {need = need} count e most b =
    record {
      text' = closed (closing - count) ++ stack_text b.stack;
      need' = need;
      stands = record {
        next = None;
        stack = b.stack;
        here = none_next ns m e;
        fits = b.fits;
        waits =
            b.waits;
        text_is = refl;
        need_is = b.need_is;
      };
      text_is = b.text_is ∙ (ap (λ c. c ++ stack_text b.stack)
          (closed_split closing count most
          ∙ ap (λ c. c ++ closed (closing - count)) (sym (piece_closed ns closing count most)))
          ∙ append_assoc (piece_text ns (Closing count)) (closed (closing - count)) (stack_text b.stack));
      need_is = refl;
    }

-- .. and they are not none
pub closing_moves : (ns : List Name) (closing count : ℕ) → 0 < closing → count ≡ min closing 22 →
    0 < length (piece_text ns (Closing count))
closing_moves ns closing count more most =
    omega (arith, ap length (piece_closed ns closing count most), length-replicate {A = ℕ} count 93)

-- what waited in the cell x, which was taken off the stack and left the cells xs there
pub record Popped (ns : List Name) (m : Store) (room : ℕ) (x : Cell) (xs : List Cell) (text : List ℕ) (need : ℕ) :
    Type 0 where
  pub top : Waiting
  pub stack : List Waiting
  pub fits : 6 * (1 + length xs) ≤ room
  pub long : length xs ≡ length stack
  pub here : Waits ns m x.left x.right top
  pub waits : Stack ns m xs stack
  pub text_is : text ≡ stack_text (top ∷ stack)
  pub need_is : need ≡ max (suc (length stack) + 0) (stack_need ns (top ∷ stack))

pub popped : {ns : List Name} {m : Store} {room : ℕ} {xs xs' : List Cell} {closing : ℕ} {text : List ℕ} {need : ℕ}
    {x : Cell} → xs ≡ x ∷ xs' → closing ≡ 0 → Resumed ns m room xs closing text need →
    Popped ns m room x xs' text need
popped {ns} {m} {room} {xs} {xs'} {closing} {text} {need} {x} is e b =
    go b.stack (subst (λ q. Stack ns m q b.stack) is b.waits)
    (b.text_is ∙ ap (λ n. closed n ++ stack_text b.stack) e) b.need_is
  where
    go : (ws : List Waiting) → Stack ns m (x ∷ xs') ws → text ≡ stack_text ws →
        need ≡ max (length ws + 0) (stack_need ns ws)
        → Popped ns m room x xs' text need
    go [] s t n = absurd s
    go (w ∷ ws) s t n = record {
      top = w;
      stack = ws;
      fits = omega (arith, b.fits, ap length is);
      long = stack_long ns m xs' ws s.1;
      here = s.0;
      waits = s.1;
      text_is = t;
      need_is = n;
    }

-- the tail of a pair is next, after the bar
pub bar_goes : {ns : List Name} {m : Store} {room : ℕ} {x : Cell} {xs : List Cell} {text : List ℕ} {need : ℕ}
    (closing : ℕ)
    → Popped ns m room x xs text need → x.right.kind ≡ 16 → place_of x.right ≡ closing
    → Goes ns m room xs text need (Sign 124) (record { next = Some x.left; closing = closing })
bar_goes {ns} {m} {room} {x} {xs} {text} {need} closing b k e =
    go b.top b.here b.text_is b.need_is
  where
    go : (w : Waiting) → Waits ns m x.left x.right w → text ≡ stack_text (w ∷ b.stack)
        → need ≡ max (suc (length b.stack) + 0) (stack_need ns (w ∷ b.stack))
        → Goes ns m room xs text need (Sign 124) (record { next = Some x.left; closing = closing })
    go (tail v n) h t q =
        record {
          text' = text_v v ++ (closed closing ++ stack_text b.stack);
          need' = stack_need ns (tail v n ∷ b.stack);
          stands = record {
            next = Some v;
            stack = b.stack;
            here = h.0;
            fits = omega (arith, b.fits);
            waits = b.waits;
            text_is = refl;
            need_is = refl;
          };
          text_is = t ∙ (ap (λ s. 124 ∷ s) (append_assoc (text_v v) (closed n) (stack_text b.stack))
              ∙ ap (λ c. 124 ∷ (text_v v ++ (closed c ++ stack_text b.stack))) (sym h.2 ∙ e));
          need_is = ap (max (room / 6)) q
              ∙ need_popped (room / 6) (length b.stack) (nesting (tree_v ns v)) (stack_need ns b.stack)
              (omega (arith, b.fits, b.long));
        }
    go (rest vs n) h t q = absurd (omega (arith, h.1))

-- a tuple is at its end
pub brace_goes : {ns : List Name} {m : Store} {room : ℕ} {next : Option Slot} {x : Cell} {xs : List Cell}
    {text : List ℕ} {need : ℕ} (closing : ℕ) → next ≡ None
    → Popped ns m room x xs text need → (x.right.kind ≡ 16 → ⊥) → x.left.kind ≡ 4 → place_of x.right ≡ closing
    → Goes ns m room xs text need (Signs 44 125) (record { next = next; closing = closing })
brace_goes {ns} {m} {room} {next} {x} {xs} {text} {need} closing none b k f e =
    go b.top b.here b.text_is b.need_is
  where
    go : (w : Waiting) → Waits ns m x.left x.right w → text ≡ stack_text (w ∷ b.stack)
        → need ≡ max (suc (length b.stack) + 0) (stack_need ns (w ∷ b.stack))
        → Goes ns m room xs text need (Signs 44 125) (record { next = next; closing = closing })
    go (tail v n) h t q = absurd (k h.1)
    go (rest (and_v a vs) n) h t q = absurd (omega (arith, kind_is (v_tuple (and_v a vs)) h.0))
    go (rest no_v n) h t q =
        record {
          text' = closed closing ++ stack_text b.stack;
          need' = stack_need ns (rest no_v n ∷ b.stack);
          stands = record {
            next = None;
            stack = b.stack;
            here = none_next ns m none;
            fits = omega (arith, b.fits);
            waits = b.waits;
            text_is = refl;
            need_is = refl;
          };
          text_is = t ∙ ap (λ c. 44 ∷ 125 ∷ (closed c ++ stack_text b.stack)) (sym h.2 ∙ e);
          need_is = ap (max (room / 6)) q
              ∙ need_popped (room / 6) (length b.stack) 0 (stack_need ns b.stack)
              (omega (arith, b.fits, b.long));
        }

-- the next element of a tuple is next, after the comma
pub comma_after : {ns : List Name} {words : List ℕ} {room room' : ℕ} {x : Cell} {xs xs' : List Cell} {used : ℕ}
    {text : List ℕ} {need : ℕ}
    → Popped ns (store_of words used) room x xs text need → (x.right.kind ≡ 16 → ⊥) → (x.left.kind ≡ 4 → ⊥)
    → room' ≡ room → (c' : Cursor) (r : Result (Option Piece) Unprinted)
    → Opens words room' xs xs' x.left x.right 44 c' r
    → After ns (store_of words used) room xs' c' text need r
comma_after {ns} {words} {room} {room'} {x} {xs} {xs'} {used} {text} {need} b k f l c' r o =
    go b.top b.here b.text_is b.need_is
  where
    go : (w : Waiting) → Waits ns (store_of words used) x.left x.right w → text ≡ stack_text (w ∷ b.stack)
        → need ≡ max (suc (length b.stack) + 0) (stack_need ns (w ∷ b.stack)) →
        After ns (store_of words used) room xs' c' text need r
    go (tail v n) h t q = absurd (k h.1)
    go (rest no_v n) h t q = absurd (f (kind_is (v_tuple no_v) h.0))
    go (rest (and_v a vs) n) h t q =
        opened_after ns words room xs xs' used x.left x.right a (rest vs n) b.stack b.waits
        (record { fine = h.0.fine.0; stands = node_left h.0.stands })
        (record { fine = h.0.fine.1; stands = node_right h.0.stands }, h.1, h.2)
        44 c' text need r (subst (λ n. Opens words n xs xs' x.left x.right 44 c' r) l o)
        (t ∙ comma_text (text_v a) (text_vs vs) (closed n) (stack_text b.stack))
        (ap (max (room / 6)) q
        ∙ (need_popped (room / 6) (length b.stack)
        (max (1 + nesting (tree_v ns a)) (nesting (tree_vs ns vs))) (stack_need ns b.stack)
        (omega (arith, b.fits, b.long))
        ∙ need_opened (room / 6) (length b.stack) (nesting (tree_v ns a)) (nesting (tree_vs ns vs))
        (stack_need ns b.stack)))
        (λ short. absurd (omega (arith, b.fits, b.long)))

-- a walk keeps its words and its room where a cell is taken off the stack
pub popped_keeps : {w : Walk} {s : CellStack} {c : Cursor} → s.words ≡ w.stack.words
    → Keeps w (record { words = w.words; stack = s; cursor = c })
popped_keeps e = record { same = refl; long = ap (λ x. length x.now) e }

-- a node that is opened writes its sign
pub opened_moves : (words : List ℕ) (room : ℕ) (xs xs' : List Cell) (node mark : Slot) (sign : ℕ) (c c' : Cursor)
    (r : Result (Option Piece) Unprinted)
    → Opens words room xs xs' node mark sign c' r → Moves c c' r
opened_moves words room xs xs' node mark sign c c' r (inl o) =
    subst (λ (q : Result (Option Piece) Unprinted). Moves c c' q) (sym o.0)
    (λ ns. omega (arith, ap (λ (x : Cursor). rank x.next) o.1))
opened_moves words room xs xs' node mark sign c c' r (inr o) =
    subst (λ (q : Result (Option Piece) Unprinted). Moves c c' q) (sym o.0) tt

-- a value that is one piece is at its end
pub value_steps : {w : Walk} {slot : Slot} (p : Piece) → w.cursor.next ≡ Some slot →
    ((ns : List Name) (used : ℕ) (v : Val) → Holds ns (store_of w.words.now used) slot v →
    (text_v v ≡ piece_text ns p) × (nesting (tree_v ns v) ≡ 0))
    → Steps w (record {
      words = w.words;
      stack = w.stack;
      cursor = record { next = None; closing = w.cursor.closing };
    }) (Ok (Some p))
value_steps {w} {slot} p e f =
    record {
      keeps = record { same = refl; long = refl };
      so = λ {ns} {used} r. let b = begun e r in let x = f ns used b.value b.holds in piece_goes b p x.0 x.1;
      moves = λ ns. omega (arith, ap rank e);
    }
