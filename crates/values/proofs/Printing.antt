-- A walk lays the pieces of a text one behind another until none is left; what is laid and what is left are the text.
-- If it was measured, it fits, and the walk that writes is the same as the one that measured: so it is not refused.
use Rattle.std.proofs.Common.{◌≡◌, ℕ, ◌+◌, ◌*◌, ◌^◌, ◌<◌, ◌≤◌, Bool, true, false, List, [], ◌++◌, length, Some, None, Ok, Err, Option, Result, sym, refl, ap, ◌∙◌, subst, append_assoc, append-nil, arith, length-append}
use Rattle.std.specs.Bool.{OnFalse}
use Rattle.meaning.specs.Basics.{Name}
use Rattle.meaning.specs.Values.{Value, text_v}
use Rattle.store.specs.Heap.{Store, store_of}
use Rattle.store.specs.Stack.{waiting}
use Rattle.store.specs.declared.slot.Cell.{Cell}
use Rattle.store.specs.declared.slot.Slot.{Slot}
use Rattle.values.specs.Encoding.{Holds, tree_v}
use Rattle.values.specs.Pieces.{piece_text}
use Rattle.values.specs.Print.{Unfit, UnprintedValue, Measured, laid, Laid, Laying}
use Rattle.values.specs.Walk.{nesting, Remains, After, Steps}
use Rattle.values.specs.declared.piece.Piece.{Piece}
use Rattle.values.specs.declared.walk.Cursor.{Cursor}
use Rattle.values.specs.declared.walk.Walk.{Walk}
use Rattle.values.specs.declared.walk.Unprinted.{Unprinted}
use Rattle.values.specs.declared.walk.Unprinted.TheVariants.{TooLong, TooDeep}
use Rattle.values.proofs.Outputs.{written_none, written_after}

laid_none : (writes : Bool) (out : List ℕ) (at : ℕ) → laid writes out at [] ≡ out
laid_none true out at = written_none out at
laid_none false out at = refl

laid_after : (writes : Bool) (out : List ℕ) (at : ℕ) (xs ys : List ℕ) → at ≤ length out →
    laid writes (laid writes out at xs) (at + length xs) ys ≡ laid writes out at (xs ++ ys)
laid_after true out at xs ys h = written_after out at xs ys h
laid_after false out at xs ys h = refl

pub unwritten_start : (writes : Bool) (out : List ℕ) → OnFalse writes (out ≡ out)
unwritten_start true out = tt
unwritten_start false out = refl

unwritten_more : (writes : Bool) (out out' out'' : List ℕ) (at : ℕ) (bytes : List ℕ) → OnFalse writes (out' ≡ out) →
    out'' ≡ laid writes out' at bytes → OnFalse writes (out'' ≡ out)
unwritten_more true out out' out'' at bytes f l = tt
unwritten_more false out out' out'' at bytes f l = l ∙ f

pub steps_is : {w w' : Walk} {s t : Option Piece} → s ≡ t → Steps w w' (Ok s) → Steps w w' (Ok t)
steps_is {w} {w'} e k = subst (λ (q : Option Piece). Steps w w' (Ok q)) e k

-- what a step of the walk w in these words, with this room on its stack, says
said : {words : List ℕ} {room : ℕ} {w w' : Walk} {r : Result (Option Piece) Unprinted} {ns : List Name} {used : ℕ}
    {text : List ℕ} {need : ℕ} → w.words.now ≡ words → length w.stack.words.now ≡ room → Steps w w' r →
    Remains ns (store_of words used) room (waiting w.stack) w.cursor text need
    → After ns (store_of words used) room (waiting w'.stack) w'.cursor text need r
said {words} {room} {w} {w'} {r} {ns} {used} {text} {need} e l s =
    subst (λ (q : List ℕ). Remains ns (store_of q used) room (waiting w.stack) w.cursor text need
    → After ns (store_of q used) room (waiting w'.stack) w'.cursor text need r) e
    (subst (λ n. Remains ns (store_of w.words.now used) n (waiting w.stack) w.cursor text need
    → After ns (store_of w.words.now used) n (waiting w'.stack) w'.cursor text need r) l s.so)

pub laying_start : {ns : List Name} {words : List ℕ} {room : ℕ} {xs : List Cell} {used : ℕ} {c : Cursor} {at : ℕ}
    {text : List ℕ} {need : ℕ} (writes : Bool) (out : List ℕ) → Remains ns (store_of words used) room xs c text need →
    Laying writes ns (store_of words used) room xs c out out at at text need
laying_start {at = at} {text = text} {need = need} writes out r =
    record {
      front = [];
      text' = text;
      need' = need;
      stands = r;
      text_is = refl;
      end_is = omega arith;
      bytes = sym (laid_none writes out at);
      deep = refl;
    }

-- what is laid and what is left are as long as the text
long : {writes : Bool} {ns : List Name} {m : Store} {room : ℕ} {xs : List Cell} {c : Cursor} {out out' : List ℕ}
    {at end : ℕ} {text : List ℕ} {need : ℕ} (k : Laying writes ns m room xs c out out' at end text need) →
    at + length text ≡ end + length k.text'
long k = omega (arith, ap length k.text_is, length-append k.front k.text', k.end_is)

-- the steps of a walk w that has laid the text so far
module _ {writes : Bool} {ns : List Name} {words : List ℕ} {room used : ℕ} {w w' : Walk} {out out' : List ℕ} {at end : ℕ}
    {text : List ℕ} {need : ℕ} (same : w.words.now ≡ words) (wide : length w.stack.words.now ≡ room)
    (k : Laying writes ns (store_of words used) room (waiting w.stack) w.cursor out out' at end text need) where
  laying_more : (out'' : List ℕ) (p : Piece) (n : ℕ) → Steps w w' (Ok (Some p)) →
      n ≡ length (piece_text ns p) → at ≤ length out → out'' ≡ laid writes out' end (piece_text ns p)
      → Laying writes ns (store_of words used) room (waiting w'.stack) w'.cursor out out'' at (end + n) text need
  laying_more out'' p n s e b l =
      let g = said same wide s k.stands in
      record {
        front = k.front ++ piece_text ns p;
        text' = g.text';
        need' = g.need';
        stands = g.stands;
        text_is = k.text_is ∙ (ap (λ t. k.front ++ t) g.text_is
            ∙ sym (append_assoc k.front (piece_text ns p) g.text'));
        end_is = omega (arith, k.end_is, e, length-append k.front (piece_text ns p));
        bytes = l ∙ (ap (λ q. laid writes q end (piece_text ns p)) k.bytes
            ∙ (ap (λ i. laid writes (laid writes out at k.front) i (piece_text ns p)) k.end_is
            ∙ laid_after writes out at k.front (piece_text ns p) b));
        deep = k.deep ∙ g.need_is;
      }

  laying_end : Steps w w' (Ok None) →
      (end ≡ at + length text) × (6 * need ≤ room) × (out' ≡ laid writes out at text)
  laying_end s =
      let g = said same wide s k.stands in
      let all : text ≡ k.front = k.text_is ∙ (ap (λ t. k.front ++ t) g.0 ∙ append-nil k.front) in (
        k.end_is ∙ ap (λ t. at + length t) (sym all),
        omega (arith, k.deep, g.1),
        k.bytes ∙ ap (laid writes out at) (sym all),
      )

  -- the rest of the text is not within the limit
  laying_long : (p : Piece) (n limit : ℕ) → Steps w w' (Ok (Some p)) → n ≡ length (piece_text ns p) →
      limit < end + n → limit < at + length text
  laying_long p n limit s e b =
      let g = said same wide s k.stands in
      omega (arith, long k, ap length g.text_is, length-append (piece_text ns p) g.text', e)

  laying_refused : (why : Unprinted) (limit : ℕ) (whole : List ℕ) → room ≡ length whole → Steps w w' (Err why)
      → limit < 2 ^ 64 → Unfit at limit whole text need why
  laying_refused TooLong limit whole l s b = omega (arith, said same wide s k.stands, long k)
  laying_refused TooDeep limit whole l s b = omega (arith, said same wide s k.stands, k.deep, l)

-- The walk w is in these words and has this room on its stack; it has laid the text of the slot's value up to `end`.
pub record Walked (writes : Bool) (ns : List Name) (words : List ℕ) (slot : Slot) (room : ℕ) (w : Walk)
    (out out' : List ℕ) (at end : ℕ) : Type 0 where
  pub same : w.words.now ≡ words
  pub long : length w.stack.words.now ≡ room
  pub fits : end ≤ length out
  pub unwritten : OnFalse writes (out' ≡ out)
  pub laying : {used : ℕ} {v : Value} → Holds ns (store_of words used) slot v →
      Laying writes ns (store_of words used) room (waiting w.stack) w.cursor out out' at end (text_v v)
      (nesting (tree_v ns v))

-- its steps
module _ {writes : Bool} {ns : List Name} {words : List ℕ} {slot : Slot} {room : ℕ} {w w' : Walk}
    {out out' : List ℕ} {at end : ℕ} (k : Walked writes ns words slot room w out out' at end) where
  pub walked_more : (out'' : List ℕ) (p : Piece) (n : ℕ) → Steps w w' (Ok (Some p)) → n ≡ length (piece_text ns p)
      → at ≤ length out → end + n ≤ length out → out'' ≡ laid writes out' end (piece_text ns p)
      → Walked writes ns words slot room w' out out'' at (end + n)
  walked_more out'' p n s e b f l =
      record {
        same = s.keeps.same ∙ k.same;
        long = s.keeps.long ∙ k.long;
        fits = f;
        unwritten = unwritten_more writes out out' out'' end (piece_text ns p) k.unwritten l;
        laying = λ h. laying_more k.same k.long (k.laying h) out'' p n s e b l;
      }

  pub walked_end : Steps w w' (Ok None) → {scratch : List ℕ} → room ≡ length scratch →
      Measured ns words slot at (length out) scratch end × Laid writes ns words slot out out' at
  walked_end s l = (
    record {
      fits = k.fits;
      end_is = λ h. (laying_end k.same k.long (k.laying h) s).0;
      deep = λ h. omega (arith, l, (laying_end k.same k.long (k.laying h) s).1);
    },
    record { bytes = λ h. (laying_end k.same k.long (k.laying h) s).2 },
  )

  pub walked_long : (p : Piece) (n : ℕ) → Steps w w' (Ok (Some p)) → n ≡ length (piece_text ns p) →
      {scratch : List ℕ} → room ≡ length scratch → length out < end + n → UnprintedValue ns words slot at (length out) scratch TooLong
  walked_long p n s e l b = record { unfit = λ h. laying_long k.same k.long (k.laying h) p n (length out) s e b }

  pub walked_refused : (why : Unprinted) → Steps w w' (Err why) → {scratch : List ℕ} → room ≡ length scratch →
      length out < 2 ^ 64 →
      UnprintedValue ns words slot at (length out) scratch why
  walked_refused why s {scratch} l b =
      record { unfit = λ h. laying_refused k.same k.long (k.laying h) why (length out) scratch l s b }
