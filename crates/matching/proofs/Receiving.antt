-- The first message that some clause matches is behind messages that none matches. Looking moves such messages from the
-- front to those seen, which keeps the order of the whole: what was seen, turned, before what is left. When the front is
-- used up the back is turned round and looked through too.
use Rattle.std.proofs.Common.{◌≡◌, ℕ, ◌+◌, ◌*◌, ◌<◌, true, false, List, [], ◌∷◌, ◌++◌, reverse, length, Some, None, Option as Maybe, is_some, sym, refl, ap, ◌∙◌, subst, append_assoc, append-nil, arith}
use mathlib.Core.List.{reverse_aux, reverse-cons, reverse-reverse}
use mathlib.Core.Option.{some, none}
use lib.ListN.{length-reverse}
use Rattle.meaning.specs.Basics.{opt, Name}
use Rattle.meaning.specs.Syntax.{Clauses}
use Rattle.meaning.specs.Turns.{Chosen as Choice, choose, take_first, keep_front}
use Rattle.meaning.specs.Values.{Value, Binding}
use Rattle.store.specs.Heap.{Store, store_of, left_of, right_of, Put, Grows}
use Rattle.store.specs.declared.slot.Slot.{Slot}
use Rattle.code.specs.Code.{CodeCs}
use Rattle.code.specs.Environment.{Chain, Environment}
use Rattle.code.specs.Turning.{Turned, TurnLacks}
use Rattle.matching.specs.Choices.{Chooses, ChoiceLacks}
use Rattle.matching.specs.Mailboxes.{no_messages, Mail}
use Rattle.matching.specs.Receives.{Passed, new_cells, Takes, TakeLacks, Looks, LookLacks, Looking}
use Rattle.matching.specs.declared.clause.Chosen.{Chosen}
use Rattle.matching.specs.declared.mailbox.Mailbox.{Mailbox}
use Rattle.matching.specs.declared.receive.Taken.{Taken}
use Rattle.store.proofs.Laws.{kept_trans}
use Rattle.values.proofs.Laws.{holds_kept}
use Rattle.code.proofs.Chains.{chain_kept, environment_kept, chain_end, chain_none, chain_first, chain_more}
use Rattle.code.proofs.Turning.{turned_chain}

-- messages that no clause matches
passed_onto : (cs : Clauses) (bs : List Binding) (xs ys : List Value) → Passed cs bs xs → Passed cs bs ys
    → Passed cs bs (reverse_aux xs ys)
passed_onto cs bs [] ys p q = q
passed_onto cs bs (x ∷ xs) ys p q = passed_onto cs bs xs (x ∷ ys) p.1 (p.0, q)

passed_reverse : (cs : Clauses) (bs : List Binding) (xs : List Value) → Passed cs bs xs → Passed cs bs (reverse xs)
passed_reverse cs bs xs p = passed_onto cs bs xs [] p tt

take_none : (cs : Clauses) (bs : List Binding) (xs : List Value) → Passed cs bs xs → take_first cs bs xs ≡ none
take_none cs bs [] p = refl
take_none cs bs (x ∷ xs) p =
    ap (λ o. opt o (keep_front x (take_first cs bs xs)) (λ c. some (record { chosen = c; rest = xs }))) p.0
    ∙ ap (keep_front x) (take_none cs bs xs p.1)

take_found : (cs : Clauses) (bs : List Binding) (xs : List Value) (v : Value) (ys : List Value) (c : Choice)
    → Passed cs bs xs → choose cs v bs ≡ some c
    → take_first cs bs (xs ++ (v ∷ ys)) ≡ some (record { chosen = c; rest = xs ++ ys })
take_found cs bs [] v ys c p e =
    ap (λ o. opt o (keep_front v (take_first cs bs ys)) (λ c'. some (record { chosen = c'; rest = ys }))) e
take_found cs bs (x ∷ xs) v ys c p e =
    ap (λ o. opt o (keep_front x (take_first cs bs (xs ++ (v ∷ ys))))
    (λ c'. some (record { chosen = c'; rest = xs ++ (v ∷ ys) }))) p.0
    ∙ ap (keep_front x) (take_found cs bs xs v ys c p.1 e)

-- Looking through a chain.
pub sees_none : {code : List ℕ} {m₀ m : Store} {clauses env seen₀ messages seen rest : Slot} → (rest.kind ≡ 31 → ⊥)
    → Looking code m₀ m clauses env seen₀ messages seen rest
    → Looks code m₀ m clauses env seen₀ messages (record { chosen = None; seen = seen; rest = rest })
sees_none {m} {rest} n f =
    record {
      to = λ {ns} a b c d p.
          let h = f.hand a b c d p in
          let e = chain_none h.left n h.left_at in
          record {
            seen = h.now_seen;
            order = h.order ∙ (ap (λ z. reverse h.now_seen ++ z) e ∙ append-nil (reverse h.now_seen));
            passed = h.passed;
            seen_at = h.seen_at;
            rest_at = subst (λ z. Chain ns m rest z) e h.left_at;
            count = omega (arith, h.count, ap length e);
          };
    }

pub sees_first : {code : List ℕ} {m₀ m m₁ : Store} {clauses env seen₀ messages seen rest first next : Slot}
    (o : Maybe Chosen) → true ≡ is_some o → rest.kind ≡ 31
    → first ≡ left_of m.words rest → next ≡ right_of m.words rest → Grows m₀ m → Grows m m₁
    → Chooses code m m₁ clauses first env o
    → Looking code m₀ m clauses env seen₀ messages seen rest
    → Looks code m₀ m₁ clauses env seen₀ messages (record { chosen = o; seen = seen; rest = next })
sees_first None e k l r g g₁ x f = cc
sees_first (Some z) e k l r g g₁ x f =
    record {
      to = λ a b c d p.
          let h = f.hand a b c d p in
          let q = chain_first h.left k l r h.left_at in
          let y = x.to a q.head_at (environment_kept g.kept b) in
          record {
            seen = h.now_seen;
            message = q.head;
            rest = q.tail;
            choice = y.choice;
            order = h.order ∙ ap (λ z. reverse h.now_seen ++ z) q.is;
            passed = h.passed;
            is = y.is;
            chosen_at = y.chosen_at;
            seen_at = chain_kept g₁.kept h.seen_at;
            rest_at = chain_kept g₁.kept q.tail_at;
            count = omega (arith, h.count, y.count, ap length q.is);
          };
    }

-- no clause was chosen
pub none_chosen : {code : List ℕ} {m m₁ : Store} {clauses value env : Slot} (o : Maybe Chosen) → false ≡ is_some o
    → Chooses code m m₁ clauses value env o → Chooses code m m₁ clauses value env None
none_chosen None e x = x
none_chosen (Some z) e x = cc

-- one message goes over
turn_one : (v : Value) (s r : List Value) → reverse (v ∷ s) ++ r ≡ reverse s ++ (v ∷ r)
turn_one v s r = ap (λ l. l ++ r) (reverse-cons v s) ∙ append_assoc (reverse s) (v ∷ []) r

pub looking_goes_on : {code : List ℕ} {m₀ m m₁ m₂ : Store}
    {clauses env seen₀ messages seen rest first next new : Slot} → rest.kind ≡ 31
    → first ≡ left_of m.words rest → next ≡ right_of m.words rest → Grows m₀ m → Grows m m₁
    → Chooses code m m₁ clauses first env None
    → Put m₁ m₂ 31 first seen new → Looking code m₀ m clauses env seen₀ messages seen rest
    → Looking code m₀ m₂ clauses env seen₀ messages new next
looking_goes_on k l r g g₁ x w f =
    record {
      hand = λ a b c d p.
          let h = f.hand a b c d p in
          let q = chain_first h.left k l r h.left_at in
          record {
            now_seen = q.head ∷ h.now_seen;
            left = q.tail;
            order = h.order
                ∙ (ap (λ z. reverse h.now_seen ++ z) q.is ∙ sym (turn_one q.head h.now_seen q.tail));
            passed = (x.to a q.head_at (environment_kept g.kept b), h.passed);
            seen_at = chain_more w (holds_kept g₁.kept q.head_at) (chain_kept g₁.kept h.seen_at);
            left_at = chain_kept (kept_trans g₁.kept w.kept) q.tail_at;
            count = omega (arith, h.count, w.count, x.spared refl, ap length q.is);
          };
    }

-- no room to choose, or to put a message to those seen
pub look_lacks_choice : {code : List ℕ} {m₀ m m₁ : Store} {clauses env seen₀ messages seen rest first next : Slot}
    → rest.kind ≡ 31
    → first ≡ left_of m.words rest → next ≡ right_of m.words rest → Grows m₀ m
    → ChoiceLacks code m m₁ clauses first env → Looking code m₀ m clauses env seen₀ messages seen rest
    → LookLacks code m₀ clauses env seen₀ messages
look_lacks_choice k l r g x f =
    record {
      short = λ a b c d p.
          let h = f.hand a b c d p in
          let q = chain_first h.left k l r h.left_at in
          omega (arith, h.count, g.long, x.short a q.head_at (environment_kept g.kept b));
    }

pub look_lacks_cell : {code : List ℕ} {m₀ m m₁ : Store} {clauses env seen₀ messages seen rest first next : Slot}
    → rest.kind ≡ 31
    → first ≡ left_of m.words rest → next ≡ right_of m.words rest → Grows m₀ m → Grows m m₁
    → Chooses code m m₁ clauses first env None → length m₁.words < 6 * (m₁.used + 1)
    → Looking code m₀ m clauses env seen₀ messages seen rest → LookLacks code m₀ clauses env seen₀ messages
look_lacks_cell k l r g g₁ x s f =
    record {
      short = λ a b c d p.
          let h = f.hand a b c d p in
          let q = chain_first h.left k l r h.left_at in
          omega (arith, h.count, g.long, g₁.long, ap length q.is, x.spared refl);
    }

-- Taking a message.
pub taken_is : {code : List ℕ} {m m' : Store} {clauses env : Slot} {b : Mailbox} {r o : Taken} → r ≡ o
    → Takes code m m' clauses b env o → Takes code m m' clauses b env r
taken_is {code} {m} {m'} {clauses} {env} {b} q h = subst (λ (o : Taken). Takes code m m' clauses b env o) (sym q) h

-- one in front
pub takes_front : {code : List ℕ} {m m₁ : Store} {clauses env s t : Slot} {b : Mailbox} (o : Maybe Chosen)
    → true ≡ is_some o → Grows m m₁
    → Looks code m m₁ clauses env b.seen b.front (record { chosen = o; seen = s; rest = t })
    → Takes code m m₁ clauses b env
    (record { chosen = o; mailbox = record { seen = s; front = t; back = b.back } })
takes_front None e₁ g k = cc
takes_front (Some z) e₁ g k =
    record {
      to = λ {ns} {sc} {used} {cs} {bs} {mail} a e h p.
          let y = k.to a e h.seen_at h.front_at p in
          let o : mail ≡ reverse y.seen ++ (y.message ∷ (y.rest ++ reverse h.back)) =
          h.order
          ∙ (sym (append_assoc (reverse h.seen) h.front (reverse h.back))
          ∙ (ap (λ z. z ++ reverse h.back) y.order
          ∙ append_assoc (reverse y.seen) (y.message ∷ y.rest) (reverse h.back))) in
          record {
            taken = record { chosen = y.choice; rest = reverse y.seen ++ (y.rest ++ reverse h.back) };
            is = ap (take_first cs bs) o
                ∙ take_found cs bs (reverse y.seen) y.message (y.rest ++ reverse h.back) y.choice
                (passed_reverse cs bs y.seen y.passed) y.is;
            chosen_at = y.chosen_at;
            mail_at = record {
              seen = y.seen;
              front = y.rest;
              back = h.back;
              seen_at = y.seen_at;
              front_at = y.rest_at;
              back_at = chain_kept g.kept h.back_at;
              order = refl;
            };
            count = omega (arith, y.count);
          };
    }

-- none in front
pub none_seen : {code : List ℕ} {m m₁ : Store} {clauses env seen messages s t : Slot} (o : Maybe Chosen)
    → false ≡ is_some o
    → Looks code m m₁ clauses env seen messages (record { chosen = o; seen = s; rest = t })
    → Looks code m m₁ clauses env seen messages (record { chosen = None; seen = s; rest = t })
none_seen None e k = k
none_seen (Some z) e k = cc

-- when the front is used up: all messages so far are seen, and the back, turned round, is next
record BackTurned (ns : List Name) (m m₂ : Store) (cs : Clauses) (bs : List Binding) (mail : List Value) (cells : ℕ)
    (seen front : Slot) : Type 0 where
  now_seen : List Value
  next : List Value
  order : mail ≡ reverse now_seen ++ next
  passed : Passed cs bs now_seen
  seen_at : Chain ns m₂ seen now_seen
  next_at : Chain ns m₂ front next
  count : m₂.used + length next ≡ m.used + cells

back_turned : {ns sc : List Name} {used : ℕ} {cs : Clauses} {bs : List Binding} {mail : List Value} {code : List ℕ}
    {m m₁ m₂ : Store} {clauses env s t f : Slot} {b : Mailbox}
    → Looks code m m₁ clauses env b.seen b.front (record { chosen = None; seen = s; rest = t }) → Grows m m₁
    → Turned 31 m₁ m₂ b.back (no_messages) f → Grows m₁ m₂
    → CodeCs ns sc (store_of code used) clauses cs → Environment ns m env sc bs → (h : Mail ns m b mail)
    → Passed cs bs h.seen
    → BackTurned ns m m₂ cs bs mail (new_cells h) s f
back_turned k g t g' a e h p =
    let y = k.to a e h.seen_at h.front_at p in
    record {
      now_seen = y.seen;
      next = reverse h.back ++ [];
      order = h.order
          ∙ (sym (append_assoc (reverse h.seen) h.front (reverse h.back))
          ∙ (ap (λ z. z ++ reverse h.back) y.order
          ∙ ap (λ z. reverse y.seen ++ z) (sym (append-nil (reverse h.back)))));
      passed = y.passed;
      seen_at = chain_kept g'.kept y.seen_at;
      next_at = turned_chain t (chain_kept g.kept h.back_at) chain_end;
      count = omega (
        arith,
        y.count,
        t.count (chain_kept g.kept h.back_at),
        ap length
            (append-nil (reverse h.back)),
        length-reverse h.back,
      );
    }

-- one in the back, or none at all
pub takes_back : {code : List ℕ} {m m₁ m₂ m₃ : Store} {clauses env s t f s' t' : Slot} {b : Mailbox} (o : Maybe Chosen)
    → Looks code m m₁ clauses env b.seen b.front (record { chosen = None; seen = s; rest = t }) → Grows m m₁
    → Turned 31 m₁ m₂ b.back (no_messages) f → Grows m₁ m₂
    → Looks code m₂ m₃ clauses env s f (record { chosen = o; seen = s'; rest = t' })
    → Takes code m m₃ clauses b env
    (record { chosen = o; mailbox = record { seen = s'; front = t'; back = no_messages } })
takes_back (Some z) k g t g' k' =
    record {
      to = λ {ns} {sc} {used} {cs} {bs} {mail} a e h p.
          let u = back_turned k g t g' a e h p in
          let y = k'.to a (environment_kept (kept_trans g.kept g'.kept) e) u.seen_at u.next_at u.passed in
          record {
            taken = record { chosen = y.choice; rest = reverse y.seen ++ y.rest };
            is = ap (take_first cs bs) (u.order ∙ y.order)
                ∙ take_found cs bs (reverse y.seen) y.message y.rest y.choice
                (passed_reverse cs bs y.seen y.passed) y.is;
            chosen_at = y.chosen_at;
            mail_at = record {
              seen = y.seen;
              front = y.rest;
              back = [];
              seen_at = y.seen_at;
              front_at = y.rest_at;
              back_at = chain_end;
              order = ap (λ z. reverse y.seen ++ z) (sym (append-nil y.rest));
            };
            count = omega (arith, y.count, u.count);
          };
    }
takes_back None k g t g' k' =
    record {
      to = λ {ns} {sc} {used} {cs} {bs} {mail} a e h p.
          let u = back_turned k g t g' a e h p in
          let y = k'.to a (environment_kept (kept_trans g.kept g'.kept) e) u.seen_at u.next_at u.passed in
          let o : mail ≡ reverse y.seen = u.order ∙ y.order in
          record {
            is = ap (take_first cs bs) o ∙ take_none cs bs (reverse y.seen)
                (passed_reverse cs bs y.seen y.passed);
            mail_at = record {
              seen = y.seen;
              front = [];
              back = [];
              seen_at = y.seen_at;
              front_at = y.rest_at;
              back_at = chain_end;
              order = o ∙ sym (append-nil (reverse y.seen));
            };
            all_seen = sym (ap reverse o ∙ reverse-reverse y.seen);
            passed = y.passed;
            count = omega (arith, y.count, u.count);
          };
    }

-- no room in front, to turn the back round, or in the back
pub take_lacks_front : {code : List ℕ} {m : Store} {clauses env : Slot} {b : Mailbox}
    → LookLacks code m clauses env b.seen b.front
    → TakeLacks code m clauses b env
take_lacks_front k = record { short = λ a e h p. omega (arith, k.short a e h.seen_at h.front_at p) }

pub take_lacks_turn : {code : List ℕ} {m m₁ : Store} {clauses env s t : Slot} {b : Mailbox}
    → Looks code m m₁ clauses env b.seen b.front (record { chosen = None; seen = s; rest = t }) → Grows m m₁
    → TurnLacks m₁ b.back
    → TakeLacks code m clauses b env
take_lacks_turn k g l =
    record {
      short = λ a e h p. omega
          (arith, g.long, (k.to a e h.seen_at h.front_at p).count, l.short (chain_kept g.kept h.back_at));
    }

pub take_lacks_back : {code : List ℕ} {m m₁ m₂ : Store} {clauses env s t f : Slot} {b : Mailbox}
    → Looks code m m₁ clauses env b.seen b.front (record { chosen = None; seen = s; rest = t }) → Grows m m₁
    → Turned 31 m₁ m₂ b.back (no_messages) f → Grows m₁ m₂
    → LookLacks code m₂ clauses env s f → TakeLacks code m clauses b env
take_lacks_back k g t g' k' =
    record {
      short = λ a e h p.
          let u = back_turned k g t g' a e h p in
          omega (
            arith,
            g.long,
            g'.long,
            u.count,
            k'.short a (environment_kept (kept_trans g.kept g'.kept) e) u.seen_at u.next_at
                u.passed,
          );
    }
