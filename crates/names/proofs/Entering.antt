-- Entering names. A new name is written behind the spans of the others and goes to the head of its bucket; no other
-- bucket changes. So the words hold the table with the name at its end, token by token, until all words are in it.
use Rattle.std.proofs.Common.{◌≡◌, ℕ, zero, suc, ◌+◌, ◌-◌, ◌<◌, ◌≤◌, true, false, cond, eqb, ltb, ◌⊎◌, List, [], ◌∷◌, ◌++◌, length, get_or, take, drop, Some, None, Option, is_some, MutBor, sym, refl, ap, ◌∙◌, subst, inl, inr, append_assoc, add-zero, zero-add, add-one, arith}
use Rattle.std.proofs.lemmas.List.{length-append, length-take-le, take_more, take_all, take_at, drop_at}
use Rattle.std.proofs.lemmas.Bool.{false≢true, cases_Bool, cond-true, cond-false, eqb-true, eqb-false, lt-ltb, le-ltb}
use Rattle.meaning.specs.Basics.{Name}
use Rattle.meaning.specs.Grammar.{is_atom}
use Rattle.meaning.specs.Tokens.{gap, tokens}
use Rattle.meaning.proofs.Splits.{T_of, same_is, same_refl}
use Rattle.store.specs.Heap.{Store, stored, Den, Put}
use Rattle.store.specs.Slots.{slot_at, place_of, Wrote}
use Rattle.store.specs.declared.slot.Slot.{Slot}
use Rattle.store.proofs.Laws.{leaf_stands, keeps}
use Rattle.tokens.specs.Cutting.{First, spelling}
use Rattle.tokens.specs.declared.token.Lexeme.{Lexeme}
use Rattle.values.specs.Encoding.{Known}
use Rattle.values.specs.declared.value.Atom.{Atom}
use Rattle.names.specs.Names.{own_atoms, with_word, with_words, names_of, Distinct}
use Rattle.names.specs.Buckets.{hash_of, bucket_from, bucket, atoms}
use Rattle.names.specs.Table.{spelled, table, Chained, Table, Numbered, Finds}
use Rattle.names.specs.Collect.{Lacking, SameWords, Stays, Holds, Entered, WordEntered, WordLacks, WordsLack, Collected}
use Rattle.names.specs.declared.collect.Collector.{Collector}
use Rattle.store.proofs.Growth.{grows_on}
use Rattle.names.proofs.Naming.{distinct_push, own_distinct, own-length, added, grown_words}
use Rattle.names.proofs.Spelling.{length-table}

pub table_long : {text spans : List ℕ} {count : ℕ} {buckets : List ℕ} {m : Store} {ns : List Name}
    → Table text spans count buckets m ns
    → length ns ≡ count
table_long {text} {spans} {count} t = sym (ap length t.names) ∙ length-table text spans count

-- more names and cells lack room all the more, in words that are as long
pub lacking_more : (spans spans' buckets buckets' words words' : List ℕ) (names cells names' cells' : ℕ)
    → length spans' ≡ length spans
    → length buckets' ≡ length buckets → length words' ≡ length words → names ≤ names' → cells ≤ cells'
    → Lacking spans' buckets' words' names cells → Lacking spans buckets words names' cells'
lacking_more spans spans' buckets buckets' words words' names cells names' cells' p q r g h (inl s) = inl (omega
    (arith, s, g, p))
lacking_more spans spans' buckets buckets' words words' names cells names' cells' p q r g h (inr (inl b)) = inr (inl
    (omega (arith, b, q)))
lacking_more spans spans' buckets buckets' words words' names cells names' cells' p q r g h (inr (inr (inl w))) =
    inr (inr (inl (omega (arith, w, h, r))))
lacking_more spans spans' buckets buckets' words words' names cells names' cells' p q r g h (inr (inr (inr n))) =
    inr (inr (inr (omega (arith, n, g))))

same_trans : {b₀ b₁ b₂ : MutBor (List ℕ)} → SameWords b₀ b₁ → SameWords b₁ b₂ → SameWords b₀ b₂
same_trans g h = record { lent = h.lent ∙ g.lent; long = h.long ∙ g.long }

pub stays_trans : {c₀ c₁ c₂ : Collector} → Stays c₀ c₁ → Stays c₁ c₂ → Stays c₀ c₂
stays_trans g h =
    record {
      text = h.text ∙ g.text;
      spans = same_trans g.spans h.spans;
      buckets = same_trans g.buckets h.buckets;
      heap = h.heap ∙ g.heap;
      grows = grows_on g.grows h.grows;
    }

-- the names of spans that are written behind them stay
pub table_kept : (text spans spans' : List ℕ) (count : ℕ) → ((i : ℕ) → i < count → slot_at spans' i ≡ slot_at spans i)
    → table text spans' count ≡ table text spans count
table_kept text spans spans' zero h = refl
table_kept text spans spans' (suc n) h =
    ap (λ l. l ++ (spelled text n (slot_at spans' n) ∷ [])) (table_kept text spans spans' n (λ i l. h i (omega
    (arith, l))))
    ∙ ap (λ s. table text spans n ++ (spelled text n s ∷ [])) (h n (omega arith))

pub table_more : (text spans spans' : List ℕ) (count : ℕ) (span : Slot) → Wrote spans spans' count span
    → table text spans' (count + 1) ≡ table text spans count ++ (spelled text count span ∷ [])
table_more text spans spans' count span w =
    ap (table text spans') (add-one count)
    ∙ (ap (λ l. l ++ (spelled text count (slot_at spans' count) ∷ [])) (table_kept text spans spans' count
    (λ i l. w.other i (λ e. omega (arith, e, l))))
    ∙ ap (λ s. table text spans count ++ (spelled text count s ∷ [])) w.here)

-- a name more at the end is a number more at the head of its bucket
pub bucket_push : (b i : ℕ) (xs : List Name) (y : Name) (there : List ℕ)
    → bucket_from b i (xs ++ (y ∷ [])) there
    ≡ cond (eqb (hash_of y) b) ((i + length xs) ∷ bucket_from b i xs there) (bucket_from b i xs there)
bucket_push b i [] y there = ap (λ j. cond (eqb (hash_of y) b) (j ∷ there) there) (sym (add-zero i))
bucket_push b i (x ∷ xs) y there =
    let rest = bucket_from b (suc i) xs (cond (eqb (hash_of x) b) (i ∷ there) there) in
    let number : suc i + length xs ≡ i + length (x ∷ xs) = omega arith in
    bucket_push b (suc i) xs y (cond (eqb (hash_of x) b) (i ∷ there) there)
    ∙ ap (λ j. cond (eqb (hash_of y) b) (j ∷ rest) rest) number

module _ {spans spans' : List ℕ} {count : ℕ} {buckets buckets' : List ℕ} {m m' : Store} {span : Slot} (w : Name)
    (b : ℕ) (head node : Slot) (hash : b ≡ hash_of w) (below : b < 1024) (head_is : head ≡ slot_at buckets b)
    (written : Wrote spans spans' count span)
    (put : Put m m' 16 (record { kind = 1; low = count; high = 0 }) head node)
    (hung : Wrote buckets buckets' b node) where
  chained_more : (ns : List Name) → length ns ≡ count → Chained buckets m ns → Chained buckets' m' (ns ++ (w ∷ []))
  chained_more ns long c = record { chain = λ k h. way k h (cases_Bool (eqb (hash_of w) k)) }
    where
      here : Den m' node (atoms (count ∷ bucket b ns))
      here = put.stands (omega arith) (leaf_stands 1 count 0 (omega arith))
          (subst (λ (q : Slot). Den m q (atoms (bucket b ns))) (sym head_is) (c.chain b below))

      number : 0 + length ns ≡ count
      number = zero-add (length ns) ∙ long

      way : (k : ℕ) → k < 1024 → (eqb (hash_of w) k ≡ true) ⊎ (eqb (hash_of w) k ≡ false)
          → Den m' (slot_at buckets' k) (atoms (bucket k (ns ++ (w ∷ []))))
      way k h (inl e) =
          let is : b ≡ k = hash ∙ eqb-true (hash_of w) k e in
          let longer : count ∷ bucket k ns ≡ bucket k (ns ++ (w ∷ [])) =
          ap (λ j. j ∷ bucket k ns) (sym number) ∙ sym (bucket_push k 0 ns w [] ∙ cond-true (eqb (hash_of w) k) _ _ e) in
          subst (λ is'. Den m' (slot_at buckets' k) (atoms is')) longer
          (subst (λ j. Den m' (slot_at buckets' j) (atoms (count ∷ bucket j ns))) is
          (subst (λ (q : Slot). Den m' q (atoms (count ∷ bucket b ns))) (sym hung.here) here))
      way k h (inr e) =
          let other : slot_at buckets' k ≡ slot_at buckets k = hung.other k (λ p. eqb-false (hash_of w) k e (sym (p
          ∙ hash))) in
          subst (λ is'. Den m' (slot_at buckets' k) (atoms is')) (sym (bucket_push k 0 ns w [] ∙ cond-false (eqb
          (hash_of w) k) _ _ e))
          (subst (λ (q : Slot). Den m' q (atoms (bucket k ns))) (sym other) (keeps put.kept (c.chain k h)))

  pub table_pushed : {text : List ℕ} {ns : List Name} → Table text spans count buckets m ns
      → spelled text count span ≡ w → (Known ns w → ⊥) → Table text spans' (count + 1) buckets' m' (ns ++ (w ∷ []))
  table_pushed {text} {ns} t spells new =
      record {
        names = table_more text spans spans' count span written
            ∙ (ap (λ l. l ++ (spelled text count span ∷ [])) t.names ∙ ap (λ x. ns ++ (x ∷ [])) spells);
        distinct = distinct_push ns w t.distinct new;
        chained = chained_more ns (table_long t) t.chained;
      }

-- the atoms of the language, one by one
known_at : (xs : List Name) (i : ℕ) → i < length xs → Known xs (get_or xs i [])
known_at [] i h = absurd (omega (arith, h))
known_at (x ∷ xs) zero h = inl (same_refl x)
known_at (x ∷ xs) (suc i) h = inr (known_at xs i (omega (arith, h)))

distinct_at : (xs : List Name) (i : ℕ) → i < length xs → Distinct xs → Known (take i xs) (get_or xs i []) → ⊥
distinct_at [] i h d k = absurd (omega (arith, h))
distinct_at (x ∷ xs) zero h d k = k
distinct_at (x ∷ xs) (suc i) h d (inl e) =
    d.0 (subst (Known xs) (sym (same_is x (get_or xs i []) (T_of e))) (known_at xs i (omega (arith, h))))
distinct_at (x ∷ xs) (suc i) h d (inr k) = distinct_at xs i (omega (arith, h)) d.1 k

pub own_more : {c c' : Collector} {i : ℕ} {span : Slot} {w : Name} → i < 16 → c.count ≡ i
    → w ≡ get_or own_atoms i [] → Entered c c' span w → Holds c (take i own_atoms) → Holds c' (take (i + 1) own_atoms)
own_more {c} {c'} {i} {span} {w} below at is e t =
    let within : i < length own_atoms = omega (arith, below, own-length) in
    let own : ltb c.count 16 ≡ true = lt-ltb c.count 16 (omega (arith, below, at)) in
    let spells : spelled c.text.now c.count span ≡ w =
    cond-true (ltb c.count 16) (get_or own_atoms c.count []) _ own ∙ (ap (λ k. get_or own_atoms k []) at ∙ sym is) in
    let longer : take i own_atoms ++ (w ∷ []) ≡ take (i + 1) own_atoms =
    ap (λ x. take i own_atoms ++ (x ∷ [])) is ∙ sym (take_more own_atoms i [] within) in
    subst (λ l. Holds c' l) longer
    (e.stands t spells (λ k. distinct_at own_atoms i within own_distinct (subst (Known (take i own_atoms)) is k)))

pub own_ends : (c : Collector) (i : ℕ) → i ≡ 16 → Holds c (take i own_atoms) → Holds c own_atoms
own_ends c i is t = subst (λ l. Holds c l) (take_all i own_atoms (omega (arith, own-length))) t

-- a word that leaves the names as they are
pub word_left : {c : Collector} {from : ℕ} {w : Name} → ((ns : List Name) → Holds c ns → with_word ns w ≡ ns)
    → WordEntered c c from w
word_left {c} left =
    record { stands = λ {ns} big here t. subst (λ l. Holds c l) (sym (left ns t)) t; used = refl; more = omega arith }

pub found_known : (ns : List Name) (w : Name) (r : Option Atom) → true ≡ is_some r → Numbered ns w r → Known ns w
found_known ns w None e k = absurd (false≢true (sym e))
found_known ns w (Some a) e k = k.0

found_new : (ns : List Name) (w : Name) (r : Option Atom) → false ≡ is_some r → Numbered ns w r → Known ns w → ⊥
found_new ns w None e k = k
found_new ns w (Some a) e k = absurd (false≢true e)

-- a word that is new
module _ (c : Collector) {w : Name} {r : Option Atom} (atom : is_atom w ≡ true)
    (found : Finds c.text.now c.spans.now c.count c.buckets.now (stored c.heap.now) w r) (none : false ≡ is_some r) where
  new_word : {ns : List Name} → Holds c ns → Known ns w → ⊥
  new_word {ns} t = found_new ns w r none (found.number t)

  pub word_added : {ns : List Name} → Holds c ns → with_word ns w ≡ ns ++ (w ∷ [])
  word_added {ns} t = (added ns w atom (new_word t)).is

  pub word_entered : {c' : Collector} {span : Slot} {from : ℕ} → span.kind ≡ length w → place_of span ≡ from
      → Entered c c' span w → WordEntered c c' from w
  word_entered {c'} {span} {from} long place e =
      record {
        stands = λ {ns} big here t.
            let spells : spelled c.text.now c.count span ≡ w =
            cond-false (ltb c.count 16) (get_or own_atoms c.count []) _ (le-ltb c.count 16 big)
            ∙ (ap (λ n. take n (drop (place_of span) c.text.now)) long ∙ (ap (λ n. take (length w)
            (drop n c.text.now)) place
            ∙ here)) in
            subst (λ l. Holds c' l) (sym (word_added t)) (e.stands t spells (new_word t));
        used = omega (arith, e.used, e.count);
        more = omega (arith, e.count);
      }

-- the text that is still to be read is the end of the text
pub record Behind (text rest : List ℕ) : Type 0 where
  pub front : List ℕ
  pub is : text ≡ front ++ rest

-- the words hold the names so far, and the tokens that are still to come make them all names of the text
pub record Entering (c : Collector) (rest : List ℕ) : Type 0 where
  pub names : List Name
  pub stands : Holds c names
  pub ends : with_words names (tokens gap rest) ≡ names_of c.text.now

module _ {text rest : List ℕ} (l : Lexeme) (b : Behind text rest) (first : First rest l) where
  before : List ℕ
  before = b.front ++ take l.skipped rest

  split : text ≡ before ++ (spelling l.token ++ l.rest.now)
  unfolding before
  split = b.is ∙ (ap (λ r. b.front ++ r) first.place ∙ sym (append_assoc b.front (take l.skipped rest)
      (spelling l.token ++ l.rest.now)))

  before_long : length before ≡ length text - length rest + l.skipped
  unfolding before
  before_long = omega (
    arith,
    length-append b.front (take l.skipped rest),
    length-take-le l.skipped rest (omega (arith, first.within)),
    ap length b.is,
    length-append b.front rest,
  )

  pub behind_more : Behind text l.rest.now
  behind_more =
      record {
        front = before ++ spelling l.token;
        is = split ∙ sym (append_assoc before (spelling l.token) l.rest.now);
      }

  pub token_here : take (length (spelling l.token)) (drop
      (length text - length rest + l.skipped) text) ≡ spelling l.token
  token_here =
      ap (λ t. take (length (spelling l.token)) (drop (length text - length rest + l.skipped) t)) split
      ∙ (ap (take (length (spelling l.token))) (drop_at before (spelling l.token ++ l.rest.now) _ before_long)
      ∙ take_at (spelling l.token) l.rest.now (length (spelling l.token)) refl)

  pub entering_more : {c c' : Collector} → c.text.now ≡ text → c'.text.now ≡ text → 16 ≤ c.count
      → WordEntered c c' (length text - length rest + l.skipped) (spelling l.token)
      → Entering c rest → Entering c' l.rest.now
  entering_more {c} {c'} is is' big e g =
      record {
        names = with_word g.names (spelling l.token);
        stands = e.stands big (ap (λ t. take (length (spelling l.token)) (drop
            (length text - length rest + l.skipped) t)) is ∙ token_here) g.stands;
        ends = sym (ap (with_words g.names) first.cut) ∙ (g.ends ∙ ap names_of (is ∙ sym is'));
      }

  -- a word for which there is no room is a name of the text
  pub entering_lacks : {c : Collector} → WordLacks c (spelling l.token) → Entering c rest
      → c.count + 1 ≤ length (names_of c.text.now)
  entering_lacks {c} lacks g =
      let all : with_words (with_word g.names (spelling l.token)) (tokens gap l.rest.now) ≡ names_of c.text.now =
      sym (ap (with_words g.names) first.cut) ∙ g.ends in
      let grown = grown_words (with_word g.names (spelling l.token)) (tokens gap l.rest.now) in
      omega (
        arith,
        ap length all,
        ap length grown.is,
        length-append (with_word g.names (spelling l.token)) grown.more,
        ap length (lacks.new g.stands),
        length-append g.names (spelling l.token ∷ []),
        table_long g.stands,
      )

  -- so there is no room for them all
  pub words_lack : {c₀ c : Collector} → Stays c₀ c → c.heap.now.used + c₀.count ≡ c₀.heap.now.used + c.count
      → (Holds c₀ own_atoms → Entering c rest) → WordLacks c (spelling l.token) → WordsLack c₀
  words_lack {c₀} {c} stays used entering lacks =
      record {
        short = λ start t begun.
            let more = rw stays.text at (entering_lacks lacks (entering t)) in
            lacking_more c₀.spans.now c.spans.now c₀.buckets.now c.buckets.now c₀.heap.now.words.now
            c.heap.now.words.now (c.count + 1) (c.heap.now.used + 1) (length (names_of c₀.text.now))
            (start + length (names_of c₀.text.now)) stays.spans.long stays.buckets.long stays.grows.long more
            (omega (arith, more, used, begun, table_long t, own-length)) lacks.short;
      }

-- the table that the collector's words hold is that of the words that were lent
pub collected : (c : Collector) {text spans buckets : List ℕ} {m m' : Store} → c.text.now ≡ text → spans ≡ c.spans.now
    → buckets ≡ c.buckets.now → m' ≡ stored c.heap.now → c.heap.now.used ≡ m.used + c.count → Holds c (names_of text)
    → Collected text spans c.count buckets m m'
collected c {text} {spans} {buckets} {m} {m'} is s b h used t =
    record {
      count_is = sym (table_long t);
      stands = rw (s, b, h) (subst (λ x. Table x c.spans.now c.count c.buckets.now (stored c.heap.now)
          (names_of text)) is t);
      used = ap (λ (n : Store). n.used) h ∙ used;
    }
