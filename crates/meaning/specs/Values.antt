-- Values, when two are the same, what a pattern matches, a value's text, and whole numbers of 64 bits.
use Rattle.std.specs.Prelude.{Bool, true, false, ◌&&◌, cond, List, [], ◌∷◌, ◌++◌, ℕ, zero, suc, ◌+◌, ◌/◌, ◌%◌, ◌^◌, ℤ, pos, negsuc, neg_ℤ, ◌-ℤ◌, ◌*ℤ◌, eqb, ltb}
use Rattle.std.proofs.Math.Option.{Option, some, none}
use Rattle.meaning.specs.Basics.{opt, on_some, Name, same}
use Rattle.meaning.specs.Syntax.{Pattern, p_any, p_var, p_int, p_atom, p_tuple, p_nil, p_cons, Patterns, no_p, and_p}

mutual
  pub data Value : Type 0 where
    v_int : ℤ → Value
    v_atom : Name → Value
    v_tuple : Values → Value
    v_nil : Value
    v_cons : Value → Value → Value
    -- a worker, by its number
    v_pid : ℕ → Value

  pub data Values : Type 0 where
    no_v : Values
    and_v : Value → Values → Values

-- a value as one of its kind, if it is one
abbrev pub as_int : Value → Option ℤ
as_int (v_int n) = some n
as_int (v_atom x) = none
as_int (v_tuple vs) = none
as_int v_nil = none
as_int (v_cons a b) = none
as_int (v_pid n) = none

abbrev pub as_atom : Value → Option Name
as_atom (v_int n) = none
as_atom (v_atom x) = some x
as_atom (v_tuple vs) = none
as_atom v_nil = none
as_atom (v_cons a b) = none
as_atom (v_pid n) = none

abbrev pub as_tuple : Value → Option Values
as_tuple (v_int n) = none
as_tuple (v_atom x) = none
as_tuple (v_tuple vs) = some vs
as_tuple v_nil = none
as_tuple (v_cons a b) = none
as_tuple (v_pid n) = none

abbrev pub is_nil : Value → Bool
is_nil (v_int n) = false
is_nil (v_atom x) = false
is_nil (v_tuple vs) = false
is_nil v_nil = true
is_nil (v_cons a b) = false
is_nil (v_pid n) = false

-- a first value and the rest: of a pair, or of a tuple
pub record HeadTail : Type 0 where
  pub head : Value
  pub tail : Value

abbrev pub as_cons : Value → Option HeadTail
as_cons (v_int n) = none
as_cons (v_atom x) = none
as_cons (v_tuple vs) = none
as_cons v_nil = none
as_cons (v_cons a b) = some (record { head = a; tail = b })
as_cons (v_pid n) = none

abbrev pub as_pid : Value → Option ℕ
as_pid (v_int n) = none
as_pid (v_atom x) = none
as_pid (v_tuple vs) = none
as_pid v_nil = none
as_pid (v_cons a b) = none
as_pid (v_pid n) = some n

abbrev pub first_of : Values → Option HeadTail
first_of no_v = none
first_of (and_v v vs) = some (record { head = v; tail = v_tuple vs })

abbrev pub same_int : ℤ → ℤ → Bool
same_int (pos m) (pos n) = eqb m n
same_int (pos m) (negsuc n) = false
same_int (negsuc m) (pos n) = false
same_int (negsuc m) (negsuc n) = eqb m n

abbrev pub less_int : ℤ → ℤ → Bool
less_int (pos m) (pos n) = ltb m n
less_int (pos m) (negsuc n) = false
less_int (negsuc m) (pos n) = true
less_int (negsuc m) (negsuc n) = ltb n m

-- is there something, and is it as x
abbrev pub same_some : {A : Type 0} → (A → A → Bool) → A → Option A → Bool
same_some f x none = false
same_some f x (some y) = f x y

-- values are compared as wholes
abbrev mutual
  pub same_v : Value → Value → Bool
  same_v (v_int m) w = same_some same_int m (as_int w)
  same_v (v_atom x) w = same_some same x (as_atom w)
  same_v (v_tuple vs) w = opt (as_tuple w) false (λ ws. same_vs vs ws)
  same_v v_nil w = is_nil w
  same_v (v_cons a b) w = opt (as_cons w) false (λ t. same_v a t.head && same_v b t.tail)
  same_v (v_pid m) w = same_some eqb m (as_pid w)

  pub same_vs : Values → Values → Bool
  same_vs no_v ws = opt (first_of ws) true (λ t. false)
  same_vs (and_v v vs) ws = opt (first_of ws) false
      (λ t. same_v v t.head && opt (as_tuple t.tail) false (λ us. same_vs vs us))

abbrev pub tuple : List Value → Values
tuple [] = no_v
tuple (v ∷ vs) = and_v v (tuple vs)

-- what names are bound to: the newest first, so that the last of two alike counts
pub record Binding : Type 0 where
  pub name : Name
  pub value : Value

abbrev pub look_up : List Binding → Name → Option Value
look_up [] x = none
look_up (b ∷ bs) x = cond (same b.name x) (some b.value) (look_up bs x)

-- a pattern on a value: what it binds, before what was bound; nothing where it does not match
abbrev mutual
  pub match : Pattern → Value → List Binding → Option (List Binding)
  match p_any v bs = some bs
  match (p_var x) v bs = some (record { name = x; value = v } ∷ bs)
  match (p_int n) v bs = cond (same_some same_int (pos n) (as_int v)) (some bs) none
  match (p_atom x) v bs = cond (same_some same x (as_atom v)) (some bs) none
  match (p_tuple ps) v bs = on_some (as_tuple v) (λ vs. matches ps vs bs)
  match p_nil v bs = cond (is_nil v) (some bs) none
  match (p_cons a b) v bs = on_some (as_cons v) (λ t. on_some (match a t.head bs) (λ cs. match b t.tail cs))

  pub matches : Patterns → Values → List Binding → Option (List Binding)
  matches no_p vs bs = opt (first_of vs) (some bs) (λ t. none)
  matches (and_p p ps) vs bs = on_some (first_of vs)
      (λ t. on_some (match p t.head bs) (λ cs. on_some (as_tuple t.tail) (λ us. matches ps us cs)))

-- the text of a value: digits; atoms as they are; tuples {a,b,}; lists [a|[b|[]]]; workers <3>
abbrev pub digits : ℕ → ℕ → List ℕ → List ℕ
digits zero n ds = ds
digits (suc d) n ds = let more = digits d (n / 10) ((48 + n % 10) ∷ ds) in cond (ltb n 10) ((48 + n % 10) ∷ ds) more

abbrev pub decimal : ℤ → List ℕ
decimal (pos n) = digits (suc n) n []
decimal (negsuc n) = 45 ∷ digits (suc (suc n)) (suc n) []

abbrev mutual
  pub text_v : Value → List ℕ
  text_v (v_int n) = decimal n
  text_v (v_atom x) = x
  text_v (v_tuple vs) = 123 ∷ (text_vs vs ++ (125 ∷ []))
  text_v v_nil = 91 ∷ 93 ∷ []
  text_v (v_cons a b) = 91 ∷ (text_v a ++ (124 ∷ (text_v b ++ (93 ∷ []))))
  text_v (v_pid n) = 60 ∷ (decimal (pos n) ++ (62 ∷ []))

  pub text_vs : Values → List ℕ
  text_vs no_v = []
  text_vs (and_v v vs) = text_v v ++ (44 ∷ text_vs vs)

-- whole numbers of 64 bits with a sign; quotients round down, and remainders have the divisor's sign
abbrev pub fits : ℤ → Bool
fits (pos n) = ltb n (2 ^ 63)
fits (negsuc n) = ltb n (2 ^ 63)

abbrev pub quotient : ℤ → ℤ → ℤ
quotient (pos a) (pos b) = pos (a / b)
quotient (negsuc a) (pos b) = neg_ℤ (pos ((a + b) / b))
quotient (pos a) (negsuc b) = neg_ℤ (pos ((a + b) / suc b))
quotient (negsuc a) (negsuc b) = pos (suc a / suc b)

abbrev pub remainder : ℤ → ℤ → ℤ
remainder a b = a -ℤ (b *ℤ quotient a b)

abbrev pub is_zero : ℤ → Bool
is_zero (pos n) = eqb n 0
is_zero (negsuc n) = false
