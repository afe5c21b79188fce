-- What the machine does with patterns keeps to the grammar, as with expressions.
use mathlib.Core.Path.{◌≡◌, refl, sym, ap, subst, ◌∙◌}
use mathlib.Core.List.{List, [], ◌∷◌, ◌++◌, append_assoc, append-nil}
use mathlib.Core.Option.{Option}
use Prim.Native.Nat.{ℕ}
use lib.Dec.{T}
use Rattle.meaning.specs.Basics.{Name}
use Rattle.meaning.specs.Syntax.{Pattern, p_cons, no_p, and_p, Operation, Clauses, no_c}
use Rattle.meaning.specs.Grammar.{close_brace, comma, equals, arrow, double_colon, is_name, PatternAt, cons_x}
use Rattle.meaning.specs.Grammar.{plain_x, any_x, var_x, int_x, tuple_x, brackets_x, no_x, one_x, case_e, ClausesOf}
use Rattle.meaning.specs.Grammar.{no_cs}
use Rattle.grammar.specs.Classes.{Bracket, paren, brace, closing, s_quote, s_bracket, s_underscore, s_case, s_receive}
use Rattle.grammar.specs.Classes.{s_catch, s_spawn, s_comma, s_semicolon, s_equals, s_arrow, Class, c_number, c_name}
use Rattle.grammar.specs.Classes.{c_operator, c_open, c_close, c_builtin, c_start, c_separate, c_other}
use Rattle.grammar.specs.Patterns.{close_clauses, reduce_pattern, close_pattern, next_pattern, bind_pattern}
use Rattle.grammar.specs.Patterns.{begin_arm, close_without, is_pair, start_pattern, after_pattern}
use Rattle.grammar.specs.Stack.{clauses_of, Owner, ExprStack, PatternStack, State}
use Rattle.grammar.proofs.Classes.{Joins, comparison, pairing, sum, product, Tells}
use Rattle.grammar.proofs.Elements.{made_none, made_more, element, patterns_made, clauses_made}
use Rattle.grammar.proofs.Made.{OwnerMade, made_of_case, made_of_receive, ExprStackMade, made_binding}
use Rattle.grammar.proofs.Made.{PatternStackMade, made_cons, made_group, made_tuple, made_before_equals}
use Rattle.grammar.proofs.Made.{made_before_arrow, StateMade, at_want_expr, at_after_clauses, at_have_expr}
use Rattle.grammar.proofs.Made.{at_want_pattern, at_after_pattern_quote, at_after_pattern_bracket, at_have_pattern}
use Rattle.grammar.proofs.Made.{at_after_arrow, Goes, when_goes, behind, reshape}

-- :: puts the patterns that wait and the last one together
pub reduce_pattern_sound :
    {k : PatternStack} {u : List Name} → PatternStackMade k u → (p : Pattern) (s v : List Name) →
    PatternAt 0 s p → v ≡ u ++ s →
    (f : Pattern → PatternStack → Option State) (r : List Name) →
    ((k : PatternStack) (u s : List Name) (p : Pattern) → PatternStackMade k u → PatternAt 0 s p → v ≡ u ++ s →
    Goes (f p k) r) →
    Goes (reduce_pattern p k f) r
reduce_pattern_sound (made_cons {p = a} {s = x} st g q) p s v d is f r h =
    reduce_pattern_sound st (p_cons a p) (x ++ (double_colon ∷ s)) v (cons_x g d)
    (is ∙ behind q s ∙ simp append_assoc) f r h
reduce_pattern_sound (made_group st q) p s v d is f r h = h _ _ s p (made_group st q) d is
reduce_pattern_sound (made_tuple st a q) p s v d is f r h = h _ _ s p (made_tuple st a q) d is
reduce_pattern_sound (made_before_equals st a q) p s v d is f r h = h _ _ s p (made_before_equals st a q) d is
reduce_pattern_sound (made_before_arrow st o a q) p s v d is f r h = h _ _ s p (made_before_arrow st o a q) d is

-- what follows a whole pattern: a closing bracket, a comma, =, ->
pub close_pattern_sound :
    {k : PatternStack} {u : List Name} → PatternStackMade k u → (b : Bracket) (p : Pattern) (s v : List Name) →
    PatternAt 0 s p → v ≡ u ++ (s ++ (closing b ∷ [])) → Goes (close_pattern b p k) v
close_pattern_sound (made_cons st g q) b p s v d is = tt
close_pattern_sound (made_group st q) paren p s v d is =
    at_have_pattern st (brackets_x d) (is ∙ behind q _ ∙ simp append_assoc)
close_pattern_sound (made_group st q) brace p s v d is = tt
close_pattern_sound (made_tuple st a q) paren p s v d is = tt
close_pattern_sound (made_tuple st a q) brace p s v d is =
    at_have_pattern st (tuple_x (patterns_made a s (and_p p no_p) tt (one_x d))) (is ∙ behind q _ ∙ simp append_assoc)
close_pattern_sound (made_before_equals st a q) b p s v d is = tt
close_pattern_sound (made_before_arrow st h a q) b p s v d is = tt

pub next_pattern_sound :
    {k : PatternStack} {u : List Name} → PatternStackMade k u → (p : Pattern) (s v : List Name) → PatternAt 0 s p →
    v ≡ u ++ (s ++ (comma ∷ [])) → Goes (next_pattern p k) v
next_pattern_sound (made_cons st g q) p s v d is = tt
next_pattern_sound (made_group st q) p s v d is = tt
next_pattern_sound (made_tuple st a q) p s v d is =
    at_want_pattern (made_tuple st (made_more a (element d refl) refl) (is ∙ behind q _ ∙ simp append_assoc))
next_pattern_sound (made_before_equals st a q) p s v d is = tt
next_pattern_sound (made_before_arrow st h a q) p s v d is = tt

pub bind_pattern_sound :
    {k : PatternStack} {u : List Name} → PatternStackMade k u → (p : Pattern) (s v : List Name) → PatternAt 0 s p →
    v ≡ u ++ (s ++ (equals ∷ [])) → Goes (bind_pattern p k) v
bind_pattern_sound (made_cons st g q) p s v d is = tt
bind_pattern_sound (made_group st q) p s v d is = tt
bind_pattern_sound (made_tuple st a q) p s v d is = tt
bind_pattern_sound (made_before_equals st a q) p s v d is =
    at_want_expr (made_binding st a d (is ∙ behind q _ ∙ simp append_assoc))
bind_pattern_sound (made_before_arrow st h a q) p s v d is = tt

pub begin_arm_sound :
    {k : PatternStack} {u : List Name} → PatternStackMade k u → (p : Pattern) (s v : List Name) → PatternAt 0 s p →
    v ≡ u ++ (s ++ (arrow ∷ [])) → Goes (begin_arm p k) v
begin_arm_sound (made_cons st g q) p s v d is = tt
begin_arm_sound (made_group st q) p s v d is = tt
begin_arm_sound (made_tuple st a q) p s v d is = tt
begin_arm_sound (made_before_equals st a q) p s v d is = tt
begin_arm_sound (made_before_arrow st h a q) p s v d is =
    at_after_arrow st h a d (is ∙ behind q _ ∙ simp append_assoc)

-- clauses are read to their }
pub close_clauses_sound :
    {k : ExprStack} {u : List Name} → ExprStackMade k u → {h : Owner} {o : List Name} → OwnerMade h o →
    (s v : List Name) (cs : Clauses) → ClausesOf s cs → v ≡ u ++ (o ++ (s ++ (close_brace ∷ []))) →
    StateMade (close_clauses h cs k) v
close_clauses_sound {u = u} st (made_of_case d q) s v cs c is =
    at_have_expr st (case_e d c) (is ∙ ap (λ z. u ++ z) (behind q _ ∙ simp append_assoc))
close_clauses_sound st made_of_receive s v cs c is = at_after_clauses st c is

pub close_without-sound :
    {k : PatternStack} {u : List Name} → PatternStackMade k u → (b : Bracket) (v : List Name) →
    v ≡ u ++ (closing b ∷ []) → Goes (close_without b k) v
close_without-sound (made_cons st g q) b v is = tt
close_without-sound (made_group st q) b v is = tt
close_without-sound (made_tuple st made_none q) paren v is = tt
close_without-sound (made_tuple st made_none q) brace v is =
    at_have_pattern st (tuple_x no_x) (is ∙ behind q _ ∙ simp append_assoc)
close_without-sound (made_tuple st (made_more a d p) q) b v is = tt
close_without-sound (made_before_equals st a q) b v is = tt
close_without-sound (made_before_arrow st h a q) paren v is = tt
close_without-sound (made_before_arrow {acc = acc} {s = x} st h a q) brace v is =
    close_clauses_sound st h x v (clauses_of acc no_c)
    (subst (λ z. ClausesOf z (clauses_of acc no_c)) (append-nil x) (clauses_made a [] no_c no_cs))
    (is ∙ behind q _ ∙ simp append_assoc)

-- a token where a pattern may begin, by its class
pub start_pattern_sound :
    {k : PatternStack} {u : List Name} → PatternStackMade k u → (w : Name) (c : Class) → Tells w c →
    Goes (start_pattern k c) (u ++ (w ∷ []))
start_pattern_sound {u = u} st w (c_number n) q = at_have_pattern st (int_x q) refl
start_pattern_sound {u = u} st w (c_name x) q =
    at_have_pattern st (var_x (subst (λ z. T (is_name z)) (sym q.0) q.1)) (ap (λ z. u ++ (z ∷ [])) (sym q.0))
start_pattern_sound {u = u} st w (c_operator t m o) q = tt
start_pattern_sound {u = u} st w (c_open paren) q = at_want_pattern (made_group st (ap (λ z. u ++ (z ∷ [])) q))
start_pattern_sound {u = u} st w (c_open brace) q =
    at_want_pattern (made_tuple st made_none (ap (λ z. u ++ (z ∷ [])) q))
start_pattern_sound {u = u} st w (c_close b) q = close_without-sound st b _ (ap (λ z. u ++ (z ∷ [])) q)
start_pattern_sound {u = u} st w (c_builtin f) q = tt
start_pattern_sound {u = u} st w (c_start s_quote) q = at_after_pattern_quote st (ap (λ z. u ++ (z ∷ [])) q)
start_pattern_sound {u = u} st w (c_start s_bracket) q = at_after_pattern_bracket st (ap (λ z. u ++ (z ∷ [])) q)
start_pattern_sound {u = u} st w (c_start s_underscore) q = at_have_pattern st any_x (ap (λ z. u ++ (z ∷ [])) q)
start_pattern_sound {u = u} st w (c_start s_case) q = tt
start_pattern_sound {u = u} st w (c_start s_receive) q = tt
start_pattern_sound {u = u} st w (c_start s_catch) q = tt
start_pattern_sound {u = u} st w (c_start s_spawn) q = tt
start_pattern_sound {u = u} st w (c_separate s) q = tt
start_pattern_sound {u = u} st w c_other q = tt

-- before what ends a pattern, all that :: holds apart is put together
pub after_whole_sound :
    {k : PatternStack} {u : List Name} → PatternStackMade k u → (p : Pattern) (s : List Name) → PatternAt 1 s p →
    (w x : Name) → w ≡ x → (f : Pattern → PatternStack → Option State) →
    ((k : PatternStack) (u : List Name) → PatternStackMade k u → (p : Pattern) (s v : List Name) → PatternAt 0 s p →
    v ≡ u ++ (s ++ (x ∷ [])) → Goes (f p k) v) →
    Goes (reduce_pattern p k f) (u ++ (s ++ (w ∷ [])))
after_whole_sound {u = u} st p s d w x q f sound =
    reduce_pattern_sound st p s (u ++ s) (plain_x d) refl f _
    (λ k t r p st g is. sound k t st p r _ g (reshape u s t r w is ∙ ap (λ z. t ++ (r ++ (z ∷ []))) q))

pub pair_is_cons : {m : ℕ} {w : Name} {j : Operation} → Joins m w j → T (is_pair j) → w ≡ double_colon
pair_is_cons (comparison o) h = absurd h
pair_is_cons pairing h = refl
pair_is_cons (sum o) h = absurd h
pair_is_cons (product o) h = absurd h

-- a token behind a pattern, by its class
pub after_pattern_sound :
    {k : PatternStack} {u : List Name} → PatternStackMade k u → (p : Pattern) (s : List Name) → PatternAt 1 s p →
    (w : Name) (c : Class) → Tells w c → Goes (after_pattern p k c) (u ++ (s ++ (w ∷ [])))
after_pattern_sound st p s d w (c_number n) q = tt
after_pattern_sound st p s d w (c_name x) q = tt
after_pattern_sound {u = u} st p s d w (c_operator t m o) q =
    when_goes (is_pair o) _ _
    (λ h. at_want_pattern (made_cons st d (ap (λ z. u ++ (s ++ (z ∷ []))) (pair_is_cons q.1 h))))
after_pattern_sound st p s d w (c_open b) q = tt
after_pattern_sound st p s d w (c_close b) q =
    after_whole_sound st p s d w (closing b) q (close_pattern b) (λ k u i. close_pattern_sound i b)
after_pattern_sound st p s d w (c_builtin f) q = tt
after_pattern_sound st p s d w (c_start i) q = tt
after_pattern_sound st p s d w (c_separate s_comma) q =
    after_whole_sound st p s d w comma q next_pattern (λ k u i. next_pattern_sound i)
after_pattern_sound st p s d w (c_separate s_semicolon) q = tt
after_pattern_sound st p s d w (c_separate s_equals) q =
    after_whole_sound st p s d w equals q bind_pattern (λ k u i. bind_pattern_sound i)
after_pattern_sound st p s d w (c_separate s_arrow) q =
    after_whole_sound st p s d w arrow q begin_arm (λ k u i. begin_arm_sound i)
after_pattern_sound st p s d w c_other q = tt
