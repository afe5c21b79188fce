-- Whether a statement binds: e; and p = e; begin alike, so the machine looks ahead for the =.
use Rattle.std.specs.Prelude.{Bool, true, false, List, [], ◌∷◌, ℕ, zero, suc}
use Rattle.meaning.specs.Basics.{Name}
use Rattle.grammar.specs.Classes.{Class, c_number, c_name, c_operator, c_open, c_close, c_builtin, c_start}
use Rattle.grammar.specs.Classes.{c_separate, c_other, s_comma, s_semicolon, s_equals, s_arrow, class_of}

-- what a token is to who looks for the = of a statement
pub data Landmark : Type 0 where
  l_open : Landmark
  l_close : Landmark
  l_equals : Landmark
  l_semicolon : Landmark
  l_none : Landmark

abbrev pub landmark : Class → Landmark
landmark (c_number n) = l_none
landmark (c_name x) = l_none
landmark (c_operator t m o) = l_none
landmark (c_open b) = l_open
landmark (c_close b) = l_close
landmark (c_builtin f) = l_none
landmark (c_start s) = l_none
landmark (c_separate s_comma) = l_none
landmark (c_separate s_semicolon) = l_semicolon
landmark (c_separate s_equals) = l_equals
landmark (c_separate s_arrow) = l_none
landmark c_other = l_none

-- go on with the depth of brackets after a landmark, or stop: yes at an = outside of brackets,
-- no at the statement's end
abbrev pub pass : ℕ → Landmark → (ℕ → Bool) → Bool
pass d l_open f = f (suc d)
pass zero l_close f = false
pass (suc d) l_close f = f d
pass zero l_equals f = true
pass (suc d) l_equals f = f (suc d)
pass zero l_semicolon f = false
pass (suc d) l_semicolon f = f (suc d)
pass d l_none f = f d

-- does the statement that begins here bind: is there an = before its end, outside of brackets
abbrev pub binds : ℕ → List Name → Bool
binds d [] = false
binds d (w ∷ ws) = pass d (landmark (class_of w)) (λ n. binds n ws)
