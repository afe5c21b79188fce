-- What a worker's state in cells stands for: sites, controls and frames.
use Rattle.std.specs.Prelude.{◌≡◌, ℕ, suc, ◌+◌, ◌^◌, ◌≤◌, List, [], ◌∷◌, reverse, length}
use Rattle.std.proofs.Math.Option.{some}
use Rattle.meaning.specs.Basics.{Name}
use Rattle.meaning.specs.Atoms.{
  a_type,
  a_match,
  a_clause,
  a_zero,
  a_big,
  a_undef,
  a_normal,
  a_old,
  a_gone,
  a_ok,
  a_error,
  a_exit,
  a_none,
  a_true,
  a_false,
  a_main,
}
use Rattle.meaning.specs.Syntax.{
  Pattern,
  Operation,
  Expr,
  case,
  receive,
  receive_until,
  Exprs,
  and_e,
  Body,
  bind,
  Clauses,
  Module,
  Program,
}
use Rattle.meaning.specs.Values.{Value}
use Rattle.meaning.specs.System.{Scope, for_ever, until, Control as Meant, eval, give, enter, fail, wait, Frame, operands_frame, bind_frame, case_frame, until_frame, catch_frame}
use Rattle.meaning.specs.Grammar.{count}
use Rattle.store.specs.Heap.{Store, Den}
use Rattle.store.specs.Tree.{Tree, leaf, node}
use Rattle.store.specs.declared.slot.Slot.{Slot}
use Rattle.values.specs.Encoding.{index_of, Holds}
use Rattle.values.specs.Space.{chain}
use Rattle.code.specs.Kinds.{operand_kind, case_kind, until_kind, statement_kind}
use Rattle.code.specs.Trees.{nothing}
use Rattle.code.specs.Program.{section, version_at, Stands}
use Rattle.code.specs.Environment.{values_kind, FineValues, Binds, Environment}
use Rattle.code.specs.Code.{CodeE, CodeEs, CodeB}
use Rattle.machine.specs.declared.state.Site.{Site}
use Rattle.machine.specs.declared.state.Control.{Control}
use Rattle.machine.specs.declared.state.Control.TheVariants.{Eval, Give, Enter, Fail, Wait}

-- the atoms that the machine makes itself have the first numbers
pub record OwnAtoms (ns : List Name) : Type 0 where
  pub type_at : index_of ns a_type ≡ 0
  pub match_at : index_of ns a_match ≡ 1
  pub clause_at : index_of ns a_clause ≡ 2
  pub zero_at : index_of ns a_zero ≡ 3
  pub big_at : index_of ns a_big ≡ 4
  pub undef_at : index_of ns a_undef ≡ 5
  pub normal_at : index_of ns a_normal ≡ 6
  pub old_at : index_of ns a_old ≡ 7
  pub gone_at : index_of ns a_gone ≡ 8
  pub ok_at : index_of ns a_ok ≡ 9
  pub error_at : index_of ns a_error ≡ 10
  pub exit_at : index_of ns a_exit ≡ 11
  pub none_at : index_of ns a_none ≡ 12
  pub true_at : index_of ns a_true ≡ 13
  pub false_at : index_of ns a_false ≡ 14
  pub main_at : index_of ns a_main ≡ 15
  pub long : 16 ≤ length ns

-- a program that was read, and where it stands
pub record World : Type 0 where
  pub names : List Name
  pub program : Program
  pub code : Store
  pub functions : List ℕ
  pub stands : Stands names code functions program
  pub small : code.used ≤ 2 ^ 32
  pub atoms : OwnAtoms names

-- the section n is where a scope is at work
pub record Sited (g : Program) (n : ℕ) (w : Scope) : Type 0 where
  pub at_work : Module
  pub there : section g n ≡ some at_work
  pub home : w.home ≡ at_work.name
  pub version : w.version ≡ version_at g at_work.name n

pub record SiteIs (x : World) (m : Store) (sc : List Name) (a : Site) (w : Scope) : Type 0 where
  pub env : Environment x.names m a.env sc w.vars
  pub sited : Sited x.program a.section w

-- frames are nodes; a frame has one place of the code, that of the node that it goes on with, and its kind says of which kind
-- that node is
abbrev pub place_kind : ℕ
place_kind = 5

abbrev pub operands_frame_kind : ℕ
operands_frame_kind = 32

abbrev pub bind_frame_kind : ℕ
bind_frame_kind = 33

abbrev pub case_frame_kind : ℕ
case_frame_kind = 34

abbrev pub until_frame_kind : ℕ
until_frame_kind = 35

abbrev pub catch_frame_kind : ℕ
catch_frame_kind = 36

abbrev pub part_kind : ℕ
part_kind = 37

-- the slot of the node of that kind at a place of the code
abbrev pub placed : ℕ → ℕ → Slot
placed kind p = record { kind = kind; low = p; high = 0 }

-- what a frame of a scope begins with: a place of the code with the section, and the values of the environment
pub record Framed (x : World) (sc : List Name) (n : ℕ) (us : List Value) (w : Scope) : Type 0 where
  pub sited : Sited x.program n w
  pub fine : FineValues x.names us
  pub binds : Binds sc us w.vars

abbrev pub tree_f : World → ℕ → ℕ → ℕ → List Value → Tree → Tree
tree_f x kind p n us t = node kind (node part_kind (leaf place_kind p n) (chain x.names values_kind nothing us)) t

pub data FramesAre (x : World) : Tree → List Frame → Type 0 where
  no_frames : FramesAre x nothing []
  operands_at : {p n : ℕ} {t : Tree} (sc : List Name) (us vs : List Value) {o : Operation} {e : Expr} {es : Exprs}
      {w : Scope} {k : List Frame} →
      CodeEs x.names sc x.code (placed operand_kind p) o (length vs + suc (count es)) (and_e e es) →
      Framed x sc n us w → FineValues x.names (reverse vs) →
      FramesAre x t k →
      FramesAre x (node operands_frame_kind
      (node part_kind (leaf place_kind p n)
      (node part_kind (chain x.names values_kind nothing us)
      (chain x.names values_kind nothing (reverse vs)))) t) (operands_frame o vs es w ∷ k)
  bind_at : {p n : ℕ} {t : Tree} (sc : List Name) (us : List Value) {a : Pattern} {e : Expr} {b : Body} {w : Scope}
      {k : List Frame} →
      CodeB x.names sc x.code (placed statement_kind p) (bind a e b) → Framed x sc n us w → FramesAre x t k →
      FramesAre x (tree_f x bind_frame_kind p n us t) (bind_frame a b w ∷ k)
  case_at : {p n : ℕ} {t : Tree} (sc : List Name) (us : List Value) {e : Expr} {cs : Clauses} {w : Scope}
      {k : List Frame} →
      CodeE x.names sc x.code (placed case_kind p) (case e cs) → Framed x sc n us w → FramesAre x t k →
      FramesAre x (tree_f x case_frame_kind p n us t) (case_frame cs w ∷ k)
  until_at : {p n : ℕ} {t : Tree} (sc : List Name) (us : List Value) {cs : Clauses} {e : Expr} {b : Body} {w : Scope}
      {k : List Frame} →
      CodeE x.names sc x.code (placed until_kind p) (receive_until cs e b) → Framed x sc n us w →
      FramesAre x t k →
      FramesAre x (tree_f x until_frame_kind p n us t) (until_frame cs b w ∷ k)
  catch_at : {t : Tree} {k : List Frame} → FramesAre x t k →
      FramesAre x (node catch_frame_kind nothing t) (catch_frame ∷ k)

pub record FramesAt (x : World) (m : Store) (s : Slot) (k : List Frame) : Type 0 where
  pub tree : Tree
  pub stands : Den m s tree
  pub are : FramesAre x tree k

-- the time of a wait with a time is kept by the scheduler, so any will do here
pub data ControlIs (x : World) (m : Store) : Control → Meant → Type 0 where
  eval_is : {p : Slot} {a : Site} (sc : List Name) {e : Expr} {w : Scope} → CodeE x.names sc x.code p e →
      SiteIs x m sc a w → ControlIs x m (Eval p a) (eval e w)
  give_is : {s : Slot} (v : Value) → Holds x.names m s v → ControlIs x m (Give s) (give v)
  enter_is : {p : Slot} {a : Site} (sc : List Name) {b : Body} {w : Scope} → CodeB x.names sc x.code p b →
      SiteIs x m sc a w → ControlIs x m (Enter p a) (enter b w)
  fail_is : {s : Slot} (v : Value) → Holds x.names m s v → ControlIs x m (Fail s) (fail v)
  wait_is : {p : Slot} {a : Site} (sc : List Name) {cs : Clauses} {w : Scope} →
      CodeE x.names sc x.code p (receive cs) → SiteIs x m sc a w → ControlIs x m (Wait p a) (wait cs for_ever w)
  wait_until_is : {p : Slot} {a : Site} (sc : List Name) {cs : Clauses} {e : Expr} {t : ℕ} {b : Body} {w : Scope} →
      CodeE x.names sc x.code p (receive_until cs e b) → SiteIs x m sc a w →
      ControlIs x m (Wait p a) (wait cs (until t b) w)
