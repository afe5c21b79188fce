-- What a worker's state stands for stays when cells are made; and a frame is read as the one that was made.
use Rattle.code.proofs.Chains.{chain_kept}
use Rattle.std.proofs.Common.{◌≡◌, ℕ, suc, ◌+◌, ◌*◌, ◌<◌, List, length, Ok, Err, Result, MatchResult, sym, refl, ◌∙◌, subst, arith}
use Rattle.meaning.specs.Basics.{Name}
use Rattle.meaning.specs.Syntax.{Pattern, Operation, Expr, case, receive_until, Exprs, and_e, Body, bind, Clauses}
use Rattle.meaning.specs.Values.{Value}
use Rattle.meaning.specs.System.{Scope, Frame as Waiting}
use Rattle.meaning.specs.Grammar.{count}
use Rattle.code.specs.Code.{CodeE, CodeEs, CodeB}
use Rattle.code.specs.Environment.{Chain}
use Rattle.machine.specs.Frames.{Framing, frame_of, frame_at, FrameIs, operands_is, bind_is, case_is, until_is, catch_is, bottom_is}
use Rattle.machine.specs.State.{
  World,
  Sited,
  SiteIs,
  placed,
  FramesAre,
  no_frames,
  operands_at,
  bind_at,
  case_at,
  until_at,
  catch_at,
  FramesAt,
}
use Rattle.machine.specs.declared.frames.Frame.{Frame}
use Rattle.machine.specs.declared.state.Site.{Site}
use Rattle.store.specs.Heap.{Store, Den, Kept, Put, Lacks, left_of, Grows}
use Rattle.store.specs.Tree.{Tree, leaf, node}
use Rattle.store.specs.declared.slot.Full.{Full}
use Rattle.store.specs.declared.slot.Slot.{Slot}
use Rattle.store.proofs.Laws.{leaf_stands, node_is, node_left, node_right, keeps, kept_trans}
use Rattle.store.proofs.Words.{slot_parts}
use Rattle.code.proofs.Instructions.{leaf_has_kind, leaf_has_low, leaf_has_high}

pub site_kept : {x : World} {m m' : Store} {sc : List Name} {a : Site} {w : Scope} → Kept m m' → SiteIs x m sc a w →
    SiteIs x m' sc a w
site_kept g s = record {
  env = record {
    values = s.env.values;
    holds = chain_kept g s.env.holds;
    binds =
        s.env.binds;
  };
  sited = s.sited;
}

pub frames_kept : {x : World} {m m' : Store} {s : Slot} {k : List Waiting} → Kept m m' → FramesAt x m s k →
    FramesAt x m' s k
frames_kept g f = record { tree = f.tree; stands = keeps g f.stands; are = f.are }

-- a frame's two cells
pub framing : {m m₁ m₂ : Store} {kind p n : ℕ} {values below r part : Slot} →
    Put m m₁ 37 (record { kind = 5; low = p; high = n }) values part → Put m₁ m₂ kind part below r →
    Framing m m₂ kind p n values below r
framing p q = record {
  stands =
      λ k d e. q.stands k (p.stands (omega arith) (leaf_stands _ _ _ (omega arith)) d) (keeps p.kept e);
  count =
      omega (arith, p.count, q.count);
}

pub framed : {m m₁ : Store} (m₂ : Store) (kind : ℕ) {p n : ℕ} {values part : Slot} (below : Slot)
    (r : Result Slot Full) → length m₁.words ≡ length m.words → Put m m₁ 37 (record { kind = 5; low = p; high = n }) values part →
    MatchResult r (λ s. Put m₁ m₂ kind part below s) (λ e. Lacks m₁ m₂) →
    MatchResult r (λ s. Framing m m₂ kind p n values below s) (λ e. length m.words < 6 * (m.used + 2))
framed m₂ kind below (Ok s) l p q = framing p q
framed m₂ kind below (Err e) l p q = omega (arith, l, p.count, q.short)

-- the node of the code that a frame's place says
node_placed : (x : World) {s : Slot} {k : ℕ} {a b : Tree} → Den x.code s (node k a b) → s ≡ placed k s.low
node_placed x {s} {k} d = slot_parts {s = s} {t = placed k s.low} d.is.1 refl
    (omega (arith, d.is.2, x.small))

pub placed_case : (x : World) {sc : List Name} {s : Slot} {e : Expr} {cs : Clauses} →
    CodeE x.names sc x.code s (case e cs) → CodeE x.names sc x.code (placed 20 s.low) (case e cs)
placed_case x {sc} {s} {e} {cs} c =
    subst (λ z. CodeE x.names sc x.code z (case e cs)) (node_placed x c.stands) c

pub placed_until : (x : World) {sc : List Name} {s : Slot} {e : Expr} {cs : Clauses} {b : Body} →
    CodeE x.names sc x.code s (receive_until cs e b) →
    CodeE x.names sc x.code (placed 22 s.low) (receive_until cs e b)
placed_until x {sc} {s} {e} {cs} {b} c =
    subst (λ z. CodeE x.names sc x.code z (receive_until cs e b)) (node_placed x c.stands) c

pub placed_statement : (x : World) {sc : List Name} {s : Slot} {p : Pattern} {e : Expr} {b : Body} →
    CodeB x.names sc x.code s (bind p e b) → CodeB x.names sc x.code (placed 25 s.low) (bind p e b)
placed_statement x {sc} {s} {p} {e} {b} c =
    subst (λ z. CodeB x.names sc x.code z (bind p e b)) (node_placed x c.stands) c

pub placed_operand : (x : World) {sc : List Name} {s : Slot} {o : Operation} {n : ℕ} {e : Expr} {es : Exprs} →
    CodeEs x.names sc x.code s o n (and_e e es) →
    CodeEs x.names sc x.code (placed 18 s.low) o n (and_e e es)
placed_operand x {sc} {s} {o} {n} {e} {es} c =
    subst (λ z. CodeEs x.names sc x.code z o n (and_e e es)) (node_placed x c.stands) c

-- what a frame is read as
frame_is : {x : World} {m : Store} {s : Slot} {k : List Waiting} → FramesAt x m s k →
    FrameIs x m (frame_at m.words s) k
frame_is {x} {m} {s} f = go f.are f.stands
  where
    place : Slot
    place = left_of m.words (left_of m.words s)

    tells : {k : List Waiting} {u : ℕ} → s.kind ≡ u → FrameIs x m (frame_of m.words s u) k →
        FrameIs x m (frame_at m.words s) k
    tells {k} q h = subst (λ u. FrameIs x m (frame_of m.words s u) k) (sym q) h

    sited : {p n : ℕ} {w : Scope} → Den m place (leaf 5 p n) → Sited x.program n w →
        Sited x.program place.high w
    sited {w = w} d h = subst (λ z. Sited x.program z w) (sym (leaf_has_high d)) h

    go : {t : Tree} {k : List Waiting} → FramesAre x t k → Den m s t → FrameIs x m (frame_at m.words s) k
    go no_frames d = tells (leaf_has_kind d) bottom_is
    go (operands_at {t = t} sc us vs {o = o} {e = e} {es = es} c fr fv r) d =
        let at = node_left (node_left d) in
        tells (node_is d) (operands_is sc vs
        (subst (λ z. CodeEs x.names sc x.code (placed 18 z) o (length vs + suc (count es)) (and_e e es))
        (sym (leaf_has_low at)) c)
        (record {
          env = record {
            values = us;
            holds =
                record { fine = fr.fine; stands = node_left (node_right (node_left d)) };
            binds = fr.binds;
          };
          sited =
              sited at fr.sited;
        })
        (record { fine = fv; stands = node_right (node_right (node_left d)) })
        (record { tree = t; stands = node_right d; are = r }))
    go (bind_at {t = t} sc us {a = a} {e = e} {b = b} c fr r) d =
        let at = node_left (node_left d) in
        tells (node_is d) (bind_is sc (subst
        (λ z. CodeB x.names sc x.code (placed 25 z) (bind a e b)) (sym (leaf_has_low at)) c)
        (record {
          env = record {
            values = us;
            holds = record { fine = fr.fine; stands = node_right (node_left d) };
            binds = fr.binds;
          };
          sited = sited at fr.sited;
        })
        (record { tree = t; stands = node_right d; are = r }))
    go (case_at {t = t} sc us {e = e} {cs = cs} c fr r) d =
        let at = node_left (node_left d) in
        tells (node_is d) (case_is sc (subst
        (λ z. CodeE x.names sc x.code (placed 20 z) (case e cs)) (sym (leaf_has_low at)) c)
        (record {
          env = record {
            values = us;
            holds = record { fine = fr.fine; stands = node_right (node_left d) };
            binds = fr.binds;
          };
          sited = sited at fr.sited;
        })
        (record { tree = t; stands = node_right d; are = r }))
    go (until_at {t = t} sc us {cs = cs} {e = e} {b = b} c fr r) d =
        let at = node_left (node_left d) in
        tells (node_is d) (until_is sc (subst
        (λ z. CodeE x.names sc x.code (placed 22 z) (receive_until cs e b)) (sym (leaf_has_low at)) c)
        (record {
          env = record {
            values = us;
            holds = record { fine = fr.fine; stands = node_right (node_left d) };
            binds = fr.binds;
          };
          sited = sited at fr.sited;
        })
        (record { tree = t; stands = node_right d; are = r }))
    go (catch_at {t = t} r) d = tells (node_is d) (catch_is (record { tree = t; stands = node_right d; are = r }))

pub frame_as : {x : World} {m : Store} {s : Slot} {k : List Waiting} {r : Frame} → r ≡ frame_at m.words s →
    FramesAt x m s k → FrameIs x m r k
frame_as {x} {m} {s} {k} q f = subst (λ i. FrameIs x m i k) (sym q) (frame_is f)
