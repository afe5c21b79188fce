use Rattle.std.proofs.Common.{◌≡◌, Err, refl, sym, ap, ◌∙◌, arith, w64, to_z, of_z, rules}
use Rattle.std.proofs.lemmas.Int.{to_z-of_z}
use Rattle.std.proofs.lemmas.Result.{err_from_is_err_and}
use Rattle.meaning.specs.Values.{v_int}
use Rattle.values.specs.declared.piece.Piece.TheVariants.{Number, Signs, Worker}
use Rattle.values.specs.declared.walk.Unprinted.TheVariants.{TooLong}
use Rattle.values.proofs.Walking.{
  begun,
  known_piece,
  atom_piece,
  value_steps,
  pair_after,
  pair_long,
  tuple_after,
  opened_moves,
}
use Rattle.values.proofs.walk.Walk.begin.Goals as goal

pub returns-in-Number : goal.returns-in-Number
returns-in-Number c =
    let back : to_z w64 (of_z w64 c.in-Number.n) ≡ c.in-Number.n = search (rules, to_z-of_z) in
    value_steps _ c.requires (λ ns used v h. known_piece ns (Number (to_z w64 (of_z w64 c.in-Number.n))) (c.in-Number.ensures.value h ∙ ap v_int (sym back)) refl refl)

pub returns-in-Atom : goal.returns-in-Atom
returns-in-Atom c = value_steps _ c.requires (λ ns used v h. atom_piece c.in-Atom.atom h (c.in-Atom.ensures.value h))

pub returns-in-Worker : goal.returns-in-Worker
returns-in-Worker c = value_steps _ c.requires (λ ns used v h. known_piece ns (Worker c.in-Worker.worker) (c.in-Worker.ensures.value h) refl refl)

pub returns-in-Nil : goal.returns-in-Nil
returns-in-Nil c = value_steps _ c.requires (λ ns used v h. known_piece ns (Signs 91 93) (c.in-Nil.ensures.value h) refl refl)

pub returns-in-EmptyTuple : goal.returns-in-EmptyTuple
returns-in-EmptyTuple c = value_steps _ c.requires (λ ns used v h. known_piece ns (Signs 123 125) (c.in-EmptyTuple.ensures.value h) refl refl)

pub returns-in_err-closing-in-Pair : goal.returns-in_err-closing-in-Pair
returns-in_err-closing-in-Pair c =
    let long : c.from_residual.result ≡ Err TooLong = grind (
      arith,
      err_from_is_err_and c.from_residual.result c.from_residual.ensures.1,
      c.in_err-closing-in-Pair.ensures.value,
      c.in_err-closing-in-Pair.ensures.ok_part,
    )
    in
    rw long (record {
      keeps = record { same = refl; long = refl };
      so = λ r.
          let b = begun c.requires r in
          pair_long b (c.in-Pair.ensures.value b.holds)
          (grind (arith, c.in_err-closing-in-Pair.ensures.ok_part, c.checked_add-closing.ensures));
      moves = tt;
    })

pub returns-in_ok-closing-in-Pair : goal.returns-in_ok-closing-in-Pair
returns-in_ok-closing-in-Pair c =
    record {
      keeps = record { same = c.open.ensures.keeps.same; long = c.open.ensures.keeps.long };
      so = λ r.
          let b = begun c.requires r in
          pair_after b (c.in-Pair.ensures.value b.holds)
          c.numbered.ensures.kind
          (grind (
            arith,
            c.numbered.ensures.number,
            c.in_ok-closing-in-Pair.ensures.ok_part,
            c.checked_add-closing.ensures,
          ))
          _ c.open.result c.open.ensures.opened;
      moves = opened_moves _ _ _ _ _ _ _ c.args.self.now.cursor _ c.open.result c.open.ensures.opened;
    }

pub returns-in-Tuple : goal.returns-in-Tuple
returns-in-Tuple c =
    record {
      keeps = record { same = c.open-in-Tuple.ensures.keeps.same; long = c.open-in-Tuple.ensures.keeps.long };
      so = λ r.
          let b = begun c.requires r in
          tuple_after b (c.in-Tuple.ensures.value b.holds)
          c.numbered-mark.ensures.kind
          (omega (arith, c.numbered-mark.ensures.number)) _
          c.open-in-Tuple.result
          c.open-in-Tuple.ensures.opened;
      moves = opened_moves _ _ _ _ _ _ _ c.args.self.now.cursor _ c.open-in-Tuple.result
          c.open-in-Tuple.ensures.opened;
    }

pub returns-in-Unknown : goal.returns-in-Unknown
returns-in-Unknown c =
    record {
      keeps = record { same = refl; long = refl };
      so = λ r. absurd (c.in-Unknown.ensures.value (begun c.requires r).holds);
      moves = tt;
    }
