use Rattle.std.proofs.Common.{sym, ap, ◌∙◌, arith, w64, to_z}
use Rattle.std.proofs.lemmas.Int.{to_z-of_z}
use Rattle.meaning.specs.Values.{v_int, v_pid}
use Rattle.values.proofs.Shapes.{seen_by, views_by, no_kind}
use Rattle.values.proofs.value.ValueFromSlot.from.Goals as goal

pub returns-in-0 : goal.returns-in-0
returns-in-0 c =
    let back = to_z-of_z w64 c.cast_signed.result (record { sfits = c.cast_signed.type_inv }) in
    record {
      value = λ h. seen_by 0 c.in-0.is h
          ∙ ap v_int (ap (to_z w64) (sym c.number.ensures) ∙ (sym c.cast_signed.ensures ∙ sym back));
    }

pub returns-in-1 : goal.returns-in-1
returns-in-1 c = views_by 1 c.in-1.is

pub returns-in-2 : goal.returns-in-2
returns-in-2 c = views_by 2 c.in-2.is

pub returns-in-3 : goal.returns-in-3
returns-in-3 c = record { value = λ h. seen_by 3 c.in-3.is h ∙ ap v_pid (sym c.number-in-3.ensures) }

pub returns-in-4 : goal.returns-in-4
returns-in-4 c = views_by 4 c.in-4.is

pub returns-in-16 : goal.returns-in-16
returns-in-16 c = views_by 16 c.in-16.is

pub returns-in-17 : goal.returns-in-17
returns-in-17 c = views_by 17 c.in-17.is

pub returns-in_default : goal.returns-in_default
returns-in_default c =
    record {
      value = λ {ns} {m} {v} h. no_kind v h (λ e. omega arith) (λ e. omega arith) (λ e. omega arith)
          (λ e. omega arith) (λ e. omega arith)
          (λ e. omega arith) (λ e. omega arith);
    }
