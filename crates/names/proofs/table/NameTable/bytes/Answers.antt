use Rattle.std.proofs.Common.{take, drop, ap, ◌∙◌, arith}
use Rattle.store.specs.Slots.{place_of}
use Rattle.store.specs.declared.slot.Slot.{Slot}
use Rattle.names.proofs.Spelling.{table_past, own_at, part_at}
use Rattle.names.proofs.table.NameTable.bytes.Goals as goal

pub returns-then-number-self : goal.returns-then-number-self
returns-then-number-self c = table_past c.args.self.text.now c.args.self.spans.now c.args.self.count
    c.args.atom.0 (omega arith)

pub returns-then-number-lt-OWN_ATOMS : goal.returns-then-number-lt-OWN_ATOMS
returns-then-number-lt-OWN_ATOMS c =
    c.own_atom.ensures
    ∙ own_at c.args.self.text.now c.args.self.spans.now c.args.self.count c.args.atom.0 (omega arith) (omega arith)

pub returns : goal.returns
returns c =
    c.part.ensures
    ∙ (ap (λ (s : Slot). take s.kind (drop (place_of s) c.args.self.text.now)) c.read_slot.ensures
    ∙ part_at c.args.self.text.now c.args.self.spans.now c.args.self.count c.args.atom.0 (omega arith) (omega arith))
