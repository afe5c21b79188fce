use Rattle.std.proofs.Common.{◌≡◌, ℕ, ◌<◌}
use Rattle.store.specs.Slots.{slot_at}
use Rattle.names.proofs.collect.clear.Given as goal

abbrev pub invariant-loop-i : goal.invariant-loop-i
invariant-loop-i l = (b : ℕ) → b < l.i → slot_at l.buckets b ≡ record { kind = 2; low = 0; high = 0 }
