-- A heap grows in steps: making a cell is one, and where there is no room nothing changes.
-- All of it follows from the laws of the store.
use Rattle.std.proofs.Common.{◌≡◌, ℕ, length, refl, ◌∙◌}
use Rattle.store.specs.Heap.{Store, Put, Grows}
use Rattle.store.specs.declared.slot.Slot.{Slot}
use Rattle.store.proofs.Laws.{kept_refl, kept_trans}

pub grows_none : {m : Store} → Grows m m
grows_none = record { long = refl; kept = kept_refl }

pub grows_on : {m₀ m₁ m₂ : Store} → Grows m₀ m₁ → Grows m₁ m₂ → Grows m₀ m₂
grows_on g h = record { long = h.long ∙ g.long; kept = kept_trans g.kept h.kept }

pub grows_put : {m m' : Store} {k : ℕ} {a b r : Slot} → length m'.words ≡ length m.words → Put m m' k a b r → Grows m m'
grows_put l p = record { long = l; kept = p.kept }
