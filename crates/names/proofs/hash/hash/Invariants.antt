use Rattle.std.proofs.Common.{◌≡◌, ◌<◌, drop}
use Rattle.names.specs.Buckets.{hash_from}
use Rattle.names.proofs.hash.hash.Given as goal

abbrev pub invariant-loop-byte : goal.invariant-loop-byte
invariant-loop-byte l = (l.sum < 1024) × (hash_from l.sum (drop l.byte-index l.word) ≡ hash_from 0 l.word)
