use Rattle.code.proofs.Functions.{walk_starts, walk_on, walk_finds, walk_ends, walk_over}
use Rattle.code.proofs.program.Program.find.Goals as goal

pub definitions-init : goal.definitions-init
definitions-init c = walk_starts

pub returns-then-chain-ne-FUNCTIONS : goal.returns-then-chain-ne-FUNCTIONS
returns-then-chain-ne-FUNCTIONS c = walk_ends _ _ c.definitions.invariant c.read_slot-chain.ensures c.if-chain-ne-FUNCTIONS.true

pub returns-then-has_signature : goal.returns-then-has_signature
returns-then-has_signature c =
    walk_finds _ _ c.definitions.invariant c.read_slot-chain.ensures c.if-chain-ne-FUNCTIONS.false c.left-definition.ensures c.left.ensures
    c.has_signature.ensures c.if-has_signature.true c.right.ensures

pub definitions-preserved : goal.definitions-preserved
definitions-preserved c =
    walk_on c.definitions.invariant c.if-chain-ne-FUNCTIONS.false c.left-definition.ensures c.left.ensures c.has_signature.ensures
    c.if-has_signature.false c.right-chain.ensures

pub returns : goal.returns
returns c = walk_over _ _ c.definitions.invariant c.read_slot-chain.ensures c.definitions-test.false
