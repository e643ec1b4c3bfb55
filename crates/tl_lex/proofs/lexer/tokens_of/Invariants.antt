use Rattle.std.proofs.Common.{◌≤◌, ◌-◌, length}
use Rattle.tl_lex.proofs.Turns.{IsSoFar}
use Rattle.tl_lex.proofs.lexer.tokens_of.Given as goal

abbrev pub invariant-loop-tokens : goal.invariant-loop-tokens
invariant-loop-tokens l = record { within : l.at ≤ length l.text; so_far : IsSoFar l.text l.tokens l.before l.at }

abbrev pub decreases-loop-tokens : goal.decreases-loop-tokens
decreases-loop-tokens l = length l.text - l.at
