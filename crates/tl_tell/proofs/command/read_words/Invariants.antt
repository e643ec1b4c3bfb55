use Rattle.std.proofs.Common.{◌≡◌, ◌+◌, ◌-◌, ◌*◌, ◌≤◌, length, drop}
use Rattle.tl_tell.specs.Words.{AreWithin, count, read_from, words_of}
use Rattle.tl_tell.proofs.command.read_words.Given as goal

abbrev pub invariant-loop-at : goal.invariant-loop-at
invariant-loop-at l = record {
  read : read_from l.given (l.at + 1) (drop l.at l.words) ≡ words_of l.words;
  few : l.at ≤ 2 * count l.given;
  within : AreWithin l.given;
}

abbrev pub decreases-loop-at : goal.decreases-loop-at
decreases-loop-at l = length l.words - l.at
