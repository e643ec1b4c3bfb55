use Rattle.tl_grammar.specs.Grammar.{parsed_within}
use Rattle.tl_parse.proofs.Answered.{not_ended}
use Rattle.tl_parse.proofs.parser.parsed.Goals as goal

pub returns-in-len1-up : goal.returns-in-len1-up
unfolding parsed_within
returns-in-len1-up c = not_ended c.in_ok-found.found c.in_ok-found.at _ c.refused.result c.in_ok-found.ensures c.in-len1-up.len_at_least c.refused.ensures
