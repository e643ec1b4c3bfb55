use Rattle.std.proofs.Common.{sym}
use Rattle.tl_tokens.proofs.Lengths.{length-tokens}
use Rattle.tl_tokens.proofs.cursor.Cursor.left.Goals as goal

pub returns : goal.returns
returns c = sym (length-tokens c.args.self.rest.now)
