use Rattle.std.proofs.lemmas.Result.{err_from_is_err_and}
use Rattle.tl_ask.specs.Hears.{hears_commits}
use Rattle.tl_recover.proofs.Quiet.{commits_quiet}
use Rattle.tl_recover.proofs.finishing.takes_loaded.Goals as goal

pub returns-in_err-cell : goal.returns-in_err-cell
returns-in_err-cell c =
    let p = err_from_is_err_and c.from_residual.result c.from_residual.ensures.1 in
    rw p.1 (commits_quiet c.args.layout c.args.lost c.args.committed (hears_commits c.args.reply.now))
