use Rattle.std.proofs.Common.{◌≡◌, ◌⊎◌, ℕ, subst, sym}
use Rattle.tl_tell.proofs.Fine.{fine_ends}
use Rattle.tl_tell.proofs.run.run_turns.Goals as goal

pub returns-clause-runs : goal.returns-clause-runs
returns-clause-runs g c =
    λ fine. subst (λ (status : ℕ). (status ≡ 0) ⊎ (status ≡ 5)) (sym c.run_kept.ensures.status)
    (fine_ends c.args.words.now _ _ c.run_kept.result.reason c.run_kept.result.journal c.run_kept.ensures.keeps fine)
