use Rattle.std.proofs.Common.{List, ℕ, length, ◌++◌, ap, subst, sym, ◌∙◌}
use Rattle.tl_write.specs.declared.write.Write.{Write}
use Rattle.tl_isolation.specs.declared.state.Commit.{Commit}
use Rattle.tl_si.specs.Places.{AreFound, places_in, places_of}
use Rattle.tl_si.proofs.Found.{found_more}
use Rattle.tl_si.proofs.past.Past.with.Goals as goal

pub invariant_of-result : goal.invariant_of-result
invariant_of-result c =
    subst (λ (commits : List Commit). AreFound commits c.in_ok-records.records) (sym c.in_ok-push.ensures.ok)
    (found_more c.self.inside.commits c.args.commit c.self.inside.records c.in_ok-records.records c.self.invariant
    (λ key. c.in_ok-records.ensures key
    ∙ ap (λ (n : ℕ). places_of c.self.inside.records key ++ places_in n 0 key c.as_slice.result.now) c.len.ensures
    ∙ ap (λ (ws : List Write). places_of c.self.inside.records key ++ places_in (length c.self.inside.commits) 0 key ws) c.as_slice.ensures))
