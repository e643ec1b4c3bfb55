use Rattle.std.proofs.Common.{ℕ, List, ◌||◌, ap, ◌∙◌}
use Rattle.tl_scope.specs.Named.{is_among}
use Rattle.tl_scope.specs.Scope.{same}
use Rattle.tl_scope.proofs.Sets.{among_more}
use Rattle.tl_scope.proofs.names.Names.insert.Goals as goal

pub returns : goal.returns
returns c other =
    among_more c.self.inside.names.keys c.insert.new.self.keys c.args.name.now c.in_ok-copy.field-0 other c.in_ok-copy.ensures (c.in_ok-insert.ensures.updates.0 other)
    ∙ ap (λ (s : List (List ℕ)). same other c.args.name.now || is_among s other) c.self.view_is
