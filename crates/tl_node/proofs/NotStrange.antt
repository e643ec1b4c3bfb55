-- Where a node goes on at a reply, the reply is not strange.
use Rattle.std.proofs.Common.{◌≡◌, Bool, false, refl, ap, ◌∙◌, arith}
use Rattle.std.specs.Prelude.{◌||◌}
use Rattle.tl_base.specs.declared.place.Settings.{Settings}
use Rattle.tl_schema.specs.declared.catalog.Catalog.{Catalog}
use Rattle.tl_isolation.specs.declared.entry.Answer.TheVariants as answer
use Rattle.tl_journal.specs.Ask.{Heard}
use Rattle.tl_journal.specs.Node.{Doing, Stopped, Node}
use Rattle.tl_journal.specs.Strange.{is_odd_for, is_stopped, is_strange_to}
use Rattle.tl_journal.specs.Takes.{takes}
use Rattle.tl_ask.specs.Thin.{thin}

neither : (a b : Bool) → a ≡ false → b ≡ false → (a || b) ≡ false
neither a b e f = grind arith

-- the node of the law is not stopped after it, and it is not odd
pub not_strange_at : (settings : Settings) (catalog : Catalog) (n : Node) (sound : Heard) (after : Node) → takes settings catalog n sound answer.Begun ≡ after
    → is_stopped after.doing ≡ false → is_odd_for n.doing sound ≡ false → is_strange_to settings catalog n sound ≡ false
not_strange_at settings catalog n sound after takes_is runs not_odd =
    neither (is_stopped (takes settings catalog n sound answer.Begun).doing) (is_odd_for n.doing sound) (ap (λ (m : Node). is_stopped m.doing) takes_is ∙ runs) not_odd

thin_stopped : (doing : Doing) → is_stopped doing ≡ is_stopped (thin doing)
thin_stopped (Stopped nodes) = refl
thin_stopped doing = refl

-- a node whose code goes on is not stopped
pub kept_runs : (doing kept : Doing) → thin doing ≡ kept → is_stopped kept ≡ false → is_stopped doing ≡ false
kept_runs doing kept e runs = thin_stopped doing ∙ (ap is_stopped e ∙ runs)
