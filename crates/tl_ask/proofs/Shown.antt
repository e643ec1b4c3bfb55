-- What is heard of a manager's reply.
use Rattle.std.proofs.Common.{◌≡◌, Bool, true, false, ap, ◌∙◌}
use Rattle.std.specs.Prelude.{◌&&◌, not, if◌then◌else◌}
use Rattle.tl_descriptor.specs.Tids.{TidSet}
use Rattle.tl_manager.specs.declared.request.ManagerReply.{ManagerReply}
use Rattle.tl_manager.specs.declared.request.ManagerRequest.TheVariants as manager
use Rattle.tl_manager.specs.declared.request.Reply.TheVariants as reply
use Rattle.tl_journal.specs.Ask.{Told, Strange}
use Rattle.tl_journal.specs.Strange.{has_great, may_answer}
use Rattle.tl_ask.specs.Hears.{hears_begin, hears_manager}

pub manager_as_said : (told : ManagerReply) → has_great told ≡ false → hears_manager (reply.Manager told) ≡ Told told
manager_as_said told e = ap (λ (b : Bool). if not b then Told told else Strange) e

pub begin_as_said : (seen : TidSet) (told : ManagerReply) → has_great told ≡ false → may_answer (manager.Begin 1 seen) told ≡ true
    → hears_begin seen (reply.Manager told) ≡ Told told
begin_as_said seen told e f =
    ap (λ (b : Bool). if b && not (has_great told) then Told told else Strange) f ∙ ap (λ (b : Bool). if not b then Told told else Strange) e

pub begin_strange : (seen : TidSet) (told : ManagerReply) → may_answer (manager.Begin 1 seen) told ≡ false
    → hears_begin seen (reply.Manager told) ≡ Strange
begin_strange seen told f = ap (λ (b : Bool). if b && not (has_great told) then Told told else Strange) f
