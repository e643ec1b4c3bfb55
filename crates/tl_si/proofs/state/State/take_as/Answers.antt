use Rattle.std.proofs.Common.{◌==◌, List, ap, sym, ◌∙◌}
use Rattle.std.specs.Prelude.{position}
use Rattle.tl_isolation.specs.declared.state.Transaction.{Transaction}
use Rattle.tl_si.specs.Shown.{shown}
use Rattle.tl_si.proofs.Find.{found_at, none_at}
use Rattle.tl_si.proofs.state.State.take_as.Goals as goal

pub returns-in-Some : goal.returns-in-Some
returns-in-Some c =
    let found = found_at (λ (t : Transaction). t.tid == c.args.tid) c.args.self.now.held.items c.in-Some.at c.remove.result
    (sym c.in-Some.is ∙ c.place_as.ensures ∙ ap (position (λ (t : Transaction). t.tid == c.args.tid)) c.as_slice.ensures.value) c.remove.ensures.value in
    record {
      within = found.0;
      here = found.1;
      first = found.2;
      rest = ap (λ (held : List Transaction). record (shown c.args.self.now) { held = held }) c.remove.ensures.items;
    }

pub returns-in-None : goal.returns-in-None
returns-in-None c =
    none_at (λ (t : Transaction). t.tid == c.args.tid) c.args.self.now.held.items
    (sym c.in-None.is ∙ c.place_as.ensures ∙ ap (position (λ (t : Transaction). t.tid == c.args.tid)) c.as_slice.ensures.value)
