-- The one form or the other.
use Rattle.std.proofs.Common.{◌≡◌, true, false, Result, refl, subst, ap, ◌∙◌}
use Rattle.tl_tokens.specs.declared.fault.Stop.{Stop}
use Rattle.tl_grammar.specs.declared.fault.Fault.{Fault}
use Rattle.tl_grammar.specs.Form as form
use Rattle.tl_grammar.specs.Form.{Form, either, missing, starts}
use Rattle.tl_tokens.specs.declared.cursor.Cursor.{Cursor}
use Rattle.tl_tokens.specs.Seen.{Gives, Reads, seen}

pub reads_same : {X : Type 0} (result : Result (X × Cursor) Stop) (a b : Result (X × form.Cursor) Fault) → a ≡ b → Reads result a → Reads result b
reads_same {X} result a b e h = subst (λ (r : Result (X × form.Cursor) Fault). Reads result r) e h

pub reads_first : {X : Type 0} (result : Result (X × Cursor) Stop) (a b : Form X) (at : form.Cursor)
    → starts a.begins at.rest ≡ true → Reads result (a.read at) → Reads result ((either a b).read at)
reads_first result a b at e h = reads_same result (a.read at) ((either a b).read at) (rw e refl) h

-- with any view of what was found
pub gives_second : {Z X : Type 0} (view : Z → X × form.Cursor) (result : Result Z Stop) (a b : Form X) (at : form.Cursor) (next : Cursor)
    → starts a.begins at.rest ≡ false → seen next ≡ missing a.wants at → Gives view result (b.read (seen next)) → Gives view result ((either a b).read at)
gives_second {Z} {X} view result a b at next e n h =
    subst (λ (r : Result (X × form.Cursor) Fault). Gives view result r) (ap (λ (c : form.Cursor). b.read c) n ∙ rw e refl) h

pub reads_second : {X : Type 0} (result : Result (X × Cursor) Stop) (a b : Form X) (at : form.Cursor) (next : Cursor)
    → starts a.begins at.rest ≡ false → seen next ≡ missing a.wants at → Reads result (b.read (seen next)) → Reads result ((either a b).read at)
reads_second result a b at next e n h =
    reads_same result (b.read (seen next)) ((either a b).read at) (ap (λ (c : form.Cursor). b.read c) n ∙ rw e refl) h
