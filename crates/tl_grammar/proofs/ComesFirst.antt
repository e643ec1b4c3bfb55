-- What is expected comes first.
use Rattle.std.proofs.Common.{◌≡◌, ℕ, ◌⊎◌, inl, inr, List, ◌++◌, length, Option, Some, None, Err, Ok, refl, sym, subst, ap, ◌∙◌}
use Rattle.tl_grammar.specs.declared.fault.Expected.{Expected}
use Rattle.tl_grammar.specs.declared.fault.Expected.TheVariants as want
use Rattle.tl_grammar.specs.declared.fault.Fault.TheVariants as fault
use Rattle.tl_grammar.specs.declared.statement.Statement.{Statement}
use Rattle.tl_grammar.specs.Token.{Token}
use Rattle.tl_grammar.specs.Form.{Cursor, fresh, or_else}
use Rattle.tl_grammar.specs.Grammar.{ended, parsed_within, sentence}
use Rattle.tl_grammar.specs.Law.{ComesFirst}
use Rattle.tl_grammar.proofs.Combine.{bind_err}
use Rattle.tl_grammar.proofs.Seeks.{carried}
use Rattle.tl_grammar.proofs.Asks.{Asks, Left}
use Rattle.tl_grammar.proofs.GoesOn.{carried_nothing, ended_err}
use Rattle.tl_grammar.proofs.Rules.{sentence_law}

sentence_asks : (d : ℕ) → Asks (sentence d)
sentence_asks d = (sentence_law d).inner.near.low_asks

abbrev FirstAt : ℕ → List Token → ℕ → Expected → Type 0
FirstAt d ts l e = (before : List Token) × (rest : List Token) × (ts ≡ before ++ rest) × (l ≡ length rest) × ComesFirst d before e

at_end : (d : ℕ) (u : List Token) (wanted : Option Expected) (e : Expected) → e ≡ or_else wanted want.End → Left ((sentence d).ends u) ((sentence d).asks u) (carried None u) wanted → ComesFirst d u e
at_end d u wanted e h (inl k) = inr (k.1, h ∙ ap (λ (z : Option Expected). or_else z want.End) (k.0 ∙ carried_nothing u))
at_end d u wanted e h (inr k) =
    inl (subst (λ (w : Expected). (sentence d).asks u w) (sym (h ∙ ap (λ (z : Option Expected). or_else z want.End) (k.1 ∙ ap (λ (z : Option Expected). Some (or_else z k.0)) (carried_nothing u)))) k.2)

first_by : (d : ℕ) (ts : List Token) (l : ℕ) (e : Expected)
    → ((sentence d).read (fresh ts) ≡ Err (fault.Parse l e)) ⊎ ((r : Statement × Cursor) × ((sentence d).read (fresh ts) ≡ Ok r) × (ended r.0 r.1 r.1.rest ≡ Err (fault.Parse l e))) → FirstAt d ts l e
first_by d ts l e (inl h) =
    let p = (sentence_asks d).err (fresh ts) l e h in
    (p.0, p.1, p.2, p.3, inl (subst (λ (w : Expected). (sentence d).asks p.0 w) (sym (p.4.1 ∙ ap (λ (z : Option Expected). or_else z p.4.0) (carried_nothing p.0))) p.4.2))
first_by d ts l e (inr r) =
    let p = (sentence_asks d).ok (fresh ts) r.0.1 r.0.0 r.1 in
    let z = ended_err r.0.0 r.0.1 r.0.1.rest l e refl r.2 in
    (p.0, r.0.1.rest, p.1, z.0, at_end d p.0 r.0.1.wanted e z.1 p.2)

pub comes_first_law : (d : ℕ) (ts : List Token) (l : ℕ) (e : Expected) → parsed_within d ts ≡ Err (fault.Parse l e) → FirstAt d ts l e
unfolding parsed_within
comes_first_law d ts l e h = first_by d ts l e (bind_err ((sentence d).read (fresh ts)) (λ r. ended r.0 r.1 r.1.rest) (fault.Parse l e) h)
