-- One deed, and those after it.
use Rattle.std.proofs.Common.{◌≡◌, ℕ, ◌+◌, ◌-◌, ◌^◌, Bool, true, false, not, cond, ◌||◌, List, ◌∷◌, Option, None, Result, Ok, Err, refl, sym, ap, subst, ◌∙◌, arith}
use Rattle.std.specs.Prelude.{min, nat_le}
use Rattle.tl_schema.specs.declared.catalog.Table.{Table}
use Rattle.tl_write.specs.declared.fault.ChangeFault.{ChangeFault}
use Rattle.tl_write.specs.declared.fault.ChangeFault.TheVariants as fault
use Rattle.tl_write.specs.declared.judge.Progress.{Progress}
use Rattle.tl_write.specs.declared.write.Effect.{Effect}
use Rattle.tl_write.specs.declared.write.Write.{Write}
use Rattle.tl_write.specs.Change.{Deed, judge, judged, most_records, on_from, too_many, unless, where_so, with_write}
use Rattle.tl_write.specs.Fault.{IsFault}
use Rattle.tl_write.specs.Own.{fresh_count, is_rising, is_written, put_write, record_count}
use Rattle.tl_write.specs.Progress.{IsCounted, Meets, done}
use Rattle.tl_write.proofs.Fresh.{fresh_again, fresh_new}

written_none : (b : Bool) (x : Option ChangeFault) → not b ≡ false → cond b None x ≡ None
written_none true x h = refl
written_none false x h = absurd cc

fresh_one : (b : Bool) (x : Option ChangeFault) → not b ≡ true → cond b None x ≡ x
fresh_one true x h = absurd cc
fresh_one false x h = refl

either : (a b : Bool) → not (a || b) ≡ false → (b ≡ false) → a ≡ true
either true b h n = refl
either false b h n = absurd cc

neither : (a b : Bool) → not (a || b) ≡ true → a ≡ false
neither true b h = absurd cc
neither false b h = refl

nor : (a b : Bool) → not (a || b) ≡ true → b ≡ false
nor true b h = absurd cc
nor false true h = absurd cc
nor false false h = refl

zero_plus : (a : Bool) (n : ℕ) → a ≡ true → cond a 0 1 + n ≡ n
zero_plus true n h = omega arith
zero_plus false n h = absurd cc

one_plus : (a : Bool) (n : ℕ) → a ≡ false → cond a 0 1 + n ≡ n + 1
one_plus true n h = absurd cc
one_plus false n h = omega arith

same_count : (own : List Write) (w : Write) (ws : List Write) → is_rising ws ≡ true → not (is_written w.key own || is_written w.key ws) ≡ false →
    fresh_count own (put_write w ws) ≡ fresh_count own ws
same_count own w ws r h =
    elim (is_written w.key ws) as (λ b. is_written w.key ws ≡ b → fresh_count own (put_write w ws) ≡ fresh_count own ws) [
      | true ↦ λ p. fresh_again own w ws r p
      | false ↦ λ p. fresh_new own w ws p ∙ zero_plus (is_written w.key own) _ (either _ _ h p)
    ] refl

one_more : (own : List Write) (w : Write) (ws : List Write) → not (is_written w.key own || is_written w.key ws) ≡ true →
    fresh_count own (put_write w ws) ≡ fresh_count own ws + 1
one_more own w ws h = fresh_new own w ws (nor _ _ h) ∙ one_plus (is_written w.key own) _ (neither _ _ h)

abbrev put_so : Progress → Write → ℕ → Progress
put_so p w fresh = record { count = min (p.count + 1) (2 ^ 32 - 1); writes = put_write w p.writes; fresh = fresh }

-- a write of a record that is written already
pub again : (own : List Write) (p more : Progress) (w : Write) (b : Bool) → is_rising p.writes ≡ true → IsCounted own p →
    b ≡ not (is_written w.key own || is_written w.key p.writes) → b ≡ false → more ≡ put_so p w p.fresh →
    Meets own (Ok more) (unless (too_many own p.writes w.key) (with_write w (done p)))
again own p more w b r counted e h is =
    subst (λ (m : Progress). Meets own (Ok m) (unless (too_many own p.writes w.key) (with_write w (done p)))) (sym is) (
      ap (λ (o : Option ChangeFault). unless o (with_write w (done p))) (written_none _ _ (sym e ∙ h)),
      counted ∙ sym (same_count own w p.writes r (sym e ∙ h)),
    )

-- a write of a fresh record, where there is room
pub anew : (own : List Write) (p more : Progress) (w : Write) (b none : Bool) → IsCounted own p →
    b ≡ not (is_written w.key own || is_written w.key p.writes) → b ≡ true →
    none ≡ nat_le most_records (record_count own p.writes) → none ≡ false → more ≡ put_so p w (p.fresh + 1) →
    Meets own (Ok more) (unless (too_many own p.writes w.key) (with_write w (done p)))
anew own p more w b none counted e h f n is =
    subst (λ (m : Progress). Meets own (Ok m) (unless (too_many own p.writes w.key) (with_write w (done p)))) (sym is) (
      ap (λ (o : Option ChangeFault). unless o (with_write w (done p))) (fresh_one _ _ (sym e ∙ h) ∙ ap (λ (x : Bool). where_so x fault.Many) (sym f ∙ n)),
      ap (λ (m : ℕ). m + 1) counted ∙ sym (one_more own w p.writes (sym e ∙ h)),
    )

-- and where there is none
pub no_room : (own ws : List Write) (k : List ℕ) (more : Effect) (b none : Bool) → b ≡ not (is_written k own || is_written k ws) → b ≡ true →
    none ≡ nat_le most_records (record_count own ws) → none ≡ true → unless (too_many own ws k) more ≡ Err fault.Many
no_room own ws k more b none e h f n =
    ap (λ (o : Option ChangeFault). unless o more) (fresh_one _ _ (sym e ∙ h) ∙ ap (λ (x : Bool). where_so x fault.Many) (sym f ∙ n))

-- a deed that is done, and those after it
pub done_then : (t : Table) (there : List ℕ → Bool) (own : List Write) (deed : Deed) (deeds : List Deed) (p more : Progress) →
    Meets own (Ok more) (judge t there own deed (done p)) → judged t there own (deed ∷ deeds) (done p) ≡ judged t there own deeds (done more)
done_then t there own deed deeds p more h = ap (λ (r : Result Effect ChangeFault). on_from r (λ (m : Effect). judged t there own deeds m)) h.0

-- a deed that is refused
pub fault_then : (f : ChangeFault) (r : Result Effect ChangeFault) (next : Effect → Result Effect ChangeFault) → IsFault f r → IsFault f (on_from r next)
fault_then fault.Overflow r next h = ap (λ (x : Result Effect ChangeFault). on_from x next) h
fault_then fault.Null r next h = ap (λ (x : Result Effect ChangeFault). on_from x next) h
fault_then fault.Long r next h = ap (λ (x : Result Effect ChangeFault). on_from x next) h
fault_then fault.Duplicate r next h = ap (λ (x : Result Effect ChangeFault). on_from x next) h
fault_then fault.Many r next h = ap (λ (x : Result Effect ChangeFault). on_from x next) h
fault_then fault.NoMemory r next h = tt
