-- Forms in a row.
use Rattle.std.proofs.Common.{◌≡◌, ℕ, zero, suc, true, false, List, [], ◌∷◌, Result, Ok, Err, refl, sym, ap, ◌∙◌}
use Rattle.tl_grammar.specs.declared.fault.Fault.{Fault}
use Rattle.tl_grammar.specs.Token.{Token}
use Rattle.tl_tokens.specs.declared.fault.Stop.{Stop}
use Rattle.tl_tokens.specs.declared.fault.Stop.TheVariants as stop
use Rattle.tl_tokens.specs.Seen.{Fails}
use Rattle.tl_grammar.specs.Form.{Cursor, Form, missing, read_row, starts, ◌>>=ᵣ◌}

pub row_stops : {X Y : Type 0} (step : X → Y → X) (form : X → Form Y) (n : ℕ) (acc : X) (at : Cursor)
    → starts (form acc).begins at.rest ≡ false → read_row step form n acc at ≡ Ok (acc, missing (form acc).wants at)
row_stops step form zero acc at e = refl
row_stops step form (suc n) acc at e = rw e refl

pub row_takes : {X Y : Type 0} (step : X → Y → X) (form : X → Form Y) (n m : ℕ) (acc : X) (at : Cursor)
    → n ≡ suc m → starts (form acc).begins at.rest ≡ true
    → read_row step form n acc at ≡ ((form acc).read at >>=ᵣ λ r. read_row step form m (step acc r.0) r.1)
row_takes step form n m acc at n_is e = rw n_is (rw e refl)

pub row_goes : {X Y : Type 0} (step : X → Y → X) (form : X → Form Y) (n m : ℕ) (acc : X) (at : Cursor) (y : Y) (after : Cursor)
    → n ≡ suc m → starts (form acc).begins at.rest ≡ true → (form acc).read at ≡ Ok (y, after)
    → read_row step form n acc at ≡ read_row step form m (step acc y) after
row_goes step form n m acc at y after n_is e r = row_takes step form n m acc at n_is e ∙ rw r refl

pub row_fails : {X Y : Type 0} (step : X → Y → X) (form : X → Form Y) (n m : ℕ) (acc : X) (at : Cursor) (f : Fault)
    → n ≡ suc m → starts (form acc).begins at.rest ≡ true → (form acc).read at ≡ Err f → read_row step form n acc at ≡ Err f
row_fails step form n m acc at f n_is e r = row_takes step form n m acc at n_is e ∙ rw r refl

-- a loop over a row: its three ends
pub row_ends : {X Y : Type 0} (step : X → Y → X) (form : X → Form Y) (n : ℕ) (acc : X) (at : Cursor) (total : Result (X × Cursor) Fault) (next : Cursor)
    → read_row step form n acc at ≡ total → starts (form acc).begins at.rest ≡ false → next ≡ missing (form acc).wants at → total ≡ Ok (acc, next)
row_ends {X} step form n acc at total next kept e m =
    sym kept ∙ row_stops step form n acc at e ∙ ap (λ (c : Cursor). Ok (acc, c)) (sym m)

pub row_none : {X Y : Type 0} (step : X → Y → X) (form : X → Form Y) (n : ℕ) (acc : X) (at : Cursor) (total : Result (X × Cursor) Fault) (next : Cursor)
    → n ≡ 0 → read_row step form n acc at ≡ total → next ≡ missing (form acc).wants at → total ≡ Ok (acc, next)
row_none {X} step form n acc at total next n_is kept m =
    sym kept ∙ ap (λ (k : ℕ). read_row step form k acc at) n_is ∙ ap (λ (c : Cursor). Ok (acc, c)) (sym m)

pub row_keeps : {X Y : Type 0} (step : X → Y → X) (form : X → Form Y) (n m : ℕ) (acc new : X) (at after : Cursor) (y : Y) (total : Result (X × Cursor) Fault)
    → n ≡ suc m → read_row step form n acc at ≡ total → starts (form acc).begins at.rest ≡ true → (form acc).read at ≡ Ok (y, after) → new ≡ step acc y
    → read_row step form m new after ≡ total
row_keeps step form n m acc new at after y total n_is kept e r made =
    ap (λ a. read_row step form m a after) made ∙ sym (row_goes step form n m acc at y after n_is e r) ∙ kept

pub row_broken : {X Y : Type 0} (step : X → Y → X) (form : X → Form Y) (n m : ℕ) (acc : X) (at : Cursor) (f : Fault) (total : Result (X × Cursor) Fault)
    → n ≡ suc m → read_row step form n acc at ≡ total → starts (form acc).begins at.rest ≡ true → (form acc).read at ≡ Err f → total ≡ Err f
row_broken step form n m acc at f total n_is kept e r = sym kept ∙ row_fails step form n m acc at f n_is e r

pub row_stopped : {X Y : Type 0} (step : X → Y → X) (form : X → Form Y) (n m : ℕ) (acc : X) (at : Cursor) (s : Stop) (total : Result (X × Cursor) Fault)
    → n ≡ suc m → read_row step form n acc at ≡ total → starts (form acc).begins at.rest ≡ true → Fails s ((form acc).read at) → Fails s total
row_stopped step form n m acc at stop.NoMemory total n_is kept e h = tt
row_stopped step form n m acc at (stop.Fault f) total n_is kept e h = row_broken step form n m acc at f total n_is kept e h

-- no token begins a form that nothing is of
pub never : (ts : List Token) → starts (λ t. false) ts ≡ false
never [] = refl
never (t ∷ ts) = refl
