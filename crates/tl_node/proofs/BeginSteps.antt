-- A transaction that begins: what comes of each reply, for its node by the law and for the code.
use Rattle.std.proofs.Common.{◌≡◌, ℕ, ◌+◌, ◌^◌, Bool, true, false, List, [], Option, Some, None, refl, sym, subst, arith}
use Rattle.std.specs.Prelude.{not, ◌&&◌, ◌||◌, nat_le, nat_lt}
use Rattle.std.proofs.lemmas.Bool.Decides.{nat_tests}
use Rattle.std.proofs.lemmas.Bool.{or_right}
use Rattle.tl_base.specs.declared.place.Settings.{Settings}
use Rattle.tl_schema.specs.declared.catalog.Catalog.{Catalog}
use Rattle.tl_descriptor.specs.Tids.{TidSet, has}
use Rattle.tl_manager.specs.declared.mark.Mark.{Mark}
use Rattle.tl_manager.specs.declared.mark.Mark.TheVariants as mark
use Rattle.tl_manager.specs.declared.mark.TxnStep.{TxnStep}
use Rattle.tl_manager.specs.declared.mark.TxnStep.TheVariants as step
use Rattle.tl_manager.specs.declared.request.ManagerReply.TheVariants as manager
use Rattle.tl_isolation.specs.declared.bound.Bound.{Bound}
use Rattle.tl_isolation.specs.declared.entry.Answer.TheVariants as answer
use Rattle.tl_isolation.specs.declared.entry.Entry.{Entry}
use Rattle.tl_isolation.specs.declared.state.Commit.{Commit}
use Rattle.tl_protocol.specs.World.{Fresh}
use Rattle.tl_journal.specs.Ask.{Heard, Commits, Numbers, Told}
use Rattle.tl_journal.specs.Asks.{Course, ToBegin, asks_doing, course_outside}
use Rattle.tl_journal.specs.Node.{Outside, Noted, Drawing, Bringing, Node}
use Rattle.tl_journal.specs.Says as says
use Rattle.tl_journal.specs.Strange.{is_odd_begin, is_odd_for, is_stopped}
use Rattle.tl_journal.specs.Takes as law
use Rattle.tl_journal.specs.Takes.{takes_doing, with_doing}
use Rattle.tl_txn.specs.Doing.{doing_of}
use Rattle.tl_txn.specs.Marks.{entries_of}
use Rattle.tl_txn.specs.Taken as code
use Rattle.tl_txn.specs.Taken.{Taken, opened, takes, unless_odd}
use Rattle.tl_txn.specs.declared.phase.Phase.{Phase}
use Rattle.tl_txn.specs.declared.phase.Phase.TheVariants as phase
use Rattle.tl_node.specs.Fits.{IsBeginning}

odd_begin : (most tid : ℕ) (shown : Bool) → not (nat_le tid most && not shown) ≡ true → (nat_lt most tid || shown) ≡ true
odd_begin most tid true e = grind (arith, nat_tests)
odd_begin most tid false e = grind (arith, nat_tests)

odd_drawn : (most old : ℕ) → not (nat_le old most) ≡ true → nat_lt most old ≡ true
odd_drawn most old e = grind (arith, nat_tests)

even_begin : (most tid : ℕ) (shown : Bool) → not (nat_le tid most && not shown) ≡ false → (nat_lt most tid || shown) ≡ false
even_begin most tid true e = grind (arith, nat_tests)
even_begin most tid false e = grind (arith, nat_tests)

even_drawn : (most old : ℕ) → not (nat_le old most) ≡ false → nat_lt most old ≡ false
even_drawn most old e = grind (arith, nat_tests)

abbrev pub IsPlain : Mark → Type 0
IsPlain mark.Quiet = Unit {0}
IsPlain mark.Asked = Unit {0}
IsPlain other = ⊥

module _ (settings : Settings) (catalog : Catalog) (node : Node) (statement : Bound) where
  -- it begins still
  pub record StillBegins (after : Node) (said : List Commit → List Entry) (odd : Bool) (taken : Taken) (m : Mark) : Type 0 where
    pub after_is : after ≡ with_doing node (doing_of Fresh taken.phase)
    pub ask_is : asks_doing settings catalog (with_doing node (doing_of Fresh taken.phase)) statement (doing_of Fresh taken.phase) ≡ taken.ask
    pub begins : IsBeginning taken.phase
    pub says_is : (commits : List Commit) → said commits ≡ entries_of node.number m
    pub plain : IsPlain m
    pub not_odd : odd ≡ false

  -- it has begun
  pub record JustBegan (before : Phase) (heard : Heard) (taken : Taken) (m : Mark) : Type 0 where
    pub seen : TidSet
    pub tid : ℕ
    pub snapshot : TidSet
    pub floor : TidSet
    pub before_is : before ≡ phase.Noted seen
    pub heard_is : heard ≡ Told (manager.Began tid snapshot floor)
    pub mark_is : m ≡ mark.Began tid
    pub phase_is : taken.phase ≡ phase.Ready (opened tid snapshot)
    pub not_odd : is_odd_begin tid snapshot ≡ false

  abbrev pub ByStep : Phase → Heard → Node → (List Commit → List Entry) → Bool → Taken → Option TxnStep → Type 0
  ByStep before heard after said odd taken None = (is_stopped after.doing || odd) ≡ true
  ByStep before heard after said odd taken (Some (step.Going m)) = StillBegins after said odd taken m
  ByStep before heard after said odd taken (Some (step.Ready m)) = JustBegan before heard taken m
  ByStep before heard after said odd taken other = ⊥

  abbrev pub Outcome : Phase → Heard → Node → (List Commit → List Entry) → Bool → Taken → Type 0
  Outcome before heard after said odd taken = ByStep before heard after said odd taken taken.step

  unless : (before : Phase) (heard : Heard) (after : Node) (said : List Commit → List Entry) (odd b : Bool) (taken : Taken) → (b ≡ true → odd ≡ true)
      → (b ≡ false → Outcome before heard after said odd taken) → Outcome before heard after said odd (unless_odd b taken)
  unless before heard after said odd true taken h o = or_right (is_stopped after.doing) odd (h refl)
  unless before heard after said odd false taken h o = o refl

  asking : (heard : Heard)
      → Outcome phase.Asking heard (law.takes_outside settings node ToBegin heard) (λ commits. says.says_outside node statement ToBegin heard) (is_odd_for Outside heard)
      (code.takes_asking settings node.number heard)
  asking (Commits c) = record { after_is = refl; ask_is = refl; begins = tt; says_is = λ commits. refl; plain = tt; not_odd = refl }
  asking heard = refl

  noted : (seen : TidSet) (heard : Heard)
      → Outcome (phase.Noted seen) heard (law.takes_noted settings node statement seen heard) (λ commits. says.says_noted commits node statement heard) (is_odd_for (Noted seen) heard)
      (code.takes_noted settings node.number seen heard)
  noted seen (Told (manager.Began tid snapshot floor)) =
      unless (phase.Noted seen) (Told (manager.Began tid snapshot floor)) _ _ _ _ _ (odd_begin (2 ^ 62) tid (has snapshot tid))
      (λ e.
      record {
        seen = seen;
        tid = tid;
        snapshot = snapshot;
        floor = floor;
        before_is = refl;
        heard_is = refl;
        mark_is = refl;
        phase_is = refl;
        not_odd = even_begin (2 ^ 62) tid (has snapshot tid) e;
      })
  noted seen (Told manager.NeedRange) = record { after_is = refl; ask_is = refl; begins = tt; says_is = λ commits. refl; plain = tt; not_odd = refl }
  noted seen heard = refl

  drawing : (seen : TidSet) (heard : Heard)
      → Outcome (phase.Drawing seen) heard (law.takes_drawing node seen heard) (λ commits. []) (is_odd_for (Drawing seen) heard) (code.takes_drawing settings node.number seen heard)
  drawing seen (Numbers old) =
      unless (phase.Drawing seen) (Numbers old) _ _ _ _ _ (odd_drawn (2 ^ 62) (old + 16))
      (λ e. record { after_is = refl; ask_is = refl; begins = tt; says_is = λ commits. refl; plain = tt; not_odd = even_drawn (2 ^ 62) (old + 16) e })
  drawing seen heard = refl

  bringing : (seen : TidSet) (low : ℕ) (heard : Heard)
      → Outcome (phase.Bringing seen low) heard (law.takes_bringing node seen heard) (λ commits. []) (is_odd_for (Bringing seen low) heard)
      (code.takes_bringing settings node.number seen heard)
  bringing seen low (Told manager.Ranged) = record { after_is = refl; ask_is = refl; begins = tt; says_is = λ commits. refl; plain = tt; not_odd = refl }
  bringing seen low heard = refl

  abbrev pub OutcomeOf : Phase → Heard → Option TxnStep → Type 0
  OutcomeOf before heard made =
      ByStep before heard (takes_doing settings catalog node statement (doing_of Fresh before) heard answer.Begun)
      (λ commits. says.says_doing settings catalog commits node statement (doing_of Fresh before) heard answer.Begun) (is_odd_for (doing_of Fresh before) heard)
      (takes settings node.number before heard) made

  outcome : (before : Phase) (heard : Heard) → course_outside statement ≡ ToBegin → IsBeginning before → OutcomeOf before heard (takes settings node.number before heard).step
  outcome phase.Asking heard e begins =
      subst
      (λ (c : Course).
      Outcome phase.Asking heard (law.takes_outside settings node c heard) (λ commits. says.says_outside node statement c heard) (is_odd_for Outside heard)
      (code.takes_asking settings node.number heard)) (sym e) (asking heard)
  outcome (phase.Noted seen) heard e begins = noted seen heard
  outcome (phase.Drawing seen) heard e begins = drawing seen heard
  outcome (phase.Bringing seen low) heard e begins = bringing seen low heard
  outcome other heard e begins = absurd begins

  -- by the step that the code makes
  pub at_step : (before : Phase) (heard : Heard) (made : Option TxnStep) → course_outside statement ≡ ToBegin → IsBeginning before
      → (takes settings node.number before heard).step ≡ made → OutcomeOf before heard made
  at_step before heard made e begins is = subst (OutcomeOf before heard) is (outcome before heard e begins)
