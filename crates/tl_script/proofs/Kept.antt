-- Each line leaves the parts of a script bound, and adds at most one opening row.
use Rattle.std.proofs.Common.{◌≡◌, ℕ, ◌+◌, ◌<◌, ◌≤◌, ◌^◌, ◌==◌, ◌||◌, Bool, true, false, cond, List, [], ◌∷◌, ◌++◌, Option, Some, None, Result, Ok, Err, length, length-append, refl, ap, subst, ◌∙◌, arith}
use Rattle.std.specs.Prelude.{IfOk, codes, not}
use Rattle.std.specs.List.{AllByRecursion, list_any, onto_first}
use Rattle.std.proofs.lemmas.Bool.{not-false, or_parts}
use Rattle.std.specs.Option.{option_and_then}
use Rattle.std.specs.Str.{bytes_eq}
use Rattle.tl_lemmas.proofs.Lists.{all_append, weaker}
use Rattle.tl_base.specs.declared.place.Settings.{Settings}
use Rattle.tl_isolation.specs.declared.bound.Bound.{Bound}
use Rattle.tl_isolation.specs.declared.script.Script.{Script}
use Rattle.tl_isolation.specs.declared.script.Session.{Session}
use Rattle.tl_isolation.specs.declared.script.TurnItem.{TurnItem}
use Rattle.tl_isolation.specs.declared.script.TurnItem.TheVariants.{One, Until}
use Rattle.tl_isolation.specs.declared.script.Vanish.{Vanish}
use Rattle.tl_journal.specs.Binding.{EachOnce, IsBound, ItemFits, StatementFits, VanishFits, has_session}
use Rattle.tl_journal.specs.Schedule.{node_of}
use Rattle.tl_script.specs.declared.fault.ScriptError.{ScriptError}
use Rattle.tl_script.specs.declared.statement.Statement.{Statement}
use Rattle.tl_script.specs.declared.statement.Statement.TheVariants.{Begin, Commit, Rollback, Recover, Insert, SelectAll, Select, Update, Delete}
use Rattle.tl_script.specs.Build.{bound_of, opening_row}
use Rattle.tl_script.specs.Directive.{item_in, vanish_in}
use Rattle.tl_script.specs.Fields.{fields_of}
use Rattle.tl_script.specs.Lines.{lines_of}
use Rattle.tl_script.specs.Node.{node_in}
use Rattle.tl_script.specs.Parts.{Parts, has_key, has_schedule, has_vanish, is_none, no_parts, placed, said_last, script_with, take_by, take_item, take_items, take_line, take_node, take_opening, take_statement, take_turns, take_vanish, unless, with_item, with_node, with_vanish}
use Rattle.tl_script.specs.Script.{Fault, Gives, ◌>>=◌, or_not_built, parts_in, script_in, script_of}
use Rattle.tl_script.specs.Statement.{Names, statement_in, table_in}
use Rattle.tl_script.proofs.Bound.{AreOpening, IsOpening, catalog_with, rows_fit, statement_fits, table_fits, writes_fit}
use Rattle.tl_script.proofs.Openings.{KeysOnce, distinct_rows, once_more}
use Rattle.tl_script.proofs.Ranges.{IsInRange, IsInSchedule, in_range, item_range, vanish_range, within_range}

abbrev pub IsNode : Session → Type 0
IsNode s = (1 ≤ s.node) × (s.node ≤ 16)

abbrev pub SaysFitting : Names → Session → Type 0
SaysFitting names s = AllByRecursion (StatementFits (catalog_with names)) s.statements

-- the parts are those of a bound script, with at most this many opening rows
pub record PartsFit (names : Names) (most : ℕ) (parts : Parts) : Type 0 where
  pub rows : AreOpening parts.rows
  pub few : length parts.rows ≤ most
  pub nodes : AllByRecursion IsNode parts.sessions
  pub sessions : EachOnce (λ (s : Session). s.node) parts.sessions
  pub vanishes : EachOnce (λ (v : Vanish). v.node) parts.vanishes
  pub statements : AllByRecursion (SaysFitting names) parts.sessions
  pub keys : KeysOnce names parts.rows
  pub turns : AllByRecursion (ItemFits parts.sessions) parts.turns
  pub counts : AllByRecursion (VanishFits parts.sessions) parts.vanishes

-- where there are such parts
abbrev pub Stays : Names → ℕ → Option Parts → Type 0
Stays names most None = Unit {0}
Stays names most (Some parts) = PartsFit names most parts

-- there is nothing amiss where they stand
unless_known : (names : Names) (most : ℕ) (amiss : Bool) (parts : Parts) → (amiss ≡ false → PartsFit names most parts) → Stays names most (unless amiss parts)
unless_known names most true parts f = tt
unless_known names most false parts f = f refl

none_push : {A : Type 0} (p : A → Bool) (xs : List A) (y : A) → list_any p xs ≡ false → p y ≡ false → list_any p (xs ++ y ∷ []) ≡ false
none_push p [] y h i = ap (λ (b : Bool). b || false) i
none_push p (x ∷ xs) y h i = let parts = or_parts (p x) (list_any p xs) h in λ j. parts.0 j || none_push p xs y parts.1 i j

-- one more of a number that isn't there
once_push : {A : Type 0} (number_in : A → ℕ) (xs : List A) (y : A) → list_any (λ x. number_in x == number_in y) xs ≡ false → EachOnce number_in xs
    → EachOnce number_in (xs ++ y ∷ [])
once_push number_in [] y h o = (refl, tt)
once_push number_in (x ∷ xs) y h o =
    let parts = or_parts (number_in x == number_in y) (list_any (λ x. number_in x == number_in y) xs) h in
    (none_push (λ z. number_in x == number_in z) xs y o.0 parts.0, once_push number_in xs y parts.1 o.1)

-- a statement leaves the nodes of the sessions
said_any : (p : ℕ → Bool) (b : Bound) (sessions : List Session) → list_any (λ (s : Session). p s.node) (said_last b sessions) ≡ list_any (λ (s : Session). p s.node) sessions
said_any p b [] = refl
said_any p b (s ∷ []) = refl
said_any p b (s ∷ t ∷ sessions) = ap (λ (found : Bool). p s.node || found) (said_any p b (t ∷ sessions))

said_once : (b : Bound) (sessions : List Session) → EachOnce (λ (s : Session). s.node) sessions → EachOnce (λ (s : Session). s.node) (said_last b sessions)
said_once b [] h = tt
said_once b (s ∷ []) h = h
said_once b (s ∷ t ∷ sessions) h = (said_any (λ n. s.node == n) b (t ∷ sessions) ∙ h.0, said_once b (t ∷ sessions) h.1)

found_stays : {A : Type 0} (names : Names) (most : ℕ) (f : A → Option Parts) (o : Option A) → ((x : A) → o ≡ Some x → Stays names most (f x)) → Stays names most (option_and_then f o)
found_stays names most f None h = tt
found_stays names most f (Some x) h = h x refl

then_stays : (names : Names) (most : ℕ) (f : Parts → Option Parts) (o : Option Parts) → Stays names most o → ((p : Parts) → PartsFit names most p → Stays names most (f p)) → Stays names most (option_and_then f o)
then_stays names most f None s h = tt
then_stays names most f (Some p) s h = h p s

wider : (names : Names) (most : ℕ) (parts : Parts) → PartsFit names most parts → PartsFit names (most + 1) parts
wider names most parts f = record {
  rows = f.rows;
  few = omega (arith, f.few);
  nodes = f.nodes;
  sessions = f.sessions;
  vanishes = f.vanishes;
  statements = f.statements;
  keys = f.keys;
  turns = f.turns;
  counts = f.counts;
}

-- each node that had a session has one
abbrev Keeps : List Session → List Session → Type 0
Keeps old new = (n : ℕ) → has_session old n ≡ true → has_session new n ≡ true

item_keeps : (old new : List Session) → Keeps old new → (item : TurnItem) → ItemFits old item → ItemFits new item
item_keeps old new k (One node times) h = (k node h.0, h.1, h.2)
item_keeps old new k (Until node statement) h = (k node h.0, h.1, h.2)

turns_keep : (old new : List Session) → Keeps old new → (items : List TurnItem) → AllByRecursion (ItemFits old) items → AllByRecursion (ItemFits new) items
turns_keep old new k items h = weaker (ItemFits old) (ItemFits new) (item_keeps old new k) items h

counts_keep : (old new : List Session) → Keeps old new → (vs : List Vanish) → AllByRecursion (VanishFits old) vs → AllByRecursion (VanishFits new) vs
counts_keep old new k vs h =
    weaker (VanishFits old) (VanishFits new) (λ v f. record { session = k v.node f.session; least = f.least; most = f.most }) vs h

any_push : {A : Type 0} (p : A → Bool) (xs : List A) (y : A) → list_any p xs ≡ true → list_any p (xs ++ y ∷ []) ≡ true
any_push p [] y h = absurd (cc)
any_push p (x ∷ xs) y h =
    elim (p x) as (λ b. (b || list_any p xs) ≡ true → (b || list_any p (xs ++ y ∷ [])) ≡ true) [
      | true ↦ λ i. refl
      | false ↦ λ i. any_push p xs y i
    ] h

more_keeps : (old : List Session) (s : Session) → Keeps old (old ++ s ∷ [])
more_keeps old s n h = any_push (λ (s : Session). s.node == n) old s h

said_keeps : (b : Bound) (old : List Session) → Keeps old (said_last b old)
said_keeps b old n h = said_any (λ m. m == n) b old ∙ h

item_fits : (sessions : List Session) (item : TurnItem) → IsInSchedule item → has_session sessions (node_of item) ≡ true → ItemFits sessions item
item_fits sessions (One node times) r h = (h, r.from, r.to)
item_fits sessions (Until node statement) r h = (h, r.from, r.to)

wider_stays : (names : Names) (most : ℕ) (o : Option Parts) → Stays names most o → Stays names (most + 1) o
wider_stays names most None s = tt
wider_stays names most (Some parts) s = wider names most parts s

node_stays : (names : Names) (most : ℕ) (parts : Parts) (digits : List ℕ) (node : ℕ) → PartsFit names most parts → node_in digits ≡ Some node → Stays names most (with_node parts node)
node_stays names most parts digits node f e =
    let range = within_range 1 16 digits node e in
    unless_known names most (has_schedule parts || has_session parts.sessions node) _ (λ new. record {
      rows = f.rows;
      few = f.few;
      nodes = all_append IsNode parts.sessions _ f.nodes ((range.from, range.to), tt);
      sessions = once_push (λ (s : Session). s.node) parts.sessions (record { node = node; statements = [] })
          (or_parts (has_schedule parts) (has_session parts.sessions node) new).1 f.sessions;
      vanishes = f.vanishes;
      statements = all_append (SaysFitting names) parts.sessions _ f.statements (tt, tt);
      keys = f.keys;
      turns = turns_keep parts.sessions _ (more_keeps parts.sessions (record { node = node; statements = [] })) parts.turns f.turns;
      counts = counts_keep parts.sessions _ (more_keeps parts.sessions (record { node = node; statements = [] })) parts.vanishes f.counts;
    })

take_node_stays : (names : Names) (most : ℕ) (fields : List (List ℕ)) (parts : Parts) → PartsFit names most parts → Stays names most (take_node fields parts)
take_node_stays names most [] parts f = tt
take_node_stays names most (digits ∷ []) parts f = found_stays names most (with_node parts) (node_in digits) (λ node e. node_stays names most parts digits node f e)
take_node_stays names most (digits ∷ other ∷ fields) parts f = tt

item_stays : (names : Names) (most : ℕ) (field : List ℕ) (parts : Parts) → PartsFit names most parts → Stays names most (take_item field parts)
item_stays names most field parts f =
    found_stays names most (with_item parts) (item_in field) (λ item e. unless_known names most _ _ (λ known. record {
      rows = f.rows;
      few = f.few;
      nodes = f.nodes;
      sessions = f.sessions;
      vanishes = f.vanishes;
      statements = f.statements;
      keys = f.keys;
      turns = all_append (ItemFits parts.sessions) parts.turns (item ∷ []) f.turns
          (item_fits parts.sessions item (item_range field item e) (not-false (has_session parts.sessions (node_of item)) known), tt);
      counts = f.counts;
    }))

items_stay : (names : Names) (most : ℕ) (fields : List (List ℕ)) (parts : Parts) → PartsFit names most parts → Stays names most (take_items fields parts)
items_stay names most [] parts f = f
items_stay names most (field ∷ fields) parts f =
    then_stays names most (take_items fields) (take_item field parts) (item_stays names most field parts f) (items_stay names most fields)

turns_stay : (names : Names) (most : ℕ) (fields : List (List ℕ)) (parts : Parts) → PartsFit names most parts → Stays names most (take_turns fields parts)
turns_stay names most [] parts f = tt
turns_stay names most (field ∷ fields) parts f = items_stay names most (field ∷ fields) parts f

vanish_stays : (names : Names) (most : ℕ) (fields : List (List ℕ)) (parts : Parts) → PartsFit names most parts → Stays names most (take_vanish fields parts)
vanish_stays names most fields parts f =
    found_stays names most (with_vanish parts) (vanish_in fields) (λ v e. unless_known names most _ _ (λ new. record {
      rows = f.rows;
      few = f.few;
      nodes = f.nodes;
      sessions = f.sessions;
      vanishes = once_push (λ (v : Vanish). v.node) parts.vanishes v (or_parts (not (has_session parts.sessions v.node)) (has_vanish v.node parts) new).1 f.vanishes;
      statements = f.statements;
      keys = f.keys;
      turns = f.turns;
      counts =
          let range = vanish_range fields v e in
          let known = not-false (has_session parts.sessions v.node) (or_parts (not (has_session parts.sessions v.node)) (has_vanish v.node parts) new).0 in
          let fits : VanishFits parts.sessions v = record { session = known; least = range.from; most = range.to } in
          all_append (VanishFits parts.sessions) parts.vanishes (v ∷ []) f.counts (fits, tt);
    }))

opening_stays : (names : Names) (most : ℕ) (s : Statement) (parts : Parts) → PartsFit names most parts → IsInRange s → Stays names (most + 1) (take_opening s parts)
opening_stays names most Begin parts f r = tt
opening_stays names most Commit parts f r = tt
opening_stays names most Rollback parts f r = tt
opening_stays names most (Recover node) parts f r = tt
opening_stays names most (Insert key other) parts f r =
    let opens : IsOpening (opening_row key other) = record { key = key; other = other; is = refl; key_fits = r.0; other_fits = r.1 } in
    unless_known names (most + 1) (has_key key parts.rows) _ (λ new. record {
      rows = all_append IsOpening parts.rows _ f.rows (opens, tt);
      few = omega (arith, f.few, length-append parts.rows (opening_row key other ∷ []));
      nodes = f.nodes;
      sessions = f.sessions;
      vanishes = f.vanishes;
      statements = f.statements;
      keys = once_more names parts.rows key other f.rows r.0 new f.keys;
      turns = f.turns;
      counts = f.counts;
    })
opening_stays names most SelectAll parts f r = tt
opening_stays names most (Select key) parts f r = tt
opening_stays names most (Update other key) parts f r = tt
opening_stays names most (Delete key) parts f r = tt

said_nodes : (b : Bound) (sessions : List Session) → AllByRecursion IsNode sessions → AllByRecursion IsNode (said_last b sessions)
said_nodes b [] h = tt
said_nodes b (s ∷ []) h = h
said_nodes b (s ∷ t ∷ sessions) h = (h.0, said_nodes b (t ∷ sessions) h.1)

said_statements : (names : Names) (b : Bound) (sessions : List Session) → StatementFits (catalog_with names) b → AllByRecursion (SaysFitting names) sessions
    → AllByRecursion (SaysFitting names) (said_last b sessions)
said_statements names b [] f h = tt
said_statements names b (s ∷ []) f h = (all_append (StatementFits (catalog_with names)) s.statements (b ∷ []) h.0 (f, tt), tt)
said_statements names b (s ∷ t ∷ sessions) f h = (h.0, said_statements names b (t ∷ sessions) f h.1)

placed_by : (first : Bool) (names : Names) (most : ℕ) (s : Statement) (parts : Parts) → PartsFit names most parts → IsInRange s
    → Stays names (most + 1) (cond first (take_opening s parts) (Some (record parts { sessions = said_last (bound_of s) parts.sessions })))
placed_by true names most s parts f r = opening_stays names most s parts f r
placed_by false names most s parts f r = wider names most _ (record {
  rows = f.rows;
  few = f.few;
  nodes = said_nodes (bound_of s) parts.sessions f.nodes;
  sessions = said_once (bound_of s) parts.sessions f.sessions;
  vanishes = f.vanishes;
  statements = said_statements names (bound_of s) parts.sessions (statement_fits names s r) f.statements;
  keys = f.keys;
  turns = turns_keep parts.sessions _ (said_keeps (bound_of s) parts.sessions) parts.turns f.turns;
  counts = counts_keep parts.sessions _ (said_keeps (bound_of s) parts.sessions) parts.vanishes f.counts;
})

statement_by : (late : Bool) (names : Names) (most : ℕ) (s : Statement) (parts : Parts) → PartsFit names most parts → IsInRange s
    → Stays names (most + 1) (cond late None (placed s parts))
statement_by true names most s parts f r = tt
statement_by false names most s parts f r = placed_by (is_none parts.sessions) names most s parts f r

statement_stays : (names : Names) (most : ℕ) (line : List ℕ) (parts : Parts) → PartsFit names most parts → Stays names (most + 1) (take_statement names line parts)
statement_stays names most line parts f =
    found_stays names (most + 1) _ (statement_in names line) (λ s e. statement_by (has_schedule parts) names most s parts f (in_range names line s e))

one_of : (node turns vanish : Bool) (names : Names) (most : ℕ) (a b c d : Option Parts) → Stays names most a → Stays names most b → Stays names most c → Stays names (most + 1) d
    → Stays names (most + 1) (cond node a (cond turns b (cond vanish c d)))
one_of true turns vanish names most a b c d f g h i = wider_stays names most a f
one_of false true vanish names most a b c d f g h i = wider_stays names most b g
one_of false false true names most a b c d f g h i = wider_stays names most c h
one_of false false false names most a b c d f g h i = i

by_stays : (names : Names) (most : ℕ) (line : List ℕ) (fields : List (List ℕ)) (parts : Parts) → PartsFit names most parts → Stays names (most + 1) (take_by names line fields parts)
by_stays names most line [] parts f = statement_stays names most line parts f
by_stays names most line (head ∷ fields) parts f =
    one_of (bytes_eq head (codes "@node")) (bytes_eq head (codes "@turns")) (bytes_eq head (codes "@vanish")) names most
    (take_node fields parts) (take_turns fields parts) (take_vanish fields parts) (take_statement names line parts)
    (take_node_stays names most fields parts f) (turns_stay names most fields parts f) (vanish_stays names most fields parts f) (statement_stays names most line parts f)

line_stays : (names : Names) (most : ℕ) (line : List ℕ) (parts : Parts) → PartsFit names most parts → Stays names (most + 1) (take_line names line parts)
unfolding take_line
line_stays names most line parts f = by_stays names most line (fields_of line) parts f

ok_bind : {A B : Type 0} (r : Result A Fault) (f : A → Result B Fault) (y : B) → (r >>= f) ≡ Ok y → (x : A) × (r ≡ Ok x) × (f x ≡ Ok y)
ok_bind (Ok x) f y e = (x, refl, e)
ok_bind (Err fault) f y e = absurd (cc)

ok_built : {A : Type 0} (number : ℕ) (o : Option A) (x : A) → or_not_built number o ≡ Ok x → o ≡ Some x
ok_built number None x e = absurd (cc)
ok_built number (Some y) x e = cc

ok_inside : {A : Type 0} (x y : A) → ◌≡◌ {A = Result A Fault} (Ok x) (Ok y) → x ≡ y
ok_inside x y e = cc

lines_fit : (names : Names) (number most : ℕ) (lines : List (List ℕ)) (parts read : Parts) → PartsFit names most parts → parts_in names number lines parts ≡ Ok read
    → PartsFit names (most + length lines) read
unfolding parts_in
lines_fit names number most [] parts read f e = subst (PartsFit names (most + 0)) (ok_inside parts read e) (let z : most + 0 ≡ most = omega arith in rw z f)
lines_fit names number most (line ∷ lines) parts read f e =
    let next = ok_bind (or_not_built number (take_line names line parts)) _ read e in
    let stays : PartsFit names (most + 1) next.0 = subst (Stays names (most + 1)) (ok_built number (take_line names line parts) next.0 next.1) (line_stays names most line parts f) in
    let whole : PartsFit names (most + 1 + length lines) read = lines_fit names (number + 1) (most + 1) lines next.0 read stays next.2 in
    record {
      rows = whole.rows;
      few = omega (arith, whole.few);
      nodes = whole.nodes;
      sessions = whole.sessions;
      vanishes = whole.vanishes;
      statements = whole.statements;
      keys = whole.keys;
      turns = whole.turns;
      counts = whole.counts;
    }

-- a script of these lines is bound, and has fewer opening rows than lines
pub record IsRead (lines : List (List ℕ)) (script : Script) : Type 0 where
  pub bound : (settings : Settings) → IsBound script settings
  pub few : length script.rows ≤ length lines

none_fit : (names : Names) → PartsFit names 0 no_parts
none_fit names = record { rows = tt; few = omega arith; nodes = tt; sessions = tt; vanishes = tt; statements = tt; keys = tt; turns = tt; counts = tt }

script_read : (lines : List (List ℕ)) (script : Script) → script_in lines ≡ Ok script → IsRead lines script
unfolding script_in
script_read [] script e = absurd (cc)
script_read (table ∷ lines) script e =
    let names = ok_bind (or_not_built 1 (table_in table)) _ script e in
    let parts = ok_bind (parts_in names.0 2 lines no_parts) _ script names.2 in
    let fit : PartsFit names.0 (0 + length lines) parts.0 = lines_fit names.0 2 0 lines no_parts parts.0 (none_fit names.0) parts.1 in
    subst (IsRead (table ∷ lines)) (ok_inside (script_with names.0 parts.0) script parts.2) (record {
      bound = λ settings. record {
        some = omega arith;
        few = omega arith;
        tables = (table_fits names.0, tt);
        nodes = fit.nodes;
        sessions = fit.sessions;
        statements = fit.statements;
        turns = fit.turns;
        vanishes = fit.vanishes;
        counts = fit.counts;
        opening = rows_fit names.0 parts.0.rows fit.rows;
        writes = writes_fit names.0 parts.0.rows fit.rows;
        distinct = distinct_rows names.0 parts.0.rows fit.keys;
      };
      few = omega (arith, fit.few);
    })

length-onto_first : (b : ℕ) (lines : List (List ℕ)) → length (onto_first b lines) ≤ length lines + 1
length-onto_first b [] = omega arith
length-onto_first b (line ∷ lines) = omega arith

length-cond : (feed : Bool) (b : ℕ) (lines : List (List ℕ)) → length (cond feed ([] ∷ lines) (onto_first b lines)) ≤ length lines + 1
length-cond true b lines = omega arith
length-cond false b lines = length-onto_first b lines

length-lines_of : (bytes : List ℕ) → length (lines_of bytes) ≤ length bytes
length-lines_of [] = omega arith
length-lines_of (b ∷ bytes) = omega (arith, length-cond (b == 10) b (lines_of bytes), length-lines_of bytes)

of_read : (bytes : List ℕ) (script : Script) → script_of bytes ≡ Ok script → IsRead (lines_of bytes) script
unfolding script_of
of_read bytes script e = script_read (lines_of bytes) script e

pub is_bound : (bytes : List ℕ) (answer : Result Script ScriptError) → Gives answer (script_of bytes) → IfOk answer (λ script. (settings : Settings) → IsBound script settings)
is_bound bytes (Ok script) e = (of_read bytes script e).bound
is_bound bytes (Err error) e = tt

pub few_rows : (bytes : List ℕ) (answer : Result Script ScriptError) → length bytes ≤ 1048576 → Gives answer (script_of bytes) → IfOk answer (λ script. length script.rows < 2 ^ 32)
few_rows bytes (Ok script) some e = omega (arith, (of_read bytes script e).few, length-lines_of bytes)
few_rows bytes (Err error) some e = tt
