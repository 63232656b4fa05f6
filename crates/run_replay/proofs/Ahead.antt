-- A journal that is ahead of the entries that were followed by lines of the script alone.
use Rattle.std.proofs.Common.{◌≡◌, ◌+◌, ◌<◌, ◌≤◌, ◌++◌, ◌∷◌, [], ◌∙◌, ℕ, zero, suc, List, Option, None, refl, sym, ap, subst, arith}
use Rattle.std.proofs.Common.{length, take, All, append_assoc}
use Rattle.std.specs.Prelude.{slice_index_or}
use Rattle.std.proofs.lemmas.List.{length-append}
use Rattle.flat_model.specs.declared.journals.Entry.{Entry}
use Rattle.flat_model.specs.declared.journals.Entry.TheVariants.{Turn, Order, Back, Leave, Done}
use Rattle.flat_model.specs.declared.journals.Item.{Item}
use Rattle.flat_model.specs.declared.journals.Item.TheVariants.{Step, Ordered, GaveBack, Left, Told, Got, Took}
use Rattle.flat_model.specs.declared.journals.Order.{Order as Given}
use Rattle.flat_model.specs.declared.journals.Origin.{Origin}
use Rattle.flat_model.specs.declared.journals.Origin.TheVariants.{Start, Script, Asked, Control}
use Rattle.flat_model.specs.Log.{log, log_from, steps, with_entry, journaled, turning, IsJoined, IsJoinedAfter}
use Rattle.baton_gate.specs.Logs.{GoesOn}
use Rattle.run_journal.proofs.OneJournal.{journal_is_one}
use Rattle.run_rules.specs.Guest.{Run}
use Rattle.run_rules.specs.Legal.{Legal}
use Rattle.host_state.specs.Scripting.{IsOfScript, IsLineOf}
use Rattle.run_replay.specs.Ahead.{IsScript, IsLineEntry, AreLines, IsAhead}

-- Logs of entries.

pub log_append : (past : List Item) (xs ys : List Entry) → log_from past (xs ++ ys) ≡ log_from (log_from past xs) ys
log_append past [] ys = refl
log_append past (x ∷ xs) ys = log_append (with_entry x past) xs ys

-- they have no item that stands in no journal
pub steps_journaled : (h n : ℕ) (past : List Item) → journaled (steps h n past) ≡ steps h n (journaled past)
steps_journaled h zero past = refl
steps_journaled h (suc n) past = ap (λ (xs : List Item). Step h ∷ xs) (steps_journaled h n past)

entry_stands : (e : Entry) (past : List Item) → journaled (with_entry e past) ≡ with_entry e (journaled past)
entry_stands (Turn h n) past = steps_journaled h n past
entry_stands (Order origin order) past = refl
entry_stands (Back h plugin) past = refl
entry_stands (Leave h) past = refl
entry_stands (Done party plugin) past = refl

all_stand : (past : List Item) (es : List Entry) → journaled (log_from past es) ≡ log_from (journaled past) es
all_stand past [] = refl
all_stand past (e ∷ es) = all_stand (with_entry e past) es ∙ ap (λ (xs : List Item). log_from xs es) (entry_stands e past)

pub journals_stand : (es : List Entry) → journaled (log es) ≡ log es
journals_stand es = all_stand [] es

-- and what is legal was legal before each of them
steps_legal : (run : Run) (h n : ℕ) (past : List Item) → Legal run (steps h n past) → Legal run past
unfolding Legal
steps_legal run h zero past legal = legal
steps_legal run h (suc n) past legal = steps_legal run h n past legal.0

entry_legal : (run : Run) (e : Entry) (past : List Item) → Legal run (with_entry e past) → Legal run past
unfolding Legal
entry_legal run (Turn h n) past legal = steps_legal run h n past legal
entry_legal run (Order origin order) past legal = legal.0
entry_legal run (Back h plugin) past legal = legal.0
entry_legal run (Leave h) past legal = legal.0
entry_legal run (Done party plugin) past legal = legal.0

pub legal_first : (run : Run) (past : List Item) (es : List Entry) → Legal run (log_from past es) → Legal run past
legal_first run past [] legal = legal
legal_first run past (e ∷ es) legal = entry_legal run e past (legal_first run (with_entry e past) es legal)

-- Joined entries.

joined_before : (last : Option ℕ) (k : ℕ) (es : List Entry) → IsJoinedAfter last es → IsJoinedAfter last (take k es)
joined_before last zero es joined = tt
joined_before last (suc k) [] joined = tt
joined_before last (suc k) (e ∷ es) joined = (joined.0, joined.1, joined_before (turning e) k es joined.2)

joined_more : (last : Option ℕ) (es : List Entry) (origin : Origin) (order : Given) → IsJoinedAfter last es
    → IsJoinedAfter last (es ++ Order origin order ∷ [])
joined_more None [] origin order joined = (tt, refl, tt)
joined_more (Option.Some h) [] origin order joined = (tt, refl, tt)
joined_more last (e ∷ es) origin order joined = (joined.0, joined.1, joined_more (turning e) es origin order joined.2)

-- Items that are lines, as entries.

lines_of : List Item → List Entry
lines_of [] = []
lines_of (Step h ∷ more) = lines_of more
lines_of (Ordered origin order ∷ more) = lines_of more ++ Order origin order ∷ []
lines_of (GaveBack h plugin ∷ more) = lines_of more
lines_of (Left h ∷ more) = lines_of more
lines_of (Told party plugin ∷ more) = lines_of more
lines_of (Got h plugin ∷ more) = lines_of more
lines_of (Took party plugin ∷ more) = lines_of more

of_script : (who : ℕ) (origin : Origin) → IsOfScript who origin → IsScript origin
of_script who Start is = is
of_script who (Script line party) is = tt
of_script who (Asked h plugin) is = is
of_script who (Control party) is = is

add_line : (es : List Entry) (origin : Origin) (order : Given) → AreLines es → IsScript origin → AreLines (es ++ Order origin order ∷ [])
add_line [] origin order are is = (is, tt)
add_line (e ∷ es) origin order are is = (are.0, add_line es origin order are.1 is)

-- behind these entries
record AreLinesBehind (es : List Entry) (more : List Item) : Type 0 where
  are : AreLines (lines_of more)
  log_is : log (es ++ lines_of more) ≡ more ++ log es
  joined : IsJoined (es ++ lines_of more)

append_none : (es : List Entry) → es ≡ es ++ []
append_none [] = refl
append_none (e ∷ es) = ap (λ (xs : List Entry). e ∷ xs) (append_none es)

one_line : (es : List Entry) (who : ℕ) (origin : Origin) (order : Given) (more : List Item) → AreLinesBehind es more
    → IsOfScript who origin → AreLinesBehind es (Ordered origin order ∷ more)
unfolding lines_of
one_line es who origin order more behind is =
    let e = Order origin order in
    let same : es ++ (lines_of more ++ e ∷ []) ≡ (es ++ lines_of more) ++ e ∷ [] = sym (append_assoc es (lines_of more) (e ∷ [])) in
    record {
      are = add_line (lines_of more) origin order behind.are (of_script who origin is);
      log_is = ap log same ∙ log_append [] (es ++ lines_of more) (e ∷ [])
          ∙ ap (λ (xs : List Item). Ordered origin order ∷ xs) behind.log_is;
      joined = subst IsJoined (sym same) (joined_more None (es ++ lines_of more) origin order behind.joined);
    }

lines_behind : (es : List Entry) (who : ℕ) (more : List Item) → IsJoined es → All (IsLineOf who) more → AreLinesBehind es more
unfolding lines_of
lines_behind es who [] joined each = record {
  are = tt;
  log_is = ap log (sym (append_none es));
  joined = subst IsJoined (append_none es) joined;
}
lines_behind es who (Step h ∷ more) joined each = absurd (each 0 (Step h) (omega arith))
lines_behind es who (Ordered origin order ∷ more) joined each =
    one_line es who origin order more (lines_behind es who more joined (λ k d low. each (suc k) d (omega (arith, low))))
    (each 0 (Ordered origin order) (omega arith))
lines_behind es who (GaveBack h plugin ∷ more) joined each = absurd (each 0 (GaveBack h plugin) (omega arith))
lines_behind es who (Left h ∷ more) joined each = absurd (each 0 (Left h) (omega arith))
lines_behind es who (Told party plugin ∷ more) joined each = absurd (each 0 (Told party plugin) (omega arith))
lines_behind es who (Got h plugin ∷ more) joined each = absurd (each 0 (Got h plugin) (omega arith))
lines_behind es who (Took party plugin ∷ more) joined each = absurd (each 0 (Took party plugin) (omega arith))

-- lines stand in a journal as they stand in the log
lines_journaled : (who : ℕ) (more past : List Item) → All (IsLineOf who) more → journaled (more ++ past) ≡ more ++ journaled past
lines_journaled who [] past each = refl
lines_journaled who (Step h ∷ more) past each = absurd (each 0 (Step h) (omega arith))
lines_journaled who (Ordered origin order ∷ more) past each =
    ap (λ (xs : List Item). Ordered origin order ∷ xs) (lines_journaled who more past (λ k d low. each (suc k) d (omega (arith, low))))
lines_journaled who (GaveBack h plugin ∷ more) past each = absurd (each 0 (GaveBack h plugin) (omega arith))
lines_journaled who (Left h ∷ more) past each = absurd (each 0 (Left h) (omega arith))
lines_journaled who (Told party plugin ∷ more) past each = absurd (each 0 (Told party plugin) (omega arith))
lines_journaled who (Got h plugin ∷ more) past each = absurd (each 0 (Got h plugin) (omega arith))
lines_journaled who (Took party plugin ∷ more) past each = absurd (each 0 (Took party plugin) (omega arith))

pub goes_journaled : (who : ℕ) (seen now : List Item) → GoesOn (IsLineOf who) seen now
    → GoesOn (IsLineOf who) (journaled seen) (journaled now)
goes_journaled who seen now goes = record {
  more = goes.more;
  begins = ap journaled goes.begins ∙ lines_journaled who goes.more seen goes.later;
  later = goes.later;
}

-- a journal whose log goes on by lines behind that of the first k entries
pub is_ahead : (k who : ℕ) (es own : List Entry) → IsJoined es → IsJoined own → GoesOn (IsLineOf who) (log (take k es)) (log own)
    → IsAhead k es own
is_ahead k who es own joined own_joined goes =
    let behind = lines_behind (take k es) who goes.more (joined_before None k es joined) goes.later in
    record {
      lines = lines_of goes.more;
      begins = journal_is_one own (take k es ++ lines_of goes.more) own_joined behind.joined (goes.begins ∙ sym behind.log_is);
      are = behind.are;
    }

-- How far it is ahead.

taken : (k : ℕ) (es : List Entry) → k ≤ length es → length (take k es) ≡ k
taken zero es low = refl
taken (suc k) [] low = absurd (omega (arith, low))
taken (suc k) (e ∷ es) low = let rest = taken k es (omega (arith, low)) in omega (arith, rest)

pub ahead_by : (k : ℕ) (es own : List Entry) (ahead : IsAhead k es own) → k ≤ length es → length own ≡ k + length ahead.lines
ahead_by k es own ahead low =
    let all : length (take k es ++ ahead.lines) ≡ length (take k es) + length ahead.lines = length-append (take k es) ahead.lines in
    omega (arith, ap length ahead.begins, all, taken k es low)

none_more : (es : List Entry) → length es ≤ 0 → es ≡ []
none_more [] none = refl
none_more (e ∷ es) none = absurd (omega (arith, none))

-- it isn't
pub level : (k : ℕ) (es own : List Entry) → IsAhead k es own → k ≤ length es → length own ≤ k → own ≡ take k es
level k es own ahead low none =
    let many = ahead_by k es own ahead low in
    ahead.begins ∙ ap (λ (xs : List Entry). take k es ++ xs) (none_more ahead.lines (omega (arith, many, none)))
    ∙ sym (append_none (take k es))

-- or it has a line there
pub record HasLine (k : ℕ) (es own : List Entry) : Type 0 where
  pub line : ℕ
  pub who : ℕ
  pub order : Given
  pub later : List Entry
  pub begins : own ≡ take k es ++ Order (Script line who) order ∷ later
  pub are : AreLines later

has_line : (k : ℕ) (es own lines : List Entry) → own ≡ take k es ++ lines → AreLines lines → 0 < length lines → HasLine k es own
has_line k es own [] begins are some = absurd (omega (arith, some))
has_line k es own (Turn h n ∷ later) begins are some = absurd are.0
has_line k es own (Order Start order ∷ later) begins are some = absurd are.0
has_line k es own (Order (Script line who) order ∷ later) begins are some =
    record { line = line; who = who; order = order; later = later; begins = begins; are = are.1 }
has_line k es own (Order (Asked h plugin) order ∷ later) begins are some = absurd are.0
has_line k es own (Order (Control party) order ∷ later) begins are some = absurd are.0
has_line k es own (Back h plugin ∷ later) begins are some = absurd are.0
has_line k es own (Leave h ∷ later) begins are some = absurd are.0
has_line k es own (Done party plugin ∷ later) begins are some = absurd are.0

pub line_there : (k : ℕ) (es own : List Entry) → IsAhead k es own → k ≤ length es → k < length own → HasLine k es own
line_there k es own ahead low more =
    let many = ahead_by k es own ahead low in
    has_line k es own ahead.lines ahead.begins ahead.are (omega (arith, many, more))

at_end : (xs : List Entry) (e d : Entry) (later : List Entry) → slice_index_or (xs ++ e ∷ later) (length xs) d ≡ e
at_end [] e d later = refl
at_end (x ∷ xs) e d later =
    let next : length (x ∷ xs) ≡ suc (length xs) = omega arith in
    ap (λ (k : ℕ). slice_index_or ((x ∷ xs) ++ e ∷ later) k d) next ∙ at_end xs e d later

-- which is the entry of that index
pub line_at : (k : ℕ) (es own : List Entry) (d : Entry) (has : HasLine k es own) → k ≤ length es
    → slice_index_or own k d ≡ Order (Script has.line has.who) has.order
line_at k es own d has low =
    ap (λ (xs : List Entry). slice_index_or xs k d) has.begins
    ∙ ap (λ (j : ℕ). slice_index_or (take k es ++ Order (Script has.line has.who) has.order ∷ has.later) j d) (sym (taken k es low))
    ∙ at_end (take k es) (Order (Script has.line has.who) has.order) d has.later

take_more : (k : ℕ) (es : List Entry) (e : Entry) → k < length es → slice_index_or es k e ≡ e → take (k + 1) es ≡ take k es ++ e ∷ []
take_more zero [] e low at = absurd (omega (arith, low))
take_more zero (x ∷ es) e low at = ap (λ (y : Entry). y ∷ []) at
take_more (suc k) [] e low at = absurd (omega (arith, low))
take_more (suc k) (x ∷ es) e low at =
    let next : suc k + 1 ≡ suc (k + 1) = omega arith in
    ap (λ (n : ℕ). take n (x ∷ es)) next ∙ ap (λ (xs : List Entry). x ∷ xs) (take_more k es e (omega (arith, low)) at)

-- where the entries have the same there, one more was followed
pub follows_line : (k : ℕ) (es own : List Entry) (e : Entry) (has : HasLine k es own) → k < length es → slice_index_or es k e ≡ e
    → e ≡ Order (Script has.line has.who) has.order → IsAhead (k + 1) es own
follows_line k es own e has low at same = record {
  lines = has.later;
  begins = has.begins ∙ ap (λ (x : Entry). take k es ++ x ∷ has.later) (sym same)
      ∙ sym (append_assoc (take k es) (e ∷ []) has.later) ∙ ap (λ (xs : List Entry). xs ++ has.later) (sym (take_more k es e low at));
  are = has.are;
}
