-- An act that is carried out is what the walk of its set does there.
use Rattle.std.proofs.Common.{◌≡◌, ◌<◌, ◌∙◌, ◌++◌, ◌∷◌, [], ℕ, true, false, List, length, map, refl, sym, ap, subst, arith, Option, Some, None}
use Rattle.std.proofs.Common.{All, MatchResult}
use Rattle.std.specs.Prelude.{slice_index, slice_set, slice_index_or, if◌then◌else◌, Result, Ok, Err}
use Rattle.std.proofs.Math.Seq.{map-set_same}
use Rattle.std.proofs.lemmas.List.{map-set, get_or-map, set-get_or, length-set, length-map}
use Rattle.std.proofs.lemmas.List.Elements.{All-set}
use Rattle.flat_model.specs.declared.events.Event.{Event}
use Rattle.flat_model.specs.declared.refusals.NoMemory.{NoMemory}
use Rattle.flat_model.specs.declared.plugins.Ask.{Ask}
use Rattle.flat_model.specs.declared.plugins.Ask.TheVariants.{Stay, Reset, Uninstall}
use Rattle.flat_model.specs.declared.plugins.Act.TheVariants.{Inline as InlineAct}
use Rattle.flat_model.specs.declared.plugins.Op.TheVariants.{Add}
use Rattle.flat_model.specs.Columns.{holds, op_result, after_act}
use Rattle.event_walk.specs.Walk.{Walk, acts, hears, first_ask, then_stores}
use Rattle.watcher_api.specs.declared.held_acts.HeldAct.{HeldAct}
use Rattle.watcher_api.specs.declared.held_acts.HeldAct.TheVariants.{Call, Inline, Cond}
use Rattle.watcher_api.specs.Heard.{Heard, with_event}
use Rattle.watcher_api.specs.Attachment.{Attachment, IsWithin, calls_at}
use Rattle.watcher_api.specs.HeldActs.{act_of, heard_of, carried_out, CarriedOut, next_ask, stored}
use Rattle.watcher_api.specs.Acting.{act_in, HasActed}

pub first_stays : (asked : Ask) → first_ask asked Stay ≡ asked
first_stays Stay = refl
first_stays Reset = refl
first_stays Uninstall = refl

-- a walk with what the act at place i left
abbrev left_at : List (List Event) → ℕ → Ask → CarriedOut → Walk
left_at heard i asked left =
    record { heard = slice_set heard i (heard_of left.held); column = left.column; asked = first_ask asked left.ask }

-- what a call makes of a walk
called : (watcher : Heard) (e : Event) (i : ℕ) (heard : List (List Event)) (column : List ℕ) (asked : Ask)
    → slice_index_or heard i [] ≡ watcher.events
    → hears watcher.kind i e (record { heard = heard; column = column; asked = asked })
    ≡ record { heard = slice_set heard i (watcher.events ++ e ∷ []); column = column; asked = first_ask asked (next_ask watcher) }
called watcher e i heard column asked is = rw is refl

-- what nothing makes of it
stayed : (i : ℕ) (heard : List (List Event)) (events : List Event) (column : List ℕ) (asked : Ask)
    → slice_index_or heard i [] ≡ events
    → (let w : Walk = record { heard = heard; column = column; asked = asked } in w)
    ≡ record { heard = slice_set heard i events; column = column; asked = first_ask asked Stay }
stayed i heard events column asked is = rw (← is, set-get_or heard i [], first_stays asked) refl

after_store : (then_store : Option ℕ) (entry : ℕ) (heard : List (List Event)) (column : List ℕ) (asked : Ask)
    → then_stores then_store entry (record { heard = heard; column = column; asked = asked })
    ≡ record { heard = heard; column = stored then_store entry column; asked = asked }
after_store None entry heard column asked = refl
after_store (Some value) entry heard column asked = refl

act_walks : (held : HeldAct Heard) (e : Event) (i : ℕ) (heard : List (List Event)) (column : List ℕ) (asked : Ask)
    → slice_index_or heard i [] ≡ heard_of held
    → acts (act_of held) i e (record { heard = heard; column = column; asked = asked })
    ≡ left_at heard i asked (carried_out e held column)
unfolding carried_out
act_walks (Call watcher) e i heard column asked is = called watcher e i heard column asked is
act_walks (Inline op entry imm) e i heard column asked is = stayed i heard [] (after_act op entry imm column) asked is
act_walks (Cond cond entry imm then_store watcher) e i heard column asked is =
    elim (holds cond (slice_index column entry) imm) as (λ test.
    (if test then then_stores then_store entry (hears watcher.kind i e (record { heard = heard; column = column; asked = asked }))
    else record { heard = heard; column = column; asked = asked })
    ≡ left_at heard i asked (if test then record {
      held = Cond cond entry imm then_store (with_event watcher e);
      column = stored then_store entry column;
      ask = next_ask watcher;
    } else record { held = Cond cond entry imm then_store watcher; column = column; ask = Stay })) [
      | true ↦ ap (then_stores then_store entry) (called watcher e i heard column asked is)
          ∙ after_store then_store entry (slice_set heard i (watcher.events ++ e ∷ [])) column (first_ask asked (next_ask watcher))
      | false ↦ stayed i heard watcher.events column asked is
    ]

-- the act with its box at place i of a set is carried out
pub acted : (xs : List (HeldAct Heard)) (i : ℕ) (held new : HeldAct Heard) (e : Event) (column after : List ℕ) (asked ask : Ask)
    → i < length xs → held ≡ slice_index_or xs i held
    → carried_out e held column ≡ record { held = new; column = after; ask = ask }
    → acts (act_in (map act_of xs) i) i e (record { heard = map heard_of xs; column = column; asked = asked })
    ≡ record { heard = map heard_of (slice_set xs i new); column = after; asked = first_ask asked ask }
acted xs i held new e column after asked ask below is done =
    let act : act_in (map act_of xs) i ≡ act_of held = get_or-map act_of xs i held (InlineAct Add 0 0) below ∙ ap act_of (sym is) in
    let heard : slice_index_or (map heard_of xs) i [] ≡ heard_of held = get_or-map heard_of xs i held [] below ∙ ap heard_of (sym is) in
    rw (act, map-set heard_of xs i new)
    (act_walks held e i (map heard_of xs) column asked heard ∙ ap (left_at (map heard_of xs) i asked) done)

-- the place that was written keeps what it names
pub within_set : (n : ℕ) (xs : List (HeldAct Heard)) (i : ℕ) (held new : HeldAct Heard)
    → i < length xs → held ≡ slice_index_or xs i held → act_of new ≡ act_of held
    → All (λ h. IsWithin n (act_of h)) xs → All (λ h. IsWithin n (act_of h)) (slice_set xs i new)
within_set n xs i held new below is same all =
    All-set (λ h. IsWithin n (act_of h)) xs i new
    (subst (IsWithin n) (sym same) (subst (λ h. IsWithin n (act_of h)) (sym is) (all i held below))) all

-- The number of entries stays.

stored_length : (then_store : Option ℕ) (entry : ℕ) (column : List ℕ) → length (stored then_store entry column) ≡ length column
stored_length None entry column = refl
stored_length (Some value) entry column = length-set column entry value

carried_length : (e : Event) (held : HeldAct Heard) (column : List ℕ) → length (carried_out e held column).column ≡ length column
unfolding carried_out
carried_length e (Call watcher) column = refl
carried_length e (Inline op entry imm) column = length-set column entry (op_result op (slice_index column entry) imm)
carried_length e (Cond cond entry imm then_store watcher) column =
    elim (holds cond (slice_index column entry) imm) as (λ test. (let left : CarriedOut = if test then record {
      held = Cond cond entry imm then_store (with_event watcher e);
      column = stored then_store entry column;
      ask = next_ask watcher;
    } else record { held = Cond cond entry imm then_store watcher; column = column; ask = Stay }
    in length left.column) ≡ length column) [
      | true ↦ stored_length then_store entry column
      | false ↦ refl
    ]

-- a set with these acts and entries
abbrev pub viewed : ℕ → List (HeldAct Heard) → List ℕ → Attachment
viewed plugin xs column = record { plugin = plugin; acts = map act_of xs; heard = map heard_of xs; column = column }

module _ (plugin : ℕ) (xs : List (HeldAct Heard)) (i : ℕ) (held new : HeldAct Heard) (e : Event) (column after : List ℕ)
    (below : i < length xs) (is : held ≡ slice_index_or xs i held) where
  same_acts : act_of new ≡ act_of held → map act_of (slice_set xs i new) ≡ map act_of xs
  same_acts same = map-set_same act_of xs i new held (same ∙ ap act_of is)

  pub hears_as : (r : Result Ask NoMemory)
      → MatchResult r (λ ask. carried_out e held column ≡ record { held = new; column = after; ask = ask })
      (λ _. calls_at (act_of held) column ≡ true)
      → MatchResult r (λ _. act_of new ≡ act_of held) (λ _. (new ≡ held) × (after ≡ column))
      → MatchResult r (λ ask. HasActed i e (viewed plugin xs column) (viewed plugin (slice_set xs i new) after) ask)
      (λ _. (viewed plugin (slice_set xs i new) after ≡ viewed plugin xs column)
      × (calls_at (act_in (map act_of xs) i) column ≡ true))
  hears_as (Ok ask) done same = record {
    number = refl;
    same = same_acts same;
    done = λ asked. acted xs i held new e column after asked ask below is done;
  }
  hears_as (Err why) done same =
      let unchanged : slice_set xs i new ≡ xs = rw (same.0, is) (set-get_or xs i held) in (
        rw (unchanged, same.1) refl,
        subst (λ a. calls_at a column ≡ true) (sym (get_or-map act_of xs i held (InlineAct Add 0 0) below ∙ ap act_of (sym is))) done,
      )

  pub same_act : (r : Result Ask NoMemory)
      → MatchResult r (λ _. act_of new ≡ act_of held) (λ _. (new ≡ held) × (after ≡ column)) → act_of new ≡ act_of held
  same_act (Ok ask) same = same
  same_act (Err why) same = ap act_of same.0

  pub same_length : (r : Result Ask NoMemory)
      → MatchResult r (λ ask. carried_out e held column ≡ record { held = new; column = after; ask = ask })
      (λ _. calls_at (act_of held) column ≡ true)
      → MatchResult r (λ _. act_of new ≡ act_of held) (λ _. (new ≡ held) × (after ≡ column)) → length after ≡ length column
  same_length (Ok ask) done same = ap (λ left. length left.column) (sym done) ∙ carried_length e held column
  same_length (Err why) done same = ap length same.1

  pub all_within : act_of new ≡ act_of held → length after ≡ length column
      → All (λ h. IsWithin (length column) (act_of h)) xs → All (λ h. IsWithin (length after) (act_of h)) (slice_set xs i new)
  all_within same long all = rw long (within_set (length column) xs i held new below is same all)

-- an index of an act is one of its box
pub is_there : (plugin : ℕ) (xs : List (HeldAct Heard)) (i : ℕ) (column : List ℕ) (now : Attachment)
    → viewed plugin xs column ≡ now → i < length now.acts → i < length xs
is_there plugin xs i column now is below = omega (arith, below, ap (λ a. length a.acts) is, length-map xs act_of)
