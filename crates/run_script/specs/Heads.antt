-- The head of a part, and the subscription that a part spells.
use Rattle.std.specs.Prelude.{ℕ, ◌+◌, ◌-◌, ◌^◌, ◌<◌, ◌&&◌, ◌||◌, codes, Bool, true, false}
use Rattle.std.specs.Prelude.{if◌then◌else◌, List, length, take, drop, Option, Some, None, is_some, unwrap_or, Result, Ok, Err, suc}
use Rattle.std.specs.Str.{bytes_eq}
use Rattle.flat_model.specs.declared.plugins.KindName.{KindName}
use Rattle.flat_model.specs.declared.plugins.KindName.TheVariants.{Counts, Hot, Mem, Exec, Classes, Pages, Own}
use Rattle.flat_model.specs.declared.plugins.Kind.{Kind}
use Rattle.flat_model.specs.declared.plugins.Ask.{Ask}
use Rattle.flat_model.specs.declared.plugins.Ask.TheVariants.{Reset, Uninstall}
use Rattle.flat_model.specs.declared.limits.TheConstants.{ENTRIES_MOST, KINDS_ALL, KIND_BLOCK, KIND_INSN, KIND_MEM}
use Rattle.flat_model.specs.declared.limits.TheConstants.{CLASSES_ALL, READS_AND_WRITES}
use Rattle.flat_model.specs.Kinds.{staying, resetting, uninstalling}
use Rattle.flat_model.specs.declared.plugins.Op.{Op}
use Rattle.flat_model.specs.declared.plugins.Op.TheVariants.{Add, Store}
use Rattle.flat_model.specs.declared.plugins.Cond.{Cond}
use Rattle.flat_model.specs.declared.plugins.Act.{Act}
use Rattle.flat_model.specs.declared.plugins.Act.TheVariants as acts
use Rattle.flat_model.specs.declared.plugins.Filter.{Filter}
use Rattle.flat_model.specs.declared.plugins.Sub.{Sub}
use Rattle.run_script.specs.declared.refusals.SpecRule.{SpecRule}
use Rattle.run_script.specs.declared.refusals.SpecRule.TheVariants.{Name, Number}
use Rattle.run_script.specs.declared.heads.Head.{Head}
use Rattle.run_script.specs.declared.heads.Head.TheVariants.{Boxed, Inline, When}
use Rattle.run_script.specs.declared.items.Items.{Items}
use Rattle.run_script.specs.Bytes.{colon, before, after, tail_len}
use Rattle.run_script.specs.Numbers.{number, entry_number}
use Rattle.run_script.specs.Names.{kind_named, cond_named}

abbrev pub inline_of : Op → Option ℕ → Option ℕ → Result Head SpecRule
inline_of op None imm = Err Number
inline_of op (Some entry) None = Err Number
inline_of op (Some entry) (Some imm) = Ok (Inline op entry imm)

abbrev pub inline_after : Op → List ℕ → Option (List ℕ) → Result Head SpecRule
inline_after op entry None = Err Name
inline_after op entry (Some imm) = inline_of op (entry_number entry) (number 10 20 imm)

-- an entry and a number
unfoldable pub inline_head : Op → List ℕ → Result Head SpecRule
inline_head op text = inline_after op (before colon text) (after colon text)

abbrev pub when_of : Cond → KindName → Option ℕ → Option ℕ → Result Head SpecRule
when_of cond kind None imm = Err Number
when_of cond kind (Some entry) None = Err Number
when_of cond kind (Some entry) (Some imm) = Ok (When cond entry imm kind)

abbrev pub when_numbers : Cond → KindName → List ℕ → Option (List ℕ) → Result Head SpecRule
when_numbers cond kind entry None = Err Name
when_numbers cond kind entry (Some imm) = when_of cond kind (entry_number entry) (number 10 20 imm)

abbrev pub when_named : Option Cond → Option KindName → List ℕ → Result Head SpecRule
when_named None kind text = Err Name
when_named (Some cond) None text = Err Name
when_named (Some cond) (Some kind) text = when_numbers cond kind (before colon text) (after colon text)

-- the kind stands after the last colon, and an entry and a number before it
abbrev pub when_tail : Option Cond → List ℕ → Option ℕ → Result Head SpecRule
when_tail cond text None = Err Name
when_tail cond text (Some n) =
    when_named cond (kind_named (drop (length text - n) text)) (take (length text - n - 1) text)

abbrev pub when_after : Option Cond → Option (List ℕ) → Result Head SpecRule
when_after cond None = Err Name
when_after cond (Some text) = when_tail cond text (tail_len colon text)

-- a condition, an entry, a number and a kind
unfoldable pub when_head : List ℕ → Result Head SpecRule
when_head text = when_after (cond_named (before colon text)) (after colon text)

unfoldable pub worded_head : List ℕ → List ℕ → Result Head SpecRule
worded_head word text =
    if bytes_eq word (codes "add") then inline_head Add text
    else if bytes_eq word (codes "set") then inline_head Store text
    else if bytes_eq word (codes "when") then when_head text
    else Err Name

abbrev pub act_head : List ℕ → Option (List ℕ) → Result Head SpecRule
act_head word None = Err Name
act_head word (Some text) = worded_head word text

abbrev pub or_act : Option KindName → List ℕ → Result Head SpecRule
or_act (Some kind) text = Ok (Boxed kind)
or_act None text = act_head (before colon text) (after colon text)

-- the head that a text spells
unfoldable pub head_of : List ℕ → Result Head SpecRule
head_of text = or_act (kind_named text) text

-- the head is a kind's name or begins with `when:`
unfoldable pub calls_a_box : List ℕ → Bool
calls_a_box text = is_some (kind_named text) || (bytes_eq (before colon text) (codes "when") && is_some (after colon text))

abbrev pub is_when : Head → Bool
is_when (Boxed kind) = false
is_when (Inline op entry imm) = false
is_when (When cond entry imm kind) = true

-- whether the act of a head calls a box
abbrev pub does_call : Head → Bool
does_call (Boxed kind) = true
does_call (Inline op entry imm) = false
does_call (When cond entry imm kind) = true

-- the kind of a name, which asks at its quota where both are given
abbrev pub kind_of : KindName → Option ℕ → Option Ask → Kind
kind_of name (Some (suc q)) (Some Reset) = resetting name q
kind_of name (Some (suc q)) (Some Uninstall) = uninstalling name q
kind_of name _ _ = staying name

-- the events that a kind hears where no item says them
abbrev pub kind_events : KindName → ℕ
kind_events Counts = KINDS_ALL
kind_events Hot = KIND_BLOCK
kind_events Mem = KIND_MEM
kind_events Exec = KIND_INSN
kind_events Classes = KIND_INSN
kind_events Pages = KIND_MEM
kind_events (Own n) = KIND_INSN

abbrev pub usual_events : Head → ℕ
usual_events (Boxed kind) = kind_events kind
usual_events (Inline op entry imm) = KIND_INSN
usual_events (When cond entry imm kind) = KIND_INSN

abbrev pub act_of : Head → Items → Act
act_of (Boxed kind) items = acts.Call (kind_of kind items.quota items.ask)
act_of (Inline op entry imm) items = acts.Inline op entry imm
act_of (When cond entry imm kind) items = acts.Cond cond entry imm items.then_store (kind_of kind items.quota items.ask)

-- the filter of the items, with its defaults
abbrev pub filter_of : Head → Items → Filter
filter_of head items =
    let span = unwrap_or items.pc (record { lo = 0; hi = 2 ^ 64 - 1 }) in
    record {
      kinds = unwrap_or items.kinds (usual_events head);
      lo = span.lo;
      hi = span.hi;
      classes = unwrap_or items.classes CLASSES_ALL;
      rw = unwrap_or items.rw READS_AND_WRITES;
    }

abbrev pub sub_of : Head → Items → Sub
sub_of head items = record { filter = filter_of head items; act = act_of head items }

-- how many entries a head needs
abbrev pub entries_of : Head → ℕ
entries_of (Boxed kind) = 0
entries_of (Inline op entry imm) = entry + 1
entries_of (When cond entry imm kind) = entry + 1

-- an entry is below the most entries of a set
abbrev pub EntryFits : Head → Type 0
EntryFits (Boxed kind) = Unit {0}
EntryFits (Inline op entry imm) = entry < ENTRIES_MOST
EntryFits (When cond entry imm kind) = entry < ENTRIES_MOST
