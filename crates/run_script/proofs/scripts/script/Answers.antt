-- What is said of the script's first refusal says all.
use Rattle.std.proofs.Common.{◌≤◌, ℕ, List, length, Result, Ok, Err, subst, IfOk, Vec, Global}
use Rattle.flat_model.specs.declared.journals.Timed.{Timed}
use Rattle.flat_model.specs.declared.refusals.Refused.{Refused}
use Rattle.flat_model.specs.Plan.{IsPlan}
use Rattle.run_script.specs.declared.refusals.ScriptRefusal.{ScriptRefusal}
use Rattle.run_script.specs.Words.{Gives}
use Rattle.run_script.specs.Scripts.{script}
use Rattle.run_script.specs.ScriptGrammar.{SpellsScript}
use Rattle.run_script.proofs.Entries.{plan_of}
use Rattle.run_script.proofs.ScriptTexts.{script_reads, script_spelt}
use Rattle.run_script.proofs.scripts.script.Goals as goal

abbrev Answer : Type 0
Answer = Result (Vec Timed Global) (Refused ScriptRefusal)

only : (answer : Answer) (bytes : List ℕ) → Gives (λ list. list.items) answer (script bytes)
    → IfOk answer (λ list. SpellsScript list.items bytes)
only (Ok list) bytes e = script_spelt list.items bytes e
only (Err why) bytes e = tt

plan : (answer : Answer) (bytes : List ℕ) → length bytes ≤ 65536 → Gives (λ list. list.items) answer (script bytes)
    → IfOk answer (λ list. IsPlan list.items)
plan (Ok list) bytes small e = plan_of bytes list.items small e
plan (Err why) bytes small e = tt

read : (answer : Answer) (bytes : List ℕ) (list : List Timed) → Gives (λ list. list.items) answer (script bytes)
    → SpellsScript list bytes → Gives (λ list. list.items) answer (Ok list)
read answer bytes list e spells = subst (λ r. Gives (λ list. list.items) answer r) (script_reads list bytes spells) e

pub returns-clause-only : goal.returns-clause-only
returns-clause-only c = only c.all_entries.result c.args.bytes.now c.all_entries.ensures

pub returns-clause-plan : goal.returns-clause-plan
returns-clause-plan c = plan c.all_entries.result c.args.bytes.now c.requires.size c.all_entries.ensures

pub returns-clause-read : goal.returns-clause-read
returns-clause-read c list spells = read c.all_entries.result c.args.bytes.now list c.all_entries.ensures spells
