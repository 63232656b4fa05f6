-- Refusals that were told, as answers.
use Rattle.std.proofs.Common.{◌≡◌, ℕ, List, [], Option, Some, None, refl, subst, inl, inr}
use Rattle.flat_model.specs.declared.journals.Entry.{Entry}
use Rattle.command_words.specs.declared.values.RunOptions.{RunOptions}
use Rattle.command_words.specs.Commands.{CommandText, Run, Replay}
use Rattle.code_listing.specs.declared.listings.ListingOf.{ListingOf}
use Rattle.code_listing.specs.declared.listings.ListingOf.TheVariants.{Instructions, Blocks}
use Rattle.call_inputs.specs.declared.refusals.Input.{Input}
use Rattle.call_inputs.specs.declared.refusals.Input.TheVariants.{File, Script, Journal}
use Rattle.call_inputs.specs.declared.refusals.Refusal.{Refusal}
use Rattle.call_inputs.specs.declared.refusals.Refusal.TheVariants.{CannotRead, TooLong, OutOfMemory}
use Rattle.call_inputs.specs.Lines.{refusal_line}
use Rattle.run_order.specs.InOrder.{Task}
use Rattle.host_cli.specs.Files.{FilesAround, AreKept}
use Rattle.host_cli.specs.Commands.{list_command}
use Rattle.host_cli.specs.Telling.{IsTold}
use Rattle.host_cli.specs.Refusals.{input_of, input_name, named_in}
use Rattle.host_cli.specs.Replays.{ReplayedCause}
use Rattle.host_cli.specs.Answers.{Refuses}
use Rattle.host_cli.specs.Sinks.{Around, WasTold, IsSilent}

pub refuses : (command : Option CommandText) (name : List ℕ) (r : Refusal) (files : FilesAround) (out report : Around) (status : ℕ)
    → name ≡ named_in command (input_of r) → IsTold name r report status → IsSilent out → AreKept files
    → Refuses command r files out report status
refuses command name r files out report status named (inl told) silent kept = record {
  put = r;
  is_it = inl refl;
  status_is = told.0;
  line = subst (λ (n : List ℕ). WasTold report (refusal_line n r)) named told.1;
  silent = silent;
  kept = kept;
}
refuses command name r files out report status named (inr told) silent kept = record {
  put = OutOfMemory;
  is_it = inr refl;
  status_is = told.0;
  line = no_name command told.1;
  silent = silent;
  kept = kept;
}
  where
    no_name : (command : Option CommandText) → WasTold report (refusal_line [] OutOfMemory)
        → WasTold report (refusal_line (named_in command None) OutOfMemory)
    no_name None told = told
    no_name (Some c) told = told

pub run_names : (options : RunOptions) (script journal : Option (List ℕ)) (file : List ℕ) (plugins : List (List ℕ)) (o : Option Input)
    → input_name o file script [] ≡ named_in (Some (Run options script journal file plugins)) o
run_names options script journal file plugins None = refl
run_names options script journal file plugins (Some File) = refl
run_names options script journal file plugins (Some Script) = refl
run_names options script journal file plugins (Some Journal) = refl

pub replay_names : (options : RunOptions) (script : Option (List ℕ)) (file journal : List ℕ) (plugins : List (List ℕ)) (o : Option Input)
    → input_name o file script journal ≡ named_in (Some (Replay options script file journal plugins)) o
replay_names options script file journal plugins None = refl
replay_names options script file journal plugins (Some File) = refl
replay_names options script file journal plugins (Some Script) = refl
replay_names options script file journal plugins (Some Journal) = refl

-- a replay that isn't made names no input
pub unnamed : (t : Task) (es : List Entry) (command : CommandText) (r : Refusal) → ReplayedCause t es r
    → [] ≡ named_in (Some command) (input_of r)
unnamed t es command (CannotRead input) cause = absurd cause
unnamed t es command (TooLong input) cause = absurd cause
unnamed t es command r cause = refl

pub list_names : (what : ListingOf) (file : List ℕ) (o : Option Input) → input_name o file None [] ≡ named_in (Some (list_command what file)) o
list_names Instructions file None = refl
list_names Instructions file (Some File) = refl
list_names Instructions file (Some Script) = refl
list_names Instructions file (Some Journal) = refl
list_names Blocks file None = refl
list_names Blocks file (Some File) = refl
list_names Blocks file (Some Script) = refl
list_names Blocks file (Some Journal) = refl
