-- A generated program's file in memory: what a run of it is made of, and why it can't begin.
use Rattle.std.proofs.Common.{◌≡◌, ◌∙◌, ℕ, List, [], Option, Some, None, refl, sym, subst}
use Rattle.std.specs.Prelude.{IsTrue}
use Rattle.std.proofs.lemmas.Option.{same_Some}
use Rattle.flat_model.specs.Image.{Program}
use Rattle.flat_model.specs.Plan.{Planned}
use Rattle.elf_image.specs.Loads.{Loads}
use Rattle.elf_image.specs.Loads as elf
use Rattle.call_inputs.specs.declared.refusals.Input.TheVariants as inputs
use Rattle.call_inputs.specs.declared.refusals.Input.{Input}
use Rattle.call_inputs.specs.declared.refusals.Refusal.{Refusal}
use Rattle.call_inputs.specs.declared.refusals.Refusal.TheVariants as refusals
use Rattle.call_inputs.specs.Causes.{ImageCause, WordsCause, RunCause, by_file, by_words, by_script}
use Rattle.call_inputs.specs.Inputs.{Storage, IsImageOf, IsPlanOf}
use Rattle.command_words.specs.Commands.{Generated}
use Rattle.host_cli.specs.Generated.{generated_options, generated_words, IsGenerated, IsGeneratedPlan, GeneratedCause, HoldsProgram, in_memory}
use Rattle.host_cli.specs.Generated as generated
use Rattle.host_cli.specs.Refusals.{named_in}

module _ (n : ℕ) (files : Storage) (name : List ℕ) (told : IsTrue files.told) (holds : HoldsProgram n (files.contents name)) where
  -- what is read is the program's file
  bytes_are : (bytes : List ℕ) → files.contents name ≡ Some bytes → bytes ≡ holds.file
  bytes_are bytes is = same_Some bytes holds.file (sym is ∙ holds.is_held)

  pub image_is : (image : Program) → IsImageOf files name image → IsGenerated n image
  image_is image is = record {
    file = holds.file;
    is_program = holds.is_program;
    loads = subst (λ (b : List ℕ). Loads b image) (bytes_are is.bytes (is.read.is_held told)) is.loads;
  }

  image_cause : (before now : ℕ) (refusal : Refusal) → ImageCause files name before now refusal → GeneratedCause n (in_memory refusal)
  image_cause before now refusals.Usage cause = absurd cause
  image_cause before now (refusals.CannotRead input) cause = generated.starved
  image_cause before now (refusals.TooLong input) cause = generated.starved
  image_cause before now (refusals.Image refusal) cause =
      generated.by_image holds.file refusal holds.is_program
      (subst (λ (b : List ℕ). elf.Refuses b refusal) (bytes_are cause.0.bytes (cause.0.read.is_held told)) cause.0.broken)
  image_cause before now (refusals.Word number refusal) cause = absurd cause
  image_cause before now (refusals.Install number refusal) cause = absurd cause
  image_cause before now (refusals.Script refusal) cause = absurd cause
  image_cause before now (refusals.Journal refusal) cause = absurd cause
  image_cause before now (refusals.OtherRun head) cause = absurd cause
  image_cause before now (refusals.NotThisRun place) cause = absurd cause
  image_cause before now refusals.OutOfMemory cause = generated.starved

  words_cause : (image : Program) (refusal : Refusal) → IsGenerated n image → WordsCause generated_options.harts generated_words refusal
      → GeneratedCause n (in_memory refusal)
  words_cause image refusals.Usage is cause = absurd cause
  words_cause image (refusals.CannotRead input) is cause = absurd cause
  words_cause image (refusals.TooLong input) is cause = absurd cause
  words_cause image (refusals.Image refusal) is cause = absurd cause
  words_cause image (refusals.Word number refusal) is cause = generated.by_words image (refusals.Word number refusal) is cause
  words_cause image (refusals.Install number refusal) is cause = generated.by_words image (refusals.Install number refusal) is cause
  words_cause image (refusals.Script refusal) is cause = absurd cause
  words_cause image (refusals.Journal refusal) is cause = absurd cause
  words_cause image (refusals.OtherRun head) is cause = absurd cause
  words_cause image (refusals.NotThisRun place) is cause = absurd cause
  words_cause image refusals.OutOfMemory is cause = generated.starved

  pub cause_is : (before now : ℕ) (refusal : Refusal)
      → RunCause files generated_options.harts name generated_words None before now refusal → GeneratedCause n (in_memory refusal)
  cause_is before now refusal (by_file cause) = image_cause before now refusal cause
  cause_is before now refusal (by_words has cause faultless) = words_cause has.0 refusal (image_is has.0 has.1) cause
  cause_is before now refusal (by_script has installs cause) = absurd cause

pub plan_is : (files : Storage) (plan : Planned) → IsPlanOf files generated_options.harts generated_words None plan → IsGeneratedPlan plan
plan_is files plan is = record { installs = is.installs; lines = is.lines }

-- such a command names no input
pub generated_names : (n : ℕ) (o : Option Input) → [] ≡ named_in (Some (Generated n)) o
generated_names n None = refl
generated_names n (Some inputs.File) = refl
generated_names n (Some inputs.Script) = refl
generated_names n (Some inputs.Journal) = refl
