-- Harts before any hold.
use Rattle.std.proofs.Common.{◌≡◌, ◌-◌, ◌<◌, ◌∷◌, [], ◌∙◌, ℕ, zero, suc, Bool, true, false, not, List, refl, sym, ap}
use Rattle.std.proofs.Common.{arith}
use Rattle.std.proofs.Common.{Option, Some, None, map, nat_lt}
use Rattle.std.specs.Prelude.{if◌then◌else◌, slice_index_or, replicate}
use Rattle.std.specs.List.{filter_map, cons_option}
use Rattle.std.specs.Cmp.Derive.{both_true}
use Rattle.std.proofs.lemmas.Bool.{false≢true, lt-ltb}
use Rattle.flat_model.specs.declared.plugins.SetSpec.{SetSpec}
use Rattle.flat_model.specs.declared.journals.Item.{Item}
use Rattle.flat_model.specs.declared.journals.Item.TheVariants.{Ordered}
use Rattle.flat_model.specs.declared.journals.Mode.{Mode}
use Rattle.flat_model.specs.declared.journals.Order.TheVariants.{Install}
use Rattle.flat_model.specs.declared.journals.Origin.TheVariants.{Start}
use Rattle.flat_model.specs.Image.{Program}
use Rattle.flat_model.specs.Log.{log, log_from}
use Rattle.flat_model.specs.Registry.{registry, has_left}
use Rattle.flat_model.specs.World.{Machine, HartState, World, Start as Begin, opening_hart, opening_start, hart_by}
use Rattle.flat_model.specs.Worlds.{world, hart_of}
use Rattle.instr_lists.proofs.Events.{all_stay}
use Rattle.plug_registry.specs.Installs.{start_order}
use Rattle.watcher_api.specs.Acting.{ask_of}
use Rattle.run_rules.specs.Guest.{Run, plugins}
use Rattle.run_rules.specs.Heard.{set_at, last_set}
use Rattle.run_rules.specs.Legal.{numbers, is_there}
use Rattle.run_rules.specs.Places.{Place, Waiting, registers, place_of, is_with_hart}
use Rattle.run_order.specs.Sets.{sets_for, placed_at, attachment_of}
use Rattle.run_order.specs.InOrder.{Task, task_run}
use Rattle.kept_order.specs.Hearing.{specs_for, spec_at}
use Rattle.kept_order.proofs.Gone.{as_many}
use Rattle.replay_order.specs.Seats.{woken}
use Rattle.replay_order.specs.Openings.{FirstSeatsSit}

abbrev starts_of : Task → List Item
starts_of t = log (map start_order t.plan.installs)

-- Start orders bring no hart a set.

waits_or_was : (b : Bool) (place : Place) → is_with_hart place ≡ false → is_with_hart (if b then Waiting else place) ≡ false
waits_or_was true place is = refl
waits_or_was false place is = is

brings_none : (run : Run) (plugin h : ℕ) (past : List Item) (specs : List SetSpec) → is_with_hart (place_of run plugin h past) ≡ false
    → is_with_hart (place_of run plugin h (log_from past (map start_order specs))) ≡ false
unfolding place_of
brings_none run plugin h past [] is = is
brings_none run plugin h past (spec ∷ specs) is =
    brings_none run plugin h (Ordered Start (Install spec) ∷ past) specs
    (waits_or_was (registers (plugins run past) (Install spec) plugin) (place_of run plugin h past) is)

has_none : (run : Run) (plugin h : ℕ) (past : List Item) (specs : List SetSpec) → past ≡ log (map start_order specs)
    → is_with_hart (place_of run plugin h past) ≡ false
unfolding place_of
has_none run plugin h past specs is =
    ap (λ (xs : List Item). is_with_hart (place_of run plugin h xs)) is ∙ brings_none run plugin h [] specs refl

all_none : {A B : Type 0} (f : A → Option B) (xs : List A) → ((x : A) → f x ≡ None) → filter_map f xs ≡ []
all_none f [] none = refl
all_none f (x ∷ xs) none = ap (λ o. cons_option o (filter_map f xs)) (none x) ∙ all_none f xs none

no_sets : (t : Task) (h : ℕ) (past : List Item) → past ≡ starts_of t → [] ≡ sets_for is_with_hart (task_run t) h past
no_sets t h past is =
    let run = task_run t in
    sym (all_none (λ plugin. placed_at is_with_hart run past plugin h) (numbers (plugins run past))
    (λ plugin. ap (λ (b : Bool). if b then Some (attachment_of run plugin h past) else None)
    (has_none run plugin h past t.plan.installs is)))

no_specs : (t : Task) (h : ℕ) (past : List Item) → past ≡ starts_of t → [] ≡ specs_for (task_run t) h past
no_specs t h past is =
    let run = task_run t in
    sym (all_none (spec_at run h past) (numbers (plugins run past))
    (λ plugin. ap (λ (b : Bool). if b then Some (plugin, set_at run plugin (last_set (plugins run past) plugin) past) else None)
    (has_none run plugin h past t.plan.installs is)))

-- They let no hart leave, and move none.

same_world : (m : Machine) (mode : Mode) (past : List Item) (specs : List SetSpec)
    → world m mode (log_from past (map start_order specs)) ≡ world m mode past
unfolding world
same_world m mode past [] = refl
same_world m mode past (spec ∷ specs) = same_world m mode (Ordered Start (Install spec) ∷ past) specs

same_gone : (run : Run) (past : List Item) (specs : List SetSpec)
    → (plugins run (log_from past (map start_order specs))).gone ≡ (plugins run past).gone
unfolding registry
same_gone run past [] = refl
same_gone run past (spec ∷ specs) = same_gone run (Ordered Start (Install spec) ∷ past) specs

none_gone : (n h : ℕ) → slice_index_or (replicate n false) h false ≡ false
none_gone zero h = refl
none_gone (suc n) zero = refl
none_gone (suc n) (suc h) = none_gone n h

first_gone : (run : Run) → (plugins run []).gone ≡ replicate run.harts false
unfolding registry
first_gone run = refl

is_here : (run : Run) (h : ℕ) (past : List Item) (specs : List SetSpec) → h < run.harts → past ≡ log (map start_order specs)
    → is_there run h past ≡ true
is_here run h past specs low is =
    both_true
    (ap (λ (n : ℕ). nat_lt h n) (as_many run past) ∙ lt-ltb h run.harts low)
    (ap (λ (xs : List Item). not (has_left (plugins run xs) h)) is
    ∙ ap (λ (gone : List Bool). not (slice_index_or gone h false)) (same_gone run [] specs ∙ first_gone run)
    ∙ ap not (none_gone run.harts h))

woken_first : (image : Program) (h harts : ℕ) (start : Option Begin) → hart_by image h harts start ≡ woken h harts
    (hart_by image h harts start) start
woken_first image h harts None = refl
woken_first image h harts (Some start) = refl

first_steps : (image : Program) (h harts : ℕ) (start : Option Begin) → (hart_by image h harts start).steps ≡ 0
first_steps image h harts None = refl
first_steps image h harts (Some start) = refl

first_world : (t : Task) (past : List Item) → past ≡ starts_of t → world t.machine t.mode past ≡ world t.machine t.mode []
first_world t past is = ap (world t.machine t.mode) is ∙ same_world t.machine t.mode [] t.plan.installs

first_hart : (t : Task) (h : ℕ) → hart_of t.machine t.mode [] h ≡ opening_hart t.machine.image t.mode h t.machine.harts
unfolding world
first_hart t h = refl

first_start : (t : Task) (h : ℕ) → h < t.machine.harts
    → (world t.machine t.mode []).shared.starts h ≡ opening_start t.machine.image t.mode h
unfolding world
first_start t h low = ap (λ (b : Bool). if b then opening_start t.machine.image t.mode h else None) (lt-ltb h t.machine.harts low)

pub first_seats_sit : FirstSeatsSit
first_seats_sit t h past s limit low is first =
    let run = task_run t in
    let m = t.machine in
    let start = opening_start m.image t.mode h in
    let none : (p : ℕ) → is_with_hart (place_of run p h past) ≡ false = λ p. has_none run p h past t.plan.installs is in
    let there = first_world t past is in
    record {
      there = is_here run h past t.plan.installs low is;
      hart = ap (λ (w : World). w.harts h) there ∙ first_hart t h ∙ woken_first m.image h m.harts start
          ∙ ap (λ (x : HartState). woken h m.harts x start) (sym first.hart)
          ∙ ap (woken h m.harts s.hart) (sym (ap (λ (w : World). w.shared.starts h) there ∙ first_start t h low));
      below = λ _. let steps = ap (λ (x : HartState). x.steps) first.hart ∙ first_steps m.image h m.harts start in omega
          (arith, steps, limit);
      sets = first.sets ∙ no_sets t h past is;
      filters = first.filters ∙ no_specs t h past is;
      quiet = λ p one few off. ap (ask_of p) first.asks ∙ all_stay 8 (p - 1);
      asks = λ p one few with live. absurd (false≢true (sym (none p) ∙ with));
      since = λ p one few with live some. absurd (false≢true (sym (none p) ∙ with));
    }
