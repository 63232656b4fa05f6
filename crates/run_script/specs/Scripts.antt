-- What a script spells: its orders with their moments, or the first refusal with its line and column. Lines are those of
-- std's `lines`: they end with a line feed, which the last may lack, and lose one carriage return before it.
use Rattle.std.specs.Prelude.{ℕ, ◌+◌, ◌==◌, Bool, true, if◌then◌else◌, List, [], ◌∷◌}
use Rattle.std.specs.Prelude.{Option, Some, None, Result, Ok, Err}
use Rattle.std.specs.List.{cons_option}
use Rattle.std.specs.Str.Lines.{lines}
use Rattle.flat_model.specs.declared.journals.Order.{Order}
use Rattle.flat_model.specs.declared.journals.Order.TheVariants as orders
use Rattle.flat_model.specs.declared.journals.Timed.{Timed}
use Rattle.run_script.specs.declared.refusals.ScriptRefusal.{ScriptRefusal}
use Rattle.run_script.specs.declared.fields.Fault.{Fault}
use Rattle.run_script.specs.declared.fields.OrderName.{OrderName}
use Rattle.run_script.specs.declared.fields.OrderName.TheVariants.{Install, Register, Reset, Uninstall}
use Rattle.run_script.specs.Bytes.{hash}
use Rattle.run_script.specs.Words.{next}
use Rattle.run_script.specs.Fields.{read, opening, moment, order_name, plug, last_plug, last_word}

-- order = "install" SP word / "register" SP plug SP word / "reset" SP plug / "uninstall" SP plug
unfoldable pub order : OrderName → List ℕ → Result Order Fault
order Install line = next (last_word 3 line) (λ set. Ok (orders.Install set))
order Register line = next (read 3 line plug) (λ n. next (last_word 4 line) (λ set. Ok (orders.Register n set)))
order Reset line = next (last_plug line) (λ n. Ok (orders.Reset n))
order Uninstall line = next (last_plug line) (λ n. Ok (orders.Uninstall n))

unfoldable pub named_order : List ℕ → Result Order Fault
named_order line = next (read 2 line order_name) (λ name. order name line)

-- line = "at" SP num SP order
unfoldable pub timed : ℕ → List ℕ → Result Timed Fault
timed least line =
    next (read 0 line opening) (λ _.
    next (read 1 line (moment least)) (λ when.
    next (named_order line) (λ order. Ok (record { when = when; order = order }))))

-- an empty line, and one that begins with `#`
abbrev pub is_passed_over : List ℕ → Bool
is_passed_over [] = true
is_passed_over (b ∷ bs) = b == hash

-- a fault of the line of a number, from 1
abbrev pub in_line : {A : Type 0} → ℕ → Result A Fault → Result A ScriptRefusal
in_line number (Ok x) = Ok x
in_line number (Err fault) = Err (record { line = number; column = fault.column; rule = fault.rule })

-- what the line of a number spells, where it isn't passed over
unfoldable pub entry : ℕ → ℕ → List ℕ → Result (Option Timed) ScriptRefusal
entry number least line =
    if is_passed_over line then Ok None else next (in_line number (timed least line)) (λ t. Ok (Some t))

-- the moment that the next one isn't less than
abbrev pub moment_after : ℕ → Option Timed → ℕ
moment_after least None = least
moment_after least (Some timed) = timed.when

-- what lines spell, of which the first has the number
abbrev pub entries : ℕ → ℕ → List (List ℕ) → Result (List Timed) ScriptRefusal
entries number least [] = Ok []
entries number least (line ∷ more) =
    next (entry number least line) (λ one.
    next (entries (number + 1) (moment_after least one) more) (λ others. Ok (cons_option one others)))

-- what a script spells
abbrev pub script : List ℕ → Result (List Timed) ScriptRefusal
script bytes = entries 1 0 (lines bytes)
