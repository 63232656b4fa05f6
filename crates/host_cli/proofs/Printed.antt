-- What is put of a run's output and of its report.
use Rattle.std.proofs.Common.{◌≡◌, ℕ, List, ap, subst, ◌∙◌}
use Rattle.flat_model.specs.World.{Shared}
use Rattle.run_order.specs.InOrder.{InOrder}
use Rattle.host_state.specs.State.{StateValue, stored_of}
use Rattle.host_cli.specs.Sinks.{Around, Says, StopsAt, WasTold}
use Rattle.host_cli.specs.Ends.{output_of}

output_is : (s : StateValue) → InOrder s.task (stored_of s) → s.services.output ≡ output_of s
output_is s order = ap (λ (x : Shared). x.output) order.shared

pub says_output : (s : StateValue) (out : Around) (text : List ℕ) → InOrder s.task (stored_of s) → text ≡ s.services.output → Says out text
    → Says out (output_of s)
says_output s out text order is says = subst (λ (t : List ℕ). Says out t) (is ∙ output_is s order) says

pub stops_output : (s : StateValue) (out : Around) (text : List ℕ) → InOrder s.task (stored_of s) → text ≡ s.services.output
    → StopsAt out text → StopsAt out (output_of s)
stops_output s out text order is stops = subst (λ (t : List ℕ). StopsAt out t) (is ∙ output_is s order) stops

pub says_as : (sink : Around) (put text : List ℕ) → put ≡ text → Says sink put → Says sink text
says_as sink put text is says = subst (λ (t : List ℕ). Says sink t) is says

pub stops_as : (sink : Around) (put text : List ℕ) → put ≡ text → StopsAt sink put → StopsAt sink text
stops_as sink put text is stops = subst (λ (t : List ℕ). StopsAt sink t) is stops

pub told_as : (sink : Around) (put line : List ℕ) → put ≡ line → WasTold sink put → WasTold sink line
told_as sink put line is told = subst (λ (t : List ℕ). WasTold sink t) is told
