-- What is asked for, as the code has it.
use Rattle.std.specs.Prelude.{ℕ, ⊤}
use Rattle.service.specs.Asked.{request_data}
use Rattle.http_front.specs.declared.asking.Asking.{Asking as Found}
use Rattle.http_front.specs.declared.asking.Asking.TheVariants as found
use Rattle.http_front.specs.Asked.{Asking, asks, lists, refuses}

abbrev pub asking : Found → Asking
asking (found.Asks place wanted) = asks place (request_data wanted)
asking found.Lists = lists
asking (found.Refuses number allow) = refuses number allow

-- a service stands at the place that is asked
abbrev pub IsHeld : (ℕ → Type 0) → Found → Type 0
IsHeld has (found.Asks place wanted) = has place
IsHeld has found.Lists = ⊤
IsHeld has (found.Refuses number allow) = ⊤
