-- What one call came to, and which calls were made for it.
use Rattle.std.specs.Prelude.{◌≡◌, ◌<◌, ℕ, suc, ◌==◌, ◌&&◌, nat_lt, Bool, true, false, List, [], ◌∷◌, ◌++◌, length, Option, Some, None, Result, Ok, Err, ⊤, if◌then◌else◌}
use Rattle.std.specs.List.{AllByRecursion}
use Rattle.std.specs.declared.io.Error.{Error}
use Rattle.std.specs.IoError.{error_kind}
use Rattle.std.specs.declared.io.ErrorKind.{ErrorKind}
use Rattle.std.specs.declared.io.ErrorKind.TheVariants.{WouldBlock, Interrupted}
use Rattle.counted_io.specs.declared.polling.Polling.{Polling}
use Rattle.counted_io.specs.declared.polling.Polling.TheVariants as polling

abbrev pub is_would_block : ErrorKind → Bool
is_would_block WouldBlock = true
is_would_block _ = false

-- a call that answered an error: it would have had to wait, or it failed
abbrev pub unless_done : Bool → Polling
unless_done true = polling.Waits
unless_done false = polling.Failed

-- what a read came to
abbrev pub read_polling : Result ℕ Error → Polling
read_polling (Ok taken) = polling.Done taken
read_polling (Err e) = unless_done (is_would_block (error_kind e))

-- what a write of a piece of this length came to: it failed too where it took nothing of a piece that isn't empty
abbrev pub write_polling : Result ℕ Error → ℕ → Polling
write_polling (Ok taken) size = if (taken == 0) && nat_lt 0 size then polling.Failed else polling.Done taken
write_polling (Err e) size = unless_done (is_would_block (error_kind e))

-- ---- the calls that were made

-- these are the answers to the calls that came behind those before, one after another, where they are known
abbrev pub Hears : Option (List (Result ℕ Error)) → Option (List (Result ℕ Error)) → List (Result ℕ Error) → Type 0
Hears None after answers = ⊤
Hears (Some before) None answers = ⊥
Hears (Some before) (Some after) answers = after ≡ before ++ answers

abbrev pub IsInterrupted : Result ℕ Error → Type 0
IsInterrupted (Ok taken) = ⊥
IsInterrupted (Err e) = error_kind e ≡ Interrupted

-- calls were made until one wasn't interrupted, so many at most, and this is the answer to the last one
pub record IsTried (most : ℕ) (before after : Option (List (Result ℕ Error))) (answer : Result ℕ Error) : Type 0 where
  pub interrupted : List (Result ℕ Error)
  pub heard : Hears before after (interrupted ++ answer ∷ [])
  pub are : AllByRecursion IsInterrupted interrupted
  pub few : length interrupted < most
  pub whole : IsInterrupted answer → suc (length interrupted) ≡ most

-- the call came to this by the answer to the last one that was made for it: no failure, wait or end is made up, and no call is made behind it
abbrev pub IsPolled : Option (List (Result ℕ Error)) → Option (List (Result ℕ Error)) → (Result ℕ Error → Polling) → Polling → Type 0
IsPolled before after polling_of polling = (answer : Result ℕ Error) × IsTried 16 before after answer × (polling ≡ polling_of answer)
