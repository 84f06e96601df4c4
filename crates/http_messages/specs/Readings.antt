-- Where bytes may be read in two ways, and what a front says with no offsets.
use Rattle.std.specs.Prelude.{◌≡◌, ◌⊎◌, ◌<◌, ◌≤◌, ℕ, List, [], length, Bool, ⊤}
use Rattle.httparse.specs.Grammar.{EndsInTarget}
use Rattle.httparse.specs.Spans.{span_bytes}
use Rattle.refusals.specs.declared.RefusalNumber.TheVariants as refusal
use Rattle.http_messages.specs.declared.front.Fault.{Fault}
use Rattle.http_messages.specs.declared.front.Front.{Front}
use Rattle.http_messages.specs.declared.front.Front.TheVariants as front
use Rattle.http_messages.specs.Heads.{head_limit, searched, IsHopeless}
use Rattle.http_messages.specs.Messages.{Ending, closed, truncated, refused, final, no_head}

-- no continuation of the bytes is a head, and those that are searched end within a request target: that a target is no UTF-8 need not be seen before its end
abbrev pub IsUndecided : List ℕ → Type 0
IsUndecided bytes = IsHopeless bytes × EndsInTarget (searched bytes)

-- ---- of an input

-- what may be answered there in place of BadHead: that more bytes are wanted, or, where all that are searched are there, that the head is too large
abbrev pub IsOtherEnding : List ℕ → Ending → Type 0
IsOtherEnding rest ending =
    ((length rest < head_limit) × (ending ≡ truncated))
    ⊎ ((head_limit ≤ length rest) × (ending ≡ refused (no_head refusal.HeadTooLarge)))

-- two endings that are both allowed for what is left of an input
abbrev pub AreBothAllowed : List ℕ → Ending → Ending → Type 0
AreBothAllowed rest one other =
    IsUndecided rest
    × (((one ≡ refused (no_head refusal.BadHead)) × IsOtherEnding rest other)
    ⊎ ((other ≡ refused (no_head refusal.BadHead)) × IsOtherEnding rest one))

-- the input was read up to this ending, with what is left behind it: nothing is, where the input itself is at its end, or is cut short there
abbrev pub IsReadTo : Ending → List ℕ → Type 0
IsReadTo closed left = left ≡ []
IsReadTo truncated left = left ≡ []
IsReadTo (refused fault) left = ⊤
IsReadTo (final message) left = ⊤

-- ---- of the first bytes

-- what the first bytes of an input say
pub data Said : Type 0 where
  -- a head: its method and its target, its size, the size of the body, and whether it ends the connection
  has_head : (method target : List ℕ) (size body : ℕ) (closes : Bool) → Said
  is_refused : Fault → Said
  wants_more : Said

abbrev pub said : List ℕ → Front → Said
said bytes (front.Whole found) = has_head (span_bytes bytes found.method) (span_bytes bytes found.target) found.size found.body found.closes
said bytes (front.Refused fault) = is_refused fault
said bytes front.Part = wants_more

abbrev pub IsOtherSaid : List ℕ → Said → Type 0
IsOtherSaid bytes other =
    ((length bytes < head_limit) × (other ≡ wants_more))
    ⊎ ((head_limit ≤ length bytes) × (other ≡ is_refused (no_head refusal.HeadTooLarge)))

abbrev pub AreBothSaid : List ℕ → Said → Said → Type 0
AreBothSaid bytes one other =
    IsUndecided bytes
    × (((one ≡ is_refused (no_head refusal.BadHead)) × IsOtherSaid bytes other)
    ⊎ ((other ≡ is_refused (no_head refusal.BadHead)) × IsOtherSaid bytes one))
