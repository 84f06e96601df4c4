-- One try more of a call that was interrupted.
use Rattle.std.proofs.Common.{◌≡◌, ◌∙◌, ◌≤◌, ℕ, suc, List, [], ◌∷◌, ◌++◌, length, Option, Some, None, Result, ap, append_assoc, arith}
use Rattle.std.specs.List.{AllByRecursion}
use Rattle.std.specs.declared.io.Error.{Error}
use Rattle.counted_io.specs.Calls.{Hears, IsInterrupted, IsTried}

pub heard_on : (before there after : Option (List (Result ℕ Error))) (tries more : List (Result ℕ Error)) → Hears before there tries → Hears there after more → Hears before after (tries ++ more)
heard_on None there after tries more one two = tt
heard_on (Some xs) None after tries more one two = absurd one
heard_on (Some xs) (Some ys) None tries more one two = absurd two
heard_on (Some xs) (Some ys) (Some zs) tries more one two = two ∙ ap (λ z. z ++ more) one ∙ append_assoc xs tries more

pub all_on : (tries : List (Result ℕ Error)) (answer : Result ℕ Error) → AllByRecursion IsInterrupted tries → IsInterrupted answer → AllByRecursion IsInterrupted (tries ++ answer ∷ [])
all_on [] answer all is = (is, tt)
all_on (x ∷ tries) answer (first, others) is = (first, all_on tries answer others is)

-- a try that is the last one, since it wasn't interrupted, or since there were so many
pub tried_at_last : (before there after : Option (List (Result ℕ Error))) (tries : List (Result ℕ Error)) (answer : Result ℕ Error) (tried : ℕ) → Hears before there tries → Hears there after (answer ∷ []) → AllByRecursion IsInterrupted tries → suc (length tries) ≡ tried → tried ≤ 16
    → (IsInterrupted answer → tried ≡ 16) → IsTried 16 before after answer
tried_at_last before there after tries answer tried one two all count few whole = record {
  interrupted = tries;
  heard = heard_on before there after tries (answer ∷ []) one two;
  are = all;
  few = omega (arith, count, few);
  whole = λ is. count ∙ whole is;
}
