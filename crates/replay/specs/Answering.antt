-- What a service answers to the lines of a replay, by its history.
use Rattle.std.specs.Prelude.{◌≡◌, ℕ, List, [], ◌∷◌, ◌++◌, Result, Ok, Err, codes, decimal}
use Rattle.refusals.specs.declared.RefusalNumber.{RefusalNumber}
use Rattle.service_profile.specs.declared.replies.Reply.TheVariants as reply
use Rattle.service_profile.specs.Events.{History}
use Rattle.service.specs.Asked.{ResponseData, replies}
use Rattle.service.specs.Asking.{IsServed}
use Rattle.answers.specs.Responses.{status, body}
use Rattle.replay.specs.Asking.{Wish, asked}

-- the answer to what is asked, for seat 1, and the history after it; what is refused changes nothing
abbrev pub IsAnswered : History → Result Wish RefusalNumber → ResponseData → History → Type 0
IsAnswered history (Err refused) answered after = (answered ≡ replies (reply.Refused refused)) × (after ≡ history)
IsAnswered history (Ok wish) answered after = IsServed history 1 wish.moment wish.want answered after

-- the line of an answer: status, blank and body
abbrev pub answer_line : ResponseData → List ℕ
answer_line answered = decimal (status answered) ++ (codes " " ++ (body answered ++ codes "\n"))

-- the lines are answered with this text, one after another
abbrev pub AreAnswered : History → List (List ℕ) → List ℕ → History → Type 0
AreAnswered history [] text after = (text ≡ []) × (after ≡ history)
AreAnswered history (line ∷ later) text after =
    (answered : ResponseData) × (next : History) × (rest : List ℕ)
    × IsAnswered history (asked line) answered next × (text ≡ answer_line answered ++ rest) × AreAnswered next later rest after
