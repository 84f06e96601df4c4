-- Beginnings of replays.
use Rattle.std.proofs.Common.{◌≡◌, inl, inr, ℕ, true, List, [], ◌∷◌, ◌++◌, Option, Some, None, refl, ap, sym, subst, ◌∙◌, append_assoc}
use Rattle.std.proofs.lemmas.List.{append-nil}
use Rattle.counted_io.specs.Counting.{IsBeginning}
use Rattle.counted_io.proofs.Pieces.{appends_none, appends_more}
use Rattle.service_profile.specs.declared.configuration.ConfigParts.{ConfigParts}
use Rattle.service_profile.specs.Events.{History}
use Rattle.replay.specs.declared.replaying.ReplayEnded.TheVariants as ended
use Rattle.replay.specs.Answering.{AreAnswered, answer_line}
use Rattle.replay.specs.Lines.{TakesTold}
use Rattle.replay.specs.Parts.{IsLinePart, AreEventsPart, IsPart, IsReplayedPart}
use Rattle.replay.specs.Replaying.{IsOpened, IsReplayOf, Begins, IsBegun, IsLineAnswered}
use Rattle.replay.proofs.Running.{told_after, some_told}

-- ---- lines

pub nothing_part : (input w : Option (List ℕ)) (history : History) → AreEventsPart input history w w
nothing_part input w history =
    let events = some_told input in
    ([], events.0, [], history, events.1, (refl, refl), ([], ([], refl), appends_none w))

pub line_part : (input left w v : Option (List ℕ)) (line : List ℕ) (history : History) → TakesTold input left true line → IsLinePart history line w v → AreEventsPart input history w v
line_part input left w v line history takes (inl nothing) =
    let events = some_told input in
    ([], events.0, [], history, events.1, (refl, refl), ([], ([], refl), nothing))
line_part input left w v line history takes (inr (answered, next, is, (part, (rest, split), sent))) =
    let events = some_told left in (
      line ∷ [],
      events.0,
      answer_line answered ++ [],
      next,
      told_after input left line events.0 takes events.1,
      (answered, next, [], is, refl, (refl, refl)),
      (part, (rest, append-nil (answer_line answered) ∙ split), sent),
    )

-- the whole answer to a line is a beginning of it
pub whole_part : (w v : Option (List ℕ)) (line : List ℕ) (history next : History) → IsLineAnswered history line next w v → IsLinePart history line w v
whole_part w v line history next (answered, is, sent) = inr (answered, next, is, (answer_line answered, ([], sym (append-nil (answer_line answered))), sent))

pub part_on : (input left w v u : Option (List ℕ)) (line : List ℕ) (history next : History)
    → TakesTold input left true line → IsLineAnswered history line next w v → AreEventsPart left next v u → AreEventsPart input history w u
part_on input left w v u line history next takes (answered, is, sent) (first, later, whole, last, rest, run, (part, (behind, split), more)) = (
  line ∷ first,
  later,
  answer_line answered ++ whole,
  last,
  told_after input left line (first ++ later) takes rest,
  (answered, next, whole, is, refl, run),
  (
    answer_line answered ++ part,
    (behind, ap (λ t. answer_line answered ++ t) split ∙ sym (append_assoc (answer_line answered) part behind)),
    appends_more w v u (answer_line answered) part sent more,
  ),
)

-- ---- the whole

pub nothing_replayed : (input w : Option (List ℕ)) → IsReplayedPart input w w
nothing_replayed input w =
    let events = some_told input in
    (events.0, [], events.1, inl refl, appends_none w)

begun_part : (lines first later : List (List ℕ)) (parts : ConfigParts) (opened next : History) (whole text : List ℕ)
    → Begins lines (Some parts) (first ++ later) → IsOpened parts opened → AreAnswered opened first whole next → IsBeginning text whole → IsPart lines text
begun_part [] first later parts opened next whole text begins is run part = absurd (let e : Some parts ≡ None = begins in cc)
begun_part (line ∷ events) first later parts opened next whole text begins is run part =
    inr (
      line ∷ first,
      later,
      whole,
      ap (λ (ls : List (List ℕ)). line ∷ ls) begins.1,
      subst (λ (c : Option ConfigParts). IsReplayOf c first ended.Done whole) begins.0 (refl, opened, next, is, run),
      part,
    )

pub replayed_part : (input left w v : Option (List ℕ)) (parts : ConfigParts) (opened : History)
    → IsBegun input left (Some parts) → IsOpened parts opened → AreEventsPart left opened w v → IsReplayedPart input w v
replayed_part input left w v parts opened begun is (first, later, whole, next, rest, run, (part, beginning, sent)) =
    let all = begun (first ++ later) rest in
    (all.0, part, all.1, begun_part all.0 first later parts opened next whole part all.2 is run beginning, sent)
