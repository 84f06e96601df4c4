-- Where the end of an input was met.
use Rattle.std.proofs.Common.{◌≡◌, ◌⊎◌, ℕ, ◌<◌, ◌==◌, nat_lt, true, false, Bool, List, [], ◌∷◌, ◌++◌, length, Option, None, refl, ap, sym, arith, inl, inr, ne_eqb, rules}
use Rattle.std.proofs.lemmas.Grind.{common_steps}
use Rattle.std.specs.Io.KnownBytes.{IsAtEnd}
use Rattle.counted_io.specs.Counting.{TakesByte}
use Rattle.service_profile.specs.declared.configuration.ConfigParts.{ConfigParts}
use Rattle.service_profile.specs.Events.{History}
use Rattle.replay.specs.declared.lines.Found.TheVariants as found
use Rattle.replay.specs.Ends.{end_found, has_feed, is_there}
use Rattle.replay.specs.Lines.{TakesLine, TakesTold}
use Rattle.replay.specs.Replaying.{config_told, IsBegun, IsLineAnswered, AreEventsAnswered}
use Rattle.replay.proofs.Taking.{HasBegun, text_ends}
use Rattle.replay.proofs.Running.{begun_by, begun_none, events_on}

-- ---- a line that the end of the input cut

end_cases : (line : List ℕ) → ((line ≡ []) × (end_found line ≡ found.End)) ⊎ ((0 < length line) × (end_found line ≡ found.Last))
end_cases [] = inl (refl, refl)
end_cases (byte ∷ later) = let some : (length (byte ∷ later) == 0) ≡ false = ne_eqb (length (byte ∷ later)) 0 (λ none. omega (arith, none)) in inr (omega arith, rw some refl)

takes_cut : (text left after : Option (List ℕ)) (line : List ℕ) → ((line ≡ []) × (end_found line ≡ found.End)) ⊎ ((0 < length line) × (end_found line ≡ found.Last))
    → HasBegun text left line → TakesByte left after None → TakesLine text after (is_there (end_found line)) line
takes_cut text left after line (inl (none, is)) begun taken = rw is (text_ends text left after line 0 begun taken (sym (ap length none)))
takes_cut text left after line (inr (some, is)) begun taken =
    let test : nat_lt 0 (length line) ≡ true = grind (arith, common_steps, some) in
    rw is (rw test at (text_ends text left after line (length line) begun taken refl))

pub end_takes : (text left after : Option (List ℕ)) (line : List ℕ) → HasBegun text left line → TakesByte left after None → TakesLine text after (is_there (end_found line)) line
end_takes text left after line begun taken = takes_cut text left after line (end_cases line) begun taken

-- the last byte of a line
pub feed_of : (line : List ℕ) (byte : ℕ) → has_feed (line ++ byte ∷ []) ≡ (byte == 10)
feed_of [] byte = refl
feed_of (x ∷ []) byte = refl
feed_of (x ∷ y ∷ line) byte = feed_of (y ∷ line) byte

-- ---- the first line

pub begun_found : (input left : Option (List ℕ)) (there : Bool) (line : List ℕ) (config : Option ConfigParts) → TakesTold input left there line → config ≡ config_told there line → IsBegun input left config
begun_found input left true line config takes is = begun_by input left line config takes is
begun_found input left false line config takes is = rw is (begun_none input left line takes)

-- ---- events behind which nothing is left

pub none_left : (left written : Option (List ℕ)) (history : History) → IsAtEnd left → AreEventsAnswered left history history written written
none_left left written history end = search rules

pub events_last : (input left before mid : Option (List ℕ)) (line : List ℕ) (history next : History)
    → TakesTold input left true line → IsAtEnd left → IsLineAnswered history line next before mid → AreEventsAnswered input history next before mid
events_last input left before mid line history next takes end answered = events_on input left before mid mid line history next next takes answered (none_left left mid next end)
