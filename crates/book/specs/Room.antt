-- What keeps the numbers of a book below 2 ^ 64.
use Rattle.std.specs.Prelude.{◌+◌, ◌-◌, ◌*◌, ◌≤◌, length}
use Rattle.service_profile.specs.Limits.{greatest_number}
use Rattle.service_profile.specs.Histories.{Past, programs_of, next_line}
use Rattle.book.specs.Sound.{next_ticket}

-- when entries were last handed out, and when the book opened, no number was past its limit: since then each held line took at most one number, one version, and two periods
pub record LeavesRoom (past : Past) : Type 0 where
  pub line : next_line past ≤ greatest_number + (length past.stages - past.rolled.lines)
  pub ticket : next_ticket past ≤ greatest_number + (length past.stages - past.rolled.lines)
  pub period : past.standing.period ≤ greatest_number + 2 * (length past.stages - past.rolled.lines)
  pub version : past.opening.version + length (programs_of past) ≤ greatest_number + 1 + (length past.stages - past.rolled.lines)
