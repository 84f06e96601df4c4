use Rattle.std.proofs.Common.{◌≡◌, ◌≤◌, length, take}
use Rattle.sidecar_server.specs.Opened.{upkeeps_from}
use Rattle.sidecar_server.proofs.opening.upkeeps_of.Given as goal

-- the services before the next one
abbrev pub invariant-loop-place : goal.invariant-loop-place
invariant-loop-place l =
    (l.place ≤ length l.fn.settings.services.items)
    × (l.upkeeps.items ≡ upkeeps_from l.fn.settings.logging 0 (take l.place l.fn.settings.services.items))
