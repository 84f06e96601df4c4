use Rattle.stack_track.proofs.Runs.{stretch_reads, stretch_writes}
use Rattle.stack_track.proofs.laws.stretches_follow.Goals as goal

pub returns-clause-read : goal.returns-clause-read
returns-clause-read g c = stretch_reads g.D.Domain

pub returns-clause-written : goal.returns-clause-written
returns-clause-written g c = stretch_writes g.D.Domain
