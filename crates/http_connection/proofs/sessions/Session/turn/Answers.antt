use Rattle.http_connection.proofs.sessions.Session.turn.Goals as goal

pub returns-clause-share : goal.returns-clause-share
returns-clause-share g c = rw (← c.self.view_is) c.turn.ensures.share

pub returns-clause-progress : goal.returns-clause-progress
returns-clause-progress g c = rw (← c.self.view_is) c.turn.ensures.progress
