use Rattle.breaker.proofs.Room.{room_in}
use Rattle.service_profile.specs.Standings.{is_half_open}
use Rattle.breaker.proofs.laws.few_notes_leave_room.Goals as goal

pub returns : goal.returns
returns c = λ breaker notes kept few. room_in (is_half_open breaker.standing.state) breaker.window breaker.half_open notes kept few
