-- A connection between its turns.
use Rattle.std.specs.Prelude.{◌≡◌, ◌≤◌, ℕ, List, [], length}
use Rattle.http_connection.specs.declared.stage.Stage.{Stage}
use Rattle.http_connection.specs.declared.stage.Stage.TheVariants as stage

-- how it stands, the bytes that were read and are not answered, the rest of an answer that isn't written, and how many messages the responder was given
pub record ConnectionData : Type 0 where
  pub stage : Stage
  pub unread : List ℕ
  pub pending : List ℕ
  pub answers : ℕ

-- nothing was read
abbrev pub new_connection : ConnectionData
new_connection = record { stage = stage.Open; unread = []; pending = []; answers = 0 }

-- how many bytes are read and not answered at most: a head of 8,192 and a body of 65,536, and the 2,048 of the last read
abbrev pub most_unread : ℕ
most_unread = 75776

-- it holds no more bytes than these, and where an answer is lost nothing is pending
abbrev pub IsKept : ConnectionData → Type 0
IsKept connection = (length connection.unread ≤ most_unread) × (connection.stage ≡ stage.Lost → connection.pending ≡ [])
