-- How a turn goes on behind a read.
use Rattle.std.proofs.Common.{eqb-true, ◌≡◌, ◌≢◌, ◌<◌, ℕ, List, [], ◌∷◌, length, ◌==◌, Bool, true, false, Option, refl, sym, ap, ◌∙◌, arith, inl, inr}
use Rattle.counted_io.specs.Counts.{CountsNothing}
use Rattle.counted_io.specs.Wires.{CountsOf}
use Rattle.http_messages.specs.Messages.{IsPartOfMessage}
use Rattle.http_connection.specs.Serving.{IsUnfinished}
use Rattle.http_connection.specs.declared.ended.Ended.{Ended}
use Rattle.http_connection.specs.declared.ended.Ended.TheVariants as end
use Rattle.http_connection.specs.declared.input.Filled.{Filled}
use Rattle.http_connection.specs.declared.input.Filled.TheVariants as filled
use Rattle.http_connection.specs.declared.stage.Stage.TheVariants as stage
use Rattle.http_connection.specs.declared.turned.Turned.{Turned}
use Rattle.http_connection.specs.declared.turned.Turned.TheVariants as turned
use Rattle.http_connection.specs.declared.turned.Want.{Want}
use Rattle.http_connection.specs.declared.turned.Want.TheVariants as want
use Rattle.http_connection.specs.Calls.{IsFilled, turned_by}
use Rattle.http_connection.specs.Connections.{ConnectionData}
use Rattle.http_connection.specs.Ends.{IsRead, IsTurned}

-- what a turn says that doesn't go on
pub waits_apart : {want : Want} → turned.Waits want ≡ turned.GoesOn → ⊥
waits_apart e = cc

pub ended_apart : {ended : Ended} → turned.Ended ended ≡ turned.GoesOn → ⊥
ended_apart e = cc

bool_apart : false ≡ true → ⊥
bool_apart h = grind arith

some_is_part : (unread : List ℕ) → IsUnfinished unread → unread ≢ [] → IsPartOfMessage unread
some_is_part unread (inl none) some = absurd (some none)
some_is_part unread (inr part) some = part

no_length : (unread : List ℕ) → length unread ≡ 0 → unread ≡ []
no_length [] h = refl
no_length (b ∷ bs) h = absurd (omega (arith, h))

pub none_or_some : (empty : Bool) (unread : List ℕ) → empty ≡ (length unread == 0) → (empty ≡ true → unread ≡ []) × (empty ≡ false → unread ≢ [])
none_or_some empty unread is = (
  (λ yes. no_length unread (eqb-true (length unread) 0 (sym is ∙ yes))),
  (λ no none. bool_apart (sym no ∙ is ∙ ap (λ z. length z == 0) none)),
)

not_last : (connection : ConnectionData) → connection.stage ≡ stage.Open → connection.stage ≢ stage.Last
not_last connection opened last = absurd (let e : stage.Open ≡ stage.Last = sym opened ∙ last in cc)

pub read_by : (found : Filled) (empty : Bool) (unread : List ℕ) (connection : ConnectionData) (has : Option (List ℕ)) (before after : CountsOf)
    → connection.stage ≡ stage.Open → connection.pending ≡ [] → IsUnfinished unread → (empty ≡ true → connection.unread ≡ []) × (empty ≡ false → connection.unread ≢ [])
    → IsFilled found unread connection.unread has before after → IsRead (turned_by found empty) connection has before after
read_by filled.More empty unread connection has before after opened none part either is = is.1
read_by filled.End true unread connection has before after opened none part either is = ((opened, none), either.0 refl, is.1, is.2)
read_by filled.End false unread connection has before after opened none part either is = ((opened, none), some_is_part connection.unread (rw is.0 part) (either.1 refl), is.1, is.2)
read_by filled.Nothing empty unread connection has before after opened none part either is = ((opened, none), rw is.0 part, is.1)
read_by filled.Failed empty unread connection has before after opened none part either is = ((opened, none), rw is.0 part, is.1)
read_by filled.NoMemory empty unread connection has before after opened none part either is = (not_last connection opened, none, is.1)

-- it goes on only where more was read
pub longer_by : (found : Filled) (empty : Bool) (result : Turned) (unread new : List ℕ) (has : Option (List ℕ)) (before after : CountsOf)
    → result ≡ turned_by found empty → IsFilled found unread new has before after → result ≡ turned.GoesOn → length unread < length new
longer_by filled.More empty result unread new has before after by is goes = is.0
longer_by filled.End true result unread new has before after by is goes = absurd (ended_apart (sym by ∙ goes))
longer_by filled.End false result unread new has before after by is goes = absurd (ended_apart (sym by ∙ goes))
longer_by filled.Nothing empty result unread new has before after by is goes = absurd (waits_apart (sym by ∙ goes))
longer_by filled.Failed empty result unread new has before after by is goes = absurd (ended_apart (sym by ∙ goes))
longer_by filled.NoMemory empty result unread new has before after by is goes = absurd (ended_apart (sym by ∙ goes))

-- a round ends as its read does, behind a writer that took all
pub turned_by_read : (result : Turned) (connection : ConnectionData) (has : Option (List ℕ)) (reader reader_after writer writer_after : CountsOf)
    → IsRead result connection has reader reader_after → CountsNothing writer writer_after → IsTurned result connection has reader reader_after writer writer_after
turned_by_read turned.GoesOn connection has reader reader_after writer writer_after read nothing = (read, nothing)
turned_by_read (turned.Waits want.Bytes) connection has reader reader_after writer writer_after read nothing = (read, nothing)
turned_by_read (turned.Waits want.Room) connection has reader reader_after writer writer_after read nothing = absurd read
turned_by_read (turned.Ended end.Closed) connection has reader reader_after writer writer_after read nothing = (read, nothing)
turned_by_read (turned.Ended end.Truncated) connection has reader reader_after writer writer_after read nothing = (read, nothing)
turned_by_read (turned.Ended end.Finished) connection has reader reader_after writer writer_after read nothing = absurd read
turned_by_read (turned.Ended end.ReadFailed) connection has reader reader_after writer writer_after read nothing = (read, nothing)
turned_by_read (turned.Ended end.WriteFailed) connection has reader reader_after writer writer_after read nothing = absurd read
turned_by_read (turned.Ended end.OutOfMemory) connection has reader reader_after writer writer_after read nothing = (read, nothing)
