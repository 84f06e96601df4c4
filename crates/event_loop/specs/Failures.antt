-- Why a listener accepts no more connections.
use Rattle.std.specs.Prelude.{◌≡◌, ◌||◌, ℤ, pos, Bool, true, if◌then◌else◌, Option, Some, None}
use Rattle.std.specs.Ordering.{int_eq}
use Rattle.event_loop.specs.declared.failure.ListenerFailed.{ListenerFailed}

-- the errors of Linux's accept(2) that lie in the listener: it is closed (EBADF, 9), its memory is none (EFAULT, 14), it doesn't listen (EINVAL, 22), it is no socket (ENOTSOCK, 88), or none that accepts (EOPNOTSUPP, 95)
abbrev pub is_listener_error : ℤ → Bool
is_listener_error code = int_eq code (pos 9) || int_eq code (pos 14) || int_eq code (pos 22) || int_eq code (pos 88) || int_eq code (pos 95)

-- the failure that an error of accepting is, by the system's number of the error; None where it doesn't lie in the listener, or the system has no number for it
abbrev pub failure_of : Option ℤ → Option ListenerFailed
failure_of None = None
failure_of (Some code) = if is_listener_error code then Some (record { code = code }) else None

-- a failure with the number of such an error
abbrev pub IsOfListener : ListenerFailed → Type 0
IsOfListener failure = is_listener_error failure.code ≡ true
