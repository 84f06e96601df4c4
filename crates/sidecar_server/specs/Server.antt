-- How a server serves a file, and why it ends.
use Rattle.std.specs.Prelude.{ℕ, List, Option, Some, None, Result, Ok, Err, ⊤}
use Rattle.std.specs.Io.KnownBytes.{Appends}
use Rattle.std.specs.declared.net.socket_addr.SocketAddr.{SocketAddr}
use Rattle.refusals.specs.declared.RefusalNumber.{RefusalNumber}
use Rattle.refusals.specs.declared.RefusalNumber.TheVariants as refusal
use Rattle.service_profile.specs.Events.{History}
use Rattle.event_loop.specs.Numbers.{ends}
use Rattle.event_loop.specs.declared.failure.ListenerFailed.{ListenerFailed}
use Rattle.service_file.specs.declared.settings.Settings.{Settings}
use Rattle.service_file.specs.Settled.{IsRead}
use Rattle.server_output.specs.Lines.{refused_line, IsAddressFor, IsListeningAt, IsCutShort, IsAddressRefusal}
use Rattle.server_output.specs.declared.status.ServerStatus.{ServerStatus}
use Rattle.server_output.specs.declared.status.ServerStatus.TheVariants as status
use Rattle.sidecar_server.specs.declared.serving.ServerEnd.{ServerEnd}
use Rattle.sidecar_server.specs.Served.{HasServedBy}

-- the text is a file that can be used
abbrev pub IsUsable : List ℕ → Type 0
IsUsable text = (settings : Settings) × IsRead text (Some settings)

-- the address that a server of this file tells: that of the file, with the port that the system chose where it has port 0
abbrev pub IsAddressOf : List ℕ → SocketAddr → Type 0
IsAddressOf text printed = (settings : Settings) × IsRead text (Some settings) × IsAddressFor settings.listen printed

-- the text is no file that can be used; or it is, and its address can't be bound
abbrev pub IsFileRefused : List ℕ → RefusalNumber → Type 0
IsFileRefused text refusal.BadConfig = IsRead text None
IsFileRefused text refusal.Listen = IsUsable text
IsFileRefused text other = ⊥

-- with these alone a server refuses: a file that can't be read or used, and an address that can't be bound
abbrev pub IsServerRefusal : RefusalNumber → Type 0
IsServerRefusal refusal.BadConfig = ⊤
IsServerRefusal refusal.Listen = ⊤
IsServerRefusal other = ⊥

-- connections were served: the server is done, or the listener accepts no more
abbrev pub IsServing : ServerStatus → Type 0
IsServing status.Done = ⊤
IsServing status.ListenerFailed = ⊤
IsServing other = ⊥

-- a server that is done was to serve a number of connections
abbrev pub IsOver : ServerStatus → ℕ → Type 0
IsOver status.Done connections = ends connections
IsOver other connections = ⊤

-- how a server ended that has served connections: its listener failed, or it is done
abbrev pub ended_by : Option ListenerFailed → ServerStatus
ended_by None = status.Done
ended_by (Some failure) = status.ListenerFailed

-- how serving ended, where it may have failed before its end
abbrev pub end_of : Result ServerEnd ServerStatus → ServerStatus
end_of (Ok end) = end.status
end_of (Err failed) = failed

-- what serving with settings of this address printed, by how it ended: the line of the address where it is done, or the refusal, or a part of these
abbrev pub IsServerOutput : SocketAddr → ServerStatus → Option (List ℕ) → Option (List ℕ) → Type 0
IsServerOutput wanted status.Done before after = IsListeningAt wanted before after
IsServerOutput wanted status.ListenerFailed before after = IsListeningAt wanted before after
IsServerOutput wanted (status.Refused number) before after = IsAddressRefusal number × Appends before after (refused_line number)
IsServerOutput wanted other before after = IsCutShort (IsAddressFor wanted) IsAddressRefusal other before after

-- the services of a file's text opened, the line of its address was printed, and connections were served, which left these books and seats' counts. Serving ends by itself only where the file says after how many connections
abbrev pub HasServedFile : {C : Type 0} → (C → ℕ → C → Type 0) → List ℕ → ServerStatus → C → C → Option (List ℕ) → Option (List ℕ) → List History → List ℕ → Type 0
HasServedFile ticks text ended clock later before after books counts =
    (settings : Settings) × IsRead text (Some settings) × HasServedBy ticks settings clock later books counts × IsOver ended settings.connections × IsListeningAt settings.listen before after
