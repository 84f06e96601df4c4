-- How a server ends that has served.
use Rattle.std.proofs.Common.{◌≡◌, refl, sym, subst, ℕ, List, Option, Some, None}
use Rattle.std.specs.declared.net.socket_addr.SocketAddr.{SocketAddr}
use Rattle.event_loop.specs.Numbers.{ends}
use Rattle.event_loop.specs.declared.failure.ListenerFailed.{ListenerFailed}
use Rattle.server_output.specs.declared.status.ServerStatus.{ServerStatus}
use Rattle.server_output.specs.declared.status.ServerStatus.TheVariants as status
use Rattle.server_output.specs.Lines.{IsListeningAt}
use Rattle.sidecar_server.specs.Server.{IsServing, IsServerOutput, IsOver, ended_by}

-- it has told its address
pub served_listens : (wanted : SocketAddr) (s : ServerStatus) (before after : Option (List ℕ)) → IsServing s → IsServerOutput wanted s before after → IsListeningAt wanted before after
served_listens wanted status.Done before after serving ended = ended
served_listens wanted status.ListenerFailed before after serving ended = ended
served_listens wanted (status.Refused number) before after serving ended = absurd serving
served_listens wanted status.WriteFailed before after serving ended = absurd serving
served_listens wanted status.FlushFailed before after serving ended = absurd serving
served_listens wanted status.OutOfMemory before after serving ended = absurd serving

-- where its listener didn't fail, there was a number of connections
pub over_by : (failure : Option ListenerFailed) (s : ServerStatus) (connections : ℕ) → s ≡ ended_by failure → (failure ≡ None → ends connections) → IsOver s connections
over_by None s connections is over = subst (λ t. IsOver t connections) (sym is) (over refl)
over_by (Some failure) s connections is over = subst (λ t. IsOver t connections) (sym is) tt
