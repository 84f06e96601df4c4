-- What a server has written that was cut short.
use Rattle.std.proofs.Common.{◌≡◌, sym, subst, ℕ, List, Option, Some, inl, inr}
use Rattle.std.specs.Bool.{⊤}
use Rattle.std.specs.Io.KnownBytes.{Appends}
use Rattle.std.specs.declared.net.socket_addr.SocketAddr.{SocketAddr}
use Rattle.refusals.specs.declared.RefusalNumber.{RefusalNumber}
use Rattle.refusals.specs.declared.RefusalNumber.TheVariants as refusal
use Rattle.server_output.specs.declared.status.ServerStatus.{ServerStatus}
use Rattle.server_output.specs.declared.status.ServerStatus.TheVariants as status
use Rattle.server_output.specs.Lines.{refused_line, IsRefused, IsCutShort, IsAddressRefusal}
use Rattle.service_file.specs.declared.settings.Settings.{Settings}
use Rattle.service_file.specs.Settled.{IsRead}
use Rattle.sidecar_server.specs.Server.{IsAddressOf, IsFileRefused, IsServerRefusal, IsServerOutput}

-- ---- a server that serves a file

-- with settings that were read of the text
module _ (text : List ℕ) (settings : Settings) (read : IsRead text (Some settings)) where
  refused_by : (number : RefusalNumber) → IsAddressRefusal number → IsFileRefused text number
  refused_by number is = subst (λ n. IsFileRefused text n) (sym is) (settings, read)

  pub ended_short : (s : ServerStatus) (before after : Option (List ℕ)) → IsServerOutput settings.listen s before after → IsCutShort (IsAddressOf text) (IsFileRefused text) s before after
  ended_short status.Done before after ended = tt
  ended_short status.ListenerFailed before after ended = tt
  ended_short (status.Refused number) before after ended = tt
  ended_short status.WriteFailed before after (inl (printed, told, begun)) = inl (printed, (settings, read, told), begun)
  ended_short status.WriteFailed before after (inr (number, is, begun)) = inr (number, refused_by number is, begun)
  ended_short status.FlushFailed before after (inl (printed, told, whole)) = inl (printed, (settings, read, told), whole)
  ended_short status.FlushFailed before after (inr (number, is, whole)) = inr (number, refused_by number is, whole)
  ended_short status.OutOfMemory before after (inl none) = inl none
  ended_short status.OutOfMemory before after (inr (printed, told, whole)) = inr (printed, (settings, read, told), whole)

  pub refused_file : (s : ServerStatus) (before after : Option (List ℕ)) → IsServerOutput settings.listen s before after → (number : RefusalNumber) → s ≡ status.Refused number → IsFileRefused text number × Appends before after (refused_line number)
  refused_file s before after ended number is =
      let refused : IsServerOutput settings.listen (status.Refused number) before after = subst (λ t. IsServerOutput settings.listen t before after) is ended in
      (refused_by number refused.0, refused.1)

-- whose refusal was to be printed
pub refused_short : (Told : SocketAddr → Type 0) (Refused : RefusalNumber → Type 0) (s : ServerStatus) (number : RefusalNumber) (before after : Option (List ℕ)) → Refused number → IsRefused s number before after → IsCutShort Told Refused s before after
refused_short Told Refused status.Done number before after may refused = tt
refused_short Told Refused status.ListenerFailed number before after may refused = tt
refused_short Told Refused (status.Refused other) number before after may refused = tt
refused_short Told Refused status.WriteFailed number before after may refused = inr (number, may, refused)
refused_short Told Refused status.FlushFailed number before after may refused = inr (number, may, refused)
refused_short Told Refused status.OutOfMemory number before after may refused = inl refused

-- ---- a server that serves a path

pub is_server_refusal : (text : List ℕ) (number : RefusalNumber) → IsFileRefused text number → IsServerRefusal number
is_server_refusal text refusal.BadConfig is = tt
is_server_refusal text refusal.Listen is = tt
is_server_refusal text other is = absurd is

-- what is left of what is said of a file, where nobody knows its text
pub path_short : (s : ServerStatus) (text : List ℕ) (before after : Option (List ℕ)) → IsCutShort (IsAddressOf text) (IsFileRefused text) s before after → IsCutShort (λ _. ⊤) IsServerRefusal s before after
path_short status.Done text before after cut = tt
path_short status.ListenerFailed text before after cut = tt
path_short (status.Refused number) text before after cut = tt
path_short status.WriteFailed text before after (inl (printed, told, begun)) = inl (printed, tt, begun)
path_short status.WriteFailed text before after (inr (number, is, begun)) = inr (number, is_server_refusal text number is, begun)
path_short status.FlushFailed text before after (inl (printed, told, whole)) = inl (printed, tt, whole)
path_short status.FlushFailed text before after (inr (number, is, whole)) = inr (number, is_server_refusal text number is, whole)
path_short status.OutOfMemory text before after (inl none) = inl none
path_short status.OutOfMemory text before after (inr (printed, told, whole)) = inr (printed, tt, whole)
