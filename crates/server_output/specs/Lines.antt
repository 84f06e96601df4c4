-- What a server prints, and how it ended.
use Rattle.std.specs.Prelude.{◌≡◌, ◌≢◌, ◌⊎◌, ℕ, List, ◌∷◌, [], ◌++◌, codes, decimal, Option, Result, Ok, Err, ⊤}
use Rattle.std.specs.Io.KnownBytes.{Appends}
use Rattle.std.specs.Net.Socket.{socket_ip, socket_port, socket_scope_id}
use Rattle.std.specs.Net.Text.{socket_text}
use Rattle.std.specs.declared.net.socket_addr.SocketAddr.{SocketAddr}
use Rattle.counted_io.specs.Counting.{one_more, AppendsPart, AppendsProperPart}
use Rattle.refusals.specs.declared.RefusalNumber.{RefusalNumber}
use Rattle.refusals.specs.declared.RefusalNumber.TheVariants as refusal
use Rattle.refusals.specs.Texts.{refusal_text}
use Rattle.server_output.specs.declared.status.ServerStatus.{ServerStatus}
use Rattle.server_output.specs.declared.status.ServerStatus.TheVariants as status

-- the line that is printed once the server listens
abbrev pub listening_line : SocketAddr → List ℕ
listening_line address = codes "listening " ++ (socket_text address ++ 10 ∷ [])

-- the line of a refusal
abbrev pub refused_line : RefusalNumber → List ℕ
refused_line number = refusal_text number 0 ++ 10 ∷ []

-- the line that says that fewer workers run at once than the file says
abbrev pub workers_line : ℕ → ℕ → List ℕ
workers_line running workers = codes "the system runs only " ++ (decimal running ++ (codes " of " ++ (decimal workers ++ (codes " workers at once" ++ 10 ∷ []))))

-- what standard error may have where nothing was refused and the listener didn't fail: nothing, or that line, or a beginning of it
abbrev pub IsNotice : Option (List ℕ) → Option (List ℕ) → Type 0
IsNotice before after = (after ≡ before) ⊎ ((running : ℕ) × (workers : ℕ) × AppendsPart before after (workers_line running workers))

-- what standard error has, by how the server ended: where a refusal was printed, or the listener failed, it says why
abbrev pub IsQuiet : ServerStatus → Option (List ℕ) → Option (List ℕ) → Type 0
IsQuiet (status.Refused number) before after = ⊤
IsQuiet status.ListenerFailed before after = ⊤
IsQuiet other before after = IsNotice before after

-- nothing of a writer changed, unless a refusal was printed
abbrev pub IsSilent : {W : Type 0} → ServerStatus → W → W → Type 0
IsSilent (status.Refused number) before after = ⊤
IsSilent other before after = after ≡ before

-- the line that says that standard output took no line, or not all of it
abbrev pub lost_output_line : List ℕ
lost_output_line = codes "standard output: a line couldn't be written" ++ 10 ∷ []

-- that line was written, and no call failed; or one more call failed, and a beginning of the line was written, and not all of it
abbrev pub IsLossWritten : ℕ → ℕ → Option (List ℕ) → Option (List ℕ) → Type 0
IsLossWritten failures later before after =
    ((later ≡ failures) × Appends before after lost_output_line)
    ⊎ ((later ≡ one_more failures) × AppendsProperPart before after lost_output_line)

-- what standard error has more behind a server that ended so: that line where a write or a flush failed, and else nothing
abbrev pub IsLossTold : ServerStatus → ℕ → ℕ → Option (List ℕ) → Option (List ℕ) → Type 0
IsLossTold status.WriteFailed failures later before after = IsLossWritten failures later before after
IsLossTold status.FlushFailed failures later before after = IsLossWritten failures later before after
IsLossTold other failures later before after = (later ≡ failures) × (after ≡ before)

-- what a line left that couldn't be printed: a beginning of it, and not all of it, where a write failed, and the whole of it where it couldn't be flushed
abbrev pub IsLineCut : ServerStatus → List ℕ → Option (List ℕ) → Option (List ℕ) → Type 0
IsLineCut status.WriteFailed line before after = AppendsProperPart before after line
IsLineCut status.FlushFailed line before after = Appends before after line
IsLineCut other line before after = ⊥

-- a text was printed, or a part of it where that failed; nothing was written where there was no memory for it
abbrev pub IsPrinted : ServerStatus → List ℕ → Option (List ℕ) → Option (List ℕ) → Type 0
IsPrinted status.Done text before after = Appends before after text
IsPrinted status.OutOfMemory text before after = after ≡ before
IsPrinted other text before after = IsLineCut other text before after

-- the refusal was printed, or a part of its line where that failed; nothing was written where there was no memory for it
abbrev pub IsRefused : ServerStatus → RefusalNumber → Option (List ℕ) → Option (List ℕ) → Type 0
IsRefused (status.Refused refused) number before after = (refused ≡ number) × Appends before after (refused_line number)
IsRefused status.OutOfMemory number before after = after ≡ before
IsRefused other number before after = IsLineCut other (refused_line number) before after

abbrev pub status_of : {A : Type 0} → Result A ServerStatus → ServerStatus
status_of (Ok a) = status.Done
status_of (Err failed) = failed

-- a failed write comes where that count went up by one, and so does a failed flush; no other end does
abbrev pub IsServerCause : ServerStatus → ℕ → ℕ → Type 0
IsServerCause status.WriteFailed before after = after ≡ one_more before
IsServerCause status.FlushFailed before after = after ≡ one_more before
IsServerCause other before after = after ≡ before

-- the address that is printed where this one is to be listened on: the same, but that a port of 0 lets the system choose one
pub record IsAddressFor (wanted printed : SocketAddr) : Type 0 where
  pub ip : socket_ip printed ≡ socket_ip wanted
  pub scope : socket_scope_id printed ≡ socket_scope_id wanted
  pub port : socket_port wanted ≢ 0 → socket_port printed ≡ socket_port wanted

-- the server listens: the line of an address that it may tell was printed
abbrev pub IsListening : (SocketAddr → Type 0) → Option (List ℕ) → Option (List ℕ) → Type 0
IsListening Told before after = (printed : SocketAddr) × Told printed × Appends before after (listening_line printed)

-- the server listens as it was to: the line of this address was printed, with the port that the system chose where it has none
abbrev pub IsListeningAt : SocketAddr → Option (List ℕ) → Option (List ℕ) → Type 0
IsListeningAt wanted before after = IsListening (IsAddressFor wanted) before after

-- what a server has written that was cut short. Told says which addresses it may tell, and Refused which refusals it may print
module _ (Told : SocketAddr → Type 0) (Refused : RefusalNumber → Type 0) where
  -- a beginning of the line of an address, or of the line of a refusal, and not all of it
  abbrev pub IsLineBegun : Option (List ℕ) → Option (List ℕ) → Type 0
  IsLineBegun before after =
      ((printed : SocketAddr) × Told printed × AppendsProperPart before after (listening_line printed))
      ⊎ ((number : RefusalNumber) × Refused number × AppendsProperPart before after (refused_line number))

  -- the whole of such a line
  abbrev pub IsLineWhole : Option (List ℕ) → Option (List ℕ) → Type 0
  IsLineWhole before after =
      IsListening Told before after
      ⊎ ((number : RefusalNumber) × Refused number × Appends before after (refused_line number))

  -- where a write failed a line was begun; where it couldn't be flushed it was written whole; and memory runs out before anything was written, or behind the line of the address
  abbrev pub IsCutShort : ServerStatus → Option (List ℕ) → Option (List ℕ) → Type 0
  IsCutShort status.WriteFailed before after = IsLineBegun before after
  IsCutShort status.FlushFailed before after = IsLineWhole before after
  IsCutShort status.OutOfMemory before after = (after ≡ before) ⊎ IsListening Told before after
  IsCutShort other before after = ⊤

-- the only refusal of a file that can be used
abbrev pub IsAddressRefusal : RefusalNumber → Type 0
IsAddressRefusal number = number ≡ refusal.Listen

-- what was printed by a server that was to listen on this address and doesn't come to: the refusal of the address, or a part of its one line, or nothing
abbrev pub IsUnheard : SocketAddr → ServerStatus → Option (List ℕ) → Option (List ℕ) → Type 0
IsUnheard wanted (status.Refused number) before after = IsAddressRefusal number × Appends before after (refused_line number)
IsUnheard wanted status.WriteFailed before after = IsLineBegun (IsAddressFor wanted) IsAddressRefusal before after
IsUnheard wanted status.FlushFailed before after = IsLineWhole (IsAddressFor wanted) IsAddressRefusal before after
IsUnheard wanted status.OutOfMemory before after = after ≡ before
IsUnheard wanted other before after = ⊥

abbrev pub code_of : ServerStatus → ℕ
code_of status.Done = 0
code_of status.ListenerFailed = 1
code_of (status.Refused number) = 1
code_of status.WriteFailed = 1
code_of status.FlushFailed = 1
code_of status.OutOfMemory = 1
