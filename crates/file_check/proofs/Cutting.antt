-- What a check came to, by what was printed.
use Rattle.std.proofs.Common.{◌≡◌, subst, ℕ, List, Option, Some, inl}
use Rattle.refusals.specs.declared.RefusalNumber.TheVariants.{BadConfig}
use Rattle.service_file.specs.declared.settings.Settings.{Settings}
use Rattle.service_file.specs.Settled.{IsRead}
use Rattle.server_output.specs.Lines.{refused_line, IsPrinted, IsRefused}
use Rattle.server_output.specs.declared.status.ServerStatus.{ServerStatus}
use Rattle.server_output.specs.declared.status.ServerStatus.TheVariants as status
use Rattle.file_check.specs.Checks.{accepted_line, IsAccepted, IsCheckCut, IsLineOf, IsLineOfSome}

-- it is done: the whole line of the settings was printed
pub accepted : (text : List ℕ) (settings : Settings) (s : ServerStatus) (before after : Option (List ℕ)) → IsRead text (Some settings) → IsPrinted s (accepted_line settings) before after → s ≡ status.Done → IsAccepted text before after
accepted text settings s before after read printed is = (settings, read, subst (λ t. IsPrinted t (accepted_line settings) before after) is printed)

module _ (IsLine : List ℕ → Type 0) where
  -- a line was to be printed
  pub printed_cut : (s : ServerStatus) (line : List ℕ) (before after : Option (List ℕ)) → IsLine line → IsPrinted s line before after → IsCheckCut IsLine s before after
  printed_cut status.Done line before after is printed = tt
  printed_cut status.ListenerFailed line before after is printed = printed
  printed_cut (status.Refused number) line before after is printed = tt
  printed_cut status.WriteFailed line before after is printed = (line, is, printed)
  printed_cut status.FlushFailed line before after is printed = (line, is, printed)
  printed_cut status.OutOfMemory line before after is printed = printed

  -- a refusal was to be printed
  pub refused_cut : (s : ServerStatus) (before after : Option (List ℕ)) → IsLine (refused_line BadConfig) → IsRefused s BadConfig before after → IsCheckCut IsLine s before after
  refused_cut status.Done before after is refused = tt
  refused_cut status.ListenerFailed before after is refused = refused
  refused_cut (status.Refused number) before after is refused = tt
  refused_cut status.WriteFailed before after is refused = (refused_line BadConfig, is, refused)
  refused_cut status.FlushFailed before after is refused = (refused_line BadConfig, is, refused)
  refused_cut status.OutOfMemory before after is refused = refused

-- of a path the text is some text
pub some_cut : (s : ServerStatus) (text : List ℕ) (before after : Option (List ℕ)) → IsCheckCut (IsLineOf text) s before after → IsCheckCut IsLineOfSome s before after
some_cut status.Done text before after cut = tt
some_cut status.ListenerFailed text before after cut = cut
some_cut (status.Refused number) text before after cut = tt
some_cut status.WriteFailed text before after (line, is, begun) = (line, inl (text, is), begun)
some_cut status.FlushFailed text before after (line, is, whole) = (line, inl (text, is), whole)
some_cut status.OutOfMemory text before after cut = cut
