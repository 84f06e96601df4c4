-- What is written on standard error where a server is quiet.
use Rattle.std.proofs.Common.{◌≡◌, refl, sym, subst, ℕ, List, Option, Result, Ok, Err, inl}
use Rattle.std.specs.Result.{IsErrAnd}
use Rattle.server_output.specs.declared.status.ServerStatus.{ServerStatus}
use Rattle.server_output.specs.declared.status.ServerStatus.TheVariants as status
use Rattle.server_output.specs.Lines.{IsNotice, IsQuiet, status_of}

-- where nothing is written, there is nothing to say
pub quiet_kept : (s : ServerStatus) (v : Option (List ℕ)) → IsQuiet s v v
quiet_kept status.Done v = inl refl
quiet_kept status.ListenerFailed v = tt
quiet_kept (status.Refused number) v = tt
quiet_kept status.WriteFailed v = inl refl
quiet_kept status.FlushFailed v = inl refl
quiet_kept status.OutOfMemory v = inl refl

-- where memory ran out, there is at most the line on too few workers
pub quiet_without_memory : {A : Type 0} (r : Result A ServerStatus) (a b : Option (List ℕ)) → IsErrAnd r (λ s. s ≡ status.OutOfMemory) → IsNotice a b → IsQuiet (status_of r) a b
quiet_without_memory (Ok x) a b out notice = absurd out
quiet_without_memory (Err s) a b out notice = subst (λ t. IsQuiet t a b) (sym out) notice
