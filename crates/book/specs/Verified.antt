-- Programs that the verifier accepts.
use Rattle.std.specs.Prelude.{ℕ, List}
use Rattle.bpf_profile.specs.Programs.{VerifiedProgram}
use Rattle.verifier.specs.Verifying.{IsVerification}

-- what an operator can meet: some bytes spell the program, flow and analysis accept it, and its budget is that of its flow
abbrev pub IsVerifiedProgram : VerifiedProgram → Type 0
IsVerifiedProgram program = (bytes : List ℕ) × IsVerification bytes program
