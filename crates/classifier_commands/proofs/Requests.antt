-- What was asked for was done: so what the words ask for.
use Rattle.std.proofs.Common.{◌≡◌, ◌⊎◌, ℕ, List, Option, inl, inr, sym, subst}
use Rattle.classifier_commands.specs.declared.commands.Request.{Request}
use Rattle.classifier_commands.specs.declared.commands.Request.TheVariants as request
use Rattle.classifier_commands.specs.declared.commands.Status.{Status}
use Rattle.classifier_commands.specs.Commands.{Words, IsRequest, IsDone, HasAnswered, HasJudged, HasVerified, HasDisassembled, HasFault, NamesFaulty}
use Rattle.std.specs.Borrow.{Bor}
use Rattle.bpf_profile.specs.declared.layout.Layout.{Layout}
use Rattle.classifier_commands.specs.Answers.{IsFaulty}

pub answered : (words : Words) (r : Request) (known : Option (List ℕ)) (ended : Status) (before after : Option (List ℕ)) → IsRequest words r → IsDone r known ended before after → HasAnswered words known ended before after
answered words (request.Judge program layout) known ended before after asked done = inl (layout, asked.0, subst (λ (p : List ℕ). HasJudged layout p known ended before after) asked.1 done)
answered words (request.Verify program layout) known ended before after asked done = inr (inl (layout, asked.0, subst (λ (p : List ℕ). HasVerified layout p ended before after) asked.1 done))
answered words request.Assemble known ended before after asked done = inr (inr (inl (asked, done)))
answered words (request.Disassemble program) known ended before after asked done = inr (inr (inr (asked.0, subst (λ (p : List ℕ). HasDisassembled p ended before after) asked.1 done)))

-- what is asked for by two names was done
pub done_as : (r asked : Request) (known : Option (List ℕ)) (ended : Status) (before after : Option (List ℕ)) → r ≡ asked → IsDone asked known ended before after → IsDone r known ended before after
done_as r asked known ended before after is done = subst (λ (q : Request). IsDone q known ended before after) (sym is) done

-- the program that is asked for is refused: so the words name one that is
pub names_faulty : (words : Words) (r : Request) → IsRequest words r → HasFault r → NamesFaulty words
names_faulty words (request.Judge program layout) asked fault = (layout, inl asked.0, subst (λ (p : List ℕ). IsFaulty layout p) asked.1 fault)
names_faulty words (request.Verify program layout) asked fault = (layout, inr asked.0, subst (λ (p : List ℕ). IsFaulty layout p) asked.1 fault)
names_faulty words request.Assemble asked fault = absurd fault
names_faulty words (request.Disassemble program) asked fault = absurd fault

-- a program is asked for, to judge by it or to verify it, and is refused
pub fault_as : (r : Request) (program : Bor (List ℕ)) (layout : Layout) → (r ≡ request.Judge program layout) ⊎ (r ≡ request.Verify program layout) → IsFaulty layout program.now → HasFault r
fault_as r program layout (inl is) fault = subst (λ (q : Request). HasFault q) (sym is) fault
fault_as r program layout (inr is) fault = subst (λ (q : Request). HasFault q) (sym is) fault
