use Rattle.std.proofs.Common.{◌≡◌, ◌⊎◌, inl, inr}
use Rattle.bpf_profile.specs.declared.layout.Layout.TheVariants as layout
use Rattle.verifier.specs.declared.refusal.Refusal.{Refusal}
use Rattle.verifier.specs.DefaultClassifier.{default_classifier_bytes}
use Rattle.verifier.specs.Verifying.{out_of_memory, fault_of, IsRefused}
use Rattle.verifier.proofs.DefaultAccepted.{never_refused}
use Rattle.verifier.proofs.Known.{if_err_map}
use Rattle.verifier.proofs.classifier.default_classifier.Goals as goal

-- its bytes have no fault, so memory is all that can be wanting
pub returns-clause-refused : goal.returns-clause-refused
returns-clause-refused c = if_err_map c.verify.result (λ e. (e ≡ out_of_memory) ⊎ IsRefused layout.One default_classifier_bytes (fault_of e)) (λ e. e ≡ out_of_memory) memory_alone c.verify.ensures.refused
  where
    memory_alone : (e : Refusal) → (e ≡ out_of_memory) ⊎ IsRefused layout.One default_classifier_bytes (fault_of e) → e ≡ out_of_memory
    memory_alone e (inl memory) = memory
    memory_alone e (inr refused) = absurd (never_refused (fault_of e) refused)
