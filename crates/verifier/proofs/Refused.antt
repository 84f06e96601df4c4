-- What an error that ends a function early says of its answer.
use Rattle.std.proofs.Common.{◌≡◌, ◌⊎◌, inl, inr, ℕ, ◌<◌, List, Some, None, Result, Ok, Err, sym, ap, ◌∙◌, subst, arith}
use Rattle.std.specs.Prelude.{IfOk, IfErr}
use Rattle.std.specs.Result.{IsErrAnd}
use Rattle.refusals.specs.declared.RefusalNumber.TheVariants.{ProgramOutOfMemory}
use Rattle.bpf_decode.specs.declared.error.DecodeError.{DecodeError}
use Rattle.flow_check.specs.declared.error.FlowError.{FlowError}
use Rattle.bpf_profile.specs.declared.layout.Layout.{Layout}
use Rattle.bpf_profile.specs.declared.slot.Slot.{Slot}
use Rattle.bpf_profile.specs.FlowFaults.{flow_fault}
use Rattle.bpf_profile.specs.Layouts.{context_size}
use Rattle.bpf_profile.specs.Limits.{most_slots}
use Rattle.bpf_profile.specs.Spelling.{Spells}
use Rattle.bpf_profile.specs.SpellingFaults.{first_fault}
use Rattle.verifier.specs.Analysis.{analysis_fault}
use Rattle.verifier.specs.Product.{product}
use Rattle.verifier.specs.declared.refusal.Refusal.{Refusal}
use Rattle.verifier.specs.Verifying.{out_of_memory, fault_of, IsProgramRefused, IsRefused}

-- an error is no value, so whatever is said of the value holds
pub no_value : {A E : Type 0} (r : Result A E) (Q : E → Type 0) (P : A → Type 0) → IsErrAnd r Q → IfOk r P
no_value (Ok a) Q P given = absurd given
no_value (Err e) Q P given = tt

-- what is known of the error that was passed on
pub passed_on : {A E : Type 0} (r : Result A E) (Q P : E → Type 0) → ((e : E) → Q e → P e) → IsErrAnd r Q → IfErr r P
passed_on (Ok a) Q P says given = absurd given
passed_on (Err e) Q P says given = says e given

abbrev refusal_of : DecodeError → Refusal
refusal_of error = record { slot = error.slot; number = error.number }

-- the refusal of bytes that decoding refuses
pub refused_undecoded : (layout : Layout) (bytes : List ℕ) (error : DecodeError) (e : Refusal) → e ≡ record { slot = error.slot; number = error.number }
    → (error ≡ record { slot = 0; number = ProgramOutOfMemory }) ⊎ (first_fault bytes ≡ Some (record { slot = error.slot; number = error.number })) → (e ≡ out_of_memory) ⊎ IsRefused layout bytes (fault_of e)
refused_undecoded layout bytes error e is (inl none) = inl (is ∙ ap refusal_of none)
refused_undecoded layout bytes error e is (inr fault) = inr (inl (fault ∙ ap (λ (f : Refusal). Some (fault_of f)) (sym is)))

-- the refusal of bytes whose program is refused
pub refused_program : (layout : Layout) (bytes : List ℕ) (slots : List Slot) (error e : Refusal) → e ≡ error → Spells bytes slots → (error ≡ out_of_memory) ⊎ IsProgramRefused layout slots (fault_of error) → (e ≡ out_of_memory) ⊎ IsRefused layout bytes (fault_of e)
refused_program layout bytes slots error e is spelled (inl none) = inl (is ∙ none)
refused_program layout bytes slots error e is spelled (inr refused) = inr (inr (slots, spelled, subst (λ (f : Refusal). IsProgramRefused layout slots (fault_of f)) (sym is) refused))

pub slot_of : (e : Refusal) (slot : ℕ) → e.slot ≡ slot → slot < most_slots → e.slot < most_slots
slot_of e slot is h = subst (λ (n : ℕ). n < most_slots) (sym is) h

pub slot_without_memory : (e : Refusal) → e ≡ out_of_memory → e.slot < most_slots
slot_without_memory e is = slot_of e 0 (ap (λ (f : Refusal). f.slot) is) (omega arith)

abbrev refusal_of_flow : FlowError → Refusal
refusal_of_flow error = record { slot = error.slot; number = error.number }

-- the refusal of a program whose flow is refused
pub refused_flow : (layout : Layout) (slots : List Slot) (error : FlowError) (e : Refusal) → e ≡ record { slot = error.slot; number = error.number }
    → (error ≡ record { slot = 0; number = ProgramOutOfMemory }) ⊎ (flow_fault slots ≡ Some (record { slot = error.slot; number = error.number })) → (e ≡ out_of_memory) ⊎ IsProgramRefused layout slots (fault_of e)
refused_flow layout slots error e is (inl none) = inl (is ∙ ap refusal_of_flow none)
refused_flow layout slots error e is (inr fault) = inr (inl (fault ∙ ap (λ (f : Refusal). Some (fault_of f)) (sym is)))

-- the refusal of a program that the analysis refuses
pub refused_analysis : (layout : Layout) (slots : List Slot) (error e : Refusal) → e ≡ error → flow_fault slots ≡ None → (error ≡ out_of_memory) ⊎ (analysis_fault product (context_size layout) slots ≡ Some (fault_of error)) → (e ≡ out_of_memory) ⊎ IsProgramRefused layout slots (fault_of e)
refused_analysis layout slots error e is accepted (inl none) = inl (is ∙ none)
refused_analysis layout slots error e is accepted (inr fault) = inr (inr (accepted, fault ∙ ap (λ (f : Refusal). Some (fault_of f)) (sym is)))
