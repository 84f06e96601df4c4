-- Bytes spell a program exactly where they have no fault.
use Rattle.std.proofs.Common.{◌≡◌, refl, sym, ap, ◌∙◌, ℕ, ◌*◌, ◌/◌, ◌%◌, ◌<◌, ◌≤◌, Bool, true, false, cond, eqb, ltb, not, ◌||◌, List, length, Option, Some, None, arith}
use Rattle.std.proofs.lemmas.Bool.{eqb-true, eqb-false, ltb-false, ne_eqb, eq-eqb, le-ltb, or_parts, or_from, not_from_true}
use Rattle.refusals.specs.declared.RefusalNumber.TheVariants.{Length}
use Rattle.bpf_profile.specs.declared.slot.Slot.{Slot}
use Rattle.bpf_profile.specs.Limits.{most_slots}
use Rattle.bpf_profile.specs.Spelling.{Spells}
use Rattle.bpf_profile.specs.SpellingFaults.{Fault, slots_at, fault_from, is_bad_length, first_fault}
use Rattle.bpf_decode.proofs.Runs.{program_run, none_run, run_none, run_instructions, run_tails}
use Rattle.bpf_decode.proofs.Texts.{IsBytes, length_text, slots_again, text_again, slots_fit, length_slots}

-- ---- lengths

was_true : (b : Bool) → not b ≡ false → b ≡ true
was_true true e = refl
was_true false e = cc

-- how many slots so many bytes have
pub record IsCount (count slots : ℕ) : Type 0 where
  pub whole : count ≡ 8 * slots
  pub some : 0 < slots
  pub few : slots ≤ most_slots

good_length : (count : ℕ) → is_bad_length count ≡ false → IsCount count (count / 8)
good_length count e =
    let a = or_parts (eqb count 0) (not (eqb (count % 8) 0) || ltb 32768 count) e in
    let b = or_parts (not (eqb (count % 8) 0)) (ltb 32768 count) a.1 in
    let ne = eqb-false count 0 a.0 in
    let whole = eqb-true (count % 8) 0 (was_true _ b.0) in
    let few = ltb-false 32768 count b.1 in
    record { whole = omega arith; some = omega arith; few = omega arith }

not_bad : (count slots : ℕ) → IsCount count slots → is_bad_length count ≡ false
not_bad count slots is =
    let few : count ≤ 32768 = omega arith in
    or_from _ _ (ne_eqb count 0 (λ e. omega arith)) (or_from _ _ (not_from_true _ (eq-eqb (count % 8) 0 (omega arith))) (le-ltb 32768 count few))

-- ---- both ways

no_first : (bad : Bool) (f : Fault) (later : Option Fault) → cond bad (Some f) later ≡ None → (bad ≡ false) × (later ≡ None)
no_first true f later e = absurd cc
no_first false f later e = (refl, e)

first_none : (bad : Bool) (f : Fault) (later : Option Fault) → bad ≡ false → later ≡ None → cond bad (Some f) later ≡ None
first_none true f later good e = absurd cc
first_none false f later good e = e

pub unfaulted : (bytes : List ℕ) → IsBytes bytes → is_bad_length (length bytes) ≡ false → fault_from 0 false (slots_at (length bytes / 8) bytes) ≡ None
    → Spells bytes (slots_at (length bytes / 8) bytes)
unfaulted bytes fits good none =
    let is = good_length (length bytes) good in
    let slots = slots_at (length bytes / 8) bytes in
    let len = length_slots (length bytes / 8) bytes in
    let run = none_run 0 false slots tt none in
    record {
      program = record {
        some = omega arith;
        few = omega arith;
        fields = slots_fit (length bytes / 8) bytes fits;
        instructions = run_instructions slots run;
        tails = run_tails slots run;
      };
      text = sym (text_again (length bytes / 8) bytes is.whole fits);
    }

pub none_spelled : (bytes : List ℕ) → IsBytes bytes → first_fault bytes ≡ None → Spells bytes (slots_at (length bytes / 8) bytes)
none_spelled bytes fits none =
    let e = no_first (is_bad_length (length bytes)) (record { slot = 0; number = Length }) (fault_from 0 false (slots_at (length bytes / 8) bytes)) none in
    unfaulted bytes fits e.0 e.1

spelled_count : (bytes : List ℕ) (slots : List Slot) → Spells bytes slots → IsCount (length bytes) (length slots)
spelled_count bytes slots spells = record { whole = ap length spells.text ∙ length_text slots; some = spells.program.some; few = spells.program.few }

pub spelled_slots : (bytes : List ℕ) (slots : List Slot) → Spells bytes slots → slots_at (length bytes / 8) bytes ≡ slots
spelled_slots bytes slots spells =
    let is = spelled_count bytes slots spells in
    let count : length bytes / 8 ≡ length slots = omega arith in
    ap (λ (n : ℕ). slots_at n bytes) count ∙ ap (slots_at (length slots)) spells.text
    ∙ slots_again false slots (program_run slots spells.program) spells.program.fields

pub spelled_none : (bytes : List ℕ) (slots : List Slot) → Spells bytes slots → first_fault bytes ≡ None
spelled_none bytes slots spells =
    let good = not_bad (length bytes) (length slots) (spelled_count bytes slots spells) in
    first_none (is_bad_length (length bytes)) _ _ good
    (ap (fault_from 0 false) (spelled_slots bytes slots spells) ∙ run_none 0 false slots (program_run slots spells.program))

-- ---- what a decoder has read

pub read_few : (bytes : List ℕ) (slots : List Slot) → is_bad_length (length bytes) ≡ false → slots ≡ slots_at (length bytes / 8) bytes → length slots ≤ most_slots
read_few bytes slots good e =
    let is = good_length (length bytes) good in
    omega (arith, ap length e, length_slots (length bytes / 8) bytes)

pub read_spelled : (bytes : List ℕ) (slots : List Slot) → IsBytes bytes → is_bad_length (length bytes) ≡ false → slots ≡ slots_at (length bytes / 8) bytes
    → fault_from 0 false slots ≡ None → Spells bytes slots
read_spelled bytes slots fits good e none = rw e (unfaulted bytes fits good (ap (fault_from 0 false) (sym e) ∙ none))

pub bad_unspelled : (bytes : List ℕ) (slots : List Slot) → is_bad_length (length bytes) ≡ true → Spells bytes slots → ⊥
bad_unspelled bytes slots bad spells =
    let good = not_bad (length bytes) (length slots) (spelled_count bytes slots spells) in
    let e : true ≡ false = sym bad ∙ good in
    cc

pub faulty_unspelled : (bytes : List ℕ) (read slots : List Slot) (f : Fault) → read ≡ slots_at (length bytes / 8) bytes → Some f ≡ fault_from 0 false read → Spells bytes slots → ⊥
faulty_unspelled bytes read slots f e some spells =
    let none = run_none 0 false slots (program_run slots spells.program) in
    let same : read ≡ slots = e ∙ spelled_slots bytes slots spells in
    let no : Some f ≡ None = some ∙ ap (fault_from 0 false) same ∙ none in
    cc

-- ---- one spelling

pub same_slots : (bytes : List ℕ) (s t : List Slot) → Spells bytes s → Spells bytes t → s ≡ t
same_slots bytes s t a b = sym (spelled_slots bytes s a) ∙ spelled_slots bytes t b
