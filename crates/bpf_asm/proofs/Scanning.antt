-- The tokens of a line, character by character.
use Rattle.std.proofs.Common.{◌≡◌, refl, sym, ap, ◌∙◌, ℕ, ◌+◌, ◌-◌, ◌<◌, ◌≤◌, Bool, true, false, Option, List, [], ◌∷◌, ◌++◌, length, take, drop, get_or, append_assoc, length-drop, arith}
use Rattle.std.specs.Prelude.{option_to_list}
use Rattle.std.specs.Char.{to_ascii_lowercase}
use Rattle.std.proofs.lemmas.List.{drop_more, drop_all, take_all, take_more, get_or-drop, get_or-map, length-map, take-map, drop-map}
use Rattle.bpf_asm.specs.declared.tokens.Token.{Token}
use Rattle.bpf_asm.specs.Tokens.{run_tokens, mark_of, ends_run, tokens_after}
use Rattle.bpf_asm.specs.Assembly.{small_letters}
use Rattle.bpf_asm.proofs.Letters.{mark_small, ends_small}
use Rattle.bpf_asm.proofs.Alike.{longer_alike}

pub after_end : (run cs : List ℕ) (c : ℕ) → ends_run c ≡ true → tokens_after run (c ∷ cs) ≡ run_tokens run ++ (option_to_list (mark_of c) ++ tokens_after [] cs)
unfolding tokens_after
after_end run cs c e =
    ap (λ (b : Bool). elim b as (λ _. List Token) [ true ↦ run_tokens run ++ (option_to_list (mark_of c) ++ tokens_after [] cs) | false ↦ tokens_after (run ++ (c ∷ [])) cs ]) e

pub after_part : (run cs : List ℕ) (c : ℕ) → ends_run c ≡ false → tokens_after run (c ∷ cs) ≡ tokens_after (run ++ (c ∷ [])) cs
unfolding tokens_after
after_part run cs c e =
    ap (λ (b : Bool). elim b as (λ _. List Token) [ true ↦ run_tokens run ++ (option_to_list (mark_of c) ++ tokens_after [] cs) | false ↦ tokens_after (run ++ (c ∷ [])) cs ]) e

pub after_all : (run : List ℕ) → tokens_after run [] ≡ run_tokens run
unfolding tokens_after
after_all run = refl

-- a turn at a character that ends a run
pub run_ended : (content : List ℕ) (old new : List Token) (start place : ℕ) (all : List Token) → place < length content → ends_run (get_or content place 0) ≡ true
    → new ≡ old ++ (run_tokens (take (place - start) (drop start content)) ++ option_to_list (mark_of (get_or content place 0)))
    → old ++ tokens_after (take (place - start) (drop start content)) (drop place content) ≡ all
    → new ++ tokens_after (take (place + 1 - (place + 1)) (drop (place + 1) content)) (drop (place + 1) content) ≡ all
run_ended content old new start place all h ended made before =
    let run = take (place - start) (drop start content) in
    let c = get_or content place 0 in
    let rest = drop (place + 1) content in
    let here : tokens_after run (drop place content) ≡ run_tokens run ++ (option_to_list (mark_of c) ++ tokens_after [] rest) =
    ap (tokens_after run) (drop_more content place 0 h) ∙ after_end run rest c ended in
    let none : place + 1 - (place + 1) ≡ 0 = omega arith in
    ap (λ (n : ℕ). new ++ tokens_after (take n rest) rest) none
    ∙ ap (λ (xs : List Token). xs ++ tokens_after [] rest) made
    ∙ append_assoc old (run_tokens run ++ option_to_list (mark_of c)) (tokens_after [] rest)
    ∙ ap (λ (xs : List Token). old ++ xs) (append_assoc (run_tokens run) (option_to_list (mark_of c)) (tokens_after [] rest) ∙ sym here)
    ∙ before

-- a turn within a run
pub run_goes_on : (content : List ℕ) (old : List Token) (start place : ℕ) (all : List Token) → place < length content → start ≤ place → ends_run (get_or content place 0) ≡ false
    → old ++ tokens_after (take (place - start) (drop start content)) (drop place content) ≡ all
    → old ++ tokens_after (take (place + 1 - start) (drop start content)) (drop (place + 1) content) ≡ all
run_goes_on content old start place all h le inside before =
    let run = take (place - start) (drop start content) in
    let c = get_or content place 0 in
    let rest = drop (place + 1) content in
    let here : tokens_after run (drop place content) ≡ tokens_after (run ++ (c ∷ [])) rest =
    ap (tokens_after run) (drop_more content place 0 h) ∙ after_part run rest c inside in
    let one : place + 1 - start ≡ place - start + 1 = omega arith in
    let within : place - start < length (drop start content) = omega (arith, length-drop start content) in
    let more : take (place - start + 1) (drop start content) ≡ run ++ (get_or (drop start content) (place - start) 0 ∷ []) = take_more (drop start content) (place - start) 0 within in
    let at : start + (place - start) ≡ place = omega arith in
    let same : get_or (drop start content) (place - start) 0 ≡ c = get_or-drop start content (place - start) 0 ∙ ap (λ (n : ℕ). get_or content n 0) at in
    ap (λ (n : ℕ). old ++ tokens_after (take n (drop start content)) rest) one
    ∙ ap (λ (xs : List ℕ). old ++ tokens_after xs rest) (more ∙ ap (λ (n : ℕ). run ++ (n ∷ [])) same)
    ∙ ap (λ (xs : List Token). old ++ xs) (sym here)
    ∙ before

-- the end of the line
pub run_is_last : (content : List ℕ) (old new : List Token) (start place : ℕ) (all : List Token) → length content ≤ place → start ≤ place
    → new ≡ old ++ run_tokens (take (length content - start) (drop start content))
    → old ++ tokens_after (take (place - start) (drop start content)) (drop place content) ≡ all
    → new ≡ all
run_is_last content old new start place all h le made before =
    let short : length (drop start content) ≤ length content - start = omega (arith, length-drop start content) in
    let long : length (drop start content) ≤ place - start = omega (arith, length-drop start content) in
    made ∙ ap (λ (xs : List ℕ). old ++ run_tokens xs) (take_all (length content - start) (drop start content) short)
    ∙ ap (λ (xs : List Token). old ++ xs) (sym (after_all (drop start content)))
    ∙ ap (λ (xs : List ℕ). old ++ tokens_after xs []) (sym (take_all (place - start) (drop start content) long))
    ∙ ap (λ (xs : List ℕ). old ++ tokens_after (take (place - start) (drop start content)) xs) (sym (drop_all place content h))
    ∙ before

-- ---- the same of a line in small letters, of whose tokens the first are kept

small_run : (content : List ℕ) (start n : ℕ) → take n (drop start (small_letters content)) ≡ small_letters (take n (drop start content))
small_run content start n = ap (take n) (drop-map to_ascii_lowercase start content) ∙ take-map to_ascii_lowercase n (drop start content)

small_at : (content : List ℕ) (place : ℕ) → place < length content → get_or (small_letters content) place 0 ≡ to_ascii_lowercase (get_or content place 0)
small_at content place h = get_or-map to_ascii_lowercase content place 0 0 h

pub kept_ended : (content : List ℕ) (old new : List Token) (start place : ℕ) (all : List Token) → place < length content → ends_run (get_or content place 0) ≡ true
    → take 19 new ≡ take 19 (old ++ (run_tokens (small_letters (take (place - start) (drop start content))) ++ option_to_list (mark_of (get_or content place 0))))
    → take 19 (old ++ tokens_after (take (place - start) (drop start (small_letters content))) (drop place (small_letters content))) ≡ all
    → take 19 (new ++ tokens_after (take (place + 1 - (place + 1)) (drop (place + 1) (small_letters content))) (drop (place + 1) (small_letters content))) ≡ all
kept_ended content old new start place all h ended made before =
    let s = small_letters content in
    let c = get_or content place 0 in
    let longer = old ++ (run_tokens (small_letters (take (place - start) (drop start content))) ++ option_to_list (mark_of c)) in
    let next = tokens_after (take (place + 1 - (place + 1)) (drop (place + 1) s)) (drop (place + 1) s) in
    let at = small_at content place h in
    let within : place < length s = omega (arith, length-map content to_ascii_lowercase) in
    let same : longer ≡ old ++ (run_tokens (take (place - start) (drop start s)) ++ option_to_list (mark_of (get_or s place 0))) =
    ap (λ (xs : List ℕ). old ++ (run_tokens xs ++ option_to_list (mark_of c))) (sym (small_run content start (place - start)))
    ∙ ap (λ (m : Option Token). old ++ (run_tokens (take (place - start) (drop start s)) ++ option_to_list m)) (sym (ap mark_of at ∙ mark_small c)) in
    longer_alike 19 new longer next made
    ∙ ap (take 19) (run_ended s old longer start place (old ++ tokens_after (take (place - start) (drop start s)) (drop place s)) within (ap ends_run at ∙ ends_small c ∙ ended) same refl)
    ∙ before

pub kept_goes_on : (content : List ℕ) (old : List Token) (start place : ℕ) (all : List Token) → place < length content → start ≤ place → ends_run (get_or content place 0) ≡ false
    → take 19 (old ++ tokens_after (take (place - start) (drop start (small_letters content))) (drop place (small_letters content))) ≡ all
    → take 19 (old ++ tokens_after (take (place + 1 - start) (drop start (small_letters content))) (drop (place + 1) (small_letters content))) ≡ all
kept_goes_on content old start place all h le inside before =
    let s = small_letters content in
    let at = small_at content place h in
    let within : place < length s = omega (arith, length-map content to_ascii_lowercase) in
    ap (take 19) (run_goes_on s old start place (old ++ tokens_after (take (place - start) (drop start s)) (drop place s)) within le (ap ends_run at ∙ ends_small (get_or content place 0) ∙ inside) refl)
    ∙ before

pub kept_last : (content : List ℕ) (old new : List Token) (start place : ℕ) (all : List Token) → length content ≤ place → start ≤ place
    → take 19 new ≡ take 19 (old ++ run_tokens (small_letters (take (length content - start) (drop start content))))
    → take 19 (old ++ tokens_after (take (place - start) (drop start (small_letters content))) (drop place (small_letters content))) ≡ all
    → take 19 new ≡ all
kept_last content old new start place all h le made before =
    let s = small_letters content in
    let longer = old ++ run_tokens (small_letters (take (length content - start) (drop start content))) in
    let past : length s ≤ place = omega (arith, length-map content to_ascii_lowercase) in
    let same : longer ≡ old ++ run_tokens (take (length s - start) (drop start s)) =
    ap (λ (xs : List ℕ). old ++ run_tokens xs) (sym (small_run content start (length content - start)) ∙ ap (λ (n : ℕ). take (n - start) (drop start s)) (sym (length-map content to_ascii_lowercase))) in
    made ∙ ap (take 19) (run_is_last s old longer start place (old ++ tokens_after (take (place - start) (drop start s)) (drop place s)) past le same refl) ∙ before

-- a run and the mark behind it, appended one after the other
pub kept_both : (old one new run mark : List Token) → take 19 one ≡ take 19 (old ++ run) → take 19 new ≡ take 19 (one ++ mark) → take 19 new ≡ take 19 (old ++ (run ++ mark))
kept_both old one new run mark e f = f ∙ longer_alike 19 one (old ++ run) mark e ∙ ap (take 19) (append_assoc old run mark)
