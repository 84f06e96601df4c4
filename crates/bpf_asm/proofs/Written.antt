-- The tokens of a line are those that it writes.
use Rattle.std.proofs.Common.{◌≡◌, refl, sym, ap, ◌∙◌, subst, ℕ, inl, inr, Bool, true, false, not, eqb, List, [], ◌∷◌, ◌++◌, Option, Some, None, append_assoc}
use Rattle.std.specs.Prelude.{◌||◌, option_to_list}
use Rattle.std.specs.Option.{is_some}
use Rattle.std.proofs.lemmas.Bool.{and_from, and_parts, eqb-true}
use Rattle.std.proofs.lemmas.List.{append-nil}
use Rattle.bpf_asm.specs.declared.tokens.Token.{Token}
use Rattle.bpf_asm.specs.Tokens.{ends_run, mark_of, token_of, run_tokens, tokens_after, tokens_of, content_of}
use Rattle.bpf_asm.specs.Writing.{IsBlank, is_run, closes, Writes, nothing, blank, mark, run, IsWritten}
use Rattle.bpf_asm.proofs.Contents.{content_is, is_content}
use Rattle.bpf_asm.proofs.Lexing.{runs_on, closed, no_run}
use Rattle.bpf_asm.proofs.Scanning.{after_end, after_part, after_all}

-- ---- what is written is read

pub blank_ends : (c : ℕ) → IsBlank c → ends_run c ≡ true
unfolding ends_run mark_of
blank_ends c (inl e) = ap ends_run e
blank_ends c (inr e) = ap ends_run e

pub blank_no_mark : (c : ℕ) → IsBlank c → mark_of c ≡ None
unfolding mark_of
blank_no_mark c (inl e) = ap mark_of e
blank_no_mark c (inr e) = ap mark_of e

last_holds : (a b : Bool) → (a || (b || true)) ≡ true
last_holds true b = refl
last_holds false true = refl
last_holds false false = refl

mark_ends : (c : ℕ) (t : Token) → mark_of c ≡ Some t → ends_run c ≡ true
unfolding ends_run
mark_ends c t e = ap (λ (o : Option Token). eqb c 32 || (eqb c 9 || is_some o)) e ∙ last_holds (eqb c 32) (eqb c 9)

-- a character that ends a run, in front
pub in_front : (c : ℕ) (text : List ℕ) → ends_run c ≡ true → tokens_after [] (c ∷ text) ≡ option_to_list (mark_of c) ++ tokens_after [] text
in_front c text e = after_end [] text c e ∙ ap (λ (ts : List Token). ts ++ (option_to_list (mark_of c) ++ tokens_after [] text)) no_run

one_token : (c : ℕ) (cs : List ℕ) → run_tokens (c ∷ cs) ≡ token_of (c ∷ cs) ∷ []
unfolding run_tokens
one_token c cs = refl

pub tokens_written : (text : List ℕ) (tokens : List Token) → Writes text tokens → tokens_after [] text ≡ tokens
tokens_written text tokens nothing = after_all [] ∙ no_run
tokens_written text tokens (blank c rest more is next) =
    in_front c rest (blank_ends c is) ∙ ap (λ (o : Option Token). option_to_list o ++ tokens_after [] rest) (blank_no_mark c is) ∙ tokens_written rest more next
tokens_written text tokens (mark c rest t more is next) =
    in_front c rest (mark_ends c t is) ∙ ap (λ (o : Option Token). option_to_list o ++ tokens_after [] rest) is ∙ ap (λ (ts : List Token). t ∷ ts) (tokens_written rest more next)
tokens_written text tokens (run c cs rest more is close next) =
    runs_on [] (c ∷ cs) rest is ∙ closed (c ∷ cs) rest close ∙ ap (λ (ts : List Token). ts ++ tokens_after [] rest) (one_token c cs)
    ∙ ap (λ (ts : List Token). token_of (c ∷ cs) ∷ ts) (tokens_written rest more next)

-- ---- what is read is written

blank_by : (c : ℕ) (a b : Bool) → eqb c 32 ≡ a → eqb c 9 ≡ b → (a || (b || false)) ≡ true → IsBlank c
blank_by c true b p q e = inl (eqb-true c 32 p)
blank_by c false true p q e = inr (eqb-true c 9 q)
blank_by c false false p q e = absurd cc

-- what ends a run is a blank or a mark
blank_is : (c : ℕ) → mark_of c ≡ None → ends_run c ≡ true → IsBlank c
unfolding ends_run
blank_is c e ends = blank_by c (eqb c 32) (eqb c 9) refl refl (sym (ap (λ (o : Option Token). eqb c 32 || (eqb c 9 || is_some o)) e) ∙ ends)

end_by : (c : ℕ) (o : Option Token) → mark_of c ≡ o → ends_run c ≡ true → (text : List ℕ) (tokens : List Token) → Writes text tokens → Writes (c ∷ text) (option_to_list o ++ tokens)
end_by c (Some t) is ends text tokens next = mark c text t tokens is next
end_by c None is ends text tokens next = blank c text tokens (blank_is c is ends) next

not_true : (b : Bool) → b ≡ false → not b ≡ true
not_true true e = cc
not_true false e = refl

run_grows : (xs : List ℕ) (c : ℕ) → is_run xs ≡ true → ends_run c ≡ false → is_run (xs ++ (c ∷ [])) ≡ true
run_grows [] c e f = and_from _ _ (not_true _ f) refl
run_grows (x ∷ xs) c e f = let parts = and_parts (not (ends_run x)) (is_run xs) e in and_from _ _ parts.0 (run_grows xs c parts.1 f)

-- a run that has ended, in front
with_run : (xs text : List ℕ) (tokens : List Token) → is_run xs ≡ true → closes text ≡ true → Writes text tokens → Writes (xs ++ text) (run_tokens xs ++ tokens)
unfolding run_tokens
with_run [] text tokens e close next = next
with_run (x ∷ xs) text tokens e close next = run x xs text tokens e close next

written_after : (xs text : List ℕ) → is_run xs ≡ true → Writes (xs ++ text) (tokens_after xs text)
written_after xs [] e = subst (λ (ts : List Token). Writes (xs ++ []) ts) (append-nil (run_tokens xs) ∙ sym (after_all xs)) (with_run xs [] [] e refl nothing)
written_after xs (c ∷ cs) e = by (ends_run c) refl (written_after [] cs refl) (λ inside. written_after (xs ++ (c ∷ [])) cs (run_grows xs c e inside))
  where
    by : (b : Bool) → ends_run c ≡ b → Writes cs (tokens_after [] cs) → (ends_run c ≡ false → Writes ((xs ++ (c ∷ [])) ++ cs) (tokens_after (xs ++ (c ∷ [])) cs)) → Writes (xs ++ (c ∷ cs)) (tokens_after xs (c ∷ cs))
    by true ends next more = subst (λ (ts : List Token). Writes (xs ++ (c ∷ cs)) ts) (sym (after_end xs cs c ends)) (with_run xs (c ∷ cs) (option_to_list (mark_of c) ++ tokens_after [] cs) e ends (end_by c (mark_of c) refl ends cs (tokens_after [] cs) next))
    by false inside next more = subst (λ (ts : List Token). Writes (xs ++ (c ∷ cs)) ts) (sym (after_part xs cs c inside)) (subst (λ (ys : List ℕ). Writes ys (tokens_after (xs ++ (c ∷ [])) cs)) (append_assoc xs (c ∷ []) cs) (more inside))

pub written : (line : List ℕ) (tokens : List Token) → tokens_of line ≡ tokens → IsWritten line tokens
written line tokens e = record {
  content = content_of line;
  part = is_content line;
  writes = subst (λ (ts : List Token). Writes (content_of line) ts) e (written_after [] (content_of line) refl);
}

pub read_from_written : (line : List ℕ) (tokens : List Token) → IsWritten line tokens → tokens_of line ≡ tokens
read_from_written line tokens is = ap (tokens_after []) (content_is line is.content is.part) ∙ tokens_written is.content tokens is.writes
