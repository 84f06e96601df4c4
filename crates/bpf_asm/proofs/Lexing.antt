-- Texts and their tokens, put together.
use Rattle.std.proofs.Common.{◌≡◌, refl, sym, ap, ◌∙◌, ℕ, ◌≤◌, Bool, true, false, not, List, [], ◌∷◌, ◌++◌, append_assoc, arith}
use Rattle.std.specs.Prelude.{option_to_list}
use Rattle.std.specs.Str.Parse.{AllDigits}
use Rattle.std.proofs.lemmas.List.{append-nil}
use Rattle.std.proofs.lemmas.Bool.{ne_eqb, and_parts, and_from}
use Rattle.std.proofs.lemmas.Str.Parse.{digit_from_value}
use Rattle.bpf_asm.specs.declared.tokens.Token.{Token}
use Rattle.bpf_asm.specs.declared.tokens.Token.TheVariants as token
use Rattle.bpf_asm.specs.Tokens.{run_tokens, mark_of, ends_run, tokens_after}
use Rattle.bpf_asm.specs.Writing.{is_run, closes}
use Rattle.bpf_asm.proofs.Scanning.{after_end, after_part, after_all}

-- a text has these tokens, whatever closes it
pub record Lexes (text : List ℕ) (tokens : List Token) : Type 0 where
  pub lexed : (rest : List ℕ) → closes rest ≡ true → tokens_after [] (text ++ rest) ≡ tokens ++ tokens_after [] rest

pub was_false : (b : Bool) → not b ≡ true → b ≡ false
was_false true e = absurd cc
was_false false e = refl

pub runs_on : (run text rest : List ℕ) → is_run text ≡ true → tokens_after run (text ++ rest) ≡ tokens_after (run ++ text) rest
runs_on run [] rest e = ap (λ (xs : List ℕ). tokens_after xs rest) (sym (append-nil run))
runs_on run (c ∷ cs) rest e =
    let parts = and_parts (not (ends_run c)) (is_run cs) e in
    after_part run (cs ++ rest) c (was_false _ parts.0) ∙ runs_on (run ++ (c ∷ [])) cs rest parts.1
    ∙ ap (λ (xs : List ℕ). tokens_after xs rest) (append_assoc run (c ∷ []) cs)

pub no_run : run_tokens [] ≡ []
unfolding run_tokens
no_run = refl

pub closed : (run rest : List ℕ) → closes rest ≡ true → tokens_after run rest ≡ run_tokens run ++ tokens_after [] rest
closed run [] e = after_all run ∙ sym (append-nil (run_tokens run)) ∙ ap (λ (ts : List Token). run_tokens run ++ ts) (sym (after_all [] ∙ no_run))
closed run (c ∷ cs) e =
    let alone = after_end [] cs c e in
    after_end run cs c e ∙ ap (λ (ts : List Token). run_tokens run ++ ts) (sym (alone ∙ ap (λ (ts : List Token). ts ++ (option_to_list (mark_of c) ++ tokens_after [] cs)) no_run))

pub piece : (text : List ℕ) (t : Token) → is_run text ≡ true → run_tokens text ≡ t ∷ [] → Lexes text (t ∷ [])
piece text t e is = record {
  lexed = λ rest close. runs_on [] text rest e ∙ closed text rest close ∙ ap (λ (ts : List Token). ts ++ tokens_after [] rest) is;
}

-- one text after another, where the second begins with a character that ends a run
pub joined : (first second : List ℕ) (a b : List Token) → Lexes first a → Lexes second b → ((rest : List ℕ) → closes rest ≡ true → closes (second ++ rest) ≡ true) → Lexes (first ++ second) (a ++ b)
joined first second a b x y begins = record {
  lexed = λ rest close.
      ap (tokens_after []) (append_assoc first second rest) ∙ x.lexed (second ++ rest) (begins rest close)
      ∙ ap (λ (ts : List Token). a ++ ts) (y.lexed rest close) ∙ sym (append_assoc a b (tokens_after [] rest));
}

-- a mark, or a blank, before a text
marked : (c : ℕ) (text : List ℕ) (tokens : List Token) → ends_run c ≡ true → Lexes text tokens → Lexes (c ∷ text) (option_to_list (mark_of c) ++ tokens)
marked c text tokens e x = record {
  lexed = λ rest close.
      after_end [] (text ++ rest) c e ∙ ap (λ (ts : List Token). ts ++ (option_to_list (mark_of c) ++ tokens_after [] (text ++ rest))) no_run
      ∙ ap (λ (ts : List Token). option_to_list (mark_of c) ++ ts) (x.lexed rest close) ∙ sym (append_assoc (option_to_list (mark_of c)) tokens (tokens_after [] rest));
}

pub nothing : Lexes [] []
nothing = record { lexed = λ rest close. refl }

pub blank : (text : List ℕ) (tokens : List Token) → Lexes text tokens → Lexes (32 ∷ text) tokens
unfolding ends_run mark_of
blank text tokens x = marked 32 text tokens refl x

pub comma : (text : List ℕ) (tokens : List Token) → Lexes text tokens → Lexes (44 ∷ text) (token.Comma ∷ tokens)
unfolding ends_run mark_of
comma text tokens x = marked 44 text tokens refl x

pub opened : (text : List ℕ) (tokens : List Token) → Lexes text tokens → Lexes (91 ∷ text) (token.Open ∷ tokens)
unfolding ends_run mark_of
opened text tokens x = marked 91 text tokens refl x

pub close : Lexes (93 ∷ []) (token.Close ∷ [])
unfolding ends_run mark_of
close = marked 93 [] [] refl nothing

pub plus : (text : List ℕ) (tokens : List Token) → Lexes text tokens → Lexes (43 ∷ text) (token.Plus ∷ tokens)
unfolding ends_run mark_of
plus text tokens x = marked 43 text tokens refl x

pub minus : (text : List ℕ) (tokens : List Token) → Lexes text tokens → Lexes (45 ∷ text) (token.Minus ∷ tokens)
unfolding ends_run mark_of
minus text tokens x = marked 45 text tokens refl x

-- the characters that end a run
pub blank_closes : (text : List ℕ) → closes (32 ∷ text) ≡ true
unfolding ends_run mark_of
blank_closes text = refl

pub comma_closes : (text : List ℕ) → closes (44 ∷ text) ≡ true
unfolding ends_run mark_of
comma_closes text = refl

pub close_closes : (text : List ℕ) → closes (93 ∷ text) ≡ true
unfolding ends_run mark_of
close_closes text = refl

pub plus_closes : (text : List ℕ) → closes (43 ∷ text) ≡ true
unfolding ends_run mark_of
plus_closes text = refl

pub minus_closes : (text : List ℕ) → closes (45 ∷ text) ≡ true
unfolding ends_run mark_of
minus_closes text = refl

pub whole : (text : List ℕ) (tokens : List Token) → Lexes text tokens → tokens_after [] text ≡ tokens
whole text tokens x =
    ap (tokens_after []) (sym (append-nil text)) ∙ x.lexed [] refl ∙ ap (λ (ts : List Token). tokens ++ ts) (after_all [] ∙ no_run) ∙ append-nil tokens

-- digits are one run
digit_runs : (c : ℕ) → 48 ≤ c → c ≤ 57 → ends_run c ≡ false
unfolding ends_run mark_of
digit_runs c low high =
    rw (ne_eqb c 32 (λ e. omega arith), ne_eqb c 9 (λ e. omega arith), ne_eqb c 44 (λ e. omega arith), ne_eqb c 91 (λ e. omega arith), ne_eqb c 93 (λ e. omega arith), ne_eqb c 43 (λ e. omega arith), ne_eqb c 45 (λ e. omega arith)) refl

not_true : (b : Bool) → b ≡ false → not b ≡ true
not_true true e = cc
not_true false e = refl

pub digits_run : (ds : List ℕ) → AllDigits 10 ds → is_run ds ≡ true
digits_run [] all = refl
digits_run (c ∷ cs) all = let r = digit_from_value c all.0 in and_from _ _ (not_true _ (digit_runs c r.0 r.1)) (digits_run cs all.1)
