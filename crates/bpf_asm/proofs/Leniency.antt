-- What of a line doesn't matter: comments, blanks, and the base in which a number is written.
use Rattle.std.proofs.Common.{◌≡◌, refl, sym, ap, ◌∙◌, ℕ, ◌+◌, Bool, true, false, cond, not, eqb, ltb, List, [], ◌∷◌, ◌++◌, take, drop, map, Option, Some, None, Result, append_assoc, arith}
use Rattle.std.specs.Prelude.{◌&&◌, ◌≢◌, option_to_list, codes}
use Rattle.std.specs.Char.{digit_value}
use Rattle.std.specs.Str.{bytes_eq}
use Rattle.std.specs.Str.Parse.{digits_value}
use Rattle.std.proofs.lemmas.Bool.{ltb-true, lt-ltb, ne_eqb, and_parts, and_from}
use Rattle.std.proofs.lemmas.List.{append-nil}
use Rattle.refusals.specs.declared.RefusalNumber.{RefusalNumber}
use Rattle.bpf_profile.specs.declared.instruction.Instruction.{Instruction}
use Rattle.bpf_profile.specs.declared.slot.Slot.{Slot}
use Rattle.bpf_asm.specs.declared.error.AsmError.{AsmError}
use Rattle.bpf_asm.specs.declared.tokens.Token.{Token}
use Rattle.bpf_asm.specs.Assembly.{statement_on, slots_of, with_line, with_lines, within, at_line, then_lines, assembly_of, not_empty}
use Rattle.bpf_asm.specs.Faults.{lines_in}
use Rattle.bpf_asm.specs.Reading.{statement_of, ◌>>=◌}
use Rattle.bpf_asm.specs.Tokens.{all_digits, bounded, numeral, number_of, register_named, token_from, token_of, ends_run, mark_of, run_tokens, tokens_after, tokens_of, without_return, without_comment, content_of}
use Rattle.bpf_asm.specs.Names.{word_named}
use Rattle.bpf_asm.specs.Writing.{IsBlank, IsNumeral, closes, has_no_comment, is_run}
use Rattle.bpf_asm.proofs.Contents.{Commented, none, one, commented, Returned, ended, stays, returned, return_ends, comment_step, comment_kept, tail_is}
use Rattle.bpf_asm.proofs.Lexing.{no_run, runs_on, closed}
use Rattle.bpf_asm.proofs.Relation.{head_same, tail_same}
use Rattle.bpf_asm.proofs.Scanning.{after_end, after_part, after_all}
use Rattle.bpf_asm.proofs.Written.{blank_ends, blank_no_mark, in_front}

-- lines with the same tokens are read alike
alike : (line other : List ℕ) → tokens_of line ≡ tokens_of other → statement_on line ≡ statement_on other
unfolding statement_on
alike line other e = ap statement_of e

same_content : (line other : List ℕ) → content_of line ≡ content_of other → statement_on line ≡ statement_on other
same_content line other e = alike line other (ap (tokens_after []) e)

-- ---- comments

-- behind a comment nothing is read
covered : (line content comment more : List ℕ) → has_no_comment content ≡ true → line ≡ content ++ (59 ∷ comment) → content_of (line ++ more) ≡ content
covered line content comment more e split =
    ap (λ (xs : List ℕ). content_of (xs ++ more)) split ∙ ap content_of (append_assoc content (59 ∷ comment) more) ∙ comment_kept content (comment ++ more) e (returned (content ++ (59 ∷ (comment ++ more))))

comment_by : (line comment other : List ℕ) → Commented line → content_of (line ++ (59 ∷ comment)) ≡ content_of (line ++ (59 ∷ other))
comment_by line comment other (none e) = comment_kept line comment e (returned (line ++ (59 ∷ comment))) ∙ sym (comment_kept line other e (returned (line ++ (59 ∷ other))))
comment_by line comment other (one content first e split) = covered line content first (59 ∷ comment) e split ∙ sym (covered line content first (59 ∷ other) e split)

pub comment_is_ignored : (line comment other : List ℕ) → statement_on (line ++ (59 ∷ comment)) ≡ statement_on (line ++ (59 ∷ other))
comment_is_ignored line comment other = same_content (line ++ (59 ∷ comment)) (line ++ (59 ∷ other)) (comment_by line comment other (commented line))

-- ---- what stands in front of a text

nothing_left : (xs ys : List ℕ) → xs ++ ys ≡ [] → ys ≡ []
nothing_left [] ys e = e
nothing_left (x ∷ xs) ys e = absurd cc

record Within (text : List ℕ) : Type 0 where
  before : List ℕ
  same : text ≡ before ++ (13 ∷ [])

within_end : (left text before : List ℕ) → (text ≡ [] → ⊥) → left ++ text ≡ before ++ (13 ∷ []) → Within text
within_end [] text before some e = record { before = before; same = e }
within_end (c ∷ cs) text [] some e = absurd (some (nothing_left cs text (tail_is c 13 (cs ++ text) [] e)))
within_end (c ∷ cs) text (x ∷ xs) some e = within_end cs text xs some (tail_is c x (cs ++ text) (xs ++ (13 ∷ [])) e)

return_stays_by : (left text : List ℕ) → (text ≡ [] → ⊥) → ((before : List ℕ) → text ≢ before ++ (13 ∷ [])) → without_return text ≡ text → Returned (left ++ text) → without_return (left ++ text) ≡ left ++ without_return text
return_stays_by left text some never is (ended content same other) = let inner = within_end left text content some same in absurd (never inner.before inner.same)
return_stays_by left text some never is (stays other same) = same ∙ ap (λ (xs : List ℕ). left ++ xs) (sym is)

return_behind : (left text : List ℕ) → (text ≡ [] → ⊥) → Returned text → without_return (left ++ text) ≡ left ++ without_return text
return_behind left text some (ended content same is) =
    ap (λ (xs : List ℕ). without_return (left ++ xs)) same ∙ ap without_return (sym (append_assoc left content (13 ∷ []))) ∙ return_ends (left ++ content) ∙ ap (λ (xs : List ℕ). left ++ xs) (sym is)
return_behind left text some (stays never is) = return_stays_by left text some never is (returned (left ++ text))

was_false : (b : Bool) → not b ≡ true → b ≡ false
was_false true e = absurd cc
was_false false e = refl

comment_behind : (left text : List ℕ) → has_no_comment left ≡ true → without_comment (left ++ text) ≡ left ++ without_comment text
comment_behind [] text e = refl
comment_behind (c ∷ cs) text e =
    let parts = and_parts (not (eqb c 59)) (has_no_comment cs) e in
    comment_step c (cs ++ text) ∙ ap (λ (b : Bool). cond b [] (c ∷ without_comment (cs ++ text))) (was_false (eqb c 59) parts.0) ∙ ap (λ (xs : List ℕ). c ∷ xs) (comment_behind cs text parts.1)

content_behind : (left text : List ℕ) → has_no_comment left ≡ true → (text ≡ [] → ⊥) → content_of (left ++ text) ≡ left ++ content_of text
content_behind left text e some = ap without_comment (return_behind left text some (returned text)) ∙ comment_behind left (without_return text) e

not_true : (b : Bool) → b ≡ false → not b ≡ true
not_true true e = cc
not_true false e = refl

one_stays : (c : ℕ) → eqb c 59 ≡ false → eqb c 13 ≡ false → content_of (c ∷ []) ≡ c ∷ []
one_stays c e f =
    ap (λ (b : Bool). without_comment (cond (b && true) [] (c ∷ []))) f ∙ comment_step c [] ∙ ap (λ (b : Bool). cond b [] (c ∷ [])) e

no_cons : (c : ℕ) (cs : List ℕ) → c ∷ cs ≡ [] → ⊥
no_cons c cs e = cc

content_cons : (c : ℕ) (text : List ℕ) → eqb c 59 ≡ false → eqb c 13 ≡ false → content_of (c ∷ text) ≡ c ∷ content_of text
content_cons c [] e f = one_stays c e f
content_cons c (x ∷ xs) e f = content_behind (c ∷ []) (x ∷ xs) (and_from _ _ (not_true _ e) refl) (no_cons x xs)

-- ---- tokens behind any text

tokens_behind : (u v : List ℕ) → ((run : List ℕ) → tokens_after run u ≡ tokens_after run v) → (left run : List ℕ) → tokens_after run (left ++ u) ≡ tokens_after run (left ++ v)
tokens_behind u v same [] run = same run
tokens_behind u v same (c ∷ cs) run = by (ends_run c) refl (tokens_behind u v same cs []) (tokens_behind u v same cs (run ++ (c ∷ [])))
  where
    by : (b : Bool) → ends_run c ≡ b → tokens_after [] (cs ++ u) ≡ tokens_after [] (cs ++ v) → tokens_after (run ++ (c ∷ [])) (cs ++ u) ≡ tokens_after (run ++ (c ∷ [])) (cs ++ v)
        → tokens_after run ((c ∷ cs) ++ u) ≡ tokens_after run ((c ∷ cs) ++ v)
    by true ends first next = after_end run (cs ++ u) c ends ∙ ap (λ (ts : List Token). run_tokens run ++ (option_to_list (mark_of c) ++ ts)) first ∙ sym (after_end run (cs ++ v) c ends)
    by false inside first next = after_part run (cs ++ u) c inside ∙ next ∙ sym (after_part run (cs ++ v) c inside)

-- lines that go on behind the same text are read alike if what follows is
alike_behind_by : (left u v : List ℕ) → (u ≡ [] → ⊥) → (v ≡ [] → ⊥) → ((run : List ℕ) → tokens_after run (content_of u) ≡ tokens_after run (content_of v)) → Commented left → tokens_of (left ++ u) ≡ tokens_of (left ++ v)
alike_behind_by left u v p q same (none e) =
    ap (tokens_after []) (content_behind left u e p) ∙ tokens_behind (content_of u) (content_of v) same left [] ∙ ap (tokens_after []) (sym (content_behind left v e q))
alike_behind_by left u v p q same (one content comment e split) = ap (tokens_after []) (covered left content comment u e split ∙ sym (covered left content comment v e split))

alike_behind : (left u v : List ℕ) → (u ≡ [] → ⊥) → (v ≡ [] → ⊥) → ((run : List ℕ) → tokens_after run (content_of u) ≡ tokens_after run (content_of v)) → statement_on (left ++ u) ≡ statement_on (left ++ v)
alike_behind left u v p q same = alike (left ++ u) (left ++ v) (alike_behind_by left u v p q same (commented left))

-- ---- blanks

not_true_false : true ≡ false → ⊥
not_true_false e = cc

apart : (c d : ℕ) → ends_run c ≡ true → ends_run d ≡ false → eqb c d ≡ false
apart c d e f = ne_eqb c d (λ same. not_true_false (sym e ∙ ap ends_run same ∙ f))

no_end : (ends_run 59 ≡ false) × (ends_run 13 ≡ false)
unfolding ends_run mark_of
no_end = (refl, refl)

ends_content : (c : ℕ) (text : List ℕ) → ends_run c ≡ true → content_of (c ∷ text) ≡ c ∷ content_of text
ends_content c text e = content_cons c text (apart c 59 e no_end.0) (apart c 13 e no_end.1)

blank_skipped : (blank : ℕ) (text : List ℕ) → IsBlank blank → tokens_after [] (blank ∷ text) ≡ tokens_after [] text
blank_skipped blank text is = in_front blank text (blank_ends blank is) ∙ ap (λ (o : Option Token). option_to_list o ++ tokens_after [] text) (blank_no_mark blank is)

-- a blank behind a blank or a mark
blank_behind : (run : List ℕ) (end blank : ℕ) (text : List ℕ) → ends_run end ≡ true → IsBlank blank → tokens_after run (end ∷ (blank ∷ text)) ≡ tokens_after run (end ∷ text)
blank_behind run end blank text e is =
    after_end run (blank ∷ text) end e ∙ ap (λ (ts : List Token). run_tokens run ++ (option_to_list (mark_of end) ++ ts)) (blank_skipped blank text is) ∙ sym (after_end run text end e)

-- and before one
blank_before : (run : List ℕ) (end blank : ℕ) (text : List ℕ) → ends_run end ≡ true → IsBlank blank → tokens_after run (blank ∷ (end ∷ text)) ≡ tokens_after run (end ∷ text)
blank_before run end blank text e is =
    after_end run (end ∷ text) blank (blank_ends blank is) ∙ ap (λ (o : Option Token). run_tokens run ++ (option_to_list o ++ tokens_after [] (end ∷ text))) (blank_no_mark blank is)
    ∙ ap (λ (ts : List Token). run_tokens run ++ ts) (in_front end text e) ∙ sym (after_end run text end e)

pub blank_behind_an_end : (left right : List ℕ) (blank end : ℕ) → IsBlank blank → ends_run end ≡ true → statement_on (left ++ (end ∷ (blank ∷ right))) ≡ statement_on (left ++ (end ∷ right))
blank_behind_an_end left right blank end is e =
    let first : content_of (end ∷ (blank ∷ right)) ≡ end ∷ (blank ∷ content_of right) = ends_content end (blank ∷ right) e ∙ ap (λ (xs : List ℕ). end ∷ xs) (ends_content blank right (blank_ends blank is)) in
    alike_behind left (end ∷ (blank ∷ right)) (end ∷ right) (no_cons end (blank ∷ right)) (no_cons end right)
    (λ run. ap (tokens_after run) first ∙ blank_behind run end blank (content_of right) e is ∙ ap (tokens_after run) (sym (ends_content end right e)))

pub blank_before_an_end : (left right : List ℕ) (blank end : ℕ) → IsBlank blank → ends_run end ≡ true → statement_on (left ++ (blank ∷ (end ∷ right))) ≡ statement_on (left ++ (end ∷ right))
blank_before_an_end left right blank end is e =
    let first : content_of (blank ∷ (end ∷ right)) ≡ blank ∷ (end ∷ content_of right) = ends_content blank (end ∷ right) (blank_ends blank is) ∙ ap (λ (xs : List ℕ). blank ∷ xs) (ends_content end right e) in
    alike_behind left (blank ∷ (end ∷ right)) (end ∷ right) (no_cons blank (end ∷ right)) (no_cons end right)
    (λ run. ap (tokens_after run) first ∙ blank_before run end blank (content_of right) e is ∙ ap (tokens_after run) (sym (ends_content end right e)))

pub blank_at_the_start : (line : List ℕ) (blank : ℕ) → IsBlank blank → statement_on (blank ∷ line) ≡ statement_on line
blank_at_the_start line blank is = alike (blank ∷ line) line (ap (tokens_after []) (ends_content blank line (blank_ends blank is)) ∙ blank_skipped blank (content_of line) is)

last_blank : (run : List ℕ) (blank : ℕ) → IsBlank blank → tokens_after run (blank ∷ []) ≡ tokens_after run []
last_blank run blank is =
    after_end run [] blank (blank_ends blank is) ∙ ap (λ (o : Option Token). run_tokens run ++ (option_to_list o ++ tokens_after [] [])) (blank_no_mark blank is)
    ∙ ap (λ (ts : List Token). run_tokens run ++ ts) (after_all [] ∙ no_run) ∙ append-nil (run_tokens run) ∙ sym (after_all run)

pub blank_at_the_end : (line : List ℕ) (blank : ℕ) → IsBlank blank → statement_on (line ++ (blank ∷ [])) ≡ statement_on (line ++ (13 ∷ []))
blank_at_the_end line blank is =
    alike_behind line (blank ∷ []) (13 ∷ []) (no_cons blank []) (no_cons 13 [])
    (λ run. ap (tokens_after run) (ends_content blank [] (blank_ends blank is)) ∙ last_blank run blank is)

-- ---- numbers

some_digits : (radix : ℕ) (digits : List ℕ) → IsNumeral radix digits → numeral radix digits ≡ Some (bounded (digits_value radix digits))
unfolding numeral
some_digits radix [] (some, all) = absurd (some refl)
some_digits radix (c ∷ cs) (some, all) = ap (λ (b : Bool). cond b (Some (bounded (digits_value radix (c ∷ cs)))) None) all

no_x : (c : ℕ) (cs : List ℕ) → all_digits 10 (c ∷ cs) ≡ true → eqb c 120 ≡ false
no_x c cs all = ne_eqb c 120 (λ same. not_true_false (sym (and_parts (ltb (digit_value c) 10) (all_digits 10 cs) all).0 ∙ ap (λ (d : ℕ). ltb (digit_value d) 10) same))

decimal_prefix : (digits : List ℕ) → all_digits 10 digits ≡ true → bytes_eq (take 2 digits) (codes "0x") ≡ false
decimal_prefix [] all = refl
decimal_prefix (c ∷ []) all = by (eqb c 48)
  where
    by : (b : Bool) → (b && false) ≡ false
    by true = refl
    by false = refl
decimal_prefix (c ∷ (d ∷ ds)) all = ap (λ (b : Bool). eqb c 48 && (b && true)) (no_x d ds (and_parts (ltb (digit_value c) 10) (all_digits 10 (d ∷ ds)) all).1) ∙ by (eqb c 48)
  where
    by : (b : Bool) → (b && false) ≡ false
    by true = refl
    by false = refl

decimal_number : (digits : List ℕ) → IsNumeral 10 digits → number_of digits ≡ Some (bounded (digits_value 10 digits))
unfolding number_of
decimal_number digits is = ap (λ (b : Bool). cond b (numeral 16 (drop 2 digits)) (numeral 10 digits)) (decimal_prefix digits is.1) ∙ some_digits 10 digits is

hexadecimal_number : (digits : List ℕ) → IsNumeral 16 digits → number_of (codes "0x" ++ digits) ≡ Some (bounded (digits_value 16 digits))
unfolding number_of
hexadecimal_number digits is = some_digits 16 digits is

number_token : (run : List ℕ) (n : Option ℕ) → number_of run ≡ Some n → token_of run ≡ token_from (Some n) (register_named run) (word_named run)
unfolding token_of
number_token run n e = ap (λ (o : Option (Option ℕ)). token_from o (register_named run) (word_named run)) e

bases_alike : (hexadecimal decimal : List ℕ) → IsNumeral 16 hexadecimal → IsNumeral 10 decimal → digits_value 16 hexadecimal ≡ digits_value 10 decimal → token_of (codes "0x" ++ hexadecimal) ≡ token_of decimal
bases_alike hexadecimal decimal p q e =
    number_token (codes "0x" ++ hexadecimal) _ (hexadecimal_number hexadecimal p) ∙ ap (λ (n : ℕ). token_from (Some (bounded n)) None None) e ∙ sym (number_token decimal _ (decimal_number decimal q))

-- a digit is neither a blank nor a mark, nor does it end a line
is_no_digit : (c d : ℕ) → ltb (digit_value c) 16 ≡ true → ltb (digit_value d) 16 ≡ false → eqb c d ≡ false
is_no_digit c d e f = ne_eqb c d (λ same. not_true_false (sym e ∙ ap (λ (x : ℕ). ltb (digit_value x) 16) same ∙ f))

digit_goes_on : (c : ℕ) → ltb (digit_value c) 16 ≡ true → ends_run c ≡ false
unfolding ends_run mark_of
digit_goes_on c e =
    rw (is_no_digit c 32 e refl, is_no_digit c 9 e refl, is_no_digit c 44 e refl, is_no_digit c 91 e refl, is_no_digit c 93 e refl, is_no_digit c 43 e refl, is_no_digit c 45 e refl) refl

widened : (digits : List ℕ) → all_digits 10 digits ≡ true → all_digits 16 digits ≡ true
widened [] all = refl
widened (c ∷ cs) all =
    let parts = and_parts (ltb (digit_value c) 10) (all_digits 10 cs) all in
    and_from _ _ (lt-ltb (digit_value c) 16 (omega (arith, ltb-true _ _ parts.0))) (widened cs parts.1)

-- characters of a number, which no comment and no end of a line cuts
record IsWhole (text : List ℕ) : Type 0 where
  goes_on : is_run text ≡ true
  stays : (right : List ℕ) → content_of (text ++ right) ≡ text ++ content_of right

whole_cons : (c : ℕ) (cs : List ℕ) → ends_run c ≡ false → eqb c 59 ≡ false → eqb c 13 ≡ false → IsWhole cs → IsWhole (c ∷ cs)
whole_cons c cs e f g rest = record {
  goes_on = and_from _ _ (not_true _ e) rest.goes_on;
  stays = λ right. content_cons c (cs ++ right) f g ∙ ap (λ (xs : List ℕ). c ∷ xs) (rest.stays right);
}

digits_whole : (digits : List ℕ) → all_digits 16 digits ≡ true → IsWhole digits
digits_whole [] all = record { goes_on = refl; stays = λ right. refl }
digits_whole (c ∷ cs) all =
    let parts = and_parts (ltb (digit_value c) 16) (all_digits 16 cs) all in
    whole_cons c cs (digit_goes_on c parts.0) (is_no_digit c 59 parts.0 refl) (is_no_digit c 13 parts.0 refl) (digits_whole cs parts.1)

prefixed_whole : (digits : List ℕ) → IsWhole digits → IsWhole (codes "0x" ++ digits)
unfolding ends_run mark_of
prefixed_whole digits is = whole_cons 48 (120 ∷ digits) refl refl refl (whole_cons 120 digits refl refl refl is)

one_run : (run : List ℕ) → (run ≡ [] → ⊥) → run_tokens run ≡ token_of run ∷ []
unfolding run_tokens
one_run [] some = absurd (some refl)
one_run (c ∷ cs) some = refl

-- a run between an end and what closes it
run_between : (before : List ℕ) (end : ℕ) (run right : List ℕ) → ends_run end ≡ true → closes (content_of right) ≡ true → (run ≡ [] → ⊥) → IsWhole run
    → tokens_after before (content_of (end ∷ (run ++ right))) ≡ run_tokens before ++ (option_to_list (mark_of end) ++ (token_of run ∷ tokens_after [] (content_of right)))
run_between before end run right e close some is =
    ap (tokens_after before) (ends_content end (run ++ right) e ∙ ap (λ (xs : List ℕ). end ∷ xs) (is.stays right))
    ∙ after_end before (run ++ content_of right) end e
    ∙ ap (λ (ts : List Token). run_tokens before ++ (option_to_list (mark_of end) ++ ts))
    (runs_on [] run (content_of right) is.goes_on ∙ closed run (content_of right) close ∙ ap (λ (ts : List Token). ts ++ tokens_after [] (content_of right)) (one_run run some))

no_prefix : (digits : List ℕ) → codes "0x" ++ digits ≡ [] → ⊥
no_prefix digits e = no_cons 48 (120 ∷ digits) e

pub numbers_alike : (left right hexadecimal decimal : List ℕ) (end : ℕ) → ends_run end ≡ true → closes (content_of right) ≡ true → IsNumeral 16 hexadecimal → IsNumeral 10 decimal → digits_value 16 hexadecimal ≡ digits_value 10 decimal
    → statement_on (left ++ (end ∷ ((codes "0x" ++ hexadecimal) ++ right))) ≡ statement_on (left ++ (end ∷ (decimal ++ right)))
numbers_alike left right hexadecimal decimal end e close p q same =
    alike_behind left (end ∷ ((codes "0x" ++ hexadecimal) ++ right)) (end ∷ (decimal ++ right)) (no_cons end ((codes "0x" ++ hexadecimal) ++ right)) (no_cons end (decimal ++ right))
    (λ run. run_between run end (codes "0x" ++ hexadecimal) right e close (no_prefix hexadecimal) (prefixed_whole hexadecimal (digits_whole hexadecimal p.1))
    ∙ ap (λ (t : Token). run_tokens run ++ (option_to_list (mark_of end) ++ (t ∷ tokens_after [] (content_of right)))) (bases_alike hexadecimal decimal p q same)
    ∙ sym (run_between run end decimal right e close q.0 (digits_whole decimal (widened decimal q.1))))

-- ---- texts

lines_alike : (number : ℕ) (slots : List Slot) (lines others : List (List ℕ)) → map statement_on lines ≡ map statement_on others → with_lines number slots lines ≡ with_lines number slots others
unfolding with_lines with_line
lines_alike number slots [] [] e = refl
lines_alike number slots [] (y ∷ ys) e = absurd cc
lines_alike number slots (x ∷ xs) [] e = absurd cc
lines_alike number slots (x ∷ xs) (y ∷ ys) e =
    let here = head_same (statement_on x) (statement_on y) (map statement_on xs) (map statement_on ys) e in
    let there = tail_same (statement_on x) (statement_on y) (map statement_on xs) (map statement_on ys) e in
    ap (λ (r : Result (Option Instruction) RefusalNumber). then_lines (at_line number (r >>= (λ s. within (slots ++ slots_of s)))) (λ longer. with_lines (number + 1) longer xs)) here
    ∙ ap (λ (f : List Slot → Result (List Slot) AsmError). then_lines (at_line number (statement_on y >>= (λ s. within (slots ++ slots_of s)))) f) (λ i longer. lines_alike (number + 1) longer xs ys there i)

pub texts_alike : (text other : List ℕ) → map statement_on (lines_in text) ≡ map statement_on (lines_in other) → assembly_of text ≡ assembly_of other
texts_alike text other e = ap (λ (r : Result (List Slot) AsmError). then_lines r not_empty) (lines_alike 1 [] (lines_in text) (lines_in other) e)
