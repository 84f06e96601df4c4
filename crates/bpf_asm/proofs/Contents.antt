-- What of a line is read: a carriage return at its end and a comment are left out.
use Rattle.std.proofs.Common.{◌≡◌, refl, sym, ap, ◌∙◌, subst, ℕ, zero, suc, ◌+◌, ◌-◌, Bool, true, false, cond, not, eqb, ltb, List, [], ◌∷◌, ◌++◌, length, take, drop, Some, None, append_assoc, length-append, arith}
use Rattle.std.specs.Prelude.{◌≢◌}
use Rattle.std.specs.List.{position_or_len}
use Rattle.std.specs.Str.{bytes_eq}
use Rattle.std.proofs.Math.Seq.{drop-append_seam, take-append_seam}
use Rattle.std.proofs.lemmas.Bool.{eqb-true, ltb-false, and_parts, and_from}
use Rattle.std.proofs.lemmas.List.{take_all}
use Rattle.std.proofs.lemmas.Slice.Eq.{bytes_eq-Decides}
use Rattle.bpf_asm.specs.Tokens.{without_return, without_comment, content_of, up_to}
use Rattle.bpf_asm.specs.Writing.{has_no_comment, IsContent, whole, before_return, before_comment}

-- ---- comments

taken_by : (line : List ℕ) (n : ℕ) (within : Bool) → ltb n (length line) ≡ within → up_to (cond within (Some n) None) line ≡ take n line
taken_by line n true is = refl
taken_by line n false is = sym (take_all n line (ltb-false _ _ is))

-- what stands before a comment, from the front
taken : (line : List ℕ) → without_comment line ≡ take (position_or_len (λ c. eqb c 59) line) line
taken line = taken_by line (position_or_len (λ c. eqb c 59) line) (ltb (position_or_len (λ c. eqb c 59) line) (length line)) refl

comment_by : (c : ℕ) (cs : List ℕ) (n : ℕ) (b : Bool) → take (cond (not b) (1 + n) 0) (c ∷ cs) ≡ cond b [] (c ∷ take n cs)
comment_by c cs n true = refl
comment_by c cs n false = let one : 1 + n ≡ suc n = omega arith in ap (λ (m : ℕ). take m (c ∷ cs)) one

pub comment_step : (c : ℕ) (cs : List ℕ) → without_comment (c ∷ cs) ≡ cond (eqb c 59) [] (c ∷ without_comment cs)
comment_step c cs = taken (c ∷ cs) ∙ comment_by c cs (position_or_len (λ c. eqb c 59) cs) (eqb c 59) ∙ ap (λ (xs : List ℕ). cond (eqb c 59) [] (c ∷ xs)) (sym (taken cs))

pub no_comment_stays : (line : List ℕ) → has_no_comment line ≡ true → without_comment line ≡ line
no_comment_stays [] e = refl
no_comment_stays (c ∷ cs) e =
    let parts = and_parts (not (eqb c 59)) (has_no_comment cs) e in
    comment_step c cs ∙ ap (λ (b : Bool). cond b [] (c ∷ without_comment cs)) (was_false (eqb c 59) parts.0) ∙ ap (λ (xs : List ℕ). c ∷ xs) (no_comment_stays cs parts.1)
  where
    was_false : (b : Bool) → not b ≡ true → b ≡ false
    was_false true e = absurd cc
    was_false false e = refl

pub comment_ends : (content comment : List ℕ) → has_no_comment content ≡ true → without_comment (content ++ (59 ∷ comment)) ≡ content
comment_ends [] comment e = comment_step 59 comment
comment_ends (c ∷ cs) comment e =
    let parts = and_parts (not (eqb c 59)) (has_no_comment cs) e in
    comment_step c (cs ++ (59 ∷ comment)) ∙ ap (λ (b : Bool). cond b [] (c ∷ without_comment (cs ++ (59 ∷ comment)))) (was_false (eqb c 59) parts.0) ∙ ap (λ (xs : List ℕ). c ∷ xs) (comment_ends cs comment parts.1)
  where
    was_false : (b : Bool) → not b ≡ true → b ≡ false
    was_false true e = absurd cc
    was_false false e = refl

-- a line has no comment, or one comment begins first
pub data Commented (line : List ℕ) : Type 0 where
  none : has_no_comment line ≡ true → Commented line
  one : (content comment : List ℕ) → has_no_comment content ≡ true → line ≡ content ++ (59 ∷ comment) → Commented line

commented_on : (c : ℕ) (cs : List ℕ) (b : Bool) → eqb c 59 ≡ b → Commented cs → Commented (c ∷ cs)
commented_on c cs true is rest = one [] cs refl (ap (λ (d : ℕ). d ∷ cs) (eqb-true c 59 is))
commented_on c cs false is (none e) = none (and_from _ _ (ap not is) e)
commented_on c cs false is (one content comment e same) = one (c ∷ content) comment (and_from _ _ (ap not is) e) (ap (λ (xs : List ℕ). c ∷ xs) same)

pub commented : (line : List ℕ) → Commented line
commented [] = none refl
commented (c ∷ cs) = commented_on c cs (eqb c 59) refl (commented cs)

-- ---- carriage returns

pub return_ends : (content : List ℕ) → without_return (content ++ (13 ∷ [])) ≡ content
return_ends content =
    let last : length (content ++ (13 ∷ [])) - 1 ≡ length content = omega (arith, length-append content (13 ∷ [])) in
    ap (λ (n : ℕ). cond (bytes_eq (drop n (content ++ (13 ∷ []))) (13 ∷ [])) (take n (content ++ (13 ∷ []))) (content ++ (13 ∷ []))) last
    ∙ ap (λ (xs : List ℕ). cond (bytes_eq xs (13 ∷ [])) (take (length content) (content ++ (13 ∷ []))) (content ++ (13 ∷ []))) (drop-append_seam content (13 ∷ []))
    ∙ take-append_seam content (13 ∷ [])

-- a line ends with a carriage return, or it stays
pub data Returned (line : List ℕ) : Type 0 where
  ended : (content : List ℕ) → line ≡ content ++ (13 ∷ []) → without_return line ≡ content → Returned line
  stays : ((before : List ℕ) → line ≢ before ++ (13 ∷ [])) → without_return line ≡ line → Returned line

rejoined : (n : ℕ) (xs : List ℕ) → take n xs ++ drop n xs ≡ xs
rejoined zero xs = refl
rejoined (suc n) [] = refl
rejoined (suc n) (x ∷ xs) = ap (λ (ys : List ℕ). x ∷ ys) (rejoined n xs)

last_is : (content : List ℕ) → drop (length (content ++ (13 ∷ [])) - 1) (content ++ (13 ∷ [])) ≡ 13 ∷ []
last_is content =
    let last : length (content ++ (13 ∷ [])) - 1 ≡ length content = omega (arith, length-append content (13 ∷ [])) in
    ap (λ (n : ℕ). drop n (content ++ (13 ∷ []))) last ∙ drop-append_seam content (13 ∷ [])

not_both : (b : Bool) → b ≡ true → b ≡ false → ⊥
not_both b e f = cc

returned_by : (line : List ℕ) (b : Bool) → bytes_eq (drop (length line - 1) line) (13 ∷ []) ≡ b → Returned line
returned_by line true is =
    let last = (bytes_eq-Decides (drop (length line - 1) line) (13 ∷ [])).0 is in
    ended (take (length line - 1) line) (sym (rejoined (length line - 1) line) ∙ ap (λ (xs : List ℕ). take (length line - 1) line ++ xs) last) (ap (λ (b : Bool). cond b (take (length line - 1) line) line) is)
returned_by line false is =
    stays (λ before same. not_both (bytes_eq (drop (length line - 1) line) (13 ∷ [])) (ap (λ (xs : List ℕ). bytes_eq (drop (length xs - 1) xs) (13 ∷ [])) same ∙ ap (λ (xs : List ℕ). bytes_eq xs (13 ∷ [])) (last_is before)) is)
    (ap (λ (b : Bool). cond b (take (length line - 1) line) line) is)

pub returned : (line : List ℕ) → Returned line
returned line = returned_by line (bytes_eq (drop (length line - 1) line) (13 ∷ [])) refl

-- ---- lines

head_is : (a b : ℕ) (xs ys : List ℕ) → a ∷ xs ≡ b ∷ ys → a ≡ b
head_is a b xs ys e = cc

pub tail_is : (a b : ℕ) (xs ys : List ℕ) → a ∷ xs ≡ b ∷ ys → xs ≡ ys
tail_is a b xs ys e = cc

ends_somewhere : (xs comment : List ℕ) → xs ++ (59 ∷ comment) ≡ [] → ⊥
ends_somewhere [] comment e = cc
ends_somewhere (x ∷ xs) comment e = cc

-- a comment stays without the carriage return at its end
record Shorter (content before : List ℕ) : Type 0 where
  rest : List ℕ
  same : before ≡ content ++ (59 ∷ rest)

shorter : (content comment before : List ℕ) → content ++ (59 ∷ comment) ≡ before ++ (13 ∷ []) → Shorter content before
shorter [] comment [] e = absurd (omega (arith, head_is 59 13 comment [] e))
shorter [] comment (x ∷ xs) e = record { rest = xs; same = ap (λ (c : ℕ). c ∷ xs) (sym (head_is 59 x comment (xs ++ (13 ∷ [])) e)) }
shorter (c ∷ cs) comment [] e = absurd (ends_somewhere cs comment (tail_is c 13 (cs ++ (59 ∷ comment)) [] e))
shorter (c ∷ cs) comment (x ∷ xs) e =
    let next = shorter cs comment xs (tail_is c x (cs ++ (59 ∷ comment)) (xs ++ (13 ∷ [])) e) in
    record { rest = next.rest; same = ap (λ (d : ℕ). d ∷ xs) (sym (head_is c x (cs ++ (59 ∷ comment)) (xs ++ (13 ∷ [])) e)) ∙ ap (λ (ys : List ℕ). c ∷ ys) next.same }

pub comment_kept : (content comment : List ℕ) → has_no_comment content ≡ true → Returned (content ++ (59 ∷ comment)) → content_of (content ++ (59 ∷ comment)) ≡ content
comment_kept content comment e (ended before same is) =
    let short = shorter content comment before same in
    ap without_comment (is ∙ short.same) ∙ comment_ends content short.rest e
comment_kept content comment e (stays never is) = ap without_comment is ∙ comment_ends content comment e

whole_kept : (line : List ℕ) → has_no_comment line ≡ true → ((before : List ℕ) → line ≢ before ++ (13 ∷ [])) → Returned line → content_of line ≡ line
whole_kept line e never (ended content same is) = absurd (never content same)
whole_kept line e never (stays other is) = ap without_comment is ∙ no_comment_stays line e

pub content_is : (line content : List ℕ) → IsContent line content → content_of line ≡ content
content_is line content (whole x e never) = whole_kept x e never (returned x)
content_is line content (before_return x e) = ap without_comment (return_ends x) ∙ no_comment_stays x e
content_is line content (before_comment x comment e) = comment_kept x comment e (returned (x ++ (59 ∷ comment)))

moved : (line other content part : List ℕ) → line ≡ other → content ≡ part → IsContent other part → IsContent line content
moved line other content part e f is = subst (λ (xs : List ℕ). IsContent xs content) (sym e) (subst (λ (xs : List ℕ). IsContent other xs) (sym f) is)

before_end : (line content : List ℕ) → line ≡ content ++ (13 ∷ []) → without_return line ≡ content → Commented content → IsContent line (content_of line)
before_end line content same is (none e) = moved line (content ++ (13 ∷ [])) (content_of line) content same (ap without_comment is ∙ no_comment_stays content e) (before_return content e)
before_end line content same is (one part comment e split) =
    moved line (part ++ (59 ∷ (comment ++ (13 ∷ [])))) (content_of line) part (same ∙ ap (λ (xs : List ℕ). xs ++ (13 ∷ [])) split ∙ append_assoc part (59 ∷ comment) (13 ∷ []))
    (ap without_comment (is ∙ split) ∙ comment_ends part comment e) (before_comment part (comment ++ (13 ∷ [])) e)

to_end : (line : List ℕ) → ((before : List ℕ) → line ≢ before ++ (13 ∷ [])) → without_return line ≡ line → Commented line → IsContent line (content_of line)
to_end line never is (none e) = moved line line (content_of line) line refl (ap without_comment is ∙ no_comment_stays line e) (whole line e never)
to_end line never is (one part comment e split) =
    moved line (part ++ (59 ∷ comment)) (content_of line) part split (ap without_comment (is ∙ split) ∙ comment_ends part comment e) (before_comment part comment e)

content_by : (line : List ℕ) → Returned line → IsContent line (content_of line)
content_by line (ended content same is) = before_end line content same is (commented content)
content_by line (stays never is) = to_end line never is (commented line)

pub is_content : (line : List ℕ) → IsContent line (content_of line)
is_content line = content_by line (returned line)
