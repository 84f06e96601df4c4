use Rattle.std.proofs.Common.{◌∙◌, sym, ap, ◌++◌, ℕ, List}
use Rattle.std.specs.Str.{bytes_eq}
use Rattle.bpf_asm.specs.Assembly.{small_letters}
use Rattle.bpf_asm.specs.Names.{word_stem, word_end}
use Rattle.bpf_asm.proofs.Spelled.{first_right, first_wrong}
use Rattle.bpf_asm.proofs.words.is_named.Goals as goal

pub returns-then-is_text : goal.returns-then-is_text
returns-then-is_text c =
    let name = c.args.name.now in
    let stem = c.word_stem-stem.result.now in
    let end = c.word_end.result.now in
    let cut = c.in-Some.ensures.cases in
    c.is_text-then-is_text.ensures
    ∙ first_right name stem end c.in-Some.front.now c.in-Some.back.now cut.1 cut.2 (sym c.is_text.ensures ∙ c.if-is_text.true)
    ∙ ap (λ (xs : List ℕ). bytes_eq (small_letters name) (small_letters (xs ++ end))) c.word_stem-stem.ensures
    ∙ ap (λ (xs : List ℕ). bytes_eq (small_letters name) (small_letters (word_stem c.args.word ++ xs))) c.word_end.ensures

pub returns-else-is_text : goal.returns-else-is_text
returns-else-is_text c =
    let name = c.args.name.now in
    let stem = c.word_stem-stem.result.now in
    let cut = c.in-Some.ensures.cases in
    first_wrong name stem (word_end c.args.word) c.in-Some.front.now c.in-Some.back.now cut.1 cut.2 (sym c.is_text.ensures ∙ c.if-is_text.false)
    ∙ ap (λ (xs : List ℕ). bytes_eq (small_letters name) (small_letters (xs ++ word_end c.args.word))) c.word_stem-stem.ensures
