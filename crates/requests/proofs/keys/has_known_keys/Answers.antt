use Rattle.std.proofs.Common.{ap, ◌∙◌, ℕ, List, Bool}
use Rattle.std.specs.List.{list_any}
use Rattle.std.specs.Str.{bytes_eq}
use Rattle.requests.specs.Keys.{has_known_members}
use Rattle.requests.proofs.Objects.{known_of_entries}
use Rattle.requests.proofs.keys.has_known_keys.Goals as goal

pub returns-in-Some : goal.returns-in-Some
returns-in-Some c =
    let is_known : List ℕ → Bool = λ key. list_any (λ known. bytes_eq known.now key) c.args.keys.now in
    c.are_known.ensures ∙ known_of_entries is_known c.in-Some.members.now.entries ∙ ap (has_known_members is_known) c.in-Some.ensures
