-- Values as the tokens that are written for them.
use Rattle.std.specs.Prelude.{◌≡◌, List, ◌∷◌, ◌++◌}
use Rattle.json.specs.Token.{Token, key}
use Rattle.json.specs.Tree.{json_tokens, members_tokens}
use Rattle.json.specs.Written.{Written}
use Rattle.serde_json.specs.Data.{Data}
use Rattle.serde_json.specs.Written.{outline, members_outline}
use Rattle.answers.specs.Texts.{Field, members_of}

-- the tokens of a value
abbrev pub tokens_of : Data → List Token
tokens_of value = json_tokens (outline value)

-- the tokens of a member of an object
abbrev pub field_tokens : Field → List Token
field_tokens field = key field.0 ∷ tokens_of field.1

-- the tokens of the last members of an object, with its closing bracket
abbrev pub last_tokens : List Field → List Token
last_tokens fields = members_tokens (members_outline (members_of fields))

-- a writer has these tokens more
abbrev pub Adds : List Token → Written → Written → Type 0
Adds tokens old new = (new.before ≡ old.before) × (new.tokens ≡ old.tokens ++ tokens)
