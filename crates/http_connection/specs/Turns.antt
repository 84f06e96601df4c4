-- How far a connection has come with its bytes.
use Rattle.std.specs.Prelude.{◌≡◌, ℕ, List, [], ◌∷◌, ◌++◌, None}
use Rattle.http_messages.specs.declared.front.Fault.{Fault}
use Rattle.http_messages.specs.Messages.{Message, BeginsWith, AreMessages, IsInput, Ending, closed, truncated, refused, final}
use Rattle.http_connection.specs.declared.stage.Stage.{Stage}
use Rattle.http_connection.specs.declared.stage.Stage.TheVariants as stage
use Rattle.http_connection.specs.Steps.{Step, AreAllAnswered, messages_of, texts_of}

-- refusal is the text of the answer to a message that is refused
module _ (refusal : Fault → List ℕ) where
  -- the steps are for these messages, and then comes what ends the connection, with this text in all
  abbrev pub AreToEnd : List Message → Ending → List Step → List ℕ → Type 0
  AreToEnd messages (refused fault) steps text = (messages_of steps ≡ messages) × (text ≡ texts_of steps ++ refusal fault)
  AreToEnd messages (final message) steps text = (messages_of steps ≡ messages ++ message ∷ []) × (text ≡ texts_of steps)
  AreToEnd messages closed steps text = ⊥
  AreToEnd messages truncated steps text = ⊥

  -- the steps are those of the messages of the bytes, in order, and the text is that of their answers, by how the connection stands behind them; unread are the bytes behind the messages while it is open
  abbrev pub Reaches : List ℕ → List Step → List ℕ → Stage → List ℕ → Type 0
  Reaches bytes steps text stage.Open unread = AreMessages bytes (messages_of steps) unread × AreAllAnswered steps × (text ≡ texts_of steps)
  Reaches bytes steps text stage.Last unread =
      (messages : List Message) × (ending : Ending) × IsInput bytes messages ending × AreAllAnswered steps × AreToEnd messages ending steps text
  Reaches bytes steps text stage.Lost unread =
      (earlier : List Step) × (lost : Step) × (rest : List ℕ) × (behind : List ℕ) × (steps ≡ earlier ++ lost ∷ [])
      × AreMessages bytes (messages_of earlier) rest × BeginsWith rest lost.message behind × AreAllAnswered earlier × (lost.answer ≡ None) × (text ≡ texts_of earlier)

  -- from one stage to another: more bytes came behind those that were unread, and steps were made for their messages. Behind the last answer nothing is read or done
  abbrev pub Goes : Stage → List ℕ → List ℕ → List Step → List ℕ → Stage → List ℕ → Type 0
  Goes stage.Open unread more steps text after left = Reaches (unread ++ more) steps text after left
  Goes other unread more steps text after left = (more ≡ []) × (steps ≡ []) × (text ≡ []) × (after ≡ other) × (left ≡ unread)
