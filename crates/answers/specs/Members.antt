-- What members of objects stand for.
use Rattle.serde_json.specs.Data.{string}
use Rattle.answers.specs.declared.members.Member.{Member}
use Rattle.answers.specs.declared.members.Member.TheVariants as member
use Rattle.answers.specs.Texts.{Field, count, rate}

abbrev pub field_of : Member → Field
field_of (member.Text key text) = (key.now, string text.now)
field_of (member.Count key n) = (key.now, count n)
field_of (member.Rate key percent) = (key.now, rate percent)
