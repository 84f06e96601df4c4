use Rattle.std.proofs.Common.{rules}
use Rattle.helpers.proofs.tag.Tag.new.Goals as goal

pub write_padded-requires : goal.write_padded-requires
write_padded-requires c = search rules
