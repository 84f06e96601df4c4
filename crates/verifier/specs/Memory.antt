-- How much memory a state over a domain takes.
use Rattle.std.specs.Borrow.{RattleType}
use Rattle.std.specs.Mem.{FitsInMemory}
use Rattle.abs_states.specs.contracts.state.AbsState.{the_row}

-- less than 2^63 bytes, as each type of a program that is built
abbrev pub StateFits : RattleType → Type 0
StateFits D = FitsInMemory (the_row D)
