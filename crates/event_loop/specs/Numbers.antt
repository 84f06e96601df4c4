-- The numbers of connections, from 0 on.
use Rattle.std.specs.Prelude.{◌≡◌, ◌==◌, ◌||◌, nat_lt, ℕ, Bool, false}

-- whether the connection of this number, from 0 on, is one of so many; 0 sets no limit
abbrev pub is_left : ℕ → ℕ → Bool
is_left connections number = (connections == 0) || nat_lt number connections

-- some number is not left: there is a limit
abbrev pub ends : ℕ → Type 0
ends connections = (number : ℕ) × (is_left connections number ≡ false)
