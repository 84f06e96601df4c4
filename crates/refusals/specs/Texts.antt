-- The text of a refusal.
use Rattle.std.specs.Prelude.{ℕ, ◌++◌, nat_le, ◌&&◌, if◌then◌else◌, List, codes, decimal}
use Rattle.refusals.specs.declared.RefusalNumber.{RefusalNumber}
use Rattle.refusals.specs.Table.{number_of, name_of}

-- number and name, the slot for the refusals of programs for their bytes, and the line for those of texts
abbrev pub refusal_text : RefusalNumber → ℕ → List ℕ
refusal_text refused place =
    let named = codes "refused " ++ (decimal (number_of refused) ++ (codes " " ++ name_of refused)) in
    if nat_le (number_of refused) 22 then named ++ (codes " slot " ++ decimal place)
    else (if nat_le 41 (number_of refused) && nat_le (number_of refused) 44 then named ++ (codes " line " ++ decimal place)
    else named)
