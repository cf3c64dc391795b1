-- The samples of the calls hold, by computation: one refl for each row.
use mathlib.Core.Path.{refl}
use mathlib.Core.List.{List, ◌∷◌, ◌++◌}
use Rattle.calls.specs.Sampling.{CallRow, call_row_holds, EachCallHolds, end, ◌▸◌}
use Rattle.calls.specs.Samples.{fresh_rows, step_rows, drain_rows, read_sizes_rows, read_step_rows, write_rows, table}

fresh_hold : EachCallHolds fresh_rows
unfolding call_row_holds fresh_rows
fresh_hold = refl ▸ refl ▸ refl ▸ refl ▸ refl ▸ refl ▸ refl ▸ refl ▸ end

step_hold : EachCallHolds step_rows
unfolding call_row_holds step_rows
step_hold = refl ▸ refl ▸ refl ▸ refl ▸ refl ▸ refl ▸ refl ▸ refl ▸ refl ▸ refl ▸ refl ▸ refl ▸ end

drain_hold : EachCallHolds drain_rows
unfolding call_row_holds drain_rows
drain_hold = refl ▸ refl ▸ refl ▸ refl ▸ refl ▸ end

read_sizes_hold : EachCallHolds read_sizes_rows
unfolding call_row_holds read_sizes_rows
read_sizes_hold = refl ▸ refl ▸ refl ▸ refl ▸ refl ▸ end

read_step_hold : EachCallHolds read_step_rows
unfolding call_row_holds read_step_rows
read_step_hold =
    refl ▸ refl ▸ refl ▸ refl ▸ refl ▸ refl ▸ refl ▸ refl ▸ refl ▸ refl ▸
    refl ▸ refl ▸ refl ▸ refl ▸ refl ▸ refl ▸ refl ▸ refl ▸ refl ▸ refl ▸
    refl ▸ end

write_hold : EachCallHolds write_rows
unfolding call_row_holds write_rows
write_hold =
    refl ▸ refl ▸ refl ▸ refl ▸ refl ▸ refl ▸ refl ▸ refl ▸ refl ▸ refl ▸
    refl ▸ refl ▸ refl ▸ refl ▸ refl ▸ refl ▸ refl ▸ refl ▸ refl ▸ end

all_hold : (xs ys : List CallRow) → EachCallHolds xs → EachCallHolds ys → EachCallHolds (xs ++ ys)
all_hold xs ys end b = b
all_hold (x ∷ xs) ys (e ▸ a) b = e ▸ all_hold xs ys a b

-- every row of the table holds
pub samples : EachCallHolds table
unfolding table
samples =
    all_hold fresh_rows _ fresh_hold
    (all_hold step_rows _ step_hold
    (all_hold drain_rows _ drain_hold
    (all_hold read_sizes_rows _ read_sizes_hold
    (all_hold read_step_rows _ read_step_hold
    write_hold))))
