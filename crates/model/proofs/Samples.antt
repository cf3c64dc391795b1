-- The samples hold, by computation: one refl for each.
use mathlib.Core.Path.{refl}
use mathlib.Core.List.{List, ◌∷◌, ◌++◌}
use Rattle.model.specs.Sampling.{Sample, holds, EachHolds, end, ◌▸◌}
use Rattle.model.specs.Broken.{sound_samples}
use Rattle.model.specs.Samples.{number_samples, sizes_samples, protocol_samples, issue_samples, handling_samples, take_samples, queue_samples, drain_samples, read_samples, write_samples, replay_samples, table}

number_hold : EachHolds number_samples
unfolding holds number_samples
number_hold =
    refl ▸ refl ▸ refl ▸ refl ▸ refl ▸ refl ▸ refl ▸ refl ▸ refl ▸ refl ▸
    refl ▸ refl ▸ refl ▸ refl ▸ refl ▸ refl ▸ end

sizes_hold : EachHolds sizes_samples
unfolding holds sizes_samples
sizes_hold =
    refl ▸ refl ▸ refl ▸ refl ▸ refl ▸ refl ▸ refl ▸ refl ▸ refl ▸ refl ▸
    refl ▸ refl ▸ refl ▸ refl ▸ refl ▸ refl ▸ end

protocol_hold : EachHolds protocol_samples
unfolding holds protocol_samples
protocol_hold = refl ▸ refl ▸ refl ▸ refl ▸ refl ▸ refl ▸ end

issue_hold : EachHolds issue_samples
unfolding holds issue_samples
issue_hold = refl ▸ refl ▸ refl ▸ refl ▸ refl ▸ refl ▸ refl ▸ refl ▸ refl ▸ end

handling_hold : EachHolds handling_samples
unfolding holds handling_samples
handling_hold =
    refl ▸ refl ▸ refl ▸ refl ▸ refl ▸ refl ▸ refl ▸ refl ▸ refl ▸ refl ▸
    refl ▸ end

take_hold : EachHolds take_samples
unfolding holds take_samples
take_hold = refl ▸ refl ▸ refl ▸ refl ▸ refl ▸ refl ▸ refl ▸ refl ▸ refl ▸ end

queue_hold : EachHolds queue_samples
unfolding holds queue_samples
queue_hold = refl ▸ refl ▸ refl ▸ refl ▸ end

drain_hold : EachHolds drain_samples
unfolding holds drain_samples
drain_hold = refl ▸ refl ▸ refl ▸ refl ▸ refl ▸ refl ▸ end

read_hold : EachHolds read_samples
unfolding holds read_samples
read_hold =
    refl ▸ refl ▸ refl ▸ refl ▸ refl ▸ refl ▸ refl ▸ refl ▸ refl ▸ refl ▸
    refl ▸ refl ▸ refl ▸ refl ▸ refl ▸ refl ▸ refl ▸ refl ▸ refl ▸ refl ▸
    refl ▸ refl ▸ refl ▸ refl ▸ refl ▸ refl ▸ refl ▸ refl ▸ refl ▸ refl ▸
    refl ▸ refl ▸ refl ▸ end

write_hold : EachHolds write_samples
unfolding holds write_samples
write_hold =
    refl ▸ refl ▸ refl ▸ refl ▸ refl ▸ refl ▸ refl ▸ refl ▸ refl ▸ refl ▸
    refl ▸ end

replay_hold : EachHolds replay_samples
unfolding holds replay_samples
replay_hold = refl ▸ refl ▸ refl ▸ refl ▸ refl ▸ refl ▸ refl ▸ refl ▸ end

sound_hold : EachHolds sound_samples
unfolding holds sound_samples
sound_hold = refl ▸ refl ▸ refl ▸ refl ▸ refl ▸ refl ▸ refl ▸ refl ▸ refl ▸ refl ▸ refl ▸ end

pub all_hold : (xs ys : List Sample) → EachHolds xs → EachHolds ys → EachHolds (xs ++ ys)
all_hold xs ys end b = b
all_hold (x ∷ xs) ys (e ▸ a) b = e ▸ all_hold xs ys a b

-- every sample of the table holds
pub samples : EachHolds table
unfolding table
samples =
    all_hold number_samples _ number_hold
    (all_hold sizes_samples _ sizes_hold
    (all_hold protocol_samples _ protocol_hold
    (all_hold issue_samples _ issue_hold
    (all_hold handling_samples _ handling_hold
    (all_hold take_samples _ take_hold
    (all_hold queue_samples _ queue_hold
    (all_hold drain_samples _ drain_hold
    (all_hold read_samples _ read_hold
    (all_hold write_samples _ write_hold
    (all_hold replay_samples _ replay_hold sound_hold))))))))))
