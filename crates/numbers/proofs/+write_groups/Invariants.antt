use Rattle.numbers.proofs.+write_groups.Given as goal

abbrev pub decreases-write_groups : goal.decreases-write_groups
decreases-write_groups l = l.n
