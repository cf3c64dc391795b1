use Rattle.numbers.proofs.+number_length.Given as goal

abbrev pub decreases-number_length : goal.decreases-number_length
decreases-number_length l = l.n
